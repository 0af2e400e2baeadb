-- The first line of a part of the input. Assumes nothing.
use Rattle.std.specs.Prelude.{◌≡◌, true}
use Rattle.sheet.specs.Checks.{ends_in_time}
use Rattle.sheet.specs.Fields.{bytes_of}
use Rattle.sheet.specs.Lines.{first_line, after_line, spot_after}
use Rattle.sheet.specs.declared.part.Part.{Part}

-- a text ends its first line in time, and these are that line without its line feed, and what stands after it
pub record IsFirstLine (text line rest : Part) : Type 0 where
  pub in_time : ends_in_time (bytes_of text) ≡ true
  pub line_bytes : bytes_of line ≡ first_line (bytes_of text)
  pub line_spot : line.spot ≡ text.spot
  pub rest_bytes : bytes_of rest ≡ after_line (bytes_of text)
  pub rest_spot : rest.spot ≡ spot_after text.spot (bytes_of text)
