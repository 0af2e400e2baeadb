-- The lines that the desk answers. Assumes nothing.
use Rattle.std.specs.Prelude.{ℕ, List, [], ◌∷◌, ◌++◌, codes, decimal, flat_map, ℤ}
use Rattle.std.specs.Fmt.{signed_decimal}
use Rattle.desk.specs.declared.reply.Reply.{Reply}
use Rattle.desk.specs.declared.reply.Reply.TheVariants.{Issued, Closed, Altered, Left, Refused}

-- each field after a semicolon
abbrev pub fields : List (List ℕ) → List ℕ
fields fs = flat_map (λ f. 59 ∷ f) fs

-- three amounts, each with a minus where it is below nought
abbrev pub amounts : ℤ → ℤ → ℤ → List ℕ
amounts first second third =
    fields (signed_decimal first ∷ signed_decimal second ∷ signed_decimal third ∷ [])

-- a word, and then fields
abbrev pub semicolons : List ℕ → List (List ℕ) → List ℕ
semicolons word fs = word ++ fields fs

-- each number in decimal, with a minus where it is below nought
abbrev pub reply_line : Reply → List ℕ
reply_line (Issued premium reserve result) = semicolons (codes "issue") (signed_decimal premium ∷ signed_decimal reserve ∷ signed_decimal result ∷ [])
reply_line (Closed number year interest_result risk_result reserve) =
    semicolons (codes "close") (decimal number ∷ decimal year ∷ signed_decimal interest_result ∷ signed_decimal risk_result ∷ signed_decimal reserve ∷ [])
reply_line (Altered number premium reserve result) = semicolons (codes "alter") (decimal number ∷ signed_decimal premium ∷ signed_decimal reserve ∷ signed_decimal result ∷ [])
reply_line (Left paid result) = semicolons (codes "leave") (signed_decimal paid ∷ signed_decimal result ∷ [])
reply_line (Refused number line offset) = semicolons (codes "refused") (decimal number ∷ decimal line ∷ decimal offset ∷ [])

-- the line with its line feed
abbrev pub reply_text : Reply → List ℕ
reply_text reply = reply_line reply ++ 10 ∷ []

-- no line of a reply has more bytes, its line feed counted: a closing with the longest numbers of
-- 16 and of 64 bits
abbrev pub most_reply_bytes : ℕ
most_reply_bytes = 96
