-- Replies, and their lines. Assumes nothing.
use Rattle.std.specs.Prelude.{◌≡◌, ℕ, List, [], ◌∷◌, codes, flat_map, length, pos, negsuc}
use Rattle.desk.specs.Replies.{reply_text, most_reply_bytes}
use Rattle.desk.specs.declared.reply.Reply.{Reply}
use Rattle.desk.specs.declared.reply.Reply.TheVariants.{Issued, Closed, Altered, Left, Refused}

abbrev pub worked_replies : List Reply
worked_replies =
    Issued (pos 452487) (negsuc 0) (pos 1)
    ∷ Closed 2 1 (negsuc 108999) (pos 0) (pos 447513)
    ∷ Altered 9999 (pos 0) (negsuc 2) (negsuc 1)
    ∷ Left (pos 0) (negsuc 6)
    ∷ Refused 16 14 160
    ∷ []

-- their lines
abbrev pub worked_lines : List ℕ
worked_lines = codes "issue;452487;-1;1\nclose;2;1;-109000;0;447513\nalter;9999;0;-3;-2\nleave;0;-7\nrefused;16;14;160\n"

-- a closing with the longest numbers of 16 and of 64 bits
abbrev pub longest_reply : Reply
longest_reply = Closed 65535 18446744073709551615 (negsuc 9223372036854775807) (negsuc 9223372036854775807) (negsuc 9223372036854775807)

-- the lines are these, and there is no more room than the longest needs
pub record WorkedReplies : Type 0 where
  pub lines : flat_map reply_text worked_replies ≡ worked_lines
  pub longest : length (reply_text longest_reply) ≡ most_reply_bytes
