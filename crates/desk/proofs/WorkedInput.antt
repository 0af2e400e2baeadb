-- The worked input, line by line. Assumes nothing.
use Rattle.std.proofs.Common.{◌≡◌, ℕ, zero, suc, ◌≤◌, List, [], ◌∷◌, ◌++◌, map, codes, pos, negsuc, ◌≤ℤ◌, Some, None, refl, lit≤, arith}
use Rattle.std.specs.Fmt.{digits}
use Rattle.std.proofs.lemmas.Bool.Decides.{nat_tests}
use Rattle.std.proofs.lemmas.Int.{ints}
use Rattle.units.specs.Columns.{AllBetween}
use Rattle.units.specs.Ranges.{million}
use Rattle.units.specs.Sums.{int_sum_by}
use Rattle.basis.specs.TransitionColumns.{LawfulRow, LawfulRows}
use Rattle.basis.specs.Transitions.{Transitions, AgreeEverywhere}
use Rattle.plan.specs.Payments.{Payments}
use Rattle.plan.specs.Endowments.{endows}
use Rattle.valuation.specs.Premiums.{Suffices, LeastPremium}
use Rattle.valuation.specs.WorkedCase.{worked_basis}
use Rattle.valuation.proofs.Premiums.{none_up_to}
use Rattle.valuation.proofs.WorkedCase.{worked_figures_on}
use Rattle.contract.specs.Cases.{terms_at}
use Rattle.contract.specs.Ledgers.{Close, Closed, Entry, refused, accepted, closed}
use Rattle.contract.specs.Runs.{leaves as ledger_leaves}
use Rattle.contract.specs.Steps.{leaving}
use Rattle.contract.specs.WorkedRun.{first_year as lived, second_year as died}
use Rattle.contract.specs.Standings.{Terms, Ledger, AreTerms}
use Rattle.contract.proofs.Objections.{may_close, first_no_year}
use Rattle.sheet.specs.Sheets.{IsSheet, LawfulBasis, basis_of}
use Rattle.sheet.specs.Taken.{most}
use Rattle.sheet.specs.WorkedSheet.{worked_sheet}
use Rattle.sheet.specs.declared.spot.Spot.{Spot}
use Rattle.desk.specs.Commands.{issue, close, leave}
use Rattle.desk.specs.Inputs.{IsAnswer, session}
use Rattle.desk.specs.Replies.{reply_text}
use Rattle.desk.specs.Sessions.{Does, Session, issues, closes, closes_not, leaves, does, ends, goes_on}
use Rattle.desk.specs.WorkedInput.{worked_input, worked_answer, WorkedInput}
use Rattle.desk.proofs.WorkedReplies.{worked_replies}
use Rattle.desk.specs.declared.reply.Reply.TheVariants as says

-- ---- the sheet

two_between : (low high x y : ℕ) → low ≤ x → x ≤ high → low ≤ y → y ≤ high → AllBetween (pos low) (pos high) (pos x ∷ pos y ∷ [])
two_between low high x y a b d e zero l = record { least = omega (arith, ints, a); most = omega (arith, ints, b) }
two_between low high x y a b d e (suc zero) l = record { least = omega (arith, ints, d); most = omega (arith, ints, e) }
two_between low high x y a b d e (suc (suc t)) l = absurd (omega (arith, l))

row_is_whole : (x y : ℕ) → x ≤ million → y ≤ million → int_sum_by (λ z. z) (pos x ∷ pos y ∷ []) ≡ pos million → LawfulRow (pos x ∷ pos y ∷ [])
row_is_whole x y a b whole = record { range = two_between 0 million x y (omega arith) a (omega arith) b; whole = whole }

rows : LawfulRows 2 2 (map pos worked_sheet.shares)
rows zero zero i t = row_is_whole 900000 100000 (lit≤ tt) (lit≤ tt) refl
rows (suc zero) zero i t = row_is_whole 0 1000000 (lit≤ tt) (lit≤ tt) refl
rows zero (suc zero) i t = row_is_whole 800000 200000 (lit≤ tt) (lit≤ tt) refl
rows (suc zero) (suc zero) i t = row_is_whole 0 1000000 (lit≤ tt) (lit≤ tt) refl
rows (suc (suc k)) u i t = absurd (omega (arith, i))
rows zero (suc (suc u)) i t = absurd (omega (arith, t))
rows (suc zero) (suc (suc u)) i t = absurd (omega (arith, t))

lawful : LawfulBasis worked_sheet
lawful = record {
  size = record { least_states = lit≤ tt; most_states = lit≤ tt; least_years = lit≤ tt; most_years = lit≤ tt; factor_places = refl; share_places = refl };
  discount = two_between 1 million 900000 900000 (lit≤ tt) (lit≤ tt) (lit≤ tt) (lit≤ tt);
  rows = rows;
}

commands : List ℕ
commands = codes "Q;1000000;2;2;0\nC;0;120000\nC;1;-10000\nC;1;0\nL\n"

sheet : IsSheet most worked_input worked_sheet commands
unfolding digits commands
sheet = record { text = refl; lawful = lawful; room = record { for_factors = lit≤ tt; for_shares = lit≤ tt } }

-- ---- the contract

abbrev basis : Transitions
basis = basis_of worked_sheet

abbrev plan : Payments
plan = endows 1000000 2 2

abbrev terms : Terms
terms = terms_at plan 0 (pos 0) 452487

lawful_terms : AreTerms basis terms
lawful_terms = record { start_in_basis = lit≤ tt; deposit_range = record { low = omega (arith, ints); high = omega (arith, ints) }; premium_range = lit≤ tt }

too_cheap : Suffices basis plan 0 0 (pos 0) 452486 → ⊥
too_cheap suffices = let no : pos 1 ≤ℤ pos 0 = suffices in omega (arith, ints, no)

priced : LeastPremium basis plan 0 0 (pos 0) 452487
priced = record { in_range = lit≤ tt; suffices = (let yes : negsuc 0 ≤ℤ pos 0 = omega (arith, ints) in yes); no_lower = none_up_to basis plan 0 0 (pos 0) 452486 too_cheap }

abbrev at_issue : Ledger
at_issue = record {
  stands = record { plan = plan; premium = 452487; state = 0; year = 0; number = 0 };
  books = record { premiums = pos 0; interest = pos 0; benefits = pos 0; results = pos 1; carried = negsuc 0 };
}

abbrev after_a_year : Ledger
after_a_year = record {
  stands = record { plan = plan; premium = 452487; state = 0; year = 1; number = 1 };
  books = record { premiums = pos 452487; interest = pos 54298; benefits = pos 0; results = pos 59272; carried = pos 447513 };
}

abbrev after_two_years : Ledger
after_two_years = record {
  stands = record { plan = plan; premium = 452487; state = 1; year = 2; number = 2 };
  books = record { premiums = pos 904974; interest = pos 45298; benefits = pos 1000000; results = negsuc 49727; carried = pos 0 };
}

is_issued : (spot : Spot) → Does basis spot None (issue 1000000 2 2 0) (says.Issued (pos 452487) (negsuc 0) (pos 1)) (Some at_issue)
is_issued spot = issues lawful_terms priced

first_year : Entry basis at_issue (Close 0 (pos 120000)) (Closed lived) after_a_year
first_year = accepted (may_close basis at_issue.stands 0 (pos 120000) (record { year_left = lit≤ tt; in_basis = lit≤ tt; rate_low = omega (arith, ints); rate_high = omega (arith, ints); may_move = lit≤ tt; number_left = lit≤ tt })) closed

second_year : Entry basis after_a_year (Close 1 (negsuc 9999)) (Closed died) after_two_years
second_year = accepted (may_close basis after_a_year.stands 1 (negsuc 9999) (record { year_left = lit≤ tt; in_basis = lit≤ tt; rate_low = omega (arith, ints); rate_high = omega (arith, ints); may_move = lit≤ tt; number_left = lit≤ tt })) closed

first_closed : (spot : Spot) → Does basis spot (Some at_issue) (close 0 (pos 120000)) (says.Closed 1 0 (pos 4022) (pos 55249) (pos 447513)) (Some after_a_year)
first_closed spot = closes first_year

second_closed : (spot : Spot) → Does basis spot (Some after_a_year) (close 1 (negsuc 9999)) (says.Closed 2 1 (negsuc 108999) (pos 0) (pos 0)) (Some after_two_years)
second_closed spot = closes second_year

not_closed : (spot : Spot) → Does basis spot (Some after_two_years) (close 1 (pos 0)) (says.Refused 16 spot.line spot.offset) (Some after_two_years)
not_closed spot = closes_not (refused (first_no_year basis after_two_years.stands 1 (pos 0) (lit≤ tt)))

is_left : (spot : Spot) → Does basis spot (Some after_two_years) leave (says.Left (pos 0) (pos 0)) None
is_left spot = leaves {k = leaving basis after_two_years.stands} ledger_leaves

-- ---- the lines of the commands, whatever follows them

at : ℕ → ℕ → Spot
at line offset = record { line = line; offset = offset }

module _ (rest more : List ℕ) where
  issue_answered : Session basis (Some at_issue) (at 12 138) rest more → Session basis None (at 11 122) (codes "Q;1000000;2;2;0\n" ++ rest) (reply_text (says.Issued (pos 452487) (negsuc 0) (pos 1)) ++ more)
  unfolding digits at
  issue_answered on = goes_on refl (does (record { text = refl; allowed = (record { amount = lit≤ tt; some = lit≤ tt; within = lit≤ tt; few = lit≤ tt; paying = lit≤ tt }, lit≤ tt); standing = refl }) (is_issued (at 11 122))) on

  first_answered : Session basis (Some after_a_year) (at 13 149) rest more → Session basis (Some at_issue) (at 12 138) (codes "C;0;120000\n" ++ rest) (reply_text (says.Closed 1 0 (pos 4022) (pos 55249) (pos 447513)) ++ more)
  unfolding digits at
  first_answered on = goes_on refl (does (record { text = refl; allowed = (lit≤ tt, lit≤ tt); standing = refl }) (first_closed (at 12 138))) on

  second_answered : Session basis (Some after_two_years) (at 14 160) rest more → Session basis (Some after_a_year) (at 13 149) (codes "C;1;-10000\n" ++ rest) (reply_text (says.Closed 2 1 (negsuc 108999) (pos 0) (pos 0)) ++ more)
  unfolding digits at
  second_answered on = goes_on refl (does (record { text = refl; allowed = (lit≤ tt, lit≤ tt); standing = refl }) (second_closed (at 13 149))) on

  third_answered : Session basis (Some after_two_years) (at 15 166) rest more → Session basis (Some after_two_years) (at 14 160) (codes "C;1;0\n" ++ rest) (reply_text (says.Refused 16 14 160) ++ more)
  unfolding digits at
  third_answered on = goes_on refl (does (record { text = refl; allowed = (lit≤ tt, lit≤ tt); standing = refl }) (not_closed (at 14 160))) on

  leave_answered : Session basis None (at 16 168) rest more → Session basis (Some after_two_years) (at 15 166) (codes "L\n" ++ rest) (reply_text (says.Left (pos 0) (pos 0)) ++ more)
  unfolding digits at
  leave_answered on = goes_on refl (does (record { text = refl; allowed = tt; standing = refl }) (is_left (at 15 166))) on

lines : Session basis None (at 11 122) commands
    (reply_text (says.Issued (pos 452487) (negsuc 0) (pos 1)) ++ (reply_text (says.Closed 1 0 (pos 4022) (pos 55249) (pos 447513)) ++ (reply_text (says.Closed 2 1 (negsuc 108999) (pos 0) (pos 0)) ++ (reply_text (says.Refused 16 14 160) ++ (reply_text (says.Left (pos 0) (pos 0)) ++ [])))))
unfolding commands
lines = issue_answered _ _ (first_answered _ _ (second_answered _ _ (third_answered _ _ (leave_answered [] [] ends))))

answered : IsAnswer worked_input worked_answer
unfolding digits at
answered = session (lit≤ tt) sheet lines

-- ---- the sheet's basis is the worked life table

same_factor : (t : ℕ) → worked_basis.factor t ≡ basis.factor t
same_factor zero = refl
same_factor (suc zero) = refl
same_factor (suc (suc t)) = grind (arith, nat_tests)

same_share : (i j t : ℕ) → worked_basis.share i j t ≡ basis.share i j t
same_share zero zero zero = refl
same_share zero (suc zero) zero = refl
same_share zero (suc (suc j)) zero = grind (arith, nat_tests)
same_share (suc zero) zero zero = refl
same_share (suc zero) (suc zero) zero = refl
same_share (suc zero) (suc (suc j)) zero = grind (arith, nat_tests)
same_share (suc (suc i)) j zero = grind (arith, nat_tests)
same_share zero zero (suc zero) = refl
same_share zero (suc zero) (suc zero) = refl
same_share zero (suc (suc j)) (suc zero) = grind (arith, nat_tests)
same_share (suc zero) zero (suc zero) = refl
same_share (suc zero) (suc zero) (suc zero) = refl
same_share (suc zero) (suc (suc j)) (suc zero) = grind (arith, nat_tests)
same_share (suc (suc i)) j (suc zero) = grind (arith, nat_tests)
same_share i j (suc (suc t)) = grind (arith, nat_tests)

one_basis : AgreeEverywhere worked_basis basis
one_basis = record { states = refl; years = refl; factor = same_factor; share = same_share }

pub worked : WorkedInput
worked = record { answer = answered; one_basis = one_basis; figures = worked_figures_on basis one_basis; replies = worked_replies }
