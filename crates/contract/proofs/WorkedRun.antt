-- The worked contracts, by computing them. Assumes nothing.
use Rattle.std.proofs.Common.{pos, negsuc, ◌≤ℤ◌, true, false, suc, refl, lit≤, arith}
use Rattle.std.proofs.lemmas.Int.{ints}
use Rattle.units.specs.Faults.{entry_fault}
use Rattle.units.specs.Ranges.{limit}
use Rattle.units.specs.declared.fault.Layer.TheVariants.{Contract}
use Rattle.plan.specs.Endowments.{endows}
use Rattle.valuation.specs.Means.{mean}
use Rattle.valuation.specs.Premiums.{Suffices, LeastPremium}
use Rattle.valuation.specs.WorkedCase.{worked_basis, worked_plan}
use Rattle.valuation.proofs.Premiums.{none_up_to}
use Rattle.valuation.proofs.WorkedCase.{worked_figures}
use Rattle.contract.specs.Ledgers.{Close, Alter, Closed, Altered, Refused, refused, accepted, closed, altered_to, reserve_told, no_premium}
use Rattle.contract.specs.Promises.{ComesTo}
use Rattle.contract.specs.Runs.{Turn, Ask, Told, asked, figure_told, done, more, stands, leaves}
use Rattle.contract.specs.Standings.{Ledger, AreTerms, issued}
use Rattle.contract.specs.WorkedRun.{worked_terms, first_year, second_year, closings_asked, closings_answered, alterations_asked, alterations_answered, altered_books, WorkedRun}
use Rattle.contract.proofs.Objections.{may_close, first_no_year, reserve_passes, altering_passes}

terms : AreTerms worked_basis worked_terms
terms = record { start_in_basis = omega arith; deposit_range = record { low = omega (arith, ints); high = omega (arith, ints) }; premium_range = omega arith }

abbrev at_issue : Ledger
at_issue = issued worked_basis worked_terms

abbrev after_a_year : Ledger
after_a_year = record {
  stands = record { plan = worked_plan; premium = 452487; state = 0; year = 1; number = 1 };
  books = record { premiums = pos 452487; interest = pos 54298; benefits = pos 0; results = pos 59272; carried = pos 447513 };
}

abbrev closed_ledger : Ledger
closed_ledger = record {
  stands = record { plan = worked_plan; premium = 452487; state = 1; year = 2; number = 2 };
  books = record { premiums = pos 904974; interest = pos 45298; benefits = pos 1000000; results = negsuc 49727; carried = pos 0 };
}

abbrev altered_ledger : Ledger
altered_ledger = record {
  stands = record { plan = endows 100000 2 2; premium = 0; state = 0; year = 1; number = 3 };
  books = altered_books;
}

lives_for_a_year : Turn worked_basis mean at_issue (Ask (Close 0 (pos 120000))) (Told (Closed first_year)) after_a_year
lives_for_a_year = asked (accepted (may_close worked_basis at_issue.stands 0 (pos 120000) (record { year_left = lit≤ tt; in_basis = lit≤ tt; rate_low = omega (arith, ints); rate_high = omega (arith, ints); may_move = lit≤ tt; number_left = lit≤ tt })) closed)

dies : Turn worked_basis mean after_a_year (Ask (Close 1 (negsuc 9999))) (Told (Closed second_year)) closed_ledger
dies = asked (accepted (may_close worked_basis after_a_year.stands 1 (negsuc 9999) (record { year_left = lit≤ tt; in_basis = lit≤ tt; rate_low = omega (arith, ints); rate_high = omega (arith, ints); may_move = lit≤ tt; number_left = lit≤ tt })) closed)

-- without a paying year left, the premium changes nothing: the sum is worth more than the reserve at any
unpaid : Suffices worked_basis (endows 1000000 2 1) 0 1 (pos 447513) limit → ⊥
unpaid suffices = let no : pos 900000 ≤ℤ pos 447513 = suffices in omega (arith, ints, no)

no_plan : Turn worked_basis mean after_a_year (Ask (Alter (endows 1000000 2 1))) (Told (Refused (entry_fault 20 Contract 1 0))) after_a_year
no_plan = asked (refused (record {
  stands = no_premium (λ premium low. none_up_to worked_basis (endows 1000000 2 1) 0 1 (pos 447513) limit unpaid premium (omega (arith, low)));
  none_before = altering_passes worked_basis after_a_year.stands (endows 1000000 2 1) 20 (omega arith) (omega arith);
}))

too_cheap : Suffices worked_basis (endows 500000 2 2) 0 1 (pos 447513) 2486 → ⊥
too_cheap suffices = let no : pos 447514 ≤ℤ pos 447513 = suffices in omega (arith, ints, no)

half_priced : LeastPremium worked_basis (endows 500000 2 2) 0 1 (pos 447513) 2487
half_priced = record { in_range = lit≤ tt; suffices = (let yes : pos 447513 ≤ℤ pos 447513 = omega (arith, ints) in yes); no_lower = none_up_to worked_basis (endows 500000 2 2) 0 1 (pos 447513) 2486 too_cheap }

abbrev at_half : Ledger
at_half = record {
  stands = record { plan = endows 500000 2 2; premium = 2487; state = 0; year = 1; number = 2 };
  books = record { premiums = pos 452487; interest = pos 54298; benefits = pos 0; results = pos 59272; carried = pos 447513 };
}

halved : Turn worked_basis mean after_a_year (Ask (Alter (endows 500000 2 2))) (Told (Altered (record { number = 2; premium = 2487; result = pos 0; reserve = pos 447513 }))) at_half
halved = asked (accepted (λ k o. altering_passes worked_basis after_a_year.stands (endows 500000 2 2) (suc k) (λ _ none. none 2487 half_priced.in_range half_priced.suffices) (λ _. lit≤ tt) k (omega arith) o) (altered_to half_priced))

tenth_priced : LeastPremium worked_basis (endows 100000 2 2) 0 1 (pos 447513) 0
tenth_priced = record { in_range = lit≤ tt; suffices = (let yes : pos 90000 ≤ℤ pos 447513 = omega (arith, ints) in yes); no_lower = λ lower l. omega (arith, l) }

tenth : Turn worked_basis mean at_half (Ask (Alter (endows 100000 2 2))) (Told (Altered (record { number = 3; premium = 0; result = pos 357513; reserve = pos 90000 }))) altered_ledger
tenth = asked (accepted (λ k o. altering_passes worked_basis at_half.stands (endows 100000 2 2) (suc k) (λ _ none. none 0 tenth_priced.in_range tenth_priced.suffices) (λ _. lit≤ tt) k (omega arith) o) (altered_to tenth_priced))

closings : ComesTo worked_basis mean worked_terms closings_asked closings_answered closed_ledger
closings = record {
  terms = terms;
  runs = more lives_for_a_year (more (asked (accepted (reserve_passes worked_basis after_a_year.stands) reserve_told)) (more dies (more (asked (refused (first_no_year worked_basis closed_ledger.stands 1 (pos 0) (lit≤ tt)))) done)));
}

alterations : ComesTo worked_basis mean worked_terms alterations_asked alterations_answered altered_ledger
alterations = record { terms = terms; runs = more lives_for_a_year (more no_plan (more halved (more tenth (more figure_told done)))) }

pub worked_run : WorkedRun
worked_run = record {
  priced = worked_figures.least_premium;
  opening = refl;
  closings = record { ledger = closed_ledger; comes_to = closings; ends = leaves };
  alterations = record { ledger = altered_ledger; comes_to = alterations; ends = stands };
  alterations_and_leaving = record { ledger = altered_ledger; comes_to = alterations; ends = leaves };
}
