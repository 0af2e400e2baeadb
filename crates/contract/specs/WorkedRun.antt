-- Contracts that can be worked by hand, from issue to the end, with their books. Assumes nothing.
use Rattle.std.specs.Prelude.{◌≡◌, true, false, [], ◌∷◌, List, ℤ, pos, negsuc}
use Rattle.units.specs.Faults.{entry_fault}
use Rattle.units.specs.declared.fault.Layer.TheVariants.{Contract}
use Rattle.plan.specs.Endowments.{endows}
use Rattle.valuation.specs.Means.{mean}
use Rattle.valuation.specs.WorkedCase.{worked_basis, worked_plan}
use Rattle.contract.specs.Ledgers.{Close, Alter, AskReserve, Closed, Altered, IsWorth, Refused}
use Rattle.contract.specs.Promises.{IsWholeRun}
use Rattle.contract.specs.Runs.{Call, Ask, AskFigure, Reply, Told, HasFigure, End, Stands, Left}
use Rattle.contract.specs.Standings.{Terms, Standing, Books, IsPriced, opening_result}
use Rattle.contract.specs.Steps.{ClosedYear}

-- the endowment of the worked case, issued to a living man without a deposit
abbrev pub worked_terms : Terms
worked_terms = record { plan = worked_plan; premium = 452487; start = 0; deposit = pos 0 }

-- he lives for a year that earns twelve per cent
abbrev pub first_year : ClosedYear
first_year = record {
  number = 1;
  year = 0;
  premium = 452487;
  benefits = 0;
  interest_earned = pos 54298;
  interest_result = pos 4022;
  risk_result = pos 55249;
  reserve = pos 447513;
}

-- and dies in one that loses one
abbrev pub second_year : ClosedYear
second_year = record {
  number = 2;
  year = 1;
  premium = 452487;
  benefits = 1000000;
  interest_earned = negsuc 8999;
  interest_result = negsuc 108999;
  risk_result = pos 0;
  reserve = pos 0;
}

abbrev pub closings_asked : List Call
closings_asked =
    Ask (Close 0 (pos 120000)) ∷ Ask AskReserve ∷ Ask (Close 1 (negsuc 9999))
    ∷ Ask (Close 1 (pos 0)) ∷ []

abbrev pub closings_answered : List (Reply ℤ)
closings_answered =
    Told (Closed first_year) ∷ Told (IsWorth (pos 447513)) ∷ Told (Closed second_year)
    ∷ Told (Refused (entry_fault 16 Contract 2 1)) ∷ []

-- the contract is left then, which pays nothing
abbrev pub closings_end : End
closings_end = Left (record { paid = pos 0; result = pos 0 }) (record {
  premiums = pos 904974;
  interest = pos 45298;
  benefits = pos 1000000;
  results = negsuc 49727;
  carried = pos 0;
})

-- or he alters the endowment in between, to half the sum and then to a tenth
abbrev pub alterations_asked : List Call
alterations_asked =
    Ask (Close 0 (pos 120000)) ∷ Ask (Alter (endows 1000000 2 1))
    ∷ Ask (Alter (endows 500000 2 2)) ∷ Ask (Alter (endows 100000 2 2)) ∷ AskFigure ∷ []

abbrev pub alterations_answered : List (Reply ℤ)
alterations_answered =
    Told (Closed first_year) ∷ Told (Refused (entry_fault 20 Contract 1 0))
    ∷ Told (Altered (record {
      number = 2;
      premium = 2487;
      result = pos 0;
      reserve = pos 447513;
    })) ∷ Told (Altered (record {
      number = 3;
      premium = 0;
      result = pos 357513;
      reserve = pos 90000;
    })) ∷ HasFigure (pos 90000) ∷ []

abbrev pub altered_books : Books
altered_books = record {
  premiums = pos 452487;
  interest = pos 54298;
  benefits = pos 0;
  results = pos 416785;
  carried = pos 90000;
}

abbrev pub altered_end : End
altered_end = Stands (record {
  stands = record {
    plan = endows 100000 2 2;
    premium = 0;
    state = 0;
    year = 1;
    number = 3;
  };
  books = altered_books;
})

-- left then, it pays its reserve
abbrev pub altered_and_left_end : End
altered_and_left_end = Left (record { paid = pos 90000; result = pos 0 }) (record {
  premiums = pos 452487;
  interest = pos 54298;
  benefits = pos 90000;
  results = pos 416785;
  carried = pos 0;
})

pub record WorkedRun : Type 0 where
  pub priced : IsPriced worked_basis worked_terms
  pub opening : opening_result worked_basis worked_terms ≡ pos 1
  pub closings :
      IsWholeRun worked_basis mean worked_terms closings_asked closings_answered true closings_end
  pub alterations :
      IsWholeRun worked_basis mean worked_terms alterations_asked alterations_answered false
      altered_end
  pub alterations_and_leaving :
      IsWholeRun worked_basis mean worked_terms alterations_asked alterations_answered true
      altered_and_left_end
