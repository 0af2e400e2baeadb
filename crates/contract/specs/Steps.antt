-- What the steps of a contract come to: closing a year, altering and leaving. Assumes nothing.
use Rattle.std.specs.Prelude.{ℕ, ◌+◌, cond, ℤ, pos, ◌+ℤ◌, ◌-ℤ◌, ◌*ℤ◌}
use Rattle.std.specs.Int.{int_max}
use Rattle.units.specs.Rounding.{nearest}
use Rattle.basis.specs.Transitions.{Transitions}
use Rattle.plan.specs.Payments.{Payments}
use Rattle.valuation.specs.Reserves.{expected_at, present_at}
use Rattle.contract.specs.Standings.{Standing, Ledger, Books, Posting, posted, moved, altered, reserve_at}

-- how interest earned, in millionths of a tick, is rounded
abbrev pub rounded_interest : ℤ → ℤ
rounded_interest = nearest

-- what is told of a year that was closed, under the number of its closing
pub record ClosedYear : Type 0 where
  pub number : ℕ
  pub year : ℕ
  -- the premium that was taken, and the benefits that were paid in the year
  pub premium : ℕ
  pub benefits : ℕ
  pub interest_earned : ℤ
  pub interest_result : ℤ
  pub risk_result : ℤ
  -- the reserve after it
  pub reserve : ℤ

-- what is told of an alteration, under its number: the new premium and reserve, and the result
pub record Alteration : Type 0 where
  pub number : ℕ
  pub premium : ℕ
  pub result : ℤ
  pub reserve : ℤ

-- what is told of leaving: what is paid, and the result
pub record Leaving : Type 0 where
  pub paid : ℤ
  pub result : ℤ

-- what these post
abbrev pub closing_posting : ClosedYear → Posting
closing_posting k = record {
  premium = pos k.premium;
  interest = k.interest_earned;
  benefits = pos k.benefits;
  result = k.interest_result +ℤ k.risk_result;
}

abbrev pub alteration_posting : Alteration → Posting
alteration_posting k = record {
  premium = pos 0;
  interest = pos 0;
  benefits = pos 0;
  result = k.result;
}

abbrev pub leaving_posting : Leaving → Posting
leaving_posting k = record {
  premium = pos 0;
  interest = pos 0;
  benefits = k.paid;
  result = k.result;
}

-- the books of a contract that has been left: nothing is carried any more
abbrev pub books_after_leaving : Books → Leaving → Books
books_after_leaving b k = posted b (leaving_posting k) (pos 0)

-- ---- closing a year

-- the premium, if it is due
abbrev pub premium_taken : Standing → ℕ
premium_taken s = cond (s.plan.due s.state s.year) s.premium 0

-- the benefit at the start of the year, and that for the move at its end
abbrev pub benefits_paid : Standing → ℕ → ℕ
benefits_paid s j = s.plan.benefit s.state s.year + s.plan.move_benefit s.state j s.year

module _ (c : Transitions) where
  -- E, what the moves bring in the mean, and W, what that is worth at the start of the year
  abbrev pub join : Standing → ℤ
  join s = expected_at c s.plan s.premium s.state s.year

  abbrev pub discounted_join : Standing → ℤ
  discounted_join s = present_at c s.plan s.premium s.state s.year

  abbrev pub interest_earned : Standing → ℤ → ℤ
  interest_earned s rate = rounded_interest (discounted_join s *ℤ rate)

  -- the interest earned, less the interest that was reckoned with
  abbrev pub interest_result : Standing → ℤ → ℤ
  interest_result s rate = interest_earned s rate -ℤ (join s -ℤ discounted_join s)

  -- what was expected of the moves, less what the move to j costs
  abbrev pub risk_result : Standing → ℕ → ℤ
  risk_result s j =
      (join s -ℤ pos (s.plan.move_benefit s.state j s.year)) -ℤ reserve_at c (moved s j)

  abbrev pub closed_year : Standing → ℕ → ℤ → ClosedYear
  closed_year s j rate = record {
    number = s.number + 1;
    year = s.year;
    premium = premium_taken s;
    benefits = benefits_paid s j;
    interest_earned = interest_earned s rate;
    interest_result = interest_result s rate;
    risk_result = risk_result s j;
    reserve = reserve_at c (moved s j);
  }

  -- ---- altering: the old reserve, less the new

  abbrev pub alteration_result : Standing → Payments → ℕ → ℤ
  alteration_result s new premium = reserve_at c s -ℤ reserve_at c (altered s new premium)

  abbrev pub alteration : Standing → Payments → ℕ → Alteration
  alteration s new premium = record {
    number = s.number + 1;
    premium = premium;
    result = alteration_result s new premium;
    reserve = reserve_at c (altered s new premium);
  }

  -- ---- leaving: the reserve is paid if it is above nought

  abbrev pub payout : Standing → ℤ
  payout s = int_max (reserve_at c s) (pos 0)

  abbrev pub leaving_result : Standing → ℤ
  leaving_result s = reserve_at c s -ℤ payout s

  abbrev pub leaving : Standing → Leaving
  leaving s = record { paid = payout s; result = leaving_result s }
