-- Where a contract stands, what issuing is given, and the books that are kept of a contract.
-- Assumes nothing.
use Rattle.std.specs.Prelude.{◌≡◌, ℕ, ◌+◌, ◌<◌, ◌≤◌, ℤ, pos, ◌+ℤ◌, ◌-ℤ◌}
use Rattle.units.specs.Faults.{entry_fault}
use Rattle.units.specs.Ranges.{limit, WithinLimit}
use Rattle.units.specs.declared.fault.Fault.{Fault}
use Rattle.units.specs.declared.fault.Layer.TheVariants.{Contract}
use Rattle.basis.specs.Transitions.{Transitions}
use Rattle.plan.specs.Payments.{Payments}
use Rattle.valuation.specs.Premiums.{LeastPremium, Suffices}
use Rattle.valuation.specs.Reserves.{reserve}

pub record Standing : Type 0 where
  pub plan : Payments
  pub premium : ℕ
  pub state : ℕ
  pub year : ℕ
  -- the count of the closings and alterations accepted so far
  pub number : ℕ

pub record Terms : Type 0 where
  pub plan : Payments
  pub premium : ℕ
  pub start : ℕ
  pub deposit : ℤ

pub record Books : Type 0 where
  pub premiums : ℤ
  pub interest : ℤ
  pub benefits : ℤ
  pub results : ℤ
  -- the reserve carried
  pub carried : ℤ

pub record Ledger : Type 0 where
  pub stands : Standing
  pub books : Books

-- what one entry adds to the books
pub record Posting : Type 0 where
  pub premium : ℤ
  pub interest : ℤ
  pub benefits : ℤ
  pub result : ℤ

-- the books with one more posting, after which so much is carried
abbrev pub posted : Books → Posting → ℤ → Books
posted b x carried = record {
  premiums = b.premiums +ℤ x.premium;
  interest = b.interest +ℤ x.interest;
  benefits = b.benefits +ℤ x.benefits;
  results = b.results +ℤ x.result;
  carried = carried;
}

-- the deposit and all that has come in, less what was paid, is what was posted as results and what
-- is still carried
abbrev pub Balances : ℤ → Books → Type 0
Balances deposit b =
    ((deposit +ℤ b.premiums) +ℤ b.interest) -ℤ b.benefits ≡ b.results +ℤ b.carried

-- where a contract begins, where a closing in state j leads, and where an alteration leads
abbrev pub begun : Terms → Standing
begun x = record {
  plan = x.plan;
  premium = x.premium;
  state = x.start;
  year = 0;
  number = 0;
}

abbrev pub moved : Standing → ℕ → Standing
moved s j = record {
  plan = s.plan;
  premium = s.premium;
  state = j;
  year = s.year + 1;
  number = s.number + 1;
}

abbrev pub altered : Standing → Payments → ℕ → Standing
altered s new premium = record {
  plan = new;
  premium = premium;
  state = s.state;
  year = s.year;
  number = s.number + 1;
}

module _ (c : Transitions) where
  abbrev pub reserve_at : Standing → ℤ
  reserve_at s = reserve c s.plan s.premium s.state s.year

  -- the deposit, less the reserve that it is to cover
  abbrev pub opening_result : Terms → ℤ
  opening_result x = x.deposit -ℤ reserve_at (begun x)

  -- the ledger of a contract that was just issued
  abbrev pub issued : Terms → Ledger
  issued x = record {
    stands = begun x;
    books = record {
      premiums = pos 0;
      interest = pos 0;
      benefits = pos 0;
      results = opening_result x;
      carried = reserve_at (begun x);
    };
  }

  -- what a contract may be issued on: a state of the basis, a deposit and a premium in range
  pub record AreTerms (x : Terms) : Type 0 where
    pub start_in_basis : x.start < c.states
    pub deposit_range : WithinLimit x.deposit
    pub premium_range : x.premium ≤ limit

  -- its premium is the least at which the deposit covers the reserve
  abbrev pub IsPriced : Terms → Type 0
  IsPriced x = LeastPremium c x.plan x.start 0 x.deposit x.premium

  -- why nothing is issued on a plan, in a start state and on a deposit: a proposal, which begins in
  -- state 0, is placed, then it is deposited on, then priced
  pub data NotIssued (plan : Payments) (start : ℕ) (deposit : ℤ) : Fault → Type 0 where
    start_outside : c.states ≤ start → NotIssued plan start deposit (entry_fault 14 Contract 0 0)
    deposit_outside :
        start < c.states → (WithinLimit deposit → ⊥) →
        NotIssued plan start deposit (entry_fault 15 Contract 0 start)
    no_premium :
        start < c.states → WithinLimit deposit →
        ((premium : ℕ) → premium ≤ limit → Suffices c plan start 0 deposit premium → ⊥) →
        NotIssued plan start deposit (entry_fault 20 Contract 0 start)
