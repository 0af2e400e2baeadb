-- The promise is kept on every lawful basis, in every valuation that keeps order. Assumes nothing.
use Rattle.std.proofs.Common.{◌≡◌, ◌<◌, Bool, List, ℤ, refl, ap, ◌∙◌, subst, sym, arith}
use Rattle.basis.specs.Transitions.{Transitions, Lawful}
use Rattle.valuation.specs.Means.{mean, mean_ends}
use Rattle.valuation.specs.Operations.{Operations, Ordered}
use Rattle.valuation.specs.Orders.{mean_ordered}
use Rattle.valuation.specs.SpanOperations.{span, span_ends}
use Rattle.valuation.specs.SpanOrders.{span_ordered}
use Rattle.valuation.proofs.Order.{nowhere_valued_lower}
use Rattle.valuation.proofs.Plain.{reserve_nowhere_lower, span_nowhere_lower}
use Rattle.contract.specs.Standings.{Terms, Standing, Ledger, issued}
use Rattle.contract.specs.Runs.{Call, Reply, End, Ends, stands, leaves}
use Rattle.contract.specs.Promises.{Outpays, NowhereValuedLower, Promise, IsWholeRun}
use Rattle.contract.proofs.Keeping.{sound, settled}
use Rattle.contract.proofs.Totals.{counted}
use Rattle.contract.proofs.Turns.{turn_some, turn_once, runs_once, runs_on}

-- one ledger has one end
pub ends_once : (c : Transitions) (l : Ledger) (leaving : Bool) (e f : End) → Ends c l leaving e → Ends c l leaving f → e ≡ f
ends_once c l _ _ _ stands stands = refl
ends_once c l _ _ _ leaves leaves = refl

module _ {F : Type 0} (figure_ends : F → List ℤ) (v : Operations F) (ordered : Ordered figure_ends v) (c : Transitions) where
  nowhere_lower : (less more : Standing) → Outpays c less more → NowhereValuedLower c figure_ends v less more
  nowhere_lower less more out = record {
    reserve = reserve_nowhere_lower c less.year less.plan less.premium more.plan more.premium out.pays;
    span = span_nowhere_lower c less.year less.plan less.premium more.plan more.premium out.pays;
    figure = nowhere_valued_lower figure_ends v ordered c less.year less.plan less.premium more.plan more.premium out.pays;
  }

  whole_run_once : 0 < c.states → (x : Terms) (qs : List Call) (rs ss : List (Reply F)) (leaving : Bool) (e f : End) → IsWholeRun c v x qs rs leaving e → IsWholeRun c v x qs ss leaving f → (rs ≡ ss) × (e ≡ f)
  whole_run_once some x qs rs ss leaving e f h k =
      let once = runs_once c v some (issued c x) qs rs ss h.ledger k.ledger h.comes_to.runs k.comes_to.runs in
      (once.0, ends_once c h.ledger leaving e f h.ends (subst (λ l. Ends c l leaving f) (sym once.1) k.ends))

  pub promised : Lawful c → Promise c figure_ends v
  promised law =
      let some : 0 < c.states = omega (arith, law.least_states) in
      record {
        every_contract_is_sound = λ x qs rs l h. sound c v law x h.terms qs rs l h.runs;
        its_number_counts_closings_and_alterations = λ x qs rs l h. counted v c x l qs rs h.runs;
        its_books_balance_and_are_what_it_answered = λ x qs rs leaving e h. settled c v x qs rs leaving e h;
        goes_on = λ x qs rs l m q a h t. record { terms = h.terms; runs = runs_on c v (issued c x) l m qs rs q a h.runs t };
        every_call_is_answered = turn_some c v;
        no_other_answer = turn_once c v some;
        no_other_run = whole_run_once some;
        who_pays_at_least_as_much_is_nowhere_valued_lower = λ x y qs ps rs ss less more h k out. nowhere_lower less.stands more.stands out;
      }

pub promised_in_the_mean : (c : Transitions) → Lawful c → Promise c mean_ends mean
promised_in_the_mean = promised mean_ends mean mean_ordered

pub promised_in_the_span : (c : Transitions) → Lawful c → Promise c span_ends span
promised_in_the_span = promised span_ends span span_ordered
