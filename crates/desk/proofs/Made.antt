-- Commands from fields that break no rule. Assumes nothing.
use Rattle.std.proofs.Common.{◌≡◌, ℕ, ◌+◌, ◌≤◌, min, Bool, true, false, cond, List, [], ◌∷◌, ◌++◌, length, Option, Some, None, Ok, ℤ, pos, refl, sym, ap, ◌∙◌, arith}
use Rattle.std.specs.Str.Parse.{digits_value}
use Rattle.std.proofs.lemmas.Bool.Decides.{nat_tests}
use Rattle.units.specs.Faults.{text_fault}
use Rattle.units.specs.Ranges.{limit}
use Rattle.units.specs.declared.fault.Fault.{Fault}
use Rattle.units.specs.declared.fault.Layer.TheVariants.{Field}
use Rattle.plan.specs.Endowments.{Holds}
use Rattle.plan.specs.declared.endowment.Endowment.{Endowment}
use Rattle.sheet.specs.Checks.{Check, first_broken, in_range, range}
use Rattle.sheet.specs.Numerals.{Writes, WritesSigned}
use Rattle.sheet.specs.declared.spot.Spot.{Spot}
use Rattle.sheet.proofs.Numbers.{written_passes}
use Rattle.desk.specs.CommandChecks.{kind_checks, kind}
use Rattle.desk.specs.Commands.{AllowedPlan, issue, close, alter, leave}
use Rattle.desk.specs.Meanings.{Means, issues, closes, alters, leaves}
use Rattle.desk.specs.Parsing.{IsMade, Makes}
use Rattle.desk.specs.declared.command.Command.TheVariants as code_of
use Rattle.desk.proofs.Forms.{signed_passes, unsigned_fails}

-- ---- lists of checks

pub kept : {o : Option Fault} (holds : Bool) (fault : Fault) (rest : Option Fault) → holds ≡ true → rest ≡ o → cond holds rest (Some fault) ≡ o
kept true fault rest h more = more
kept false fault rest h more = absurd (grind arith)

pub broken : (holds : Bool) (fault : Fault) (rest : Option Fault) → holds ≡ false → cond holds rest (Some fault) ≡ Some fault
broken true fault rest h = absurd (grind arith)
broken false fault rest h = refl

none_on : (holds : Bool) (fault : Fault) (first all rest : Option Fault) → cond holds first (Some fault) ≡ None → (first ≡ None → all ≡ rest) → cond holds all (Some fault) ≡ rest
none_on true fault first all rest h more = more h
none_on false fault first all rest h more = absurd (grind arith)

some_on : (holds : Bool) (fault told : Fault) (first all : Option Fault) → cond holds first (Some fault) ≡ Some told → (first ≡ Some told → all ≡ Some told) → cond holds all (Some fault) ≡ Some told
some_on true fault told first all h more = more h
some_on false fault told first all h more = h

pub none_then : (cs ds : List Check) (rest : Option Fault) → first_broken cs ≡ None → first_broken ds ≡ rest → first_broken (cs ++ ds) ≡ rest
none_then [] ds rest none more = more
none_then (c ∷ cs) ds rest none more = none_on c.holds c.fault (first_broken cs) (first_broken (cs ++ ds)) rest none (λ h. none_then cs ds rest h more)

pub some_stays : (cs ds : List Check) (fault : Fault) → first_broken cs ≡ Some fault → first_broken (cs ++ ds) ≡ Some fault
some_stays [] ds fault some = absurd (grind arith)
some_stays (c ∷ cs) ds fault some = some_on c.holds c.fault fault (first_broken cs) (first_broken (cs ++ ds)) some (some_stays cs ds fault)

pub inside : (n v low high : ℕ) → n ≡ v → low ≤ n → n ≤ high → in_range (range low high) v ≡ true
inside n v low high e from to = grind (arith, nat_tests)

-- ---- the numbers of a plan

term_within : (years s k g : ℕ) → AllowedPlan years s k g → k ≤ min years 120
term_within years s k g p =
    let a = p.within in
    let b = p.few in
    omega arith

-- ---- the checks of each kind

pub issue_unbroken : (years : ℕ) (spot : Spot) (fs fk fg fd : List ℕ) (s k g d : ℕ) → Writes fs s → Writes fk k → Writes fg g → Writes fd d → AllowedPlan years s k g → d ≤ limit → first_broken (kind_checks spot (fs ∷ fk ∷ fg ∷ fd ∷ []) (kind years 81)) ≡ None
issue_unbroken years spot fs fk fg fd s k g d ws wk wg wd p most =
    let a = written_passes fs s ws in
    let b = written_passes fk k wk in
    let c = written_passes fg g wg in
    let e = written_passes fd d wd in
    kept _ _ _ a.0 (kept _ _ _ b.0 (kept _ _ _ c.0 (kept _ _ _ e.0
    (kept _ _ _ (inside s _ 0 limit a.1 (omega arith) p.amount)
    (kept _ _ _ (inside k _ 1 (min years 120) b.1 p.some (term_within years s k g p))
    (kept _ _ _ (inside g _ 0 (digits_value 10 fk) c.1 (omega arith) (omega (arith, b.1, p.paying)))
    (kept _ _ _ (inside d _ 0 limit e.1 (omega arith) most) refl)))))))

pub alter_unbroken : (years : ℕ) (spot : Spot) (fs fk fg : List ℕ) (s k g : ℕ) → Writes fs s → Writes fk k → Writes fg g → AllowedPlan years s k g → first_broken (kind_checks spot (fs ∷ fk ∷ fg ∷ []) (kind years 65)) ≡ None
alter_unbroken years spot fs fk fg s k g ws wk wg p =
    let a = written_passes fs s ws in
    let b = written_passes fk k wk in
    let c = written_passes fg g wg in
    kept _ _ _ a.0 (kept _ _ _ b.0 (kept _ _ _ c.0
    (kept _ _ _ (inside s _ 0 limit a.1 (omega arith) p.amount)
    (kept _ _ _ (inside k _ 1 (min years 120) b.1 p.some (term_within years s k g p))
    (kept _ _ _ (inside g _ 0 (digits_value 10 fk) c.1 (omega arith) (omega (arith, b.1, p.paying))) refl)))))

pub close_unbroken : (years : ℕ) (spot : Spot) (fj fr : List ℕ) (j : ℕ) (r : ℤ) → Writes fj j → WritesSigned fr r → j ≤ 7 → first_broken (kind_checks spot (fj ∷ fr ∷ []) (kind years 67)) ≡ None
close_unbroken years spot fj fr j r wj wr most =
    let a = written_passes fj j wj in
    kept _ _ _ a.0 (kept _ _ _ (signed_passes fr r wr) (kept _ _ _ (inside j _ 0 7 a.1 (omega arith) most) refl))

pub close_form_broken : (years : ℕ) (spot : Spot) (fj fr : List ℕ) (j : ℕ) → Writes fj j → ((z : ℤ) → WritesSigned fr z → ⊥) → first_broken (kind_checks spot (fj ∷ fr ∷ []) (kind years 67)) ≡ Some (text_fault 4 Field spot.line (spot.offset + 2 + (length fj + 1)))
close_form_broken years spot fj fr j wj none =
    let a = written_passes fj j wj in
    kept _ _ _ a.0 (broken _ _ _ (unsigned_fails fr none))

pub close_state_broken : (years : ℕ) (spot : Spot) (fj fr : List ℕ) (j : ℕ) (r : ℤ) → Writes fj j → WritesSigned fr r → in_range (range 0 7) j ≡ false → first_broken (kind_checks spot (fj ∷ fr ∷ []) (kind years 67)) ≡ Some (text_fault 5 Field spot.line (spot.offset + 2))
close_state_broken years spot fj fr j r wj wr outside =
    let a = written_passes fj j wj in
    let b : in_range (range 0 7) (digits_value 10 fj) ≡ false = ap (in_range (range 0 7)) (sym a.1) ∙ outside in
    kept _ _ _ a.0 (kept _ _ _ (signed_passes fr r wr) (broken _ _ _ b))

-- ---- what the code makes

plan_ticks : (plan : Endowment) (s k g : ℕ) → Holds plan (pos s) k g → plan.sum.ticks ≡ s
plan_ticks plan s k g holds = let a = holds.amount in grind arith

pub issue_means : (plan : Endowment) (s k g d : ℕ) → Holds plan (pos s) k g → Means (code_of.Issue plan (pos d)) (issue s k g d)
issue_means plan s k g d holds = rw (← plan_ticks plan s k g holds, ← holds.years, ← holds.paying) (issues plan d)

pub alter_means : (plan : Endowment) (s k g : ℕ) → Holds plan (pos s) k g → Means (code_of.Alter plan) (alter s k g)
alter_means plan s k g holds = rw (← plan_ticks plan s k g holds, ← holds.years, ← holds.paying) (alters plan)

pub issue_made : (years : ℕ) (fs fk fg fd : List ℕ) (s k g d : ℕ) (plan : Endowment) → Writes fs s → Writes fk k → Writes fg g → Writes fd d → AllowedPlan years s k g → d ≤ limit → Holds plan (pos s) k g → IsMade years 81 (fs ∷ fk ∷ fg ∷ fd ∷ []) (code_of.Issue plan (pos d)) (issue s k g d)
issue_made years fs fk fg fd s k g d plan ws wk wg wd p most holds =
    let a = ws.text in
    let b = wk.text in
    let c = wg.text in
    let e = wd.text in
    record { meaning = issue_means plan s k g d holds; allowed = (p, most); same_letter = refl; same_fields = cc }

pub alter_made : (years : ℕ) (fs fk fg : List ℕ) (s k g : ℕ) (plan : Endowment) → Writes fs s → Writes fk k → Writes fg g → AllowedPlan years s k g → Holds plan (pos s) k g → IsMade years 65 (fs ∷ fk ∷ fg ∷ []) (code_of.Alter plan) (alter s k g)
alter_made years fs fk fg s k g plan ws wk wg p holds =
    let a = ws.text in
    let b = wk.text in
    let c = wg.text in
    record { meaning = alter_means plan s k g holds; allowed = p; same_letter = refl; same_fields = cc }

pub close_made : (years : ℕ) (fj fr : List ℕ) (j : ℕ) (r : ℤ) → Writes fj j → WritesSigned fr r → j ≤ 7 → IsMade years 67 (fj ∷ fr ∷ []) (code_of.Close j r) (close j r)
close_made years fj fr j r wj wr most =
    let a = wj.text in
    let b = wr.text in
    record { meaning = closes j r; allowed = (most, wr.most); same_letter = refl; same_fields = cc }

pub leave_made : (years : ℕ) (spot : Spot) → Makes years 76 spot [] (Ok code_of.Leave)
leave_made years spot = (refl, (leave, record { meaning = leaves; allowed = tt; same_letter = refl; same_fields = refl }))
