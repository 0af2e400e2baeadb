-- What a line adds to the text of the sheet so far. Assumes nothing.
use Rattle.std.proofs.Common.{◌≡◌, ℕ, suc, ◌+◌, ◌*◌, ◌<◌, ◌≤◌, List, [], ◌∷◌, ◌++◌, length, get_or, ne_eqb, refl, sym, ap, ◌∙◌, append-nil, append_assoc, add-one, arith}
use Rattle.std.proofs.lemmas.Bool.Decides.{nat_tests}
use Rattle.std.proofs.lemmas.List.{get_or_past, get_or_push, get_or_append_left, length_push}
use Rattle.basis.specs.TransitionColumns.{place}
use Rattle.basis.specs.Transitions.{Transitions}
use Rattle.sheet.specs.Checks.{padded}
use Rattle.sheet.specs.Faults.{text_so_far}
use Rattle.sheet.specs.Sheets.{Sheet, basis_of}
use Rattle.sheet.specs.Texts.{line_text, move_text, row_text, moves_text, year_text, years_text, text_of}
use Rattle.sheet.proofs.Joins.{join_same, join_none, join_more, join_last, place_past_year, place_lt_year, place_lt_state, get_or_padded, more_below, more_at, more_past}

-- ---- texts of the same numbers

abbrev pub over : ℕ → ℕ → (ℕ → ℕ) → (ℕ → ℕ → ℕ → ℕ) → Transitions
over m years factor share = record { states = m; years = years; factor = factor; share = share }

row_same : (m y z : ℕ) (v w : ℕ → ℕ) (f g : ℕ → ℕ → ℕ → ℕ) (t i : ℕ) → ((j : ℕ) → j < m → f i j t ≡ g i j t) → row_text (over m y v f) t i ≡ row_text (over m z w g) t i
row_same m y z v w f g t i h = join_same (λ j. move_text t i j (f i j t)) (λ j. move_text t i j (g i j t)) 0 m (λ j u. ap (move_text t i j) (h j (omega arith)))

moves_same : (m y z : ℕ) (v w : ℕ → ℕ) (f g : ℕ → ℕ → ℕ → ℕ) (t : ℕ) → ((i j : ℕ) → i < m → j < m → f i j t ≡ g i j t) → moves_text (over m y v f) t ≡ moves_text (over m z w g) t
moves_same m y z v w f g t h = join_same (row_text (over m y v f) t) (row_text (over m z w g) t) 0 m (λ i u. row_same m y z v w f g t i (λ j k. h i j (omega arith) k))

year_same : (m y z : ℕ) (v w : ℕ → ℕ) (f g : ℕ → ℕ → ℕ → ℕ) (t : ℕ) → v t ≡ w t → ((i j : ℕ) → i < m → j < m → f i j t ≡ g i j t) → year_text (over m y v f) t ≡ year_text (over m z w g) t
year_same m y z v w f g t e h = ap (λ x. line_text 68 (t ∷ x ∷ []) ++ moves_text (over m y v f) t) e ∙ ap (λ ms. line_text 68 (t ∷ w t ∷ []) ++ ms) (moves_same m y z v w f g t h)

pub years_same : (m y z : ℕ) (v w : ℕ → ℕ) (f g : ℕ → ℕ → ℕ → ℕ) (n : ℕ) → ((t : ℕ) → t < n → v t ≡ w t) → ((i j t : ℕ) → i < m → j < m → t < n → f i j t ≡ g i j t) → years_text (over m y v f) n ≡ years_text (over m z w g) n
years_same m y z v w f g n e h = join_same (year_text (over m y v f)) (year_text (over m z w g)) 0 n (λ t u. year_same m y z v w f g t (e t (omega arith)) (λ i j a b. h i j t a b (omega arith)))

-- ---- what stands in the columns, without the ranges of a table

abbrev pub plain : ℕ → List ℕ → List ℕ → Transitions
plain m factors shares = over m (length factors) (λ t. get_or factors t 0) (λ i j t. get_or shares (place m i j t) 0)

pub plain_years : (s : Sheet) (n : ℕ) → n ≤ length s.factors → years_text (basis_of s) n ≡ years_text (plain s.states s.factors s.shares) n
plain_years s n few =
    years_same s.states (length s.factors) (length s.factors) (basis_of s).factor (plain s.states s.factors s.shares).factor (basis_of s).share (plain s.states s.factors s.shares).share n
    (λ t h. grind (arith, nat_tests))
    (λ i j t h k l. grind (arith, nat_tests))

-- ---- a move more

pub move_is : (t i j p : ℕ) → 1 ≤ p → move_text t i j p ≡ line_text 84 (t ∷ i ∷ j ∷ p ∷ [])
move_is t i j p h = rw (ne_eqb p 0 (λ e. omega arith))

-- the columns with a share p more, at the place of the move from i to j in year t
abbrev with_share : ℕ → List ℕ → List ℕ → ℕ → ℕ → ℕ → ℕ → Transitions
with_share m factors shares t i j p = plain m factors (padded shares (place m i j t) ++ p ∷ [])

row_more : (m : ℕ) (factors shares : List ℕ) (t i j p : ℕ) → j < m → 1 ≤ p → length shares ≤ place m i j t → row_text (with_share m factors shares t i j p) t i ≡ row_text (plain m factors shares) t i ++ line_text 84 (t ∷ i ∷ j ∷ p ∷ [])
row_more m factors shares t i j p inside some short =
    let q = place m i j t in
    join_last (λ b. move_text t i b (get_or shares (place m i b t) 0)) (λ b. move_text t i b (get_or (padded shares (place m i j t) ++ p ∷ []) (place m i b t) 0)) (line_text 84 (t ∷ i ∷ j ∷ p ∷ [])) j 0 m (omega arith) (omega arith)
    (λ b l. ap (move_text t i b) (sym (more_below shares q p (place m i b t) short (omega arith))))
    (ap (move_text t i j) (more_at shares q p short) ∙ move_is t i j p some ∙ sym (ap (λ bytes. bytes ++ line_text 84 (t ∷ i ∷ j ∷ p ∷ [])) (ap (move_text t i j) (get_or_past shares q 0 short))))
    (λ b l u. ap (move_text t i b) (get_or_past shares (place m i b t) 0 (omega arith)))
    (λ b l u. ap (move_text t i b) (more_past shares q p (place m i b t) short (omega arith)))

moves_more : (m : ℕ) (factors shares : List ℕ) (t i j p : ℕ) → i < m → j < m → 1 ≤ p → length shares ≤ place m i j t → moves_text (with_share m factors shares t i j p) t ≡ moves_text (plain m factors shares) t ++ line_text 84 (t ∷ i ∷ j ∷ p ∷ [])
moves_more m factors shares t i j p within inside some short =
    let q = place m i j t in
    join_last (row_text (plain m factors shares) t) (row_text (with_share m factors shares t i j p) t) (line_text 84 (t ∷ i ∷ j ∷ p ∷ [])) i 0 m (omega arith) (omega arith)
    (λ a l. row_same m (length factors) (length factors) (plain m factors shares).factor (plain m factors shares).factor (plain m factors shares).share (with_share m factors shares t i j p).share t a (λ b k. sym (more_below shares q p (place m a b t) short (place_lt_state m a b t i j l k))))
    (row_more m factors shares t i j p inside some short)
    (λ a l u. join_none (λ b. move_text t a b (get_or shares (place m a b t) 0)) 0 m (λ b _ k. let w = place_lt_state m i j t a b l inside in ap (move_text t a b) (get_or_past shares (place m a b t) 0 (omega arith))))
    (λ a l u. join_none (λ b. move_text t a b (get_or (padded shares (place m i j t) ++ p ∷ []) (place m a b t) 0)) 0 m (λ b _ k. ap (move_text t a b) (more_past shares q p (place m a b t) short (place_lt_state m i j t a b l inside))))

years_more : (m : ℕ) (factors shares : List ℕ) (t i j p n : ℕ) → t + 1 ≡ n → i < m → j < m → 1 ≤ p → length shares ≤ place m i j t → years_text (with_share m factors shares t i j p) n ≡ years_text (plain m factors shares) n ++ line_text 84 (t ∷ i ∷ j ∷ p ∷ [])
years_more m factors shares t i j p n last within inside some short =
    let q = place m i j t in
    let line = line_text 84 (t ∷ i ∷ j ∷ p ∷ []) in
    let year = line_text 68 (t ∷ get_or factors t 0 ∷ []) in
    join_last (year_text (plain m factors shares)) (year_text (with_share m factors shares t i j p)) (line_text 84 (t ∷ i ∷ j ∷ p ∷ [])) t 0 n (omega arith) (omega arith)
    (λ k l. year_same m (length factors) (length factors) (plain m factors shares).factor (plain m factors shares).factor (plain m factors shares).share (with_share m factors shares t i j p).share k refl (λ a b u v. sym (more_below shares q p (place m a b k) short (place_lt_year m a b k i j t l u v))))
    (ap (λ ms. year ++ ms) (moves_more m factors shares t i j p within inside some short) ∙ sym (append_assoc year (moves_text (plain m factors shares) t) line))
    (λ k l u. absurd (omega arith))
    (λ k l u. absurd (omega arith))

-- `T` adds its own line
pub move_adds : (m years : ℕ) (factors shares : List ℕ) (t i j p : ℕ) → t + 1 ≡ length factors → i < m → j < m → 1 ≤ p → length shares ≤ place m i j t → text_so_far (record { states = m; years = years; factors = factors; shares = padded shares (place m i j t) ++ p ∷ [] }) ≡ text_so_far (record { states = m; years = years; factors = factors; shares = shares }) ++ line_text 84 (t ∷ i ∷ j ∷ p ∷ [])
move_adds m years factors shares t i j p last within inside some short =
    let s : Sheet = record { states = m; years = years; factors = factors; shares = shares } in
    let new : Sheet = record { states = m; years = years; factors = factors; shares = padded shares (place m i j t) ++ p ∷ [] } in
    let line = line_text 84 (t ∷ i ∷ j ∷ p ∷ []) in
    let front = line_text 66 (m ∷ years ∷ []) in
    let e : years_text (basis_of new) (length factors) ≡ years_text (basis_of s) (length factors) ++ line = plain_years new (length factors) (omega arith) ∙ years_more m factors shares t i j p (length factors) last within inside some short ∙ ap (λ ys. ys ++ line) (sym (plain_years s (length factors) (omega arith))) in
    ap (λ ys. front ++ ys) e ∙ sym (append_assoc front (years_text (basis_of s) (length factors)) line)

-- ---- a year more

year_new : (m : ℕ) (factors shares : List ℕ) (v : ℕ) → length shares ≤ length factors * m * m → year_text (plain m (factors ++ v ∷ []) shares) (length factors) ≡ line_text 68 (length factors ∷ v ∷ [])
year_new m factors shares v short =
    let t = length factors in
    let front = line_text 68 (t ∷ v ∷ []) in
    let none : moves_text (plain m (factors ++ v ∷ []) shares) t ≡ [] = join_none (row_text (plain m (factors ++ v ∷ []) shares) t) 0 m (λ i _ _. join_none (λ j. move_text t i j (get_or shares (place m i j t) 0)) 0 m (λ j _ _. let w = place_past_year m i j t t (omega arith) in ap (move_text t i j) (get_or_past shares (place m i j t) 0 (omega arith)))) in
    ap (λ x. line_text 68 (t ∷ x ∷ []) ++ moves_text (plain m (factors ++ v ∷ []) shares) t) (get_or_push factors v 0 t refl) ∙ ap (λ ms. front ++ ms) none ∙ append-nil front

-- `D` adds its own line
pub year_adds : (m years : ℕ) (factors shares : List ℕ) (v : ℕ) → length shares ≤ length factors * m * m → text_so_far (record { states = m; years = years; factors = factors ++ v ∷ []; shares = shares }) ≡ text_so_far (record { states = m; years = years; factors = factors; shares = shares }) ++ line_text 68 (length factors ∷ v ∷ [])
year_adds m years factors shares v short =
    let s : Sheet = record { states = m; years = years; factors = factors; shares = shares } in
    let new : Sheet = record { states = m; years = years; factors = factors ++ v ∷ []; shares = shares } in
    let n = length factors in
    let line = line_text 68 (length factors ∷ v ∷ []) in
    let front = line_text 66 (m ∷ years ∷ []) in
    let count : length (factors ++ v ∷ []) ≡ suc n = length_push factors v ∙ add-one n in
    let old : years_text (plain m (factors ++ v ∷ []) shares) n ≡ years_text (basis_of s) n =
    years_same m (length (factors ++ v ∷ [])) n (plain m (factors ++ v ∷ []) shares).factor (plain m factors shares).factor (plain m factors shares).share (plain m factors shares).share n (λ t l. get_or_append_left factors (v ∷ []) 0 t l) (λ i j t _ _ _. refl)
    ∙ sym (plain_years s n (omega arith)) in
    let e : years_text (basis_of new) (length (factors ++ v ∷ [])) ≡ years_text (basis_of s) n ++ line =
    plain_years new (length (factors ++ v ∷ [])) (omega arith)
    ∙ ap (years_text (plain m (factors ++ v ∷ []) shares)) count
    ∙ join_more (year_text (plain m (factors ++ v ∷ []) shares)) 0 n
    ∙ ap (λ k. years_text (plain m (factors ++ v ∷ []) shares) n ++ year_text (plain m (factors ++ v ∷ []) shares) k) (omega arith)
    ∙ ap (λ ys. ys ++ year_text (plain m (factors ++ v ∷ []) shares) n) old
    ∙ ap (λ l. years_text (basis_of s) n ++ l) (year_new m factors shares v short) in
    ap (λ ys. front ++ ys) e ∙ sym (append_assoc front (years_text (basis_of s) n) line)

-- ---- the first and the last line

-- `B` alone
pub basis_adds : (m years : ℕ) → text_so_far (record { states = m; years = years; factors = []; shares = [] }) ≡ line_text 66 (m ∷ years ∷ [])
basis_adds m years = append-nil (line_text 66 (m ∷ years ∷ []))

-- `E` makes the text of the basis whole
pub end_adds : (m years q : ℕ) (factors shares : List ℕ) → length factors ≡ years → text_of (basis_of (record { states = m; years = years; factors = factors; shares = padded shares q })) ≡ text_so_far (record { states = m; years = years; factors = factors; shares = shares }) ++ line_text 69 []
end_adds m years q factors shares full =
    let s : Sheet = record { states = m; years = years; factors = factors; shares = shares } in
    let new : Sheet = record { states = m; years = years; factors = factors; shares = padded shares q } in
    let n = length factors in
    let front = line_text 66 (m ∷ years ∷ []) in
    let last = line_text 69 [] in
    let e : years_text (basis_of new) n ≡ years_text (basis_of s) n =
    plain_years new n (omega arith)
    ∙ years_same m n n (plain m factors shares).factor (plain m factors shares).factor (plain m factors (padded shares q)).share (plain m factors shares).share n (λ t _. refl) (λ i j t _ _ _. get_or_padded shares q (place m i j t))
    ∙ sym (plain_years s n (omega arith)) in
    ap (λ k. line_text 66 (m ∷ k ∷ []) ++ (years_text (basis_of new) n ++ last)) full ∙ ap (λ ys. front ++ (ys ++ last)) e ∙ sym (append_assoc front (years_text (basis_of s) n) last)
