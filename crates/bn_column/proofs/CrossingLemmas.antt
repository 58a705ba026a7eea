-- The crossings of a column in any circuit, by walks down and up its rows.
use Rattle.std.specs.Prelude.{◌≡◌, ◌≢◌, ℕ, ◌+◌, ◌-◌, ◌*◌, ◌<◌, ◌≤◌, Bool, true, false, List, [], ◌∷◌, Some, slice_get}
use Rattle.std.specs.Prelude.{slice_set, refl}
use Rattle.std.proofs.Common.{zero, suc, arith, sym, ap, subst, ◌∙◌, inl, inr}
use Rattle.std.proofs.lemmas.Option.{slice_get_within}
use Rattle.bn_lists.specs.Runs.{Reaches, Passes, Before}
use Rattle.bn_lists.proofs.RunsLemmas.{passes_join}
use Rattle.bn_circuits.specs.Circuits.{Circuit, clock, target, place_after, Goes}
use Rattle.bn_circuits.proofs.StepLemmas.{slice_get-set_same, slice_get-set_other, set-set_back}
use Rattle.bn_circuits.specs.declared.line.Line.{Line}
use Rattle.bn_circuits.specs.declared.place.Place.{Place}
use Rattle.bn_circuits.specs.declared.place.Place.TheVariants.{Enter}
use Rattle.bn_circuits.specs.declared.config.Config.{Config}
use Rattle.bn_element.specs.Rotary.{rotary, horizontal, vertical, north, east, south, west}
use Rattle.bn_circuits.proofs.RotaryNetLemmas.{set_same}
use Rattle.bn_column.specs.Columns.{IsInner, down, up, under, over, top, IsColumn, bar, IsAtRest, entry_side}
use Rattle.bn_column.specs.Columns.{crossing_cost, IsEntering, crossed, IsBeside, IsWithin}
use Rattle.bn_circuits.specs.Circuits.{line_at}

-- a configuration by its parts
abbrev at_place : List ℕ → Place → ℕ → Config
at_place s p n = record { states = s; place = p; steps = n }

set_apart : (s : List ℕ) (e f v w : ℕ) → e ≢ f → slice_set (slice_set s e v) f w ≡ slice_set (slice_set s f w) e v
set_apart [] e f v w h = refl
set_apart (x ∷ s) zero zero v w h = absurd (h refl)
set_apart (x ∷ s) zero (suc f) v w h = refl
set_apart (x ∷ s) (suc e) zero v w h = refl
set_apart (x ∷ s) (suc e) (suc f) v w h = ap (λ t. x ∷ t) (set_apart s e f v w (λ same. h (ap suc same)))

-- the claim holds unless nothing comes after
always : (n : ℕ) (P : Type 0) → P → Before n P
always zero P p = tt
always (suc n) P p = p

module _ (c : Circuit) where
  -- a rotary element makes one of its moves
  turns : (s s' : List ℕ) (p : Place) (e i q r o n : ℕ) → slice_get c.tables e ≡ Some rotary → slice_get s e ≡ Some q
      → rotary.go q i ≡ Some (r, o) → slice_set s e r ≡ s' → place_after c.wires (line_at e o) ≡ p → n + 1 ≤ clock
      → Goes c (at_place s (Enter e i) n) (at_place s' p (n + 1))
  turns s s' p e i q r o n table state moves states place in_time =
      record {
        crosses = record {
          element = e;
          input = i;
          output = o;
          before = q;
          after = r;
          enters = refl;
          has_state = state;
          moves = rw table moves;
          states = sym states;
          place = sym place;
        };
        steps = refl;
        in_time = in_time;
      }

  -- the place at the end of a wire
  led : (from to : Line) → target c.wires from ≡ Some to → place_after c.wires from ≡ Enter to.element to.line
  led from to is = rw is refl

-- two configurations where the signal enters lines of the same numbers
same_entry : (s : List ℕ) (e f l n t : ℕ) → e ≡ f → n ≡ t → at_place s (Enter e l) n ≡ at_place s (Enter f l) t
same_entry s e f l n t h1 h2 = rw (h1, h2) refl

module _ (c : Circuit) (b k : ℕ) (column : IsColumn c b k) (test : Config → Bool) where
  -- a step and then a path
  and_then : (n p : ℕ) (x y z : Config) → p ≡ n + 1 → Goes c x y → test y ≡ true → Passes (Goes c) test n y z
      → Passes (Goes c) test p x z
  and_then n p x y z sum step holds path =
      let e : suc n ≡ p = omega arith in
      subst (λ m. Passes (Goes c) test m x z) e (y, step, always n (test y ≡ true) holds, path)

  inner_led : (from to : Line) → IsInner b k from to → place_after c.wires from ≡ Enter to.element to.line
  inner_led from to inner = led c from to (column.wired from to inner)

  -- walks along rows whose bars are vertical, among states that never change
  module _ (s : List ℕ) (holds : (from to : Line) (n : ℕ) → IsInner b k from to
      → test (at_place s (Enter to.element to.line) n) ≡ true) where
    falls : (d r m n t : ℕ) → m ≡ r + d → t ≡ n + d → m ≤ k → t ≤ clock
        → ((x : ℕ) → r ≤ x → x < m → slice_get s (b + x) ≡ Some vertical)
        → Passes (Goes c) test d (at_place s (Enter (b + r) north) n) (at_place s (Enter (b + m) north) t)
    falls zero r m n t last count within in_time rows = same_entry s (b + r) (b + m) north n t (omega arith)
        (omega arith)
    falls (suc d) r m n t last count within in_time rows =
        let here : slice_get s (b + r) ≡ Some vertical = rows r (omega arith) (omega arith) in
        let inner : IsInner b k (line_at (b + r) south) (line_at (b + (r + 1)) north) =
        down r (omega arith) refl refl in
        and_then d (suc d) (at_place s (Enter (b + r) north) n) (at_place s (Enter (b + (r + 1)) north) (n + 1))
        (at_place s (Enter (b + m) north) t) (omega arith)
        (turns c s s (Enter (b + (r + 1)) north) (b + r) north vertical vertical south n
        (column.rotaries r (omega arith)) here refl (set_same s (b + r) vertical here)
        (inner_led (line_at (b + r) south) (line_at (b + (r + 1)) north) inner) (omega arith))
        (holds (line_at (b + r) south) (line_at (b + (r + 1)) north) (n + 1) inner)
        (falls d (r + 1) m (n + 1) t (omega arith) (omega arith) within in_time
        (λ x low high. rows x (omega arith) high))

    climbs : (d i m n t : ℕ) → m ≡ i + d → t ≡ n + d → m < k → t ≤ clock
        → ((x : ℕ) → i < x → x ≤ m → slice_get s (b + x) ≡ Some vertical)
        → Passes (Goes c) test d (at_place s (Enter (b + m) south) n) (at_place s (Enter (b + i) south) t)
    climbs zero i m n t last count within in_time rows = same_entry s (b + m) (b + i) south n t (omega arith)
        (omega arith)
    climbs (suc d) i m n t last count within in_time rows =
        let here : slice_get s (b + m) ≡ Some vertical = rows m (omega arith) (omega arith) in
        let p : ℕ = i + d in
        let above : b + m ≡ b + (p + 1) = omega arith in
        let inner : IsInner b k (line_at (b + m) north) (line_at (b + p) south) =
        up p (omega arith) (ap (λ x. line_at x north) above) refl in
        and_then d (suc d) (at_place s (Enter (b + m) south) n) (at_place s (Enter (b + p) south) (n + 1))
        (at_place s (Enter (b + i) south) t) (omega arith)
        (turns c s s (Enter (b + p) south) (b + m) south vertical vertical north n (column.rotaries m (omega arith))
        here refl (set_same s (b + m) vertical here) (inner_led (line_at (b + m) north) (line_at (b + p) south)
        inner) (omega arith))
        (holds (line_at (b + m) north) (line_at (b + p) south) (n + 1) inner)
        (climbs d i p (n + 1) t refl (omega arith) (omega arith) in_time (λ x low high. rows x low (omega arith)))

    -- where a row leads up
    to_north : ℕ → Line
    to_north zero = line_at (b + k) east
    to_north (suc i) = line_at (b + i) south

    north_inner : (i : ℕ) → i ≤ k → IsInner b k (line_at (b + i) north) (to_north i)
    unfolding to_north
    north_inner zero within = (let e : b + 0 ≡ b = omega arith in top (ap (λ x. line_at x north) e) refl)
    north_inner (suc i) within = (let e : b + suc i ≡ b + (i + 1) = omega arith in up i (omega arith)
        (ap (λ x. line_at x north) e) refl)

    rises : (i n t : ℕ) → t ≡ n + i → i < k → t ≤ clock → ((x : ℕ) → x < i → slice_get s (b + x) ≡ Some vertical)
        → Passes (Goes c) test i (at_place s (place_after c.wires (line_at (b + i) north)) n)
        (at_place s (Enter (b + k) east) t)
    unfolding to_north
    rises zero n t count within in_time rows =
        let led_up : place_after c.wires (line_at (b + 0) north) ≡ Enter (b + k) east =
        inner_led (line_at (b + 0) north) (to_north 0) (north_inner 0 (omega arith)) in
        let same : n ≡ t = omega arith in
        rw (led_up, same) refl
    rises (suc i) n t count within in_time rows =
        let here : slice_get s (b + i) ≡ Some vertical = rows i (omega arith) in
        let inner = north_inner (suc i) (omega arith) in
        let above = north_inner i (omega arith) in
        let led_up : place_after c.wires (line_at (b + suc i) north) ≡ Enter (b + i) south =
        inner_led (line_at (b + suc i) north) (to_north (suc i)) inner in
        let led_on = inner_led (line_at (b + i) north) (to_north i) above in
        let passes : test (at_place s (place_after c.wires (line_at (b + i) north)) (n + 1)) ≡ true =
        rw led_on (holds (line_at (b + i) north) (to_north i) (n + 1) above) in
        let path = and_then i (suc i) (at_place s (Enter (b + i) south) n)
        (at_place s (place_after c.wires (line_at (b + i) north)) (n + 1)) (at_place s (Enter (b + k) east) t)
        (omega arith)
        (turns c s s (place_after c.wires (line_at (b + i) north)) (b + i) south vertical vertical north n
        (column.rotaries i (omega arith)) here refl (set_same s (b + i) vertical here) refl (omega arith))
        passes
        (rises i (n + 1) t (omega arith) (omega arith) in_time (λ x low. rows x (omega arith))) in
        subst (λ p. Passes (Goes c) test (suc i) (at_place s p n) (at_place s (Enter (b + k) east) t)) (sym led_up) path

  beside_apart : (e x : ℕ) → IsBeside b k e → x ≤ k → e ≢ b + x
  beside_apart e x (inl low) within = omega arith
  beside_apart e x (inr high) within = omega arith

  -- a crossing of row i: first this row's bar is turned, then the bottom's bar is set, and at last the row's bar is
  -- turned back
  module _ (s : List ℕ) (i : ℕ) (marked from_east : Bool) (row : i < k) (rest : IsAtRest s b k marked)
      (holds : (d : Config) → IsWithin b k marked from_east s d → test d ≡ true) where
    abbrev first : List ℕ
    first = slice_set s (b + i) horizontal

    abbrev second : List ℕ
    second = slice_set first (b + k) (bar from_east)

    first_rows : (x : ℕ) → x < k → x ≢ i → slice_get first (b + x) ≡ Some vertical
    first_rows x within other = let apart : b + x ≢ b + i = omega arith in slice_get-set_other s (b + i) (b + x)
        horizontal apart ∙ rest.rows x within

    first_row : slice_get first (b + i) ≡ Some horizontal
    first_row = slice_get-set_same s (b + i) horizontal (slice_get_within s (b + i) vertical (rest.rows i row))

    first_bottom : slice_get first (b + k) ≡ Some (bar marked)
    first_bottom = let apart : b + k ≢ b + i = omega arith in slice_get-set_other s (b + i) (b + k) horizontal apart
        ∙ rest.bottom

    second_rows : (x : ℕ) → x < k → x ≢ i → slice_get second (b + x) ≡ Some vertical
    second_rows x within other = let apart : b + x ≢ b + k = omega arith in slice_get-set_other first (b + k) (b + x)
        (bar from_east) apart ∙ first_rows x within other

    second_row : slice_get second (b + i) ≡ Some horizontal
    second_row = let apart : b + i ≢ b + k = omega arith in slice_get-set_other first (b + k) (b + i) (bar from_east)
        apart ∙ first_row

    second_bottom : slice_get second (b + k) ≡ Some (bar from_east)
    second_bottom = slice_get-set_same first (b + k) (bar from_east)
        (slice_get_within first (b + k) (bar marked) first_bottom)

    last_states : slice_set second (b + i) vertical ≡ slice_set s (b + k) (bar from_east)
    last_states =
        let apart : b + i ≢ b + k = omega arith in
        let below = slice_set s (b + k) (bar from_east) in
        let turned : second ≡ slice_set below (b + i) horizontal =
        set_apart s (b + i) (b + k) horizontal (bar from_east) apart in
        let kept : slice_get below (b + i) ≡ Some vertical = slice_get-set_other s (b + k) (b + i) (bar from_east) apart
        ∙ rest.rows i row in
        ap (λ t. slice_set t (b + i) vertical) turned ∙ set-set_back below (b + i) horizontal vertical kept

    first_beside : (e : ℕ) → IsBeside b k e → slice_get first e ≡ slice_get s e
    first_beside e beside = let apart = beside_apart e i beside (omega arith) in slice_get-set_other s (b + i) e
        horizontal apart

    first_holds : (from to : Line) (n : ℕ) → IsInner b k from to
        → test (at_place first (Enter to.element to.line) n) ≡ true
    first_holds from to n inner =
        holds (at_place first (Enter to.element to.line) n) (record
        { from = from; to = to; inner = inner; enters = refl; beside = first_beside; bottom = inl first_bottom })

    second_holds : (from to : Line) (n : ℕ) → IsInner b k from to
        → test (at_place second (Enter to.element to.line) n) ≡ true
    second_holds from to n inner =
        holds (at_place second (Enter to.element to.line) n) (record {
          from = from;
          to = to;
          inner = inner;
          enters = refl;
          beside = λ e beside. slice_get-set_other first (b + k) e (bar from_east)
              (beside_apart e k beside (omega arith)) ∙ first_beside e beside;
          bottom = inr second_bottom;
        })

    -- from the west down to the bottom
    goes_down : (d n t : ℕ) → k ≡ i + 1 + d → t ≡ n + d + 1 → t ≤ clock
        → Passes (Goes c) test (d + 1) (at_place s (Enter (b + i) west) n) (at_place first (Enter (b + k) north) t)
    goes_down d n t rows count in_time =
        let inner : IsInner b k (line_at (b + i) south) (line_at (b + (i + 1)) north) = down i row refl refl in
        and_then d (d + 1) (at_place s (Enter (b + i) west) n) (at_place first (Enter (b + (i + 1)) north) (n + 1))
        (at_place first (Enter (b + k) north) t) refl
        (turns c s first (Enter (b + (i + 1)) north) (b + i) west vertical horizontal south n
        (column.rotaries i (omega arith)) (rest.rows i row) refl refl
        (inner_led (line_at (b + i) south) (line_at (b + (i + 1)) north) inner) (omega arith))
        (first_holds (line_at (b + i) south) (line_at (b + (i + 1)) north) (n + 1) inner)
        (falls first first_holds d (i + 1) k (n + 1) t rows (omega arith) (omega arith) in_time
        (λ x low high. first_rows x high (omega arith)))

    -- from the east up to the top, and on to the bottom
    goes_up : (n t : ℕ) → t ≡ n + i + 1 → t ≤ clock → Passes (Goes c) test (i + 1) (at_place s (Enter (b + i) east) n)
        (at_place first (Enter (b + k) east) t)
    goes_up n t count in_time =
        let above = north_inner first first_holds i (omega arith) in
        let passes : test (at_place first (place_after c.wires (line_at (b + i) north)) (n + 1)) ≡ true =
        rw (inner_led (line_at (b + i) north) (to_north first first_holds i) above)
        (first_holds (line_at (b + i) north) (to_north first first_holds i) (n + 1) above) in
        and_then i (i + 1) (at_place s (Enter (b + i) east) n) (at_place first
        (place_after c.wires (line_at (b + i) north)) (n + 1)) (at_place first (Enter (b + k) east) t) refl
        (turns c s first (place_after c.wires (line_at (b + i) north)) (b + i) east vertical horizontal north n
        (column.rotaries i (omega arith)) (rest.rows i row) refl refl refl (omega arith))
        passes
        (rises first first_holds i (n + 1) t (omega arith) row in_time
        (λ x low. first_rows x (omega arith) (omega arith)))

    -- from the bottom up to the row, and out by the east
    comes_up : (d m n t : ℕ) → k ≡ m + 1 → m ≡ i + d → t ≡ n + d + 1 → t ≤ clock
        → Passes (Goes c) test (d + 1) (at_place second (Enter (b + m) south) n)
        (at_place (slice_set s (b + k) (bar from_east)) (place_after c.wires (line_at (b + i) east)) t)
    comes_up d m n t rows walk count in_time =
        let inner : IsInner b k (line_at (b + (i + 1)) north) (line_at (b + i) south) = up i row refl refl in
        passes_join (Goes c) test (d + 1) d 1 (at_place second (Enter (b + m) south) n)
        (at_place second (Enter (b + i) south) (n + d)) (at_place (slice_set s (b + k) (bar from_east))
        (place_after c.wires (line_at (b + i) east)) t) refl
        (λ _ _. second_holds (line_at (b + (i + 1)) north) (line_at (b + i) south) (n + d) inner)
        (climbs second second_holds d i m n (n + d) walk refl (omega arith) (omega arith)
        (λ x low high. second_rows x (omega arith) (omega arith)))
        (let last = turns c second (slice_set s (b + k) (bar from_east)) (place_after c.wires (line_at (b + i) east))
        (b + i) south horizontal vertical east (n + d) (column.rotaries i (omega arith)) second_row refl last_states
        refl (omega arith) in
        let same : (n + d) + 1 ≡ t = omega arith in (
          at_place (slice_set s (b + k) (bar from_east)) (place_after c.wires (line_at (b + i) east)) t,
          subst
              (λ x. Goes c (at_place second (Enter (b + i) south) (n + d))
              (at_place (slice_set s (b + k) (bar from_east)) (place_after c.wires (line_at (b + i) east)) x)) same
              last,
          tt,
          refl,
        ))

    -- from the top down to the row, and out by the west
    comes_down : (n t : ℕ) → t ≡ n + i + 1 → t ≤ clock → Passes (Goes c) test (i + 1)
        (at_place second (Enter b north) n) (at_place (slice_set s (b + k) (bar from_east))
        (place_after c.wires (line_at (b + i) west)) t)
    comes_down n t count in_time =
        let top_row : b + 0 ≡ b = omega arith in
        let start : at_place second (Enter (b + 0) north) n ≡ at_place second (Enter b north) n =
        same_entry second (b + 0) b north n n top_row refl in
        let walk = falls second second_holds i 0 i n (n + i) (omega arith) refl (omega arith) (omega arith)
        (λ x low high. second_rows x (omega arith) (omega arith)) in
        let last = turns c second (slice_set s (b + k) (bar from_east)) (place_after c.wires (line_at (b + i) west))
        (b + i) north horizontal vertical west (n + i) (column.rotaries i (omega arith)) second_row refl last_states
        refl (omega arith) in
        let same : (n + i) + 1 ≡ t = omega arith in
        passes_join (Goes c) test (i + 1) i 1 (at_place second (Enter b north) n)
        (at_place second (Enter (b + i) north) (n + i)) (at_place (slice_set s (b + k) (bar from_east))
        (place_after c.wires (line_at (b + i) west)) t) refl
        (λ some _. at_row some)
        (subst (λ x. Passes (Goes c) test i x (at_place second (Enter (b + i) north) (n + i))) start walk) (
          at_place (slice_set s (b + k) (bar from_east)) (place_after c.wires (line_at (b + i) west)) t,
          subst
              (λ x. Goes c (at_place second (Enter (b + i) north) (n + i))
              (at_place (slice_set s (b + k) (bar from_east)) (place_after c.wires (line_at (b + i) west)) x)) same
              last,
          tt,
          refl,
        )
      where
        at_row : 0 < i → test (at_place second (Enter (b + i) north) (n + i)) ≡ true
        at_row some =
            let under_it : b + i ≡ b + ((i - 1) + 1) = omega arith in
            second_holds (line_at (b + (i - 1)) south) (line_at (b + i) north) (n + i)
            (down (i - 1) (omega arith) refl (ap (λ x. line_at x north) under_it))

    -- from the west through the bottom, whatever comes then
    after_west : (d r n cost : ℕ) (z : Config) → k ≡ i + 1 + d → cost ≡ (d + 1) + r → n + d + 1 ≤ clock
        → Passes (Goes c) test r (at_place first (Enter (b + k) north) (n + d + 1)) z
        → Passes (Goes c) test cost (at_place s (Enter (b + i) west) n) z
    after_west d r n cost z rows sum in_time path =
        let above : b + k ≡ b + ((k - 1) + 1) = omega arith in
        passes_join (Goes c) test cost (d + 1) r (at_place s (Enter (b + i) west) n)
        (at_place first (Enter (b + k) north) (n + d + 1)) z sum
        (λ _ _. first_holds (line_at (b + (k - 1)) south) (line_at (b + k) north) (n + d + 1)
        (down (k - 1) (omega arith) refl (ap (λ x. line_at x north) above)))
        (goes_down d n (n + d + 1) rows refl in_time)
        path

    after_east : (r n cost : ℕ) (z : Config) → cost ≡ (i + 1) + r → n + i + 1 ≤ clock
        → Passes (Goes c) test r (at_place first (Enter (b + k) east) (n + i + 1)) z
        → Passes (Goes c) test cost (at_place s (Enter (b + i) east) n) z
    after_east r n cost z sum in_time path =
        passes_join (Goes c) test cost (i + 1) r (at_place s (Enter (b + i) east) n)
        (at_place first (Enter (b + k) east) (n + i + 1)) z sum
        (λ _ _. first_holds (line_at b north) (line_at (b + k) east) (n + i + 1) (top refl refl))
        (goes_up n (n + i + 1) refl in_time)
        path

    -- the bottom sends the signal up again, or over to the top, and its bar is then as it is to be
    ends_up : (x d n t : ℕ) → rotary.go (bar marked) x ≡ Some (bar from_east, north) → k ≡ i + 1 + d → t ≡ n + d + 2
        → t ≤ clock → Passes (Goes c) test (d + 2) (at_place first (Enter (b + k) x) n)
        (at_place (slice_set s (b + k) (bar from_east)) (place_after c.wires (line_at (b + i) east)) t)
    ends_up x d n t moves rows count in_time =
        let above : b + k ≡ b + ((k - 1) + 1) = omega arith in
        let inner : IsInner b k (line_at (b + k) north) (line_at (b + (k - 1)) south) =
        up (k - 1) (omega arith) (ap (λ x. line_at x north) above) refl in
        and_then (d + 1) (d + 2) (at_place first (Enter (b + k) x) n)
        (at_place second (Enter (b + (k - 1)) south) (n + 1)) (at_place (slice_set s (b + k) (bar from_east))
        (place_after c.wires (line_at (b + i) east)) t) (omega arith)
        (turns c first second (Enter (b + (k - 1)) south) (b + k) x (bar marked) (bar from_east) north n
        (column.rotaries k (omega arith)) first_bottom moves refl
        (inner_led (line_at (b + k) north) (line_at (b + (k - 1)) south) inner) (omega arith))
        (second_holds (line_at (b + k) north) (line_at (b + (k - 1)) south) (n + 1) inner)
        (comes_up d (k - 1) (n + 1) t (omega arith) (omega arith) (omega arith) in_time)

    ends_over : (x n t : ℕ) → rotary.go (bar marked) x ≡ Some (bar from_east, west) → t ≡ n + i + 2 → t ≤ clock
        → Passes (Goes c) test (i + 2) (at_place first (Enter (b + k) x) n)
        (at_place (slice_set s (b + k) (bar from_east)) (place_after c.wires (line_at (b + i) west)) t)
    ends_over x n t moves count in_time =
        let inner : IsInner b k (line_at (b + k) west) (line_at b north) = over refl refl in
        and_then (i + 1) (i + 2) (at_place first (Enter (b + k) x) n) (at_place second (Enter b north) (n + 1))
        (at_place (slice_set s (b + k) (bar from_east)) (place_after c.wires (line_at (b + i) west)) t)
        (omega arith)
        (turns c first second (Enter b north) (b + k) x (bar marked) (bar from_east) west n
        (column.rotaries k (omega arith)) first_bottom moves refl
        (inner_led (line_at (b + k) west) (line_at b north) inner) (omega arith))
        (second_holds (line_at (b + k) west) (line_at b north) (n + 1) inner)
        (comes_down (n + 1) t (omega arith) in_time)

    ends_under : (d n t : ℕ) → rotary.go (bar marked) north ≡ Some (bar from_east, south)
        → rotary.go (bar from_east) south ≡ Some (bar from_east, north) → k ≡ i + 1 + d → t ≡ n + d + 3 → t ≤ clock
        → Passes (Goes c) test (d + 3) (at_place first (Enter (b + k) north) n)
        (at_place (slice_set s (b + k) (bar from_east)) (place_after c.wires (line_at (b + i) east)) t)
    ends_under d n t moves moves_on rows count in_time =
        let above : b + k ≡ b + ((k - 1) + 1) = omega arith in
        let inner : IsInner b k (line_at (b + k) south) (line_at (b + k) south) = under refl refl in
        let upward : IsInner b k (line_at (b + k) north) (line_at (b + (k - 1)) south) =
        up (k - 1) (omega arith) (ap (λ x. line_at x north) above) refl in
        let z = at_place (slice_set s (b + k) (bar from_east)) (place_after c.wires (line_at (b + i) east)) t in
        let rest_of = and_then (d + 1) (d + 2) (at_place second (Enter (b + k) south) (n + 1))
        (at_place second (Enter (b + (k - 1)) south) (n + 1 + 1)) z (omega arith)
        (turns c second second (Enter (b + (k - 1)) south) (b + k) south (bar from_east) (bar from_east) north (n + 1)
        (column.rotaries k (omega arith)) second_bottom moves_on
        (set_same second (b + k) (bar from_east) second_bottom)
        (inner_led (line_at (b + k) north) (line_at (b + (k - 1)) south) upward) (omega arith))
        (second_holds (line_at (b + k) north) (line_at (b + (k - 1)) south) (n + 1 + 1) upward)
        (comes_up d (k - 1) (n + 1 + 1) t (omega arith) (omega arith) (omega arith) in_time) in
        and_then (d + 2) (d + 3) (at_place first (Enter (b + k) north) n)
        (at_place second (Enter (b + k) south) (n + 1)) z (omega arith)
        (turns c first second (Enter (b + k) south) (b + k) north (bar marked) (bar from_east) south n
        (column.rotaries k (omega arith)) first_bottom moves refl
        (inner_led (line_at (b + k) south) (line_at (b + k) south) inner) (omega arith))
        (second_holds (line_at (b + k) south) (line_at (b + k) south) (n + 1) inner)
        rest_of

-- A signal that enters row i of a column at rest leaves it after the cost of the crossing, and strictly between every
-- test holds that holds within the crossing.
pub column_crosses : (c : Circuit) (b k i : ℕ) (marked from_east : Bool) (x : Config) (test : Config → Bool)
    → IsColumn c b k → IsEntering b k i marked from_east x → x.steps + crossing_cost k (i + 1) marked from_east ≤ clock
    → ((d : Config) → IsWithin b k marked from_east x.states d → test d ≡ true)
    → Passes (Goes c) test (crossing_cost k (i + 1) marked from_east) x (crossed c b k i marked from_east x)
column_crosses c b k i marked from_east x test column entering in_time holds =
    subst (λ p. Passes (Goes c) test (crossing_cost k (i + 1) marked from_east) (at_place x.states p x.steps)
    (crossed c b k i marked from_east x)) (sym entering.enters)
    (by_kind marked from_east entering.at_rest in_time holds)
  where
    by_kind : (marked from_east : Bool) → IsAtRest x.states b k marked
        → x.steps + crossing_cost k (i + 1) marked from_east ≤ clock
        → ((d : Config) → IsWithin b k marked from_east x.states d → test d ≡ true)
        → Passes (Goes c) test (crossing_cost k (i + 1) marked from_east)
        (at_place x.states (Enter (b + i) (entry_side from_east)) x.steps) (crossed c b k i marked from_east x)
    by_kind false false rest in_time holds =
        let d : ℕ = k - (i + 1) in
        let row : i < k = entering.row in
        after_west c b k column test x.states i false false row rest holds d (d + 3) x.steps (2 * d + 4)
        (crossed c b k i false false x) (omega arith) (omega arith) (omega arith)
        (ends_under c b k column test x.states i false false row rest holds d (x.steps + d + 1) (x.steps + (2 * d + 4))
        refl refl (omega arith) (omega arith) in_time)
    by_kind true false rest in_time holds =
        let d : ℕ = k - (i + 1) in
        let row : i < k = entering.row in
        after_west c b k column test x.states i true false row rest holds d (i + 2) x.steps (k + 2)
        (crossed c b k i true false x) (omega arith) (omega arith) (omega arith)
        (ends_over c b k column test x.states i true false row rest holds north (x.steps + d + 1) (x.steps + (k + 2))
        refl (omega arith) in_time)
    by_kind false true rest in_time holds =
        let d : ℕ = k - (i + 1) in
        let row : i < k = entering.row in
        after_east c b k column test x.states i false true row rest holds (d + 2) x.steps (k + 2)
        (crossed c b k i false true x) (omega arith) (omega arith)
        (ends_up c b k column test x.states i false true row rest holds east d (x.steps + i + 1) (x.steps + (k + 2))
        refl (omega arith) (omega arith) in_time)
    by_kind true true rest in_time holds =
        let row : i < k = entering.row in
        after_east c b k column test x.states i true true row rest holds (i + 2) x.steps (2 * (i + 1) + 1)
        (crossed c b k i true true x) (omega arith) (omega arith)
        (ends_over c b k column test x.states i true true row rest holds east (x.steps + i + 1)
        (x.steps + (2 * (i + 1) + 1)) refl (omega arith) in_time)

-- the column is at rest again
pub crossed-IsAtRest : (c : Circuit) (b k i : ℕ) (marked from_east : Bool) (x : Config)
    → IsEntering b k i marked from_east x → IsAtRest (crossed c b k i marked from_east x).states b k from_east
crossed-IsAtRest c b k i marked from_east x entering =
    record {
      rows = λ r within. let apart : b + r ≢ b + k = omega arith in slice_get-set_other x.states (b + k) (b + r)
          (bar from_east) apart ∙ entering.at_rest.rows r within;
      bottom = slice_get-set_same x.states (b + k) (bar from_east)
          (slice_get_within x.states (b + k) (bar marked) entering.at_rest.bottom);
    }

pub crossed-beside : (c : Circuit) (b k i : ℕ) (marked from_east : Bool) (x : Config) (e : ℕ) → IsBeside b k e
    → slice_get (crossed c b k i marked from_east x).states e ≡ slice_get x.states e
crossed-beside c b k i marked from_east x e (inl low) = (let apart : e
    ≢ b + k = omega arith in slice_get-set_other x.states (b + k) e (bar from_east) apart)
crossed-beside c b k i marked from_east x e (inr high) = (let apart : e
    ≢ b + k = omega arith in slice_get-set_other x.states (b + k) e (bar from_east) apart)

-- each step counts one
pub Reaches-steps : (c : Circuit) (n : ℕ) (x y : Config) → Reaches (Goes c) n x y → y.steps ≡ x.steps + n
Reaches-steps c zero x y made = (let same : x.steps ≡ y.steps = ap (λ (v : Config). v.steps) made in omega arith)
Reaches-steps c (suc n) x y made = (let first = made.1.steps in let rest = Reaches-steps c n made.0 y made.2 in omega
    arith)
