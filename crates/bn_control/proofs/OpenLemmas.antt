-- The states that no quadruple leaves, and all states of a control.
use Rattle.std.proofs.Common.{◌≡◌, ◌⊎◌, inl, inr, slice_get, ℕ, zero, suc, ◌+◌, List, [], ◌∷◌, ◌++◌, length, map}
use Rattle.std.proofs.Common.{Option, Some, None, refl, sym, ap, subst, ◌∙◌, arith, append_assoc, append-nil}
use Rattle.std.proofs.lemmas.Bool.Decides.{eqb_tells}
use Rattle.std.proofs.lemmas.Option.{slice_get-map, slice_get_within}
use Rattle.bn_lists.specs.Lists.{nth, Has}
use Rattle.bn_machine.specs.declared.quint.Shift.TheVariants as way
use Rattle.bn_machine.specs.declared.quint.Side.{Side}
use Rattle.bn_machine.specs.declared.quint.Side.TheVariants as side
use Rattle.bn_quad.specs.Quadruples.{Deed, Rewrite, Move, Rule, Quadruples, final_state_of}
use Rattle.bn_quad.specs.Kept.{quad_of, act_of}
use Rattle.bn_quad.specs.declared.quad.Quad.{Quad}
use Rattle.bn_network.specs.Controls.{ControlState, Begin, End, Reads, Shifts, Writes, Occurs, is_begin, is_end}
use Rattle.bn_network.specs.Controls.{is_open, is_read, is_shift, is_write, IsNotLeft, IsNumbering, shifts, reads_of}
use Rattle.bn_network.specs.Controls.{shifts_of, writes_of, symbols_read}
use Rattle.bn_lists.proofs.MemberLemmas.{behind}
use Rattle.bn_lists.proofs.ApartLemmas.{split_at}
use Rattle.bn_control.specs.Shown.{IsCount, IsShiftState, ShowsRead, ShowsShift, ShowsWrite, Shows, IsShownBefore}
use Rattle.bn_control.specs.Shown.{IsOpenBelow, IsLeftBy}
use Rattle.bn_control.proofs.ShownLemmas.{only_read, read_from, not_zero}
use Rattle.bn_control.proofs.CountLemmas.{one_count, same_count, both_count, numbering_count}

-- ---- quadruples as they are kept

module _ (m : Quadruples) (quads : List Quad) (kept : quads ≡ map quad_of m.rules) where
  quad_at : (i : ℕ) (r : Rule ℕ) → nth m.rules (suc i) ≡ Some r → slice_get quads i ≡ Some (quad_of r)
  quad_at i r e = ap (λ l. slice_get l i) kept ∙ slice_get-map quad_of m.rules i
      ∙ ap (λ (o : Option (Rule ℕ)). elim o [ None ↦ None | Some s ↦ Some (quad_of s) ]) e

  rule_at : (i : ℕ) (q : Quad) → slice_get quads i ≡ Some q → (r : Rule ℕ) × (nth m.rules (suc i) ≡ Some r)
      × (q ≡ quad_of r)
  rule_at i q e = by (nth m.rules (suc i)) refl
    where
      by : (o : Option (Rule ℕ)) → nth m.rules (suc i) ≡ o → (r : Rule ℕ) × (nth m.rules (suc i) ≡ Some r)
          × (q ≡ quad_of r)
      by None f = absurd (let none : slice_get quads i ≡ None = ap (λ l. slice_get l i) kept
          ∙ slice_get-map quad_of m.rules i ∙ ap (λ (o : Option (Rule ℕ)). elim o
          [ None ↦ None | Some s ↦ Some (quad_of s) ]) f in let both = sym e ∙ none in cc)
      by (Some r) f = (r, f, (let both = sym e ∙ quad_at i r f in cc))

  -- ---- states that no quadruple leaves

  pub not_left : (a : ℕ) → (IsLeftBy quads a → ⊥) → IsNotLeft m a
  not_left a none = record { none = by }
    where
      by : (n : ℕ) (r : Rule ℕ) → nth m.rules n ≡ Some r → r.from ≡ a → ⊥
      by zero r e f = absurd (cc)
      by (suc i) r e f = none (record { index = i; quad = quad_of r; stands = quad_at i r e; from = f })

  pub left : (a : ℕ) → IsLeftBy quads a → IsNotLeft m a → ⊥
  left a h none = let found = rule_at h.index h.quad h.stands in none.none (suc h.index) found.0 found.1
      (ap (λ (q : Quad). q.state) (sym found.2) ∙ h.from)

pub open_more : (m : Quadruples) (k n : ℕ) → (k ≡ final_state_of m.rules → ⊥) → IsNotLeft m k
    → IsCount (IsOpenBelow m k) n → IsCount (IsOpenBelow m (suc k)) (n + 1)
open_more m k n going none count =
    same_count (λ q. IsOpenBelow m k q ⊎ (q ≡ Reads k [])) (IsOpenBelow m (suc k)) (n + 1) forth back
    (both_count (IsOpenBelow m k) (λ q. q ≡ Reads k []) n 1 far count
    (one_count (λ q. q ≡ Reads k []) (Reads k []) refl (λ q h. h)))
  where
    far : (q : ControlState) → IsOpenBelow m k q → q ≡ Reads k [] → ⊥
    far q h e = let low = h.low in let both = sym h.awaits ∙ e in let same : h.state ≡ k = cc in omega arith

    forth : (q : ControlState) → IsOpenBelow m k q ⊎ (q ≡ Reads k []) → IsOpenBelow m (suc k) q
    forth q (inl h) = let low = h.low in record {
      state = h.state;
      low = omega arith;
      going = h.going;
      none = h.none;
      awaits = h.awaits;
    }
    forth q (inr e) = record { state = k; low = omega arith; going = going; none = none; awaits = e }

    back : (q : ControlState) → IsOpenBelow m (suc k) q → IsOpenBelow m k q ⊎ (q ≡ Reads k [])
    back q h = elim (eqb_tells h.state k) [
      | inl same ↦ inr (h.awaits ∙ ap (λ a. Reads a []) same.1)
      | inr other ↦ (let low = h.low in let ne = other.1 in inl
          (record { state = h.state; low = omega arith; going = h.going; none = h.none; awaits = h.awaits }))
    ]

pub open_same : (m : Quadruples) (k n : ℕ) → (k ≡ final_state_of m.rules) ⊎ (IsNotLeft m k → ⊥)
    → IsCount (IsOpenBelow m k) n → IsCount (IsOpenBelow m (suc k)) n
open_same m k n closed count =
    same_count (IsOpenBelow m k) (IsOpenBelow m (suc k)) n
    (λ q h. let low = h.low in record {
      state = h.state;
      low = omega arith;
      going = h.going;
      none = h.none;
      awaits = h.awaits;
    })
    back count
  where
    by : (q : ControlState) (h : IsOpenBelow m (suc k) q) → h.state ≡ k
        → (k ≡ final_state_of m.rules) ⊎ (IsNotLeft m k → ⊥) → ⊥
    by q h e (inl last) = h.going (e ∙ last)
    by q h e (inr is_left) = is_left (subst (IsNotLeft m) e h.none)

    back : (q : ControlState) → IsOpenBelow m (suc k) q → IsOpenBelow m k q
    back q h = elim (eqb_tells h.state k) [
      | inl same ↦ absurd (by q h same.1 closed)
      | inr other ↦ (let low = h.low in let ne = other.1 in record
          { state = h.state; low = omega arith; going = h.going; none = h.none; awaits = h.awaits })
    ]

-- ---- what a quadruple shows is what its commands show

-- something holds of the symbols before each element
abbrev Prefixes : (List ℕ → Type 0) → List (ℕ × ℕ) → List (ℕ × ℕ) → Type 0
Prefixes P done [] = Unit {0}
Prefixes P done (x ∷ l) = P (symbols_read done) × Prefixes P (done ++ (x ∷ [])) l

at_prefix : (P : List ℕ → Type 0) (done l : List (ℕ × ℕ)) → Prefixes P done l → (before rest : List (ℕ × ℕ)) (p : ℕ × ℕ)
    → l ≡ before ++ (p ∷ rest) → P (symbols_read (done ++ before))
at_prefix P done [] all [] rest p e = absurd (cc)
at_prefix P done [] all (b ∷ before) rest p e = absurd (cc)
at_prefix P done (x ∷ l) all [] rest p e = subst (λ k. P (symbols_read k)) (sym (append-nil done)) all.0
at_prefix P done (x ∷ l) all (b ∷ before) rest p e =
    let same : x ≡ b = cc in
    let more = at_prefix P (done ++ (x ∷ [])) l all.1 before rest p (cc) in
    subst (λ k. P (symbols_read k)) (append_assoc done (x ∷ []) before ∙ ap (λ y. done ++ (y ∷ before)) same) more

-- something holds of each element and those behind it
abbrev Splits : ((ℕ × ℕ) → List (ℕ × ℕ) → Type 0) → List (ℕ × ℕ) → Type 0
Splits P [] = Unit {0}
Splits P (x ∷ l) = P x l × Splits P l

at_split : (P : (ℕ × ℕ) → List (ℕ × ℕ) → Type 0) (l : List (ℕ × ℕ)) → Splits P l
    → (before rest : List (ℕ × ℕ)) (p : ℕ × ℕ) → l ≡ before ++ (p ∷ rest) → P p rest
at_split P [] all [] rest p e = absurd (cc)
at_split P [] all (b ∷ before) rest p e = absurd (cc)
at_split P (x ∷ l) all [] rest p e = let one : x ≡ p = cc in let two : l ≡ rest =
    cc in subst (λ k. P p k) two (subst (λ y. P y l) one all.0)
at_split P (x ∷ l) all (b ∷ before) rest p e = at_split P l all.1 before rest p (cc)

abbrev rule : ℕ → Deed → Deed → Deed → ℕ → Rule ℕ
rule a one two three to = record { from = a; one = one; two = two; three = three; to = to }

reads_show : (a : ℕ) (one two three : Deed) (to : ℕ) → Prefixes
    (λ b. ShowsRead (quad_of (rule a one two three to)) (Reads a b)) [] (reads_of (rule a one two three to))
reads_show a (Rewrite r w) (Rewrite s v) (Rewrite t u) to = (inl refl, (inr (inl refl), (inr (inr refl), tt)))
reads_show a (Rewrite r w) (Rewrite s v) (Move m) to = (inl refl, (inr (inl refl), tt))
reads_show a (Rewrite r w) (Move k) (Rewrite t u) to = (inl refl, (inr (inr refl), tt))
reads_show a (Rewrite r w) (Move k) (Move m) to = (inl refl, tt)
reads_show a (Move h) (Rewrite s v) (Rewrite t u) to = (inr (inl refl), (inr (inr refl), tt))
reads_show a (Move h) (Rewrite s v) (Move m) to = (inr (inl refl), tt)
reads_show a (Move h) (Move k) (Rewrite t u) to = (inr (inr refl), tt)
reads_show a (Move h) (Move k) (Move m) to = tt

writes_show : (a : ℕ) (one two three : Deed) (to : ℕ) → Splits
    (λ p l. ShowsWrite (quad_of (rule a one two three to)) (Writes to p.0 (symbols_read l)))
    (writes_of (rule a one two three to))
writes_show a (Rewrite r w) (Rewrite s v) (Rewrite t u) to = (inr (inr refl), (inr (inl refl), (inl refl, tt)))
writes_show a (Rewrite r w) (Rewrite s v) (Move m) to = (inr (inl refl), (inl refl, tt))
writes_show a (Rewrite r w) (Move k) (Rewrite t u) to = (inr (inr refl), (inl refl, tt))
writes_show a (Rewrite r w) (Move k) (Move m) to = (inl refl, tt)
writes_show a (Move h) (Rewrite s v) (Rewrite t u) to = (inr (inr refl), (inr (inl refl), tt))
writes_show a (Move h) (Rewrite s v) (Move m) to = (inr (inl refl), tt)
writes_show a (Move h) (Move k) (Rewrite t u) to = (inr (inr refl), tt)
writes_show a (Move h) (Move k) (Move m) to = tt

shift_here : (n t : ℕ) (d : Deed) (ds : List Deed) (s : ℕ × Side) → Has (shifts t (d ∷ ds)) s
    → IsShiftState n t (act_of d) (Shifts n s.0) ⊎ Has (shifts (suc t) ds) s
shift_here n t (Rewrite r w) ds s h = inr h
shift_here n t (Move way.Left) ds s (inl e) = inl (ap (λ (v : ℕ × Side). Shifts n v.0) e)
shift_here n t (Move way.Left) ds s (inr h) = inr h
shift_here n t (Move way.Stay) ds s h = inr h
shift_here n t (Move way.Right) ds s (inl e) = inl (ap (λ (v : ℕ × Side). Shifts n v.0) e)
shift_here n t (Move way.Right) ds s (inr h) = inr h

shifts_show : (n : ℕ) (r : Rule ℕ) (s : ℕ × Side) → Has (shifts_of r) s → ShowsShift n (quad_of r) (Shifts n s.0)
shifts_show n r s h = elim (shift_here n 1 r.one (r.two ∷ r.three ∷ []) s h) [
  | inl a ↦ inl a
  | inr g ↦ elim (shift_here n 2 r.two (r.three ∷ []) s g) [
    | inl b ↦ inr (inl b)
    | inr f ↦ elim (shift_here n 3 r.three [] s f) [ inl c ↦ inr (inr c) | inr e ↦ absurd e ]
  ]
]

-- and back
from_shift : (n t : ℕ) (d : Deed) (ds : List Deed) (q : ControlState) → IsShiftState n t (act_of d) q
    → (s : ℕ × Side) × Has (shifts t (d ∷ ds)) s × (q ≡ Shifts n s.0)
from_shift n t (Rewrite r w) ds q h = absurd h
from_shift n t (Move way.Left) ds q h = ((t, side.Left), inl refl, h)
from_shift n t (Move way.Stay) ds q h = absurd h
from_shift n t (Move way.Right) ds q h = ((t, side.Right), inl refl, h)

later_shift : (t : ℕ) (d : Deed) (ds : List Deed) (s : ℕ × Side) → Has (shifts (suc t) ds) s → Has (shifts t (d ∷ ds)) s
later_shift t (Rewrite r w) ds s h = h
later_shift t (Move way.Left) ds s h = inr h
later_shift t (Move way.Stay) ds s h = h
later_shift t (Move way.Right) ds s h = inr h

shifted : (n : ℕ) (r : Rule ℕ) (q : ControlState) → ShowsShift n (quad_of r) q
    → (s : ℕ × Side) × Has (shifts_of r) s × (q ≡ Shifts n s.0)
shifted n r q (inl h) = from_shift n 1 r.one (r.two ∷ r.three ∷ []) q h
shifted n r q (inr (inl h)) = let f = from_shift n 2 r.two (r.three ∷ []) q h in
    (f.0, later_shift 1 r.one (r.two ∷ r.three ∷ []) f.0 f.1, f.2)
shifted n r q (inr (inr h)) = let f = from_shift n 3 r.three [] q h in
    (f.0, later_shift 1 r.one (r.two ∷ r.three ∷ []) f.0 (later_shift 2 r.two (r.three ∷ []) f.0 f.1), f.2)

-- a list split at an element, so that this holds
abbrev Split : (List (ℕ × ℕ) → (ℕ × ℕ) → List (ℕ × ℕ) → Type 0) → List (ℕ × ℕ) → Type 0
Split P l = (before : List (ℕ × ℕ)) × (p : ℕ × ℕ) × (rest : List (ℕ × ℕ)) × (l ≡ before ++ (p ∷ rest)) × P before p rest

read_back : (a : ℕ) (one two three : Deed) (to : ℕ) (q : ControlState) → ShowsRead (quad_of (rule a one two three to)) q
    → Split (λ before p rest. q ≡ Reads a (symbols_read before)) (reads_of (rule a one two three to))
read_back a (Rewrite r w) two three to q (inl e) = ([], (1, r), _, refl, e)
read_back a (Move h) two three to q (inl e) = absurd e
read_back a (Rewrite r w) (Rewrite s v) three to q (inr (inl e)) = ((1, r) ∷ [], (2, s), _, refl, e)
read_back a (Move h) (Rewrite s v) three to q (inr (inl e)) = ([], (2, s), _, refl, e)
read_back a one (Move k) three to q (inr (inl e)) = absurd e
read_back a (Rewrite r w) (Rewrite s v) (Rewrite t u) to q (inr (inr e)) = ((1, r) ∷ ((2, s) ∷ []), (3, t), [], refl, e)
read_back a (Rewrite r w) (Move k) (Rewrite t u) to q (inr (inr e)) = ((1, r) ∷ [], (3, t), [], refl, e)
read_back a (Move h) (Rewrite s v) (Rewrite t u) to q (inr (inr e)) = ((2, s) ∷ [], (3, t), [], refl, e)
read_back a (Move h) (Move k) (Rewrite t u) to q (inr (inr e)) = ([], (3, t), [], refl, e)
read_back a one two (Move m) to q (inr (inr e)) = absurd e

write_back : (a : ℕ) (one two three : Deed) (to : ℕ) (q : ControlState)
    → ShowsWrite (quad_of (rule a one two three to)) q → Split (λ before p rest. q ≡ Writes to p.0 (symbols_read rest))
    (writes_of (rule a one two three to))
write_back a (Rewrite r w) (Rewrite s v) (Rewrite t u) to q (inl e) = ((3, u) ∷ ((2, v) ∷ []), (1, w), [], refl, e)
write_back a (Rewrite r w) (Rewrite s v) (Move m) to q (inl e) = ((2, v) ∷ [], (1, w), [], refl, e)
write_back a (Rewrite r w) (Move k) (Rewrite t u) to q (inl e) = ((3, u) ∷ [], (1, w), [], refl, e)
write_back a (Rewrite r w) (Move k) (Move m) to q (inl e) = ([], (1, w), [], refl, e)
write_back a (Move h) two three to q (inl e) = absurd e
write_back a (Rewrite r w) (Rewrite s v) (Rewrite t u) to q (inr (inl e)) = ((3, u) ∷ [], (2, v), (1, w) ∷ [], refl, e)
write_back a (Rewrite r w) (Rewrite s v) (Move m) to q (inr (inl e)) = ([], (2, v), (1, w) ∷ [], refl, e)
write_back a (Move h) (Rewrite s v) (Rewrite t u) to q (inr (inl e)) = ((3, u) ∷ [], (2, v), [], refl, e)
write_back a (Move h) (Rewrite s v) (Move m) to q (inr (inl e)) = ([], (2, v), [], refl, e)
write_back a one (Move k) three to q (inr (inl e)) = absurd e
write_back a (Rewrite r w) (Rewrite s v) (Rewrite t u) to q (inr (inr e)) =
    ([], (3, u), (2, v) ∷ ((1, w) ∷ []), refl, e)
write_back a (Rewrite r w) (Move k) (Rewrite t u) to q (inr (inr e)) = ([], (3, u), (1, w) ∷ [], refl, e)
write_back a (Move h) (Rewrite s v) (Rewrite t u) to q (inr (inr e)) = ([], (3, u), (2, v) ∷ [], refl, e)
write_back a (Move h) (Move k) (Rewrite t u) to q (inr (inr e)) = ([], (3, u), [], refl, e)
write_back a one two (Move m) to q (inr (inr e)) = absurd e

-- ---- all states

module _ (m : Quadruples) (quads : List Quad) (kept : quads ≡ map quad_of m.rules) where
  -- what the quadruples show occurs
  shown_occurs : (q : ControlState) → IsShownBefore quads (length quads) q → Occurs m q
  shown_occurs q h = let found = rule_at m quads kept h.index h.quad h.stands in by found.0 found.1
      (subst (λ v. Shows (suc h.index) v q) found.2 h.shows)
    where
      by : (r : Rule ℕ) → nth m.rules (suc h.index) ≡ Some r → Shows (suc h.index) (quad_of r) q → Occurs m q
      by r here (inl g) = let s = read_back r.from r.one r.two r.three r.to q g in is_read (suc h.index) r here s.0 s.2
          s.1 s.3 s.4
      by r here (inr (inl g)) = let s = shifted (suc h.index) r q g in let parts =
          split_at (shifts_of r) s.0 s.1 in is_shift (suc h.index) r here parts.0 parts.1 s.0 parts.2 s.2
      by r here (inr (inr g)) = let s = write_back r.from r.one r.two r.three r.to q g in is_write (suc h.index) r here
          s.0 s.2 s.1 s.3 s.4

  shown_at : (i : ℕ) (r : Rule ℕ) (q : ControlState) → nth m.rules (suc i) ≡ Some r → Shows (suc i) (quad_of r) q
      → IsShownBefore quads (length quads) q
  shown_at i r q here h = let at = quad_at m quads kept i r here in record
      { index = i; quad = quad_of r; low = slice_get_within quads i (quad_of r) at; stands = at; shows = h }

  abbrev Ends : ControlState → Type 0
  Ends q = (q ≡ Begin) ⊎ (q ≡ End)

  abbrev Rest : ControlState → Type 0
  Rest q = IsOpenBelow m m.states q ⊎ IsShownBefore quads (length quads) q

  forth : (q : ControlState) → Ends q ⊎ Rest q → Occurs m q
  forth q (inl (inl e)) = is_begin e
  forth q (inl (inr e)) = is_end e
  forth q (inr (inl h)) = is_open h.state h.low h.going h.none h.awaits
  forth q (inr (inr h)) = shown_occurs q h

  back : (q : ControlState) → Occurs m q → Ends q ⊎ Rest q
  back q (is_begin e) = inl (inl e)
  back q (is_end e) = inl (inr e)
  back q (is_open a low going none e) = inr (inl (record {
    state = a;
    low = low;
    going = going;
    none = none;
    awaits = e;
  }))
  back q (is_read zero r here before rest p split e) = absurd (cc)
  back q (is_read (suc i) r here before rest p split e) =
      inr (inr (subst (IsShownBefore quads (length quads)) (sym e)
      (shown_at i r _ here (inl (at_prefix (λ b. ShowsRead (quad_of r) (Reads r.from b)) [] (reads_of r)
      (reads_show r.from r.one r.two r.three r.to) before rest p split)))))
  back q (is_shift zero r here before rest p split e) = absurd (cc)
  back q (is_shift (suc i) r here before rest p split e) =
      inr (inr (subst (IsShownBefore quads (length quads)) (sym e)
      (shown_at i r _ here (inr (inl (shifts_show (suc i) r p
      (subst (λ l. Has l p) (sym split) (behind before (p ∷ rest) p (inl refl)))))))))
  back q (is_write zero r here before rest p split e) = absurd (cc)
  back q (is_write (suc i) r here before rest p split e) =
      inr (inr (subst (IsShownBefore quads (length quads)) (sym e)
      (shown_at i r _ here (inr (inr (at_split (λ v l. ShowsWrite (quad_of r) (Writes r.to v.0 (symbols_read l)))
      (writes_of r) (writes_show r.from r.one r.two r.three r.to) before rest p split))))))

  -- they are two more than those that are open and those that the quadruples show
  ends_count : IsCount Ends 2
  ends_count = both_count (λ q. q ≡ Begin) (λ q. q ≡ End) 1 1 (λ q e d. let both = sym e ∙ d in cc)
      (one_count (λ q. q ≡ Begin) Begin refl (λ q h. h)) (one_count (λ q. q ≡ End) End refl (λ q h. h))

  open_not_shown : (q : ControlState) → IsOpenBelow m m.states q → IsShownBefore quads (length quads) q → ⊥
  open_not_shown q h g =
      let found = rule_at m quads kept g.index g.quad g.stands in
      by found.0 found.1 (subst (λ v. ShowsRead v (Reads h.state [])) found.2
      (only_read (suc g.index) g.quad h.state [] (subst (Shows (suc g.index) g.quad) h.awaits g.shows)))
    where
      by : (r : Rule ℕ) → nth m.rules (suc g.index) ≡ Some r → ShowsRead (quad_of r) (Reads h.state []) → ⊥
      by r here s = let same = read_from (quad_of r) h.state [] s in h.none.none (suc g.index) r here same

  ends_apart : (q : ControlState) → Ends q → Rest q → ⊥
  ends_apart q (inl e) (inl h) = let both = sym e ∙ h.awaits in cc
  ends_apart q (inr e) (inl h) = let both = sym e ∙ h.awaits in cc
  ends_apart q (inl e) (inr h) = not_zero (suc h.index) h.quad Begin (subst (Shows (suc h.index) h.quad) e h.shows) refl
  ends_apart q (inr e) (inr h) = not_zero (suc h.index) h.quad End (subst (Shows (suc h.index) h.quad) e h.shows) refl

  pub all_count : (a b : ℕ) → IsCount (IsOpenBelow m m.states) a → IsCount (IsShownBefore quads (length quads)) b
      → (names : List ControlState) → IsNumbering m names → 2 + a + b ≡ length names
  all_count a b waiting shown names numbering =
      let sum : 2 + (a + b) ≡ 2 + a + b = omega arith in
      sym sum ∙ numbering_count m (2 + (a + b)) (same_count (λ q. Ends q ⊎ Rest q) (Occurs m) (2 + (a + b)) forth back
      (both_count Ends Rest 2 (a + b) ends_apart ends_count (both_count (IsOpenBelow m m.states)
      (IsShownBefore quads (length quads)) a b open_not_shown waiting shown))) names numbering
