-- Lists of the moves of a reversible table: they are sound, and they go where the table goes.
use Rattle.std.proofs.Common.{◌≡◌, inl, inr, ℕ, List, [], ◌∷◌, ◌++◌, map, Option, Some, None, refl, sym, ap, subst, ◌∙◌}
use Rattle.std.proofs.lemmas.Option.{some_pair_parts}
use Rattle.bn_element.specs.Tables.{Table, IsReversible, go_by, back_by, AreOneToOne, AreWithin}
use Rattle.bn_element.specs.Reversible.{pair_tells}
use Rattle.bn_rsm.specs.Machines.{move_of, AreSound}
use Rattle.bn_rsm.specs.declared.rsm_move.RsmMove.{RsmMove}
use Rattle.bn_lists.specs.Lists.{Has}
use Rattle.bn_lists.proofs.MemberLemmas.{of_two}

-- the moves leave different pairs
abbrev pub LeaveApart : RsmMove → RsmMove → Type 0
LeaveApart v w = v.state ≡ w.state → v.line ≡ w.line → ⊥

-- so does each of a list and those behind it
abbrev pub AreApart : List RsmMove → Type 0
AreApart [] = Unit {0}
AreApart (m ∷ ms) = ((v : RsmMove) → Has ms v → LeaveApart m v) × AreApart ms

-- lists that are apart, one behind the other
pub apart_joined : (xs ys : List RsmMove) → AreApart xs → AreApart ys
    → ((v w : RsmMove) → Has xs v → Has ys w → LeaveApart v w) → AreApart (xs ++ ys)
apart_joined [] ys a b far = b
apart_joined (x ∷ xs) ys a b far = (heads, apart_joined xs ys a.1 b (λ v w h k. far v w (inr h) k))
  where
    heads : (v : RsmMove) → Has (xs ++ ys) v → LeaveApart x v
    heads v h = elim (of_two xs ys v h) [ inl here ↦ a.0 v here | inr there ↦ far x v (inl refl) there ]

-- the moves of a table, each of them once
pub record AreMovesOf (t : Table) (ms : List RsmMove) : Type 0 where
  pub apart : AreApart ms
  pub each : (q i r o : ℕ) → t.go q i ≡ Some (r, o) → Has ms (record { state = q; line = i; next = r; out = o })
  pub only : (v : RsmMove) → Has ms v → t.go v.state v.line ≡ Some (v.next, v.out)

-- what is found is a move of the list
found : (ms : List RsmMove) (q i r o : ℕ) → go_by (map move_of ms) q i ≡ Some (r, o)
    → Has ms (record { state = q; line = i; next = r; out = o })
found [] q i r o h = absurd (cc)
found (m ∷ ms) q i r o h =
    elim (pair_tells m.state m.line q i) [
      | inl here ↦ (let is = rw here.0 at h in let parts = some_pair_parts m.next r m.out o is in
          inl (λ j. record { state = sym here.1 j; line = sym here.2 j; next = sym parts.0 j; out = sym parts.1 j }))
      | inr other ↦ inr (found ms q i r o (rw other.0 at h))
    ]

back_found : (ms : List RsmMove) (q i r o : ℕ) → back_by (map move_of ms) r o ≡ Some (q, i)
    → Has ms (record { state = q; line = i; next = r; out = o })
back_found [] q i r o h = absurd (cc)
back_found (m ∷ ms) q i r o h =
    elim (pair_tells m.next m.out r o) [
      | inl here ↦ (let is = rw here.0 at h in let parts = some_pair_parts m.state q m.line i is in
          inl (λ j. record { state = sym parts.0 j; line = sym parts.1 j; next = sym here.1 j; out = sym here.2 j }))
      | inr other ↦ inr (back_found ms q i r o (rw other.0 at h))
    ]

-- a move of the list is found, where those behind it leave other pairs
finds : (ms : List RsmMove) (v : RsmMove) → AreApart ms → Has ms v
    → go_by (map move_of ms) v.state v.line ≡ Some (v.next, v.out)
finds [] v apart h = absurd h
finds (m ∷ ms) v apart h =
    elim (pair_tells m.state m.line v.state v.line) [
      | inl here ↦ rw here.0 (first h here.1 here.2)
      | inr other ↦ rw other.0 (finds ms v apart.1 (later h other.1))
    ]
  where
    first : Has (m ∷ ms) v → m.state ≡ v.state → m.line ≡ v.line
        → ◌≡◌ {A = Option (ℕ × ℕ)} (Some (m.next, m.out)) (Some (v.next, v.out))
    first (inl e) a b = ap (λ (x : RsmMove). Some (x.next, x.out)) (sym e)
    first (inr k) a b = absurd (apart.0 v k a b)

    later : Has (m ∷ ms) v → (m.state ≡ v.state → m.line ≡ v.line → ⊥) → Has ms v
    later (inl e) none = absurd (none (ap (λ (x : RsmMove). x.state) (sym e)) (ap (λ (x : RsmMove). x.line) (sym e)))
    later (inr k) none = k

none_or : (o : Option (ℕ × ℕ)) → ((a b : ℕ) → o ≡ Some (a, b) → ⊥) → o ≡ None
none_or None h = refl
none_or (Some p) h = absurd (h p.0 p.1 refl)

module _ (t : Table) (is : IsReversible t) where
  -- such moves are one to one
  one_to_one : (ms : List RsmMove) → AreApart ms → ((v : RsmMove) → Has ms v
      → t.go v.state v.line ≡ Some (v.next, v.out)) → AreOneToOne (map move_of ms)
  one_to_one [] apart only = tt
  one_to_one (m ∷ ms) apart only = (
    none_or (go_by (map move_of ms) m.state m.line) (λ r o e. apart.0
        (record { state = m.state; line = m.line; next = r; out = o }) (found ms m.state m.line r o e) refl refl),
    none_or (back_by (map move_of ms) m.next m.out) (λ q i e. behind_none q i (back_found ms q i m.next m.out e)),
    one_to_one ms apart.1 (λ v h. only v (inr h)),
  )
    where
      behind_none : (q i : ℕ) → Has ms (record { state = q; line = i; next = m.next; out = m.out }) → ⊥
      behind_none q i h =
          let here = is.undone m.state m.line m.next m.out (only m (inl refl)) in
          let there = is.undone q i m.next m.out (only (record { state = q; line = i; next = m.next; out = m.out })
          (inr h)) in
          let parts = some_pair_parts m.state q m.line i (sym here ∙ there) in
          apart.0 (record { state = q; line = i; next = m.next; out = m.out }) h parts.0 parts.1

  -- and in range
  within : (ms : List RsmMove) → ((v : RsmMove) → Has ms v → t.go v.state v.line ≡ Some (v.next, v.out))
      → AreWithin t.states t.inputs t.outputs (map move_of ms)
  within [] only = tt
  within (m ∷ ms) only =
      let a = is.departs m.state m.line m.next m.out (only m (inl refl)) in
      let b = is.arrives m.state m.line m.next m.out (only m (inl refl)) in
      (a.0, a.1, b.0, b.1, within ms (λ v h. only v (inr h)))

  -- they make a machine
  pub moves_sound : (ms : List RsmMove) → t.outputs ≡ t.inputs → AreMovesOf t ms → AreSound t.states t.inputs ms
  moves_sound ms square are =
      record {
        one_to_one = one_to_one ms are.apart are.only;
        within = subst (λ n. AreWithin t.states t.inputs n (map move_of ms)) square (within ms are.only);
      }

  -- which goes where the table goes
  pub moves_go : (ms : List RsmMove) → AreMovesOf t ms → (q i : ℕ) → go_by (map move_of ms) q i ≡ t.go q i
  moves_go ms are q i = by (go_by (map move_of ms) q i) (t.go q i) refl refl
    where
      by : (x y : Option (ℕ × ℕ)) → go_by (map move_of ms) q i ≡ x → t.go q i ≡ y → x ≡ y
      by None None e d = refl
      by None (Some p) e d = absurd (let there = finds ms (record { state = q; line = i; next = p.0; out = p.1 })
          are.apart (are.each q i p.0 p.1 d) in cc)
      by (Some p) y e d = sym (are.only (record { state = q; line = i; next = p.0; out = p.1 })
          (found ms q i p.0 p.1 e)) ∙ d
