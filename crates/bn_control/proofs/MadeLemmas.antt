-- The parts of a control make it.
use Rattle.std.proofs.Common.{◌≡◌, slice_get, ℕ, zero, suc, ◌<◌, List, [], ◌∷◌, All, length, map, Option, Some, None}
use Rattle.std.proofs.Common.{refl, sym, ap, subst, ◌∙◌, arith}
use Rattle.std.proofs.lemmas.List.{length-map}
use Rattle.std.proofs.lemmas.Option.{slice_get_within}
use Rattle.bn_quad.specs.Quadruples.{Quadruples}
use Rattle.bn_rsm.specs.Machines.{Machine, machine_table}
use Rattle.bn_network.specs.Controls.{ControlState, IsControlTable}
use Rattle.bn_control.specs.declared.draft.Draft.{Draft}
use Rattle.bn_control.specs.declared.name.StateName.{StateName}
use Rattle.bn_control.specs.Names.{state_of}
use Rattle.bn_control.specs.Controlled.{Controlled, IsControlOf, IsWithinLimits, IsKept, IsAwaiting, IsTapeAwaited}
use Rattle.bn_control.specs.Made.{IsDraft, AreFirsts, AreAwaited}
use Rattle.bn_control.proofs.SearchLemmas.{named_at, kept_at}

module _ (m : Quadruples) (limits : IsWithinLimits m) (d : Draft) (draft : IsDraft m d) (rsm : Machine)
    (table : IsControlTable m (map state_of d.states.items) (machine_table rsm))
    (fs : List (Option (ℕ × ℕ))) (firsts : AreFirsts m d.states.items m.states fs) (os : List (Option (ℕ × ℕ)))
    (awaited : AreAwaited m d.states.items os) (tapes : All IsTapeAwaited os) where
  pub parts_kept : IsKept rsm d.symbols fs os
  parts_kept =
      let few = limits.states in
      let count = firsts.counted in
      record {
        tapes = ap length (sym draft.symbols) ∙ draft.valid.tapes;
        few_symbols = draft.few_symbols;
        few_states = omega arith;
        counted = awaited.counted ∙ sym (table.states ∙ length-map d.states.items state_of);
        awaited_tapes = tapes;
      }

  forth : (n a t : ℕ) → slice_get os n ≡ Some (Some (a, t)) → (q : ControlState)
      × (slice_get (map state_of d.states.items) n ≡ Some q) × IsAwaiting m q a t
  forth n a t e =
      let low = slice_get_within os n (Some (a, t)) e in
      let count = awaited.counted in
      let x = first_of d.states.items n (omega arith) in
      let tells = awaited.each n x.0 (Some (a, t)) x.1 e in
      (state_of x.0, named_at d.states.items n x.0 x.1, (tells.tells a t).0 refl)
    where
      first_of : (l : List StateName) (n : ℕ) → n < length l → (x : StateName) × (slice_get l n ≡ Some x)
      first_of [] n low = absurd (omega arith)
      first_of (x ∷ l) zero low = (x, refl)
      first_of (x ∷ l) (suc n) low = first_of l n (omega arith)

  back : (n a t : ℕ) (q : ControlState) → slice_get (map state_of d.states.items) n ≡ Some q → IsAwaiting m q a t
      → slice_get os n ≡ Some (Some (a, t))
  back n a t q e h =
      let x = kept_at d.states.items n q e in
      let low = slice_get_within d.states.items n x.0 x.1 in
      let count = awaited.counted in
      by (slice_get os n) refl x.0 x.1 (subst (λ r. IsAwaiting m r a t) (sym x.2) h) (omega arith)
    where
      there : (l : List (Option (ℕ × ℕ))) (n : ℕ) → n < length l → (x : Option (ℕ × ℕ)) × (slice_get l n ≡ Some x)
      there [] n low = absurd (omega arith)
      there (x ∷ l) zero low = (x, refl)
      there (x ∷ l) (suc n) low = there l n (omega arith)

      by : (o : Option (Option (ℕ × ℕ))) → slice_get os n ≡ o → (x : StateName) → slice_get d.states.items n ≡ Some x
          → IsAwaiting m (state_of x) a t → n < length os → slice_get os n ≡ Some (Some (a, t))
      by (Some p) f x g h low = f ∙ ap (λ v. Some v) (((awaited.each n x p g f).tells a t).1 h)
      by None f x g h low = absurd (let some = there os n low in let e = sym f ∙ some.1 in cc)

  pub parts_make : (v : Controlled) → v ≡ record { machine = rsm; symbols = d.symbols; firsts = fs; awaited = os }
      → (names : List ControlState) × IsControlOf m names v
  parts_make v is = (
    map state_of d.states.items,
    subst (IsControlOf m (map state_of d.states.items)) (sym is) (record {
      numbering = draft.ordered.numbering;
      table = table;
      symbols = sym draft.symbols;
      counted = firsts.counted;
      firsts = firsts.each;
      awaited_counted = awaited.counted ∙ sym (length-map d.states.items state_of);
      awaiting = λ n a t. (forth n a t, λ h. back n a t h.0 h.1 h.2);
    }),
  )
