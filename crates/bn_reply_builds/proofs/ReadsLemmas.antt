-- All quadruples that leave a state of a uniform machine read the same tapes.
use Rattle.std.specs.Prelude.{◌≡◌, ℕ, suc, Bool, true, false, List, map, Option, Some, None, is_some, slice_get, refl}
use Rattle.std.specs.Option.{option_map}
use Rattle.std.proofs.Common.{zero, sym, ap, ◌∙◌}
use Rattle.std.proofs.lemmas.Option.{same_Some, slice_get-map}
use Rattle.bn_lists.specs.Lists.{nth}
use Rattle.bn_quad.specs.Calls.{IsUniformMachine}
use Rattle.bn_quad.specs.Kept.{quad_of, read_of}
use Rattle.bn_quad.specs.Overlap.{HaveSameTapes, IsAlike}
use Rattle.bn_quad.specs.Quadruples.{Deed, Move, Quadruples, Rewrite, Rule}
use Rattle.bn_quad.specs.declared.quad.Quad.{Quad}
use Rattle.bn_network_laws.specs.Stops.{DeedReads, deed_at}
use Rattle.bn_network.proofs.UniformLemmas.{read_mask}
use Rattle.bn_reply_builds.specs.Stopping.{IsLeavingQuad}

-- ---- one tape

is_read : (d : Deed) → is_some (read_of d) ≡ true → DeedReads d
is_read (Rewrite a w) is = tt
is_read (Move s) is = absurd (cc)

is_unread : (d : Deed) → is_some (read_of d) ≡ false → DeedReads d → ⊥
is_unread (Rewrite a w) is reads = absurd (cc)
is_unread (Move s) is reads = reads

alike : (d e : Deed) → IsAlike d e → DeedReads d → DeedReads e
alike (Rewrite a w) (Rewrite b v) same is = tt
alike (Rewrite a w) (Move s) same is = same
alike (Move s) e same is = absurd is

alike_back : (d e : Deed) → IsAlike d e → DeedReads e → DeedReads d
alike_back (Rewrite a w) e same is = tt
alike_back (Move s) (Rewrite b v) same is = same
alike_back (Move s) (Move r) same is = is

at_tape : (r s : Rule ℕ) (t : ℕ) → HaveSameTapes r s → IsAlike (deed_at r t) (deed_at s t)
at_tape r s zero same = same.0
at_tape r s (suc zero) same = same.0
at_tape r s (suc (suc zero)) same = same.1.0
at_tape r s (suc (suc (suc t))) same = same.1.1.0

-- ---- the machine

module _ (m : Quadruples) (u : IsUniformMachine m) (quads : List Quad) (is : quads ≡ map quad_of m.rules) where
  -- what a quadruple stands for
  pub rule_at : (i : ℕ) (q : Quad) → slice_get quads i ≡ Some q → (r : Rule ℕ) × (slice_get m.rules i ≡ Some r) ×
      (q ≡ quad_of r)
  rule_at i q at = by_rule (slice_get m.rules i) refl
    where
      mapped : slice_get quads i ≡ option_map quad_of (slice_get m.rules i)
      mapped = ap (λ qs. slice_get qs i) is ∙ slice_get-map quad_of m.rules i

      by_rule : (o : Option (Rule ℕ)) → slice_get m.rules i ≡ o → (r : Rule ℕ) × (slice_get m.rules i ≡ Some r) ×
          (q ≡ quad_of r)
      by_rule None none = absurd (let both : ◌≡◌ {A = Option Quad} (Some q) None = sym at ∙ mapped
          ∙ ap (option_map quad_of) none in cc)
      by_rule (Some r) here = (r, here, same_Some q (quad_of r) (sym at ∙ mapped ∙ ap (option_map quad_of) here))

  -- a quadruple that leaves the state, and any rule that does
  module _ (state : ℕ) (q : Quad) (leaving : IsLeavingQuad quads state q) (t : ℕ) (b : Bool)
      (told : (r : Rule ℕ) → q ≡ quad_of r → b ≡ is_some (read_of (deed_at r t)))
      (n : ℕ) (r : Rule ℕ) (stands : nth m.rules n ≡ Some r) (from : r.from ≡ state) where
    here : (s : Rule ℕ) × (slice_get m.rules leaving.place ≡ Some s) × (q ≡ quad_of s)
    here = rule_at leaving.place q leaving.stands

    same : IsAlike (deed_at here.0 t) (deed_at r t)
    same =
        at_tape here.0 r t (read_mask m u (suc leaving.place) n here.0 r here.1 stands
        (ap (λ (x : Quad). x.state) (sym here.2) ∙ leaving.leaves ∙ sym from))

    pub reads_all : b ≡ true → DeedReads (deed_at r t)
    reads_all positive = alike (deed_at here.0 t) (deed_at r t) same
        (is_read (deed_at here.0 t) (sym (told here.0 here.2) ∙ positive))

    pub reads_none : b ≡ false → DeedReads (deed_at r t) → ⊥
    reads_none negative reads = is_unread (deed_at here.0 t) (sym (told here.0 here.2) ∙ negative)
        (alike_back (deed_at here.0 t) (deed_at r t) same reads)

  -- where none leaves the state, no rule does
  pub none_leaves : (state : ℕ) → ((i : ℕ) (q : Quad) → slice_get quads i ≡ Some q → q.state ≡ state → ⊥)
      → (n : ℕ) (r : Rule ℕ) → nth m.rules n ≡ Some r
      → r.from ≡ state → ⊥
  none_leaves state none zero r stands from = absurd (cc)
  none_leaves state none (suc i) r stands from =
      none i (quad_of r) (ap (λ qs. slice_get qs i) is ∙ slice_get-map quad_of m.rules i
      ∙ ap (option_map quad_of) stands) from
