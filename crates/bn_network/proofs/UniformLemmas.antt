-- What uniform machines have, rule by rule.
use Rattle.std.proofs.Common.{◌≡◌, ℕ, suc, List, [], ◌∷◌, Some, refl}
use Rattle.bn_lists.specs.Lists.{nth}
use Rattle.bn_machine.specs.declared.quint.Shift.TheVariants as way
use Rattle.bn_quad.specs.Quadruples.{Deed, Rewrite, Move, Quadruples, Rule, deeds_of}
use Rattle.bn_quad.specs.Overlap.{HaveSameTapes, IsIdle, IsSilent}
use Rattle.bn_quad.specs.Calls.{IsUniformMachine}
use Rattle.bn_network.specs.Controls.{reads, shifts, reads_of, shifts_of, writes_of, symbols_read}
use Rattle.bn_network.proofs.MaskLemmas.{tapes-same, overlaps-one}
use Rattle.bn_network.proofs.DeedLemmas.{meet_reads, meet_writes}

-- whether these deeds read nothing and shift nothing
idle : (d : Deed) (t : ℕ) (ds : List Deed) → reads t (d ∷ ds) ≡ [] → shifts t (d ∷ ds) ≡ []
    → IsIdle d × (reads (suc t) ds ≡ []) × (shifts (suc t) ds ≡ [])
idle (Rewrite r w) t ds e f = absurd (cc)
idle (Move way.Left) t ds e f = absurd (cc)
idle (Move way.Stay) t ds e f = (refl, e, f)
idle (Move way.Right) t ds e f = absurd (cc)

-- a quadruple that reads nothing and shifts nothing is silent
pub silent : (r : Rule ℕ) → reads_of r ≡ [] → shifts_of r ≡ [] → IsSilent r
silent r e f =
    let one = idle r.one 1 (r.two ∷ r.three ∷ []) e f in
    let two = idle r.two 2 (r.three ∷ []) one.1 one.2 in
    let three = idle r.three 3 [] two.1 two.2 in
    record { one = one.0; two = two.0; three = three.0 }

module _ (machine : Quadruples) (u : IsUniformMachine machine) where
  -- quadruples of one state read the same tapes
  pub read_mask : (i j : ℕ) (x y : Rule ℕ) → nth machine.rules i ≡ Some x → nth machine.rules j ≡ Some y
      → x.from ≡ y.from → HaveSameTapes x y
  read_mask i j x y a b from = tapes-same.0 machine.rules i j x y u.uniform.reads a b from

  -- quadruples into one state write the same tapes
  pub write_mask : (i j : ℕ) (x y : Rule ℕ) → nth machine.rules i ≡ Some x → nth machine.rules j ≡ Some y → x.to ≡ y.to
      → HaveSameTapes x y
  write_mask i j x y a b to = tapes-same.1 machine.rules i j x y u.uniform.writes a b to

  -- quadruples with equal numbers are equal
  pub same_quad : (i j : ℕ) (x y : Rule ℕ) → nth machine.rules i ≡ Some x → nth machine.rules j ≡ Some y → i ≡ j → x ≡ y
  same_quad i j x y a b e = let both : Some x ≡ Some y = cc in cc

  -- quadruples with the same state and the same symbols read are one
  pub same_domain : (i j : ℕ) (x y : Rule ℕ) → nth machine.rules i ≡ Some x → nth machine.rules j ≡ Some y
      → x.from ≡ y.from
      → symbols_read (reads_of x) ≡ symbols_read (reads_of y) → i ≡ j
  same_domain i j x y a b from same =
      overlaps-one.0 machine.rules i j x y u.deterministic a b (record
      { from = from; tapes = meet_reads (deeds_of x) (deeds_of y) 1 (read_mask i j x y a b from) same })

  -- quadruples into the same state with the same symbols written are one
  pub same_range : (i j : ℕ) (x y : Rule ℕ) → nth machine.rules i ≡ Some x → nth machine.rules j ≡ Some y → x.to ≡ y.to
      → symbols_read (writes_of x) ≡ symbols_read (writes_of y) → i ≡ j
  same_range i j x y a b to same =
      overlaps-one.1 machine.rules i j x y u.reversible a b (record
      { to = to; tapes = meet_writes x y (write_mask i j x y a b to) same })
