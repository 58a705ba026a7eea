-- A machine of quadruples in rooms goes on, or its run ends.
use Rattle.std.specs.Prelude.{◌≡◌, ◌≢◌, ℕ, ℤ, pos, ◌-ℤ◌, List, refl, ◌⊎◌}
use Rattle.std.proofs.Common.{inl, inr}
use Rattle.std.proofs.lemmas.Int.{by_lt_z}
use Rattle.std.proofs.lemmas.Bool.Decides.{eqb_tells}
use Rattle.bn_machine.specs.Window.{Room, anywhere, within, Allows}
use Rattle.bn_machine.specs.declared.quint.Side.{Side}
use Rattle.bn_machine.specs.declared.quint.Side.TheVariants as side
use Rattle.bn_quad.specs.Quadruples.{Rule, Configuration, Follows, Rooms}
use Rattle.bn_bennett_laws.specs.Steps.{Steps, IsOutside, Exit, Finished, Stopped, Leaving, EndsAt, finishes, stops}
use Rattle.bn_bennett_laws.specs.Steps.{leaves}
use Rattle.bn_erase_laws.proofs.DecidedLemmas.{Next, is_final, has_none, steps_on, next_of}

number_or : (a b : ℕ) → (a ≡ b) ⊎ (a ≢ b)
number_or a b = elim (eqb_tells a b) [ inl same ↦ inl same.1 | inr other ↦ inr other.1 ]

allows_or : (r : Room) (p : ℤ) → Allows r p ⊎ ((end : Side) × IsOutside r end p)
allows_or anywhere p = inl tt
allows_or (within left right) p =
    by_lt_z p (pos 0 -ℤ pos left)
    (λ beyond. inr (side.Left, beyond))
    (λ above. by_lt_z (pos right) p
    (λ beyond. inr (side.Right, beyond))
    (λ below. inl (record { above = above; below = below })))

module _ (rooms : Rooms) (rs : List (Rule ℕ)) (final : ℕ) (c : Configuration ℕ) where
  abbrev GoesOrEnds : Type 0
  GoesOrEnds = ((d : Configuration ℕ) × Steps rooms rs final c d) ⊎ ((e : Exit) × EndsAt rooms rs final c e)

  going : c.state ≢ final → (d : Configuration ℕ) → Follows rs c d → GoesOrEnds
  going other d follows = by (allows_or rooms.one d.one.head) (allows_or rooms.two d.two.head)
      (allows_or rooms.three d.three.head)
    where
      by : Allows rooms.one d.one.head ⊎ ((end : Side) × IsOutside rooms.one end d.one.head)
          → Allows rooms.two d.two.head ⊎ ((end : Side) × IsOutside rooms.two end d.two.head)
          → Allows rooms.three d.three.head ⊎ ((end : Side) × IsOutside rooms.three end d.three.head) → GoesOrEnds
      by (inr out) two three = inr (Leaving 1 out.0, leaves 1 out.0 d other follows out.1 refl)
      by (inl one) (inr out) three = inr (Leaving 2 out.0, leaves 2 out.0 d other follows (one, out.1) refl)
      by (inl one) (inl two) (inr out) = inr (Leaving 3 out.0, leaves 3 out.0 d other follows (one, two, out.1) refl)
      by (inl one) (inl two) (inl three) =
          inl (d, record { going = other; follows = follows; stays = record { one = one; two = two; three = three } })

  by_next : Next number_or rs final c → GoesOrEnds
  by_next (is_final same) = inr (Finished, finishes same refl)
  by_next (has_none other none) = inr (Stopped, stops other none refl)
  by_next (steps_on d step) = going step.going d step.follows

  pub goes_or_ends : GoesOrEnds
  goes_or_ends = by_next (next_of number_or rs final c)
