-- What is read off the board of a uniform machine's network.
use Rattle.std.specs.Prelude.{◌≡◌, ℕ, ◌<◌, Bool, List, [], ◌∷◌, All, length, Option, refl}
use Rattle.std.proofs.Common.{zero, suc, arith, sym, subst}
use Rattle.bn_circuits.specs.Circuits.{Circuit}
use Rattle.bn_circuits.specs.Situations.{Situation}
use Rattle.bn_machine.specs.Outcome.{Limits}
use Rattle.bn_quad.specs.Quadruples.{Rule, Quadruples, IsQuadMachine, quadruples_of}
use Rattle.bn_network.specs.Controls.{ControlState, IsNumbering, symbol_count}
use Rattle.bn_network.specs.ControlLaws.{HasEntries}
use Rattle.bn_network.proofs.ExistingLemmas.{have-entries}
use Rattle.bn_network.specs.Networks.{IsNetwork, network_start}
use Rattle.bn_network.specs.Moments.{HasLetters}
use Rattle.bn_boards.specs.Layouts.{Layout, IsLayout, symbol_count_at}
use Rattle.bn_boards.proofs.TabledLemmas.{machine, has_cell, cell_base, whole, counted}
use Rattle.bn_boards.proofs.AgreedLemmas.{net_test, moment_state, modules, between, amid, loose, which, tells}
use Rattle.bn_boards.proofs.AgreedLemmas.{quiet, end, cell_exit, loose_exit, some_states}
use Rattle.bn_boards.proofs.StartingLemmas.{starts, heads}
use Rattle.bn_boards.proofs.SpellingLemmas.{spells, spells_loose}
use Rattle.bn_boards.specs.NetworkReads.{NetworkReads, NetworksAreRead}

module _ (l : Limits) (word : List ℕ) (names : List ControlState) (n : Circuit) where
  abbrev HasReads : Quadruples → Layout → Type 0
  HasReads m b = IsNetwork m l names n → IsNumbering m names → IsLayout m l names b → IsQuadMachine m → HasEntries m
      → HasLetters m → All (λ s. s < symbol_count m 1) word → (test : Situation → Bool)
      × NetworkReads m l word names n b test

  abbrev layout_of : List ℕ → List (Option (ℕ × ℕ)) → List (Option (ℕ × ℕ)) → Layout
  layout_of zs firsts awaited = record {
    limits = l;
    symbols = zs;
    states = length names;
    firsts = firsts;
    awaited = awaited;
  }

  -- the layout has the machine's numbers of symbols
  letters_same : (zs : List ℕ) (rules : List (Rule ℕ)) (states : ℕ) (firsts awaited : List (Option (ℕ × ℕ))) (t : ℕ)
      → symbol_count_at (layout_of zs firsts awaited) t ≡ symbol_count (quadruples_of rules states zs) t
  letters_same zs rules states firsts awaited zero = refl
  letters_same zs rules states firsts awaited (suc t) = refl

  by_parts : (rules : List (Rule ℕ)) (states x y z : ℕ) (firsts awaited : List (Option (ℕ × ℕ)))
      → HasReads (quadruples_of rules states (x ∷ y ∷ z ∷ [])) (layout_of (x ∷ y ∷ z ∷ []) firsts awaited)
  by_parts rules states x y z firsts awaited network numbering kept quad entries some low =
      let test = net_test rules states x y z l names n firsts awaited in
      let first : 0 < x = some 1 (record { low = omega arith; high = omega arith }) in
      let second : 0 < y = some 2 (record { low = omega arith; high = omega arith }) in
      let third : 0 < z = some 3 (record { low = omega arith; high = omega arith }) in
      let states_some = some_states rules states x y z l names n firsts awaited network numbering kept quad entries some
      in (
        test,
        record {
          modules = modules rules states x y z l names n firsts awaited network numbering kept quad entries some;
          starts = starts rules states x y z l names n firsts awaited network word states_some first second third low;
          tells = tells rules states x y z l names n firsts awaited network numbering kept quad entries some;
          between = between rules states x y z l names n firsts awaited network numbering kept quad entries some;
          amid = amid rules states x y z l names n firsts awaited network numbering kept quad entries some;
          at_loose = loose rules states x y z l names n firsts awaited network numbering kept quad entries some;
          which = which rules states x y z l names n firsts awaited network numbering kept quad entries some;
          state = moment_state rules states x y z l names n firsts awaited network numbering kept quad entries some;
          heads = heads rules states x y z l names n firsts awaited network word states_some first second third low;
          cell_tables = has_cell rules states x y z l names n firsts awaited network;
          cell_bases = cell_base rules states x y z l names n firsts awaited network;
          quiet = quiet rules states x y z l names n firsts awaited network numbering kept quad entries some
              (network_start (machine rules states x y z l names n firsts awaited) l word) refl;
          count = counted rules states x y z l names n firsts awaited;
          whole = whole rules states x y z l names n firsts awaited network;
          letters_are = letters_same (x ∷ y ∷ z ∷ []) rules states firsts awaited;
          end = end rules states x y z l names n firsts awaited network numbering kept quad entries some;
          cell = cell_exit rules states x y z l names n firsts awaited network numbering kept quad entries some;
          loose = loose_exit rules states x y z l names n firsts awaited network numbering kept quad entries some;
          spells = λ s d c stands. spells rules states x y z l names n firsts awaited network s d stands c;
          spells_loose = λ s d i c at place. spells_loose rules states x y z l names n firsts awaited network s d i at
              place c;
        },
      )

  -- of any three numbers of symbols
  of_three : (zs : List ℕ) → length zs ≡ 3 → (rules : List (Rule ℕ)) (states : ℕ)
      (firsts awaited : List (Option (ℕ × ℕ)))
      → HasReads (quadruples_of rules states zs) (layout_of zs firsts awaited)
  of_three [] count rules states firsts awaited = absurd (omega arith)
  of_three (x ∷ []) count rules states firsts awaited = absurd (omega arith)
  of_three (x ∷ y ∷ []) count rules states firsts awaited = absurd (omega arith)
  of_three (x ∷ y ∷ z ∷ []) count rules states firsts awaited = by_parts rules states x y z firsts awaited
  of_three (x ∷ y ∷ z ∷ u ∷ zs) count rules states firsts awaited = absurd (omega arith)

  of_machine : (m : Quadruples) (b : Layout) → length m.symbols ≡ 3 → IsLayout m l names b → HasReads m b
  of_machine m b three kept =
      let layout_is : b ≡ layout_of m.symbols b.firsts b.awaited =
      λ i. record {
        limits = kept.limits i;
        symbols = kept.symbols i;
        states = kept.states i;
        firsts = b.firsts;
        awaited = b.awaited;
      } in
      subst (HasReads m) (sym layout_is) (of_three m.symbols three m.rules m.states b.firsts b.awaited)

pub networks-read : NetworksAreRead
networks-read m l word names k b is kept low =
    of_machine l word names k m b is.machine.tapes kept is.network is.numbering kept is.machine
    (have-entries m is.machine is.uniform) is.symbols low
