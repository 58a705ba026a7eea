-- The names of a translation can be printed.
use Rattle.std.proofs.Common.{◌≡◌, ◌≤◌, ◌+◌, ℕ, length, Some, slice_get, arith}
use Rattle.bn_machine.specs.Machine.{Program, IsMachine}
use Rattle.bn_bennett_laws.specs.Laws.{ListCountsNames, ListHasNames}
use Rattle.bn_bennett_laws.specs.List.{bennett}
use Rattle.bn_bennett_laws.specs.Names.{IsNameOf, NumbersStates}
use Rattle.bn_bennett_laws.specs.declared.name.Name.{Name}
use Rattle.bn_bennett_laws.specs.declared.name.Name.TheVariants.{Compute, ComputeWithin, GoRight, CopyLetter, GoLeft}
use Rattle.bn_bennett_laws.specs.declared.name.Name.TheVariants.{PassLetter, Retrace, RetraceWithin}
use Rattle.bn_table.specs.Rows.{FitsTable}
use Rattle.bn_bennett.specs.Printed.{ArePrintable, print_of}
use Rattle.bn_bennett.specs.Translation.{IsTranslation, Translation}
use Rattle.bn_bennett.proofs.Counting.{each_mentioned, numbers_states}
use Rattle.bn_bennett_laws.proofs.Counts.{mentioned_below}

-- ---- the number with which a name is printed

pub number_bound : (p : Program) (name : Name) → IsMachine p → IsNameOf p name
    → (print_of name).number ≤ p.states + length p.quints + 2
number_bound p (Compute j) machine h = let low = mentioned_below p j machine h in omega arith
number_bound p (ComputeWithin m) machine h = omega (arith, h.1)
number_bound p GoRight machine h = omega arith
number_bound p CopyLetter machine h = omega arith
number_bound p GoLeft machine h = omega arith
number_bound p PassLetter machine h = omega arith
number_bound p (Retrace j) machine h = let low = mentioned_below p j machine h in omega arith
number_bound p (RetraceWithin m) machine h = omega (arith, h.1)

-- each name of the list is printed with a number that is small
pub name_bound : (p : Program) (t : Translation) (n : ℕ) (name : Name) → IsMachine p → FitsTable p → ListHasNames
    → IsTranslation p t → slice_get t.names n ≡ Some name → (print_of name).number ≤ 12002
name_bound p t n name machine fits has_names h at =
    let numbers : NumbersStates (bennett p) t.names = numbers_states (bennett p) t.names h.names in
    let named = (has_names p machine.some name).0 (numbers.only n name at) in
    omega (arith, number_bound p name machine named, fits.states, fits.quints)

pub printable : (p : Program) (t : Translation) → IsMachine p → FitsTable p → ListHasNames → ListCountsNames
    → IsTranslation p t → ArePrintable t.names
printable p t machine fits has_names counts h =
    let numbers : NumbersStates (bennett p) t.names = numbers_states (bennett p) t.names h.names in
    record {
      few = omega (arith, counts p machine (each_mentioned p fits) t.names numbers, fits.states, fits.quints);
      apart = numbers.apart;
      small = λ n name at. omega (arith, name_bound p t n name machine fits has_names h at);
    }
