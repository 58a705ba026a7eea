-- There is an erasing machine of two machines as tables have them.
use Rattle.std.specs.Prelude.{◌≡◌, ◌+◌, ◌<◌, ◌^◌, List, length, All, refl}
use Rattle.std.proofs.Common.{arith}
use Rattle.bn_machine.specs.Machine.{Program}
use Rattle.bn_quad.specs.Calls.{IsMadeOf}
use Rattle.bn_quad.specs.Kept.{IsSound, rules_of}
use Rattle.bn_quad.specs.Quadruples.{IsQuadMachine, Quadruples, quadruples_of}
use Rattle.bn_quad.proofs.KeptLemmas.{kept-machine}
use Rattle.bn_quad.specs.declared.quad.Quad.{Quad}
use Rattle.bn_bennett_laws.specs.Renamed.{name_at}
use Rattle.bn_bennett_laws.specs.Stages.{IsStandardMachine}
use Rattle.bn_bennett_laws.specs.declared.name.Name.TheVariants.{GoRight}
use Rattle.bn_bennett_laws.proofs.Counts.{list_counts_names, list_has_length, list_has_names, list_is_in_range}
use Rattle.bn_bennett_laws.proofs.Numbering.{numbers_pass_tests}
use Rattle.bn_table.specs.Rows.{FitsTable}
use Rattle.bn_bennett.specs.Translation.{IsTranslation, Translation}
use Rattle.bn_bennett.proofs.Counting.{each_mentioned, numbers_states}
use Rattle.bn_bennett.proofs.Machines.{sound_listed}
use Rattle.bn_bennett.proofs.ThereLemmas.{there}
use Rattle.bn_erase_laws.specs.Erasing.{erasing, erasing_symbols}
use Rattle.bn_erase_laws.specs.declared.name.ErasingName.{ErasingName}
use Rattle.bn_erase_laws.specs.declared.name.ErasingName.TheVariants.{First}
use Rattle.bn_erase_laws.proofs.ErasingLemmas.{erasing_has_length, erasing_is_in_range}
use Rattle.bn_erase_laws.proofs.NamesLemmas.{erasing_has_names}
use Rattle.bn_erase.specs.Made.{Erasure, IsErasing, erasure_of}
use Rattle.bn_erase.specs.Numbered.{AreErasing, joint_names, joint_quads, meeting_of}
use Rattle.bn_erase.proofs.EraseLemmas.{are_erasing, final_named}
use Rattle.bn_erase.proofs.MachineLemmas.{few_quads, made_erasing, some_quads}
use Rattle.bn_erase.specs.Existence.{ErasingsAreThere}

module _ (p q : Program) (left : IsStandardMachine p) (right : IsStandardMachine q) (fits : FitsTable p)
    (also : FitsTable q) (same : p.symbols ≡ q.symbols) where
  first : (t : Translation) × IsTranslation p t
  first = there list_is_in_range list_has_length p left fits

  second : (t : Translation) × IsTranslation q t
  second = there list_is_in_range list_has_length q right also

  abbrev t : Translation
  t = first.0

  abbrev u : Translation
  u = second.0

  abbrev names : List ErasingName
  names = joint_names t.names u.names (meeting_of t.machine u.machine).end

  abbrev quads : List Quad
  quads = joint_quads (meeting_of t.machine u.machine) t.machine.rules u.machine.rules

  few_states : t.machine.states + u.machine.states < 2 ^ 32
  few_states =
      let one = list_counts_names p left.machine (each_mentioned p fits) t.names
      (numbers_states _ t.names first.1.names) in
      let two = list_counts_names q right.machine (each_mentioned q also) u.names
      (numbers_states _ u.names second.1.names) in
      omega (arith, first.1.states, second.1.states, fits.states, fits.quints, also.states, also.quints)

  joined : AreErasing p q names quads
  joined = are_erasing p q t u first.1 second.1 (final_named p t left numbers_pass_tests first.1)
      (final_named q u right numbers_pass_tests second.1) left.machine right.machine list_has_names erasing_has_names
      names quads few_states refl refl

  abbrev machine : Quadruples
  machine = quadruples_of (rules_of quads) (length names) (erasing_symbols p q)

  sound : All (IsSound (length names) (erasing_symbols p q)) quads
  sound = sound_listed (name_at (First GoRight) names) (length names) (erasing_symbols p q) (erasing p q) quads
      joined.kept joined.below joined.list (erasing_is_in_range p q left.machine right.machine same)

  valid : IsQuadMachine machine
  valid = kept-machine quads (length names) (erasing_symbols p q) (record {
    some = some_quads p q names quads left.machine right.machine joined erasing_has_length;
    few = few_quads p q names quads left.machine right.machine joined erasing_has_length fits also;
    tapes = refl;
    sound = sound;
  })

  made : IsMadeOf machine quads (length names) (erasing_symbols p q)
  made = record { listed = joined.kept; counted = refl; lettered = refl }

  pub erasing_there : (e : Erasure) × IsErasing p q e
  erasing_there =
      (erasure_of names machine, made_erasing p q names quads left.machine right.machine joined machine made valid)

pub erasings-there : ErasingsAreThere
erasings-there p q left right fits also same = erasing_there p q left right fits also same
