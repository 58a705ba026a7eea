-- The tables that `bennett` and `erase` print are within the limit of an input.
use Rattle.std.specs.Prelude.{ℕ, ◌≤◌, List, length, map, max}
use Rattle.std.proofs.Common.{arith}
use Rattle.std.proofs.lemmas.Nat.{mul-le}
use Rattle.bn_lists.specs.Lists.{IsIn}
use Rattle.bn_machine.specs.Machine.{IsMachine, Program}
use Rattle.bn_quad.specs.Quadruples.{Rule}
use Rattle.bn_qtable.specs.Entry.{SaidQuadruple}
use Rattle.bn_qtable.specs.Rows.{said_deed}
use Rattle.bn_table.specs.Rows.{FitsTable, IsTable, Named}
use Rattle.bn_table.proofs.Bounds.{fits_table}
use Rattle.bn_table.proofs.MachineLemmas.{tables_machines}
use Rattle.bn_bennett.specs.Printed.{bennett_state_text, number_names, one_byte, print_of}
use Rattle.bn_bennett.proofs.Printable.{number_bound}
use Rattle.bn_bennett_laws.specs.List.{bennett}
use Rattle.bn_bennett_laws.specs.Names.{IsNameOf, states_in}
use Rattle.bn_bennett.proofs.Machines.{some_symbols}
use Rattle.bn_bennett_laws.proofs.Counts.{list_has_length, list_has_names}
use Rattle.bn_bennett_laws.proofs.RenamedLemmas.{from_in, to_in}
use Rattle.bn_bennett_laws.specs.declared.name.Name.{Name}
use Rattle.bn_erase_laws.specs.Erasing.{IsErasingName}
use Rattle.bn_erase_laws.proofs.NamesLemmas.{erasing_has_names}
use Rattle.bn_erase_laws.specs.declared.name.ErasingName.{ErasingName}
use Rattle.bn_erase_laws.specs.declared.name.ErasingName.TheVariants.{First, Second}
use Rattle.bn_erase.specs.Joint.{IsJoint, Joint, joined}
use Rattle.bn_erase.specs.Printed.{erasing_text, history_names, letter_names}
use Rattle.bn_reply_erase.specs.EraseReply.{erase_text, erasing_of}
use Rattle.bn_reply_erase.proofs.JudgedLemmas.{joint_of_tables}
use Rattle.bn_reply_machines.specs.BennettReply.{bennett_text}
use Rattle.bn_reply_erase.specs.PrintedSizes.{BennettTextsMayBeRead, EraseTextsMayBeRead}
use Rattle.bn_reply_erase.proofs.PrintedRowLemmas.{AreShortNames, IsShort, act_short, letters_short, lines_short}
use Rattle.bn_reply_erase.proofs.PrintedRowLemmas.{numbers_short}
use Rattle.bn_reply_erase.proofs.PrintedRowLemmas.{printed_short, read_short}

-- a name of a machine as a table has it
name_short : (p : Program) → IsMachine p → FitsTable p → (name : Name) → IsNameOf p name
    → length (bennett_state_text name) ≤ 7
name_short p machine fits name h =
    printed_short (print_of name) (omega (arith, number_bound p name machine h, fits.states, fits.quints))

-- names of at most five bytes are names of at most eight
longer : (names : List (List ℕ)) → AreShortNames 5 names → AreShortNames 8 names
longer names short name h = let low = short name h in omega arith

-- ---- `bennett`

module _ (t : Named) (is : IsTable t) where
  abbrev said_bennett : Rule Name → SaidQuadruple
  said_bennett r = record {
    state = bennett_state_text r.from;
    one = said_deed (map one_byte t.letters) r.one;
    two = said_deed (number_names (length t.machine.quints)) r.two;
    three = said_deed (map one_byte t.letters) r.three;
    next = bennett_state_text r.to;
  }

  machine : IsMachine t.machine
  machine = (tables_machines t is).0

  fits : FitsTable t.machine
  fits = fits_table t is

  history_short : AreShortNames 8 (number_names (length t.machine.quints))
  history_short = longer (number_names (length t.machine.quints))
      (numbers_short (length t.machine.quints) (omega (arith, fits.quints)))

  state_short : (name : Name) → IsIn (states_in (bennett t.machine)) name → length (bennett_state_text name) ≤ 8
  state_short name h =
      let low = name_short t.machine machine fits name ((list_has_names t.machine machine.some name).0 h) in
      omega arith

  bennett_short : (r : Rule Name) → IsIn (bennett t.machine) r → IsShort 8 (said_bennett r)
  bennett_short r h = record {
    state = state_short r.from (from_in (bennett t.machine) r h);
    one_read = read_short 8 (map one_byte t.letters) (omega arith) (letters_short 8 (omega arith) t.letters) r.one;
    two_read = read_short 8 (number_names (length t.machine.quints)) (omega arith) history_short r.two;
    three_read = read_short 8 (map one_byte t.letters) (omega arith) (letters_short 8 (omega arith) t.letters) r.three;
    one_act = act_short 8 (map one_byte t.letters) (omega arith) (letters_short 8 (omega arith) t.letters) r.one;
    two_act = act_short 8 (number_names (length t.machine.quints)) (omega arith) history_short r.two;
    three_act = act_short 8 (map one_byte t.letters) (omega arith) (letters_short 8 (omega arith) t.letters) r.three;
    next = state_short r.to (to_in (bennett t.machine) r h);
  }

  pub bennett_text_short : length (bennett_text t) ≤ 268435456
  bennett_text_short =
      let lines = lines_short said_bennett 8 (bennett t.machine) bennett_short in
      let long = list_has_length t.machine (some_symbols t.machine machine) in
      let few = fits.quints in
      let letters = fits.symbols in
      let rows : length (bennett t.machine) ≤ 16185 = omega arith in
      let all = mul-le 72 (length (bennett t.machine)) 72 16185 (omega arith) rows in
      omega arith

-- ---- `erase`

module _ (j : Joint) (joint : IsJoint j) (few : length (erasing_of j) ≤ 20000) where
  abbrev said_erase : Rule ErasingName → SaidQuadruple
  said_erase r = record {
    state = erasing_text r.from;
    one = said_deed (letter_names j) r.one;
    two = said_deed (history_names j) r.two;
    three = said_deed (letter_names j) r.three;
    next = erasing_text r.to;
  }

  erasing_short : (name : ErasingName) → IsErasingName j.first j.second name → length (erasing_text name) ≤ 8
  erasing_short (First name) h = let low = name_short j.first joint.first_machine joint.first_fits name h in omega arith
  erasing_short (Second name) h =
      let low = name_short j.second joint.second_machine joint.second_fits name h.0 in omega arith

  named_short : (name : ErasingName) → IsIn (states_in (erasing_of j)) name → length (erasing_text name) ≤ 8
  named_short name h =
      erasing_short name ((erasing_has_names j.first j.second joint.first_machine joint.second_machine name).0 h)

  numbers_are_short : AreShortNames 8 (history_names j)
  numbers_are_short =
      let one = joint.first_fits.quints in
      let two = joint.second_fits.quints in
      longer (history_names j) (numbers_short (max (length j.first.quints) (length j.second.quints)) (omega arith))

  erase_short : (r : Rule ErasingName) → IsIn (erasing_of j) r → IsShort 8 (said_erase r)
  erase_short r h = record {
    state = named_short r.from (from_in (erasing_of j) r h);
    one_read = read_short 8 (letter_names j) (omega arith) (letters_short 8 (omega arith) j.letters) r.one;
    two_read = read_short 8 (history_names j) (omega arith) numbers_are_short r.two;
    three_read = read_short 8 (letter_names j) (omega arith) (letters_short 8 (omega arith) j.letters) r.three;
    one_act = act_short 8 (letter_names j) (omega arith) (letters_short 8 (omega arith) j.letters) r.one;
    two_act = act_short 8 (history_names j) (omega arith) numbers_are_short r.two;
    three_act = act_short 8 (letter_names j) (omega arith) (letters_short 8 (omega arith) j.letters) r.three;
    next = named_short r.to (to_in (erasing_of j) r h);
  }

  pub erase_text_short : length (erase_text j) ≤ 268435456
  erase_text_short =
      let lines = lines_short said_erase 8 (erasing_of j) erase_short in
      let all = mul-le 72 (length (erasing_of j)) 72 20000 (omega arith) few in
      omega arith

-- ---- the laws

pub bennett-read : BennettTextsMayBeRead
bennett-read t is = bennett_text_short t is

pub erase-read : EraseTextsMayBeRead
erase-read t u is also few = erase_text_short (joined t u) (joint_of_tables t u is also) few
