use Rattle.bn_netlist_laws.proofs.ColumnLemmas.{rows-agree, columns-are-found}
use Rattle.bn_netlist_laws.proofs.DecideLemmas.{texts-spell-or-fault}
use Rattle.bn_netlist_laws.proofs.EntryLemmas.{has-text, same-have-one-text}
use Rattle.bn_netlist_laws.proofs.SentenceLemmas.{lines-are-short}
use Rattle.bn_netlist_laws.proofs.TextLemmas.{spellings-agree, texts-end, faulty_texts-spell-nothing, faults-agree}
use Rattle.bn_netlist_laws.proofs.VersionLemmas.{admission-rises, spellings-move, spelled-alike}
use Rattle.std.proofs.Common.{refl}
use Rattle.bn_netlist_laws.proofs.laws.netlist_text_laws.Goals as goal

pub returns : goal.returns
returns _ = record {
  one_number_of_rows = rows-agree;
  columns_are_found = columns-are-found;
  each_configuration_has_a_text = has-text;
  one_text_a_configuration = same-have-one-text;
  one_configuration_a_text = spellings-agree;
  texts_end = texts-end;
  faulty_texts_spell_nothing = faulty_texts-spell-nothing;
  one_first_fault = faults-agree;
  each_text_spells_or_has_a_fault = texts-spell-or-fault;
  lines_are_short = lines-are-short;
  admission_rises = admission-rises;
  spellings_move = spellings-move;
  spelled_alike = spelled-alike;
  most_elements_in_one_are_stated = refl;
}
