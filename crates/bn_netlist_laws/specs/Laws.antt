-- The laws of this crate, each a named field. `Laws` is the contract of `netlist_text_laws`.
use Rattle.bn_netlist_laws.specs.Columns.{RowsAgree, ColumnsAreFound}
use Rattle.bn_netlist_laws.specs.Faults.{FaultyTextsSpellNothing, FaultsAgree, TextsSpellOrFault, LinesAreShort}
use Rattle.bn_netlist_laws.specs.Spelling.{HasText, SameHaveOneText, SpellingsAgree, TextsEnd, AdmissionRises}
use Rattle.bn_netlist_laws.specs.Spelling.{SpellingsMove, SpelledAlike}
use Rattle.bn_netlist_laws.specs.declared.version.TheConstants.{MOST_ELEMENTS_IN_ONE}
use Rattle.std.specs.Prelude.{◌≡◌, ◌^◌}

pub record Laws : Type 0 where
  -- A column that begins at an element has one number of rows.
  pub one_number_of_rows : RowsAgree
  -- The function `column_at` returns a number of rows exactly if a column of that many rows begins at the element.
  pub columns_are_found : ColumnsAreFound
  -- Each configuration that a version admits has a text in that version.
  pub each_configuration_has_a_text : HasText
  -- A configuration has at most one text in a version, for every order of the list of its wires.
  pub one_text_a_configuration : SameHaveOneText
  -- Each text spells at most one configuration, in at most one version.
  pub one_configuration_a_text : SpellingsAgree
  -- No text of a configuration is a proper prefix of another, whatever their versions.
  pub texts_end : TextsEnd
  -- A text with a first fault spells no configuration.
  pub faulty_texts_spell_nothing : FaultyTextsSpellNothing
  -- A text has at most one first fault: one line, and one fault there.
  pub one_first_fault : FaultsAgree
  -- Each text either spells a configuration or has a first fault.
  pub each_text_spells_or_has_a_fault : TextsSpellOrFault
  -- A well-formed line is at most 111 bytes long, without its byte 10.
  pub lines_are_short : LinesAreShort
  -- What version 1 admits, version 2 admits.
  pub admission_rises : AdmissionRises
  -- If a version admits a circuit in one configuration, it admits the circuit in each of its configurations.
  pub spellings_move : SpellingsMove
  -- A text that spells a configuration spells it for every order of the list of wires.
  pub spelled_alike : SpelledAlike
  -- `MOST_ELEMENTS_IN_ONE`, the limit of a text of version 1, is 2^20.
  pub most_elements_in_one_are_stated : MOST_ELEMENTS_IN_ONE ≡ 2 ^ 20
