-- The laws of this crate, each a named field. `Laws` is the contract of `netlist_laws`.
use Rattle.bn_netlist.specs.LineReading.{RefusedLinesRefuse, RestsAreMalformed, LinesBehindAreMalformed, LinesAreRead}
use Rattle.bn_netlist.specs.LineReading.{OtherLinesAreNot, LongLinesAreNot}
use Rattle.bn_netlist.specs.NetText.{CircuitsAgree}
use Rattle.bn_netlist.specs.declared.front.TheConstants.{LONGEST_LINE}
use Rattle.std.specs.Prelude.{◌≡◌}

pub record Laws : Type 0 where
  -- The circuit of a net of rotary elements is the circuit that its text spells.
  pub circuits_agree : CircuitsAgree
  -- A refused line refuses every text that continues it. A rest without a byte 10, and bytes after the last line, are
  -- malformed.
  pub lines_refuse_texts : RefusedLinesRefuse × RestsAreMalformed × LinesBehindAreMalformed
  -- A line is one that may come next exactly if parsing it returns contents, and no line longer than 111 bytes is.
  pub lines_are_read : LinesAreRead × OtherLinesAreNot × LongLinesAreNot
  -- At most 128 bytes of a line that arrives in pieces are stored.
  pub longest_line_is_stated : LONGEST_LINE ≡ 128
