-- The tables of a machine as they are read, and the answers to refusals, in the code's own terms.
use Rattle.std.specs.Prelude.{ℕ, List}
use Rattle.bn_csv.specs.Entries.{entries_of}
use Rattle.bn_rsm.specs.Entry.{AreReadAs}
use Rattle.bn_rsm.specs.Reading.{ReadsMoves}
use Rattle.bn_rsm.specs.declared.rsm_move.RsmMove.{RsmMove}
use Rattle.bn_reply_circuits.specs.RealiseReply.{TellsClash, TellsRsmFault}
use Rattle.bn_reply_equal.specs.declared.read.ReadTable.{ReadTable}
use Rattle.bn_reply_equal.specs.declared.read.ReadTable.TheVariants.{Faulty, Clashing, Machine as IsMachine}

-- the fault of the text; two moves that overlap in domain or in range, if the text has no fault; or the machine
abbrev pub IsReadTable : List ℕ → ReadTable → Type 0
IsReadTable bytes (Faulty text) = TellsRsmFault bytes text.items
IsReadTable bytes (Clashing text) =
    TellsClash bytes text.items × ((ms : List RsmMove) × AreReadAs (entries_of bytes) ms)
IsReadTable bytes (IsMachine m) = ReadsMoves bytes m
