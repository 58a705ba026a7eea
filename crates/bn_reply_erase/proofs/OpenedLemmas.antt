-- What comes of the second table is what comes of both, and of an input that is cut so.
use Rattle.std.specs.Prelude.{ℕ, List, Result, Ok, Err, IfOk, refl}
use Rattle.bn_table.specs.Reading.{Reads}
use Rattle.bn_table.specs.Rows.{Named}
use Rattle.bn_base.specs.Cuts.{IsCut}
use Rattle.bn_reply.specs.TableReply as table_reply
use Rattle.bn_lists.specs.declared.memory.NoMemory.{NoMemory as WantOfMemory}
use Rattle.bn_reply_erase.specs.Opened.{AreOpened, IsOpenedPair, IsOpenedSecond}
use Rattle.bn_reply_erase.specs.Pairs as pairs
use Rattle.bn_reply_erase.specs.declared.pair.OpenedPair.{OpenedPair}
use Rattle.bn_reply_erase.specs.declared.pair.OpenedPair.TheVariants as opened

-- the first table is read
pub second_opened : (first second : List ℕ) (t : Named) (result : Result OpenedPair WantOfMemory) → Reads first t
    → IfOk result (IsOpenedSecond t second) →
    IfOk result (AreOpened first second)
second_opened first second t (Ok (opened.Joined j)) reads h = (t, h.0, reads, h.1, h.2)
second_opened first second t (Ok (opened.Refused reply)) reads h =
    table_reply.read t reads (pairs.faulty h.0 h.1 h.2 h.3 refl)
second_opened first second t (Err e) reads h = tt

-- the input is cut
pub cut_opened : (bytes first second : List ℕ) (result : Result OpenedPair WantOfMemory) → IsCut bytes first second
    → IfOk result (AreOpened first second) →
    IfOk result (IsOpenedPair bytes)
cut_opened bytes first second (Ok (opened.Joined j)) is h = (first, second, is, h)
cut_opened bytes first second (Ok (opened.Refused reply)) is h = pairs.cut first second is h
cut_opened bytes first second (Err e) is h = tt
