-- What a draft with all entries of some bytes comes to.
use Rattle.std.proofs.Common.{◌≡◌, ◌≢◌, ◌<◌, ◌≤◌, ◌∷◌, ◌∙◌, ℕ, List, [], length, refl, sym, ap, subst, arith, Result}
use Rattle.std.proofs.Common.{Ok, Err}
use Rattle.std.specs.Prelude.{IfOk, OnOk}
use Rattle.bn_rsm.specs.Machines.{Machine}
use Rattle.std.proofs.lemmas.List.{length-map}
use Rattle.bn_rsm.specs.Draft.{IsDraft}
use Rattle.bn_csv.specs.Entries.{entries_of}
use Rattle.bn_csv.proofs.FaultLemmas.{no_entry}
use Rattle.bn_rsm.specs.declared.entry.TheConstants.{MOST_ENTRIES}
use Rattle.bn_rsm.specs.Faults as moves
use Rattle.bn_rsm.specs.declared.rsm_move.RsmMove.{RsmMove}
use Rattle.bn_rsm.specs.declared.refusal.RsmRefusal.TheVariants as clash
use Rattle.bn_rsm.specs.Drafted.{drafted, IsTold}
use Rattle.bn_rsm.specs.Entry.{AreReadAs, entries_by, move_entry, lines_named, states_named}
use Rattle.bn_rsm.specs.Reading.{IsMoveTableRefusal, ReadsMoves}
use Rattle.bn_rsm.specs.TableFaults.{move_entry_fault}
use Rattle.bn_rsm.specs.declared.draft.Draft.{Draft}
use Rattle.bn_rsm.specs.declared.table_refusal.RsmTableRefusal.{RsmTableRefusal}
use Rattle.bn_rsm.specs.declared.table_refusal.RsmTableRefusal.TheVariants as refusal

-- all entries are read as the draft's moves
pub come-reads : (entries : List (List (List ℕ))) (d : Draft) → IsDraft d → drafted d ≡ entries
    → length (drafted d) ≤ MOST_ENTRIES → d.moves.items ≢ [] → AreReadAs entries d.moves.items
come-reads entries d h all few some =
    let long : length (drafted d) ≡ length d.moves.items = length-map d.moves.items move_entry in
    let has : 0 < length d.moves.items = not-none d.moves.items some in
    record { rows = all; within = h.within; some = rw (← all) (omega arith); few = rw (← all) few }
  where
    not-none : (ms : List RsmMove) → ms ≢ [] → 0 < length ms
    not-none [] some = absurd (some refl)
    not-none (m ∷ ms) some = omega arith

-- what is told of the draft's moves is a refusal of the bytes
pub come-refused : (bytes : List ℕ) (d : Draft) (e : RsmTableRefusal) → IsDraft d → drafted d ≡ entries_of bytes
    → length (drafted d) ≤ MOST_ENTRIES → IsTold d.moves.items e → IsMoveTableRefusal bytes e
come-refused bytes d (refusal.SameDomain i j) h all few told =
    record { found = d.moves.items; reads = come-reads (entries_of bytes) d h all few (there told); clash = told }
  where
    there : moves.IsMoveRefusal (states_named d.moves.items) (lines_named d.moves.items) d.moves.items
        (clash.SameDomain i j) → d.moves.items ≢ []
    there is empty = let stands = is.stands in let gone = rw empty at stands in cc
come-refused bytes d (refusal.SameRange i j) h all few told =
    record { found = d.moves.items; reads = come-reads (entries_of bytes) d h all few (there told); clash = told }
  where
    there : moves.IsMoveRefusal (states_named d.moves.items) (lines_named d.moves.items) d.moves.items
        (clash.SameRange i j) → d.moves.items ≢ []
    there is empty = let stands = is.stands in let gone = rw empty at stands in cc
come-refused bytes d refusal.NoMemory h all few told = tt
come-refused bytes d refusal.Empty h all few told =
    no_entry refusal.Empty move_entry_fault (entries_of bytes) (sym all ∙ ap entries_by told)
come-refused bytes d (refusal.FieldCount i) h all few told = absurd told
come-refused bytes d (refusal.Number i j) h all few told = absurd told
come-refused bytes d (refusal.TooMany i) h all few told = absurd told

-- a machine with the draft's moves is the bytes' machine
pub come-machine : (bytes : List ℕ) (d : Draft) (r : Result Machine RsmTableRefusal) → IsDraft d
    → drafted d ≡ entries_of bytes → length (drafted d) ≤ MOST_ENTRIES
    → IfOk r (λ m. m.moves ≡ d.moves.items) → IfOk r (λ m. m.states ≡ states_named d.moves.items)
    → IfOk r (λ m. m.lines ≡ lines_named d.moves.items) → OnOk r (d.moves.items ≢ []) → IfOk r (ReadsMoves bytes)
come-machine bytes d (Ok m) h all few moves states lines some =
    record {
      moves = subst (AreReadAs (entries_of bytes)) (sym moves) (come-reads (entries_of bytes) d h all few some);
      states = states ∙ ap states_named (sym moves);
      lines = lines ∙ ap lines_named (sym moves);
    }
come-machine bytes d (Err e) h all few moves states lines some = tt
