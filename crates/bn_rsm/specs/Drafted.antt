-- The entries that a draft of moves represents.
use Rattle.std.specs.Prelude.{◌≡◌, ℕ, List, [], ⊤}
use Rattle.bn_rsm.specs.Faults as moves
use Rattle.bn_rsm.specs.declared.rsm_move.RsmMove.{RsmMove}
use Rattle.bn_rsm.specs.declared.refusal.RsmRefusal.TheVariants as clash
use Rattle.bn_rsm.specs.Entry.{entries_by, states_named, lines_named}
use Rattle.bn_rsm.specs.declared.draft.Draft.{Draft}
use Rattle.bn_rsm.specs.declared.table_refusal.RsmTableRefusal.{RsmTableRefusal}
use Rattle.bn_rsm.specs.declared.table_refusal.RsmTableRefusal.TheVariants as refusal

-- the entries of a draft
abbrev pub drafted : Draft → List (List (List ℕ))
drafted d = entries_by d.moves.items

-- what a refusal asserts about moves that do not form a machine; out of memory asserts nothing
abbrev pub IsTold : List RsmMove → RsmTableRefusal → Type 0
IsTold ms (refusal.SameDomain i j) = moves.IsMoveRefusal (states_named ms) (lines_named ms) ms (clash.SameDomain i j)
IsTold ms (refusal.SameRange i j) = moves.IsMoveRefusal (states_named ms) (lines_named ms) ms (clash.SameRange i j)
IsTold ms refusal.NoMemory = ⊤
IsTold ms refusal.Empty = ms ≡ []
IsTold ms (refusal.FieldCount i) = ⊥
IsTold ms (refusal.Number i j) = ⊥
IsTold ms (refusal.TooMany i) = ⊥
