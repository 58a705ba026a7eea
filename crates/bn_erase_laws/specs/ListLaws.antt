-- The statements of this crate's laws, each a field of `Laws`. The states are names here; the lemmas hold for states
-- of any type.
use Rattle.std.specs.Prelude.{◌≡◌, ◌↔◌, ℕ, ◌+◌, List, ◌++◌}
use Rattle.bn_lists.specs.Runs.{Reaches}
use Rattle.bn_quad.specs.Quadruples.{Rule, Configuration, turned_list, Rooms, AreAllowed}
use Rattle.bn_quad.specs.Overlap.{IsDeterministic, IsReversible}
use Rattle.bn_lists.specs.Lists.{IsIn}
use Rattle.bn_bennett_laws.specs.Names.{IsUniformFrom}
use Rattle.bn_bennett_laws.specs.Steps.{Steps}
use Rattle.bn_bennett_laws.specs.declared.name.Name.{Name}
use Rattle.bn_erase_laws.specs.Lists.{exchanged_list, exchanged_tapes, exchanged_rooms, JoinsAt}

-- ---- inverted lists

-- the inverted list is deterministic if the list is reversible, reversible if the list is deterministic, and uniform
-- from b to a if the list is uniform from a to b
abbrev pub TurnedListsPassTests : Type 0
TurnedListsPassTests =
    (rs : List (Rule Name))
    → (IsDeterministic (turned_list rs) ↔ IsReversible rs)
    × (IsReversible (turned_list rs) ↔ IsDeterministic rs)
    × ((initial final : Name) → IsUniformFrom final initial (turned_list rs) ↔ IsUniformFrom initial final rs)

-- a run of a uniform list, from its initial to its final state or between others, is a run of the inverted list,
-- backward
abbrev pub TurnedListsRunBack : Type 0
TurnedListsRunBack =
    (rs : List (Rule Name)) (initial final : Name) → IsUniformFrom initial final rs
    → (rooms : Rooms) (n : ℕ) (c d : Configuration Name) → AreAllowed rooms c → AreAllowed rooms d
    → Reaches (Steps rooms rs final) n c d ↔ Reaches (Steps rooms (turned_list rs) initial) n d c

-- ---- tapes exchanged

-- the tests do not depend on the order of the tapes
abbrev pub ExchangedListsPassTests : Type 0
ExchangedListsPassTests =
    (rs : List (Rule Name))
    → (IsDeterministic (exchanged_list rs) ↔ IsDeterministic rs)
    × (IsReversible (exchanged_list rs) ↔ IsReversible rs)
    × ((initial final : Name) → IsUniformFrom initial final (exchanged_list rs) ↔ IsUniformFrom initial final rs)

-- runs are the same with the tapes exchanged
abbrev pub ExchangedListsRun : Type 0
ExchangedListsRun =
    (rs : List (Rule Name)) (final : Name) (rooms : Rooms) (n : ℕ) (c d : Configuration Name)
    → Reaches (Steps rooms rs final) n c d
    ↔ Reaches (Steps (exchanged_rooms rooms) (exchanged_list rs) final) n (exchanged_tapes c) (exchanged_tapes d)

-- ---- two lists joined

-- two lists that are joined pass the tests as one list, if each of the two passes them
abbrev pub JoinedListsPassTests : Type 0
JoinedListsPassTests =
    (middle initial final : Name) (rs ss : List (Rule Name)) → JoinsAt middle initial final rs ss
    → (IsDeterministic rs → IsDeterministic ss → IsDeterministic (rs ++ ss))
    × (IsReversible rs → IsReversible ss → IsReversible (rs ++ ss))
    × (IsUniformFrom initial middle rs → IsUniformFrom middle final ss → IsUniformFrom initial final (rs ++ ss))

-- a run of the first list followed by a run of the second is a run of the joint list
abbrev pub JoinedListsRun : Type 0
JoinedListsRun =
    (middle initial final : Name) (rs ss : List (Rule Name)) → JoinsAt middle initial final rs ss
    → (rooms : Rooms) (m n : ℕ) (c d e : Configuration Name)
    → Reaches (Steps rooms rs middle) m c d → Reaches (Steps rooms ss final) n d e
    → Reaches (Steps rooms (rs ++ ss) final) (m + n) c e

-- i steps of the first list lead to the middle, and j further steps of the second lead to e; n is i + j
pub record HasHalves {Q : Type 0} (middle final : Q) (rs ss : List (Rule Q)) (rooms : Rooms) (n : ℕ)
    (c e : Configuration Q) : Type 0 where
  pub i : ℕ
  pub j : ℕ
  pub meeting : Configuration Q
  pub sum : n ≡ i + j
  pub meets : meeting.state ≡ middle
  pub first : Reaches (Steps rooms rs middle) i c meeting
  pub second : Reaches (Steps rooms ss final) j meeting e

-- a run of the joint list from the initial to the final state, if some quadruple of the first list leaves the initial
-- state, is a run of the first list to the middle followed by a run of the second
abbrev pub JoinedListsHaveRun : Type 0
JoinedListsHaveRun =
    (middle initial final : Name) (rs ss : List (Rule Name)) → JoinsAt middle initial final rs ss
    → (r : Rule Name) → IsIn rs r → r.from ≡ initial
    → (rooms : Rooms) (n : ℕ) (c e : Configuration Name) → c.state ≡ initial
    → Reaches (Steps rooms (rs ++ ss) final) n c e → e.state ≡ final → HasHalves middle final rs ss rooms n c e
