-- Lists of quadruples with two tapes exchanged, and two lists that are joined (Bennett 1973). The inverted list is
-- defined in `bn_quad`.
use Rattle.std.specs.Prelude.{◌≡◌, ◌≢◌, List, map}
use Rattle.bn_quad.specs.Quadruples.{Rule, Configuration, Rooms}
use Rattle.bn_lists.specs.Lists.{IsIn}

-- ---- tapes 1 and 3 exchanged

-- the quadruple with its deeds on tapes 1 and 3 exchanged
abbrev pub exchanged_rule : {Q : Type 0} → Rule Q → Rule Q
exchanged_rule r = record { from = r.from; one = r.three; two = r.two; three = r.one; to = r.to }

abbrev pub exchanged_list : {Q : Type 0} → List (Rule Q) → List (Rule Q)
exchanged_list rs = map exchanged_rule rs

-- the configuration with the two tapes exchanged
abbrev pub exchanged_tapes : {Q : Type 0} → Configuration Q → Configuration Q
exchanged_tapes c = record { state = c.state; one = c.three; two = c.two; three = c.one }

-- the rooms of the two tapes, exchanged
abbrev pub exchanged_rooms : Rooms → Rooms
exchanged_rooms rooms = record { one = rooms.three; two = rooms.two; three = rooms.one }

-- ---- two lists joined

-- The first list ends where the second begins, in the state `middle`, and they share no other state that matters. The
-- first list does not leave the middle, and the second does not enter it. No state is left by both lists, and none is
-- entered by both. The second list does not lead into the first; the first leads into the second only through the
-- middle. The first list neither leaves nor enters the second list's final state, and the second list does not enter
-- the first list's initial state.
pub record JoinsAt {Q : Type 0} (middle initial final : Q) (rs ss : List (Rule Q)) : Type 0 where
  pub not_left : (r : Rule Q) → IsIn rs r → r.from ≢ middle
  pub not_entered : (s : Rule Q) → IsIn ss s → s.to ≢ middle
  pub leave_apart : (r s : Rule Q) → IsIn rs r → IsIn ss s → r.from ≢ s.from
  pub enter_apart : (r s : Rule Q) → IsIn rs r → IsIn ss s → r.to ≢ s.to
  pub not_back : (r s : Rule Q) → IsIn rs r → IsIn ss s → s.to ≢ r.from
  pub through : (r s : Rule Q) → IsIn rs r → IsIn ss s → r.to ≡ s.from → r.to ≡ middle
  pub before_final : (r : Rule Q) → IsIn rs r → (r.from ≢ final) × (r.to ≢ final)
  pub after_initial : (s : Rule Q) → IsIn ss s → s.to ≢ initial
