use Rattle.bn_leap.proofs.LeapLemmas.{boundaries-stand, boundaries-rest, boards-leap, stay-under_way, moves-read}
use Rattle.bn_leap.proofs.laws.leap_laws.Goals as goal

pub returns : goal.returns
returns _ = record {
  boundaries_stand = boundaries-stand;
  boundaries_rest = boundaries-rest;
  boards_leap = boards-leap;
  boards_stay_under_way = stay-under_way;
  moves_are_read = moves-read;
}
