use Rattle.bn_column.proofs.CrossingLemmas.{column_crosses, crossed-IsAtRest, crossed-beside}
use Rattle.bn_column.proofs.laws.column_laws.Goals as goal

pub returns : goal.returns
returns _ = record {
  columns_are_crossed = column_crosses;
  crossed_columns_rest = crossed-IsAtRest;
  crossings_stay_within = crossed-beside;
}
