use Rattle.bn_base.proofs.CutLemmas.{cuts-one, cuts-never_both}
use Rattle.bn_base.proofs.CutOrNot.{cut_or_not}
use Rattle.bn_base.proofs.LineLemmas.{lines-agree, cut-lines-differ}
use Rattle.bn_base.proofs.NumberLemmas.{read_number-takes, read_number-again, decimal-once}
use Rattle.std.proofs.Common.{refl}
use Rattle.bn_base.proofs.laws.base_laws.Goals as goal

pub returns : goal.returns
returns _ = record {
  inputs_are_cut_once = (cuts-one, cuts-never_both, cut_or_not);
  most_count_is_stated = refl;
  one_cut = (lines-agree, cut-lines-differ);
  one_spelling = (read_number-takes, read_number-again, decimal-once);
}
