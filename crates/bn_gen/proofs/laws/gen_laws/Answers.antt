use Rattle.bn_gen.proofs.LawLemmas.{increments_are_counted}
use Rattle.bn_gen.proofs.MachineLemmas.{standard, fits}
use Rattle.std.proofs.Common.{refl}
use Rattle.bn_gen.proofs.laws.gen_laws.Goals as goal

pub returns : goal.returns
returns _ = record {
  increments_are_counted = increments_are_counted;
  increments_are_standard = standard;
  increments_fit_tables = fits;
  most_increments_are_stated = refl;
}
