-- The machine is in standard form.
use Rattle.bn_standardise.specs.Standardised.{numbering_of}
use Rattle.bn_standardise.proofs.FormLemmas.{is_standard}
use Rattle.bn_standardise.proofs.NumberingLemmas.{tells_apart}
use Rattle.bn_standardise.proofs.machine.standardise.Goals as goal

pub returns-clause-standard : goal.returns-clause-standard
returns-clause-standard c = is_standard (numbering_of c.args.machine.now) c.args.machine.now
    c.in_ok-accept.ensures.ok.loose (tells_apart c.args.machine.now)
