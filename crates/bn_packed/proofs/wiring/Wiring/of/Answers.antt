use Rattle.std.proofs.Common.{◌≡◌, ◌∙◌, false, ap}
use Rattle.std.proofs.lemmas.Result.{IfOk-weaker}
use Rattle.bn_packed.specs.Ways.{Ways}
use Rattle.bn_packed.specs.Ends.{targets_by, net_of}
use Rattle.bn_packed.proofs.wiring.Wiring.of.Goals as goal

pub returns : goal.returns
returns g c =
    IfOk-weaker c.from_ahead.result (λ (w : Ways). w ≡ record {
      net = net_of (targets_by c.in_ok-ahead_of.field-0);
      goes_back = false;
    }) (λ (w : Ways). w.net ≡ c.args.net.now)
    (λ w equal. ap (λ (v : Ways). v.net) equal ∙ c.in_ok-ahead_of.ensures.net)
    c.from_ahead.ensures.wires
