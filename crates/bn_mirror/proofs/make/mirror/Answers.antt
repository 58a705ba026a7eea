use Rattle.std.proofs.Common.{refl, sym, subst, ◌∙◌, List}
use Rattle.bn_circuits.specs.declared.line.Wire.{Wire}
use Rattle.bn_circuits.specs.Wirings.{AreFitting, AreWiresOf}
use Rattle.bn_mirror.specs.Listing.{IsMirroredWire}
use Rattle.bn_mirror.proofs.ListingLemmas.{listed_fitting}
use Rattle.bn_mirror.proofs.MadeLemmas.{is_admitted, is_mirror, spelled_place}
use Rattle.bn_mirror.proofs.make.mirror.Goals as goal

pub rotary_net-requires-clause-fitting : goal.rotary_net-requires-clause-fitting
rotary_net-requires-clause-fitting c =
    subst (λ n. AreFitting n c.as_slice.result.now) (sym c.len.ensures.number)
    (listed_fitting c.args.config.now.net c.len.ensures.circuit c.as_slice.result.now
    (subst (λ (ws : List Wire). AreWiresOf (IsMirroredWire c.args.config.now.net.wires) ws)
    (sym c.as_slice.ensures.value) c.in_ok-wires.ensures.wires))

pub mirrored_place-requires : goal.mirrored_place-requires
mirrored_place-requires c = spelled_place c.args.config.now.version c.args.config.now c.requires

pub returns-clause-mirrored : goal.returns-clause-mirrored
returns-clause-mirrored c =
    is_mirror c.args.config.now
    (record {
      version = c.args.config.now.version;
      net = c.in_ok-net.net;
      config = record { states = c.new.result; place = c.mirrored_place.result; steps = 0 };
      start = c.mirrored_line.result;
      end = c.mirrored_line-2.result;
    })
    c.as_slice.result.now c.len.result c.len.ensures.circuit c.in_ok-net.ensures.circuit c.len.ensures.number
    (subst (λ (ws : List Wire). AreWiresOf (IsMirroredWire c.args.config.now.net.wires) ws)
    (sym c.as_slice.ensures.value) c.in_ok-wires.ensures.wires)
    c.in_ok-net.ensures.net (c.new.ensures ∙ c.in_ok-states.ensures.items ∙ c.as_slice-2.ensures)
    c.mirrored_place.ensures refl c.mirrored_line.ensures c.mirrored_line-2.ensures

pub returns-clause-admitted : goal.returns-clause-admitted
returns-clause-admitted c =
    is_admitted c.args.config.now.version c.args.config.now
    (record {
      version = c.args.config.now.version;
      net = c.in_ok-net.net;
      config = record { states = c.new.result; place = c.mirrored_place.result; steps = 0 };
      start = c.mirrored_line.result;
      end = c.mirrored_line-2.result;
    })
    c.requires
    (is_mirror c.args.config.now
    (record {
      version = c.args.config.now.version;
      net = c.in_ok-net.net;
      config = record { states = c.new.result; place = c.mirrored_place.result; steps = 0 };
      start = c.mirrored_line.result;
      end = c.mirrored_line-2.result;
    })
    c.as_slice.result.now c.len.result c.len.ensures.circuit c.in_ok-net.ensures.circuit c.len.ensures.number
    (subst (λ (ws : List Wire). AreWiresOf (IsMirroredWire c.args.config.now.net.wires) ws)
    (sym c.as_slice.ensures.value) c.in_ok-wires.ensures.wires)
    c.in_ok-net.ensures.net (c.new.ensures ∙ c.in_ok-states.ensures.items ∙ c.as_slice-2.ensures)
    c.mirrored_place.ensures refl c.mirrored_line.ensures c.mirrored_line-2.ensures)
