-- Two boards that one machine is built to in one window are alike.
use Rattle.std.specs.Prelude.{◌≡◌, ℕ, List, replicate}
use Rattle.std.proofs.Common.{sym, ap, subst, ◌∙◌}
use Rattle.bn_lists.specs.Runs.{Reaches}
use Rattle.bn_element.specs.Rotary.{rotary}
use Rattle.bn_circuits.specs.Alike.{AreAlike}
use Rattle.bn_circuits.proofs.AlikeLemmas.{sources_one}
use Rattle.bn_machine.specs.Outcome.{Limits}
use Rattle.bn_quad.specs.Quadruples.{Configuration, Quadruples, QuadruplesRunTo, final_state_of}
use Rattle.bn_bennett_laws.specs.Stages.{rooms_of}
use Rattle.bn_bennett_laws.specs.Steps.{EndsAt, Exit}
use Rattle.bn_network.specs.Controls.{ControlState, IsNumbering}
use Rattle.bn_network.specs.Networks.{IsNetwork}
use Rattle.bn_network.specs.Starts.{start_from}
use Rattle.bn_network.proofs.OccurringLemmas.{order_one}
use Rattle.bn_boards.specs.Boards.{board_start, size}
use Rattle.bn_boards.specs.Layouts.{IsLayout}
use Rattle.bn_boards.proofs.LayoutLemmas.{layouts-there}
use Rattle.bn_boards.proofs.NetworkLemmas.{networks-there}
use Rattle.bn_boards.specs.Builds.{Build, start_of}
use Rattle.bn_boards.specs.BuildRuns.{EndsInWindow}
use Rattle.bn_reply_builds.specs.BuildReply.{IsBuiltFor}
use Rattle.bn_reply_builds.proofs.BuiltLemmas.{targets_alike}

module _ (m : Quadruples) (l : Limits) (f g : Build) (h : IsBuiltFor m l f) (k : IsBuiltFor m l g) where
  pub machines : g.machine ≡ f.machine
  machines = k.machine ∙ sym h.machine

  pub limits : g.limits ≡ f.limits
  limits = k.limits ∙ sym h.limits

  pub names : g.names ≡ f.names
  names =
      order_one f.machine g.names f.names
      (subst (λ (q : Quadruples). IsNumbering q g.names) machines k.build.is_network.numbering)
      h.build.is_network.numbering

  pub networks : AreAlike f.network g.network
  networks =
      networks-there.1 f.machine f.limits f.names f.network g.network h.build.is_network.network
      (subst (λ (ns : List ControlState). IsNetwork f.machine f.limits ns g.network) names
      (subst (λ (w : Limits). IsNetwork f.machine w g.names g.network) limits
      (subst (λ (q : Quadruples). IsNetwork q g.limits g.names g.network) machines k.build.is_network.network)))

  pub layouts : f.layout ≡ g.layout
  layouts =
      layouts-there.1 f.machine f.limits f.names f.layout g.layout h.build.is_network.machine
      h.build.is_network.uniform
      h.build.is_network.numbering h.build.is_layout
      (subst (λ (ns : List ControlState). IsLayout f.machine f.limits ns g.layout) names
      (subst (λ (w : Limits). IsLayout f.machine w g.names g.layout) limits
      (subst (λ (q : Quadruples). IsLayout q g.limits g.names g.layout) machines k.build.is_layout)))

  pub circuits : AreAlike f.circuit g.circuit
  circuits =
      let a = h.build.is_board in
      let b = k.build.is_board in
      let targets = targets_alike f.network g.network f.circuit g.circuit networks a b in
      record {
        tables = a.tables ∙ ap (λ ts. replicate (size ts) rotary) networks.tables ∙ sym b.tables;
        targets = targets;
        sources = sources_one f.circuit.wires g.circuit.wires a.circuit.one_to_one b.circuit.one_to_one targets;
      }

  pub starts : (c : Configuration ℕ) → start_of f c ≡ start_of g c
  starts c = λ i. board_start (networks.tables i) (start_from (sym machines i) (sym limits i) c)

  pub ends_as : (c : Configuration ℕ) (n : ℕ) (d : Configuration ℕ) (e : Exit) → EndsInWindow f c n d e
      → EndsInWindow g c n d e
  ends_as c n d e ends = record {
    runs = subst (λ (q : Quadruples). Reaches (QuadruplesRunTo (rooms_of g.limits) q) n c d) (sym machines)
        (subst (λ (w : Limits). Reaches (QuadruplesRunTo (rooms_of w) f.machine) n c d) (sym limits) ends.runs);
    ends = subst (λ (q : Quadruples). EndsAt (rooms_of g.limits) q.rules (final_state_of q.rules) d e) (sym machines)
        (subst (λ (w : Limits). EndsAt (rooms_of w) f.machine.rules (final_state_of f.machine.rules) d e)
        (sym limits) ends.ends);
  }
