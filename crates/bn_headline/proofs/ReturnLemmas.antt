-- Own runs are there and one; and boards run back.
use Rattle.std.specs.Prelude.{◌≡◌, ℕ, ◌+◌, ◌≤◌}
use Rattle.std.proofs.Common.{arith, subst, ◌∙◌, zero-add}
use Rattle.bn_circuits.specs.Stepping.{back, run}
use Rattle.bn_circuits.proofs.RunLemmas.{run-zero}
use Rattle.bn_boards.specs.Flats.{flat_start}
use Rattle.bn_boards.specs.RunLaws.{BoardsEndInTime, BoardsRunBack}
use Rattle.bn_reply_relations.specs.Laws.{GivenBoardsAreAccepted, RunsHaveOneOfEach}
use Rattle.bn_headline.specs.CircuitHeadline.{CircuitHeadline}
use Rattle.bn_headline.specs.CircuitLaws.{HeadlineTellsCircuit}
use Rattle.bn_headline.specs.HeadlineLaws.{BoardsReturn, OwnRunsAreOne}

pub own-runs_are_one : RunsHaveOneOfEach → OwnRunsAreOne
own-runs_are_one ones bytes word l t symbols given fits =
    let each = ones bytes word l t symbols given in
    record {
      steps = each.steps;
      outcome = each.outcome;
      own = record { given = given; fits = fits; outcome = each.comes_out };
      one = λ i o own. each.one_outcome i o own.outcome;
    }

pub boards-return : RunsHaveOneOfEach → GivenBoardsAreAccepted → BoardsEndInTime → BoardsRunBack → BoardsReturn
boards-return ones accept ends backs bytes word l t symbols f given comes =
    let cost = (ones bytes word l t symbols given).cost f comes in
    let accepted = accept bytes word l t symbols f given comes in
    let in_time = ends t.machine symbols l f comes.flat accepted cost.0 cost.1 in
    let all = λ (s r : ℕ) (low : r + s ≤ cost.0). backs t.machine symbols l f comes.flat accepted cost.0 s r cost.1 low
    in
    let from : 0 + cost.0 ≡ cost.0 = zero-add cost.0 in
    record {
      cost = cost.0;
      has_cost = cost.1;
      inside = in_time.inside;
      left = in_time.left;
      backward = λ r s low. all s r low;
      restored = subst (λ n. back f.circuit (run f.circuit (flat_start f) n) cost.0 ≡ flat_start f) from
          (all cost.0 0 (omega arith) ∙ run-zero f.circuit (flat_start f));
    }

pub headline-tells_circuit : BoardsReturn → HeadlineTellsCircuit
unfolding CircuitHeadline
headline-tells_circuit returned words bytes status taken took h short letters l given asks t symbols count i o on = (
  h short letters l given asks t symbols count i o on,
  λ f comes. returned bytes letters l t symbols f on.given comes,
)
