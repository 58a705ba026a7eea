-- The headline of `generate`.
use Rattle.std.specs.Prelude.{ℕ, ◌+◌, ◌*◌, ◌≤◌, refl}
use Rattle.std.proofs.Common.{arith, subst}
use Rattle.bn_machine.specs.Outcome.{Halted}
use Rattle.bn_circuits.specs.declared.net.TheConstants.{MOST_ELEMENTS}
use Rattle.bn_table.specs.Laws.{TablesAreMachines}
use Rattle.bn_gen.specs.Increments.{IsRoundCount, incrementer}
use Rattle.bn_gen.specs.Text.{increments_table, increments_text}
use Rattle.bn_boards.specs.RunLaws.{CostsAreOne}
use Rattle.bn_reply_boards.specs.GenerateReply.{number, window}
use Rattle.bn_reply_boards.specs.GenerateLaws.{GeneratedTablesAreGiven}
use Rattle.bn_reply_relations.specs.Laws.{BoardsAreCounted, RunsHaveOneOfEach}
use Rattle.bn_headline.specs.Elements.{elements}
use Rattle.bn_headline.specs.Generated.{binary}
use Rattle.bn_headline.specs.MachineHeadline.{IsOwnRun}
use Rattle.bn_headline.specs.HeadlineLaws.{ElementsAreCounted, GeneratedTellsMachine, IncrementsAreCounted}
use Rattle.bn_headline.specs.HeadlineLaws.{IncrementsRun}
use Rattle.bn_headline.proofs.HeadlineLemmas as headline
use Rattle.bn_headline.proofs.WalkLemmas.{increments-halt}
use Rattle.bn_gen.proofs.Cases.{by_cases}

pub increments-counted : IncrementsAreCounted
increments-counted = (refl, refl, refl, refl)

few : (k : ℕ) → IsRoundCount k → elements (incrementer k) (window k) ≤ MOST_ELEMENTS
few = by_cases (λ k. elements (incrementer k) (window k) ≤ MOST_ELEMENTS) (omega arith) (omega arith) (omega arith)
    (omega arith)

own_run : GeneratedTablesAreGiven → (k : ℕ) → IsRoundCount k →
    IsOwnRun (increments_text k) number (window k) (increments_table k) (binary 11) (10 * k + 1)
    (Halted (binary (11 + k)))
own_run given k h = record { given = given k h; fits = omega arith; outcome = increments-halt k h }

pub increments-run : GeneratedTablesAreGiven → IncrementsRun
increments-run given k h = record { own = own_run given k h; few = few k h; quadruple_steps = omega arith }

pub generated-tells : TablesAreMachines → ElementsAreCounted → BoardsAreCounted → RunsHaveOneOfEach → CostsAreOne
    → GeneratedTablesAreGiven →
    GeneratedTellsMachine
generated-tells machines elements_are counted ones one_cost given k status text taken took h tells grows =
    let bytes = increments_text k in
    let l = window k in
    let t = increments_table k in
    let i = 10 * k + 1 in
    let o = Halted (binary (11 + k)) in
    let own = own_run given k h in
    let on = headline.on_board machines elements_are counted ones one_cost bytes number l t (binary 11) i o own
    (few k h) in
    let count = headline.count machines elements_are counted ones one_cost bytes number l t (binary 11) i o own in
    let flat = (ones bytes number l t (binary 11) own.given).board own.fits on.few in
    let f = flat.0 in
    let told = tells.tells count i o on f flat.1 in
    record {
      cost = told.cost;
      above = headline.least machines elements_are counted ones one_cost bytes number l t (binary 11) i o own f flat.1
          told.cost told.has_cost
          (tells.runs count i o on f flat.1);
      below = subst (λ m. told.cost ≤ m) (headline.bound_is machines elements_are counted ones one_cost bytes number l t
          (binary 11) i o own f flat.1)
          told.bounded;
      text = text;
      told = record {
        ran = tells.ran;
        text_is = tells.text_is;
        tells = headline.exit_told machines elements_are counted ones one_cost bytes number l t (binary 11) i o own f
            flat.1 status tells.ran (tells.runs count i o on f flat.1) told;
      };
      grows = grows;
    }
