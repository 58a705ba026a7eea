-- Steps taken back.
use Rattle.std.specs.Prelude.{◌≡◌, ◌+◌, ◌-◌, refl}
use Rattle.std.proofs.Common.{arith, ap, ◌∙◌}
use Rattle.bn_circuits.specs.Circuits.{Goes}
use Rattle.bn_circuits.specs.Stepping.{back, run}
use Rattle.bn_circuits.proofs.RunLemmas.{Reaches-run}
use Rattle.bn_circuits.proofs.RunPartLemmas.{runs_split, runs-undo_in_part}
use Rattle.bn_boards.specs.Laws.{BuildsRunBack}

pub builds-back : BuildsRunBack
builds-back f is s at_start n d e ran j r within =
    let cut = runs_split (Goes f.circuit) (r + j) (ran.cost - (r + j)) ran.cost at_start
    (run f.circuit at_start ran.cost) (omega arith) ran.run_to in
    let there : run f.circuit at_start (r + j) ≡ cut.0 = Reaches-run f.circuit (r + j) at_start cut.0 cut.1 in
    ap (λ c. back f.circuit c j) there
    ∙ runs-undo_in_part f.circuit is.is_board.circuit j r (r + j) at_start cut.0 refl cut.1
