-- The line of an outcome is that of the exit.
use Rattle.std.specs.Prelude.{◌≡◌, ℕ, [], ◌∷◌, ◌++◌, codes, refl}
use Rattle.std.proofs.Common.{ap, ◌∙◌, append_assoc}
use Rattle.bn_machine.specs.Tape.{scanned}
use Rattle.bn_quad.specs.Quadruples.{Configuration}
use Rattle.bn_qtable.specs.Rows.{QuadTable}
use Rattle.bn_bennett_laws.specs.Steps.{Exit, Finished, Stopped, Leaving}
use Rattle.bn_reply_builds.specs.DriveText.{drive_exit_line, name_in}
use Rattle.bn_reply_builds.specs.Outcomes.{outcome_by, outcome_line}

-- the line of an outcome is that of the exit
pub outcome_line_is : (t : QuadTable) (d : Configuration ℕ) (e : Exit)
    → outcome_line t (outcome_by d e) ≡ drive_exit_line t d e
outcome_line_is t d Finished = refl
outcome_line_is t d Stopped =
    let one = name_in t.names.one (scanned d.one) in
    let two = name_in t.names.two (scanned d.two) in
    let three = name_in t.names.three (scanned d.three) in
    ap (λ x. codes "exit stuck " ++ (name_in t.names.states d.state ++ x))
    (append_assoc (codes " " ++ one) ((codes " " ++ two) ++ (codes " " ++ three)) (10 ∷ [])
    ∙ ap (λ x. (codes " " ++ one) ++ x) (append_assoc (codes " " ++ two) (codes " " ++ three) (10 ∷ [])))
outcome_line_is t d (Leaving tape s) = refl
