-- The pieces of the text of a drive, put together.
use Rattle.std.specs.Prelude.{◌≡◌, ℕ, List, [], ◌++◌}
use Rattle.std.proofs.Common.{sym, ap, ◌∙◌, append_assoc}
use Rattle.bn_circuits.specs.declared.config.Config.{Config}
use Rattle.bn_qtable.specs.Rows.{QuadTable}
use Rattle.bn_boards.specs.declared.spelled.Spelled.{Spelled}
use Rattle.bn_boards.specs.Layouts.{spelled_by}
use Rattle.bn_reply_relations.specs.RunText.{elements_line, quadruple_line, steps_line}
use Rattle.bn_boards.specs.Builds.{Build, build_elements}
use Rattle.bn_reply_builds.specs.DriveText.{drive_text}
use Rattle.bn_reply_builds.specs.declared.outcome.Outcome.{Outcome}
use Rattle.bn_reply_builds.specs.Outcomes.{drive_tape_lines, outcome_line}

five_pieces : (a b c d e start one two three four five : List ℕ) → start ≡ [] → one ≡ start ++ a → two ≡ one ++ b
    → three ≡ two ++ c → four ≡ three ++ d
    → five ≡ four ++ e → five ≡ a ++ (b ++ (c ++ (d ++ e)))
five_pieces a b c d e start one two three four five none first second third fourth fifth =
    fifth ∙ ap (λ x. x ++ e) fourth ∙ append_assoc three d e ∙ ap (λ x. x ++ (d ++ e)) third
    ∙ append_assoc two c (d ++ e)
    ∙ ap (λ x. x ++ (c ++ (d ++ e))) second ∙ append_assoc one b (c ++ (d ++ e))
    ∙ ap (λ x. x ++ (b ++ (c ++ (d ++ e)))) first
    ∙ append_assoc start a (b ++ (c ++ (d ++ e))) ∙ ap (λ x. x ++ (a ++ (b ++ (c ++ (d ++ e))))) none

pub drive_joined : (t : QuadTable) (f : Build) (o : Outcome) (n : ℕ) (d : Config) (shown : Spelled) (count : ℕ)
    (start one two three four five : List ℕ)
    → build_elements f ≡ count → shown ≡ spelled_by f.layout d.states → start ≡ []
    → one ≡ start ++ elements_line count → two ≡ one ++ outcome_line t o
    → three ≡ two ++ steps_line d.steps → four ≡ three ++ quadruple_line n → five ≡ four ++ drive_tape_lines t shown
    → five ≡ drive_text t f (outcome_line t o) n d
drive_joined t f o n d shown count start one two three four five elements spelled none first second third fourth fifth =
    five_pieces (elements_line count) (outcome_line t o) (steps_line d.steps) (quadruple_line n)
    (drive_tape_lines t shown) start one two three four five none
    first second third fourth fifth
    ∙ (λ i. elements_line (sym elements i) ++
    (outcome_line t o ++ (steps_line d.steps ++ (quadruple_line n ++ drive_tape_lines t (spelled i)))))
