-- The pieces of the text of a run, put together.
use Rattle.std.specs.Prelude.{◌≡◌, ℕ, List, [], ◌++◌, drop, refl}
use Rattle.std.proofs.Common.{sym, ap, ◌∙◌, append_assoc}
use Rattle.bn_circuits.specs.declared.config.Config.{Config}
use Rattle.bn_table.specs.Rows.{Named}
use Rattle.bn_boards.specs.Boards.{size}
use Rattle.bn_boards.specs.declared.exit.Exit.{Exit}
use Rattle.bn_boards.specs.declared.exit.Exit.TheVariants.{Inside, End, Stuck, Window, Unnamed}
use Rattle.bn_boards.specs.declared.spelled.Spelled.{Spelled}
use Rattle.bn_boards.specs.Flats.{Flat}
use Rattle.bn_boards.specs.Layouts.{Layout, spelled_by}
use Rattle.bn_reply_relations.specs.RunText.{elements_line, exit_line, output_from, output_line, quadruple_line}
use Rattle.bn_reply_relations.specs.RunText.{rest_text, run_text, steps_line, tape_lines}
use Rattle.bn_reply.proofs.PieceLemmas.{three_pieces}

-- the lines of what a board shows, and those behind the steps at an end
abbrev pub lines_of : Named → Spelled → List ℕ
lines_of t s = tape_lines t s.one s.two s.three

abbrev pub end_lines : Named → ℕ → Spelled → List ℕ
end_lines t steps s = quadruple_line steps ++ (lines_of t s ++ output_line t (output_from (drop 1 s.three.cells)))

module _ (t : Named) (f : Flat) (d : Config) (steps : ℕ) (b : Layout) (s : Spelled) (layout : f.layout ≡ b)
    (shown : s ≡ spelled_by b d.states) where
  spelled : s ≡ spelled_by f.layout d.states
  spelled = shown ∙ ap (λ x. spelled_by x d.states) (sym layout)

  pub end_rest : (e : Exit) (first last : List ℕ) → e ≡ End → last ≡ first ++ end_lines t steps s
      → last ≡ first ++ rest_text t f d steps e
  end_rest e first last at_end more = more ∙ ap (λ x. first ++ end_lines t steps x) spelled
      ∙ ap (λ x. first ++ rest_text t f d steps x) (sym at_end)

  others : (e : Exit) → (e ≡ End → ⊥) → lines_of t s ≡ rest_text t f d steps e
  others End other = absurd (other refl)
  others Inside other = ap (lines_of t) spelled
  others (Stuck a c) other = ap (lines_of t) spelled
  others (Window n side) other = ap (lines_of t) spelled
  others Unnamed other = ap (lines_of t) spelled

  pub other_rest : (e : Exit) (first last : List ℕ) → (e ≡ End → ⊥) → last ≡ first ++ lines_of t s
      → last ≡ first ++ rest_text t f d steps e
  other_rest e first last other more = more ∙ ap (λ x. first ++ x) (others e other)

-- the whole text
pub run_joined : (t : Named) (f : Flat) (d : Config) (steps : ℕ) (e : Exit) (count : ℕ)
    (start one two three four : List ℕ) → size f.network.tables ≡ count
    → start ≡ [] → one ≡ start ++ elements_line count → two ≡ one ++ exit_line t f d.place e
    → three ≡ two ++ steps_line d.steps
    → four ≡ three ++ rest_text t f d steps e → four ≡ run_text t f d steps e
run_joined t f d steps e count start one two three four elements none first second third fourth =
    fourth ∙ ap (λ x. x ++ rest_text t f d steps e)
    (three_pieces start (elements_line count) (exit_line t f d.place e) (steps_line d.steps) one two three first second
    third)
    ∙ append_assoc start (elements_line count ++ (exit_line t f d.place e ++ steps_line d.steps))
    (rest_text t f d steps e)
    ∙ ap (λ x. x ++ ((elements_line count ++ (exit_line t f d.place e ++ steps_line d.steps))
    ++ rest_text t f d steps e)) none
    ∙ append_assoc (elements_line count) (exit_line t f d.place e ++ steps_line d.steps) (rest_text t f d steps e)
    ∙ ap (λ x. elements_line count ++ x) (append_assoc (exit_line t f d.place e) (steps_line d.steps)
    (rest_text t f d steps e))
    ∙ ap (λ n. elements_line n ++ (exit_line t f d.place e ++ (steps_line d.steps ++ rest_text t f d steps e)))
    (sym elements)
