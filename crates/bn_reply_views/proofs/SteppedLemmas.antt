-- The view of a board and `step` on its compiled text show one place.
use Rattle.std.specs.Prelude.{◌≡◌, ℕ, List, ◌++◌, replicate, Option, Some, None, refl}
use Rattle.std.proofs.Common.{sym, ap, subst, ◌∙◌}
use Rattle.bn_circuits.specs.Alike.{AreAlike}
use Rattle.bn_circuits.specs.Circuits.{IsCircuit, source, target}
use Rattle.bn_circuits.specs.Stepping.{places, run}
use Rattle.bn_circuits.specs.declared.line.Line.{Line}
use Rattle.bn_circuits.specs.declared.config.Config.{Config}
use Rattle.bn_circuits.proofs.AlikeLemmas.{run-alike}
use Rattle.bn_circuits.proofs.RunLemmas.{Reaches-IsConfig, run_makes}
use Rattle.bn_element.specs.Rotary.{rotary}
use Rattle.bn_machine.specs.Machine.{Program}
use Rattle.bn_machine.specs.Outcome.{Limits}
use Rattle.bn_netlist_laws.proofs.VersionLemmas.{spellings-move}
use Rattle.bn_netlist_laws.specs.Spelling.{Spelling, Spelled, circuit_of, moved_to}
use Rattle.bn_netlist_laws.specs.declared.version.Version.TheVariants.{Two}
use Rattle.bn_netlist_laws.proofs.EntryLemmas.{has-text}
use Rattle.bn_table.specs.Laws.{TablesAreMachines}
use Rattle.bn_table.specs.Rows.{Named}
use Rattle.bn_boards.specs.Flats.{Flat, IsFlatOf}
use Rattle.bn_boards.specs.LayoutLaws.{FlatsAreOne}
use Rattle.bn_reply_relations.specs.CircuitReply.{CircuitIsSettled, walked}
use Rattle.bn_reply.specs.TableReply.{WordReplies}
use Rattle.bn_reply.specs.declared.status.Status.TheVariants.{Done}
use Rattle.bn_reply.proofs.SettledLemmas.{standard_tells, word_tells}
use Rattle.bn_reply.proofs.TableLemmas.{reads_table}
use Rattle.bn_reply_relations.specs.CompileReply.{IsFlatSpelling}
use Rattle.bn_reply_relations.specs.RunReply.{board_after}
use Rattle.bn_reply_relations.specs.Windows.{BoardReplies, board, large, long}
use Rattle.bn_reply_relations.proofs.CompileLemmas.{IsCompiled, compiled}
use Rattle.bn_reply_relations.proofs.SpelledLemmas.{target_of}
use Rattle.bn_reply_relations.proofs.TellingLemmas.{after_same}
use Rattle.bn_reply_relations.proofs.WindowLemmas.{standard_machine}
use Rattle.bn_reply_views.specs.ViewLaws.{ViewsShowSteps}
use Rattle.bn_reply_views.specs.ViewReply.{TellsView}
use Rattle.bn_reply_views.specs.ViewText.{element_line, machine_line, module_line, state_line}
use Rattle.bn_view.specs.declared.layers.Layers.{Layers}
use Rattle.bn_bennett.specs.Translation.{name_of}
use Rattle.bn_bennett_laws.specs.List.{symbols_of}
use Rattle.bn_reply_relations.specs.RunText.{exit_line, tape_lines}

-- ---- one circuit

one_option : (x y : Option Line) → ((l : Line) → x ≡ Some l → y ≡ Some l) → ((l : Line) → y ≡ Some l → x ≡ Some l)
    → x ≡ y
one_option None None forth back = refl
one_option None (Some l) forth back = back l refl
one_option (Some l) y forth back = sym (forth l refl)

-- a spelled board runs as the board does
module _ (p : Program) (symbols : List ℕ) (l : Limits) (f : Flat) (flat : IsFlatOf p symbols l f) (s : Spelling)
    (is : IsFlatSpelling f s) (circuit : IsCircuit (circuit_of s)) where
  alike : AreAlike (circuit_of s) f.circuit
  alike = record {
    tables = ap (λ n. replicate n rotary) is.elements ∙ sym flat.is_board.tables;
    targets = targets;
    sources = λ to. one_option (source s.wires to) (source f.circuit.wires to)
        (λ from h. (flat.is_board.circuit.one_to_one from to).0 (sym (targets from) ∙ (circuit.one_to_one from to).1 h))
        (λ from h. (circuit.one_to_one from to).0 (targets from ∙ (flat.is_board.circuit.one_to_one from to).1 h));
  }
    where
      targets : (from : Line) → target s.wires from ≡ target f.circuit.wires from
      targets = target_of f p symbols l flat s is

  pub runs_as : (n : ℕ) → run (circuit_of s) s.config n ≡ board_after f n
  runs_as n = run-alike (circuit_of s) f.circuit alike s.config n ∙ ap (λ c. run f.circuit c n) is.config

-- ---- the law

-- the lines of a view behind the first
abbrev pub rest_of : Named → Flat → Layers → List ℕ
rest_of t f v =
    module_line (symbols_of t.machine) (exit_line t f v.place v.exit) v.module
    ++ (state_line (name_of f.translation v.state)
    ++ (tape_lines t v.tapes.one v.tapes.two v.tapes.three ++ machine_line t v.stage v.machine v.machine_step))

pub views-show_steps : TablesAreMachines → FlatsAreOne → CircuitIsSettled → ViewsShowSteps
views-show_steps machines ones settled bytes word l steps text stepped status told heard compiles step seen none views =
    by_board (word_tells (BoardReplies (TellsView steps t) t.machine l) t (reads_table bytes t h.reads.reads) word
    h.symbols Done seen none h.spells
    (standard_tells (λ u. WordReplies (BoardReplies (TellsView steps u) u.machine l) u word) bytes t Done seen none
    h.reads views))
  where
    h : IsCompiled bytes word l text
    h = compiled bytes word l text told compiles

    t : Named
    t = h.table

    s : Spelling
    s = h.tells

    c : Config
    c = run (circuit_of s) s.config steps

    there : Spelled Two (moved_to s c) stepped
    there =
        let made = run_makes (circuit_of s) s.config steps in
        let admitted = h.is_text.admitted in
        let moved = has-text Two (moved_to s c) (spellings-move Two s c admitted
        (Reaches-IsConfig (circuit_of s) admitted.circuit made.made s.config c admitted.config made.reaches)) in
        let same : stepped ≡ moved.0 = ((settled steps text).0.one status Done stepped moved.0 heard
        (places (circuit_of s) steps s.config) step
        (walked (record { version = Two; spelling = s; spelled = h.is_text; written = moved.1.is_text; places = refl })
        refl)).texts in
        subst (Spelled Two (moved_to s c)) (sym same) moved.1

    by_board : BoardReplies (TellsView steps t) t.machine l h.symbols Done seen none
        → (u : Spelling) × Spelled Two u stepped × ((rest : List ℕ)
        × (seen ≡ element_line u.config.place u.config.steps ++ rest))
    by_board (long far k e n) = absurd (cc)
    by_board (large fits count counts great k e n) = absurd (cc)
    by_board (board g comes tells) =
        let same = ones t.machine h.symbols l h.flat g (standard_machine machines bytes t h.reads).0 h.comes.flat
        comes.flat in
        let config : c ≡ board_after g steps = runs_as t.machine h.symbols l h.flat h.comes.flat s h.board_is
        h.is_text.admitted.circuit steps
        ∙ after_same h.flat g same (h.comes.flat.limits_are ∙ sym comes.flat.limits_are) steps in
        let place = tells.is_view.board.place ∙ ap (λ (x : Config). x.place) (sym config) in
        let made = tells.is_view.board.steps ∙ ap (λ (x : Config). x.steps) (sym config) in (
          moved_to s c,
          there,
          (
            rest_of t g tells.view,
            tells.text_is ∙ (λ i. element_line (place i) (made i) ++ rest_of t g tells.view),
          ),
        )
