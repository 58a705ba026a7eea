-- One line after another.
use Rattle.std.proofs.Common.{◌≡◌, ◌∙◌, ◌≤◌, sym, List, ℕ, ap, length, refl, take}
use Rattle.std.proofs.lemmas.Result.{IfOk-weaker}
use Rattle.bn_csv.specs.Lines.{lines_of}
use Rattle.bn_csv.proofs.LinesLemmas.{lines_of-all, lines_of-more, lines_of-nil}
use Rattle.bn_rsm.specs.declared.rsm_move.RsmMove.{RsmMove}
use Rattle.bn_rsm.specs.Entry.{entries_by, move_entry}
use Rattle.bn_rsm.proofs.text.write_moves.Goals as goal

abbrev no_step : RsmMove
no_step = record { state = 0; line = 0; next = 0; out = 0 }

whole : (ms all : List RsmMove) (i : ℕ) (text : List ℕ) → all ≡ ms → length all ≤ i
    → text ≡ lines_of (entries_by (take i all)) → text ≡ lines_of (entries_by ms)
whole ms all i text same end is = lines_of-all move_entry all i text end is
    ∙ ap (λ (xs : List RsmMove). lines_of (entries_by xs)) same

pub loop-step-init : goal.loop-step-init
loop-step-init c = c.new-writer.ensures ∙ sym lines_of-nil

pub loop-step-preserved : goal.loop-step-preserved
loop-step-preserved c =
    lines_of-more move_entry c.args.moves.now c.loop-step.step-index no_step c.loop-step.writer
    c.write_move.new.writer c.loop-step-test.true c.loop-step.invariant c.in_ok-write_move.ensures

pub returns : goal.returns
returns c =
    IfOk-weaker c.into_text.result (λ text. text.items ≡ c.loop-step.writer)
    (λ text. text.items ≡ lines_of (entries_by c.args.moves.now))
    (λ text e. whole c.args.moves.now c.args.moves.now c.loop-step.step-index text.items
    refl c.loop-step-test.false (e ∙ c.loop-step.invariant))
    c.into_text.ensures
