-- One line after another.
use Rattle.std.proofs.Common.{◌≡◌, ◌∙◌, sym, ap}
use Rattle.std.proofs.lemmas.Result.{IfOk-weaker}
use Rattle.bn_csv.proofs.LinesLemmas.{lines_of-nil}
use Rattle.bn_machine.specs.Machine.{Program}
use Rattle.bn_machine.specs.declared.quint.Quint.{Quint}
use Rattle.bn_machine.specs.declared.quint.Shift.TheVariants.{Left}
use Rattle.bn_table.specs.Reading.{Reads}
use Rattle.bn_table.proofs.Writing.{line-more}
use Rattle.bn_gen.specs.Increments.{quints_of}
use Rattle.bn_gen.specs.Text.{increments_table, increment_letters, increment_names}
use Rattle.bn_gen.proofs.TableLemmas.{text_is, text_reads}
use Rattle.bn_gen.proofs.text.increments_text.Goals as goal

pub loop-quint-init : goal.loop-quint-init
loop-quint-init c = c.new-writer.ensures ∙ sym lines_of-nil

pub loop-quint-preserved : goal.loop-quint-preserved
loop-quint-preserved c =
    let blank : Quint = record { state = 0; read = 0; write = 0; shift = Left; next = 0 } in
    line-more (increment_names c.args.k) increment_letters c.quints-quint-items.result.now c.loop-quint.quint-index
    blank c.loop-quint.writer c.write_quint.new.writer c.loop-quint-test.true c.loop-quint.invariant
    c.in_ok-write_quint.ensures

pub returns-clause-read_back : goal.returns-clause-read_back
returns-clause-read_back c =
    let k = c.args.k in
    let quints : c.quints-quint-items.result.now ≡ quints_of k =
    c.quints-quint-items.ensures.value ∙ ap (λ (p : Program). p.quints) c.in_ok-machine.ensures in
    IfOk-weaker c.into_text.result (λ text. text.items ≡ c.loop-quint.writer)
    (λ text. Reads text.items (increments_table k))
    (λ text e. text_reads k text.items c.requires (text_is k c.quints-quint-items.result.now c.loop-quint.quint-index
    text.items quints c.loop-quint-test.false (e ∙ c.loop-quint.invariant)))
    c.into_text.ensures
