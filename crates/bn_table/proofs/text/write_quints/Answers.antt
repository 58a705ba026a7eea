-- One line after another.
use Rattle.std.proofs.Common.{◌≡◌, ◌∙◌, sym, List, ℕ, ap, length, take, ◌≤◌}
use Rattle.std.proofs.lemmas.Result.{IfOk-weaker}
use Rattle.bn_csv.specs.Lines.{lines_of}
use Rattle.bn_csv.proofs.LinesLemmas.{lines_of-nil}
use Rattle.bn_machine.specs.Machine.{Program}
use Rattle.bn_machine.specs.declared.quint.Quint.{Quint}
use Rattle.bn_machine.specs.declared.quint.Shift.TheVariants.{Left}
use Rattle.bn_table.specs.Reading.{Reads}
use Rattle.bn_table.specs.Rows.{Named, rows_by, rows_of}
use Rattle.bn_table.proofs.Writing.{line-more, lines-all, reads-back}
use Rattle.bn_table.proofs.text.write_quints.Goals as goal

pub loop-quint-init : goal.loop-quint-init
loop-quint-init c = c.new-writer.ensures ∙ sym lines_of-nil

pub loop-quint-preserved : goal.loop-quint-preserved
loop-quint-preserved c =
    let t = c.args.table.now in
    let blank : Quint = record { state = 0; read = 0; write = 0; shift = Left; next = 0 } in
    line-more t.names t.letters c.quints-quint-items.result.now c.loop-quint.quint-index blank c.loop-quint.writer
    c.write_quint.new.writer c.loop-quint-test.true c.loop-quint.invariant c.in_ok-write_quint.ensures

-- the whole text
whole : (t : Named) (quints : List Quint) (i : ℕ) (text : List ℕ) → quints ≡ t.machine.quints → length quints ≤ i
    → text ≡ lines_of (rows_by t.names t.letters (take i quints)) → text ≡ lines_of (rows_of t)
whole t quints i text same all e = lines-all t.names t.letters quints i text all e
    ∙ ap (λ (qs : List Quint). lines_of (rows_by t.names t.letters qs)) same

pub returns-clause-text : goal.returns-clause-text
returns-clause-text c =
    let t = c.args.table.now in
    let quints : c.quints-quint-items.result.now ≡ t.machine.quints =
    c.quints-quint-items.ensures.value ∙ ap (λ (p : Program). p.quints) c.machine.ensures.value in
    IfOk-weaker c.into_text.result (λ text. text.items ≡ c.loop-quint.writer)
    (λ text. text.items ≡ lines_of (rows_of t))
    (λ text e. whole t c.quints-quint-items.result.now c.loop-quint.quint-index text.items quints
    c.loop-quint-test.false (e ∙ c.loop-quint.invariant))
    c.into_text.ensures

pub returns-clause-read_back : goal.returns-clause-read_back
returns-clause-read_back c =
    let t = c.args.table.now in
    let quints : c.quints-quint-items.result.now ≡ t.machine.quints =
    c.quints-quint-items.ensures.value ∙ ap (λ (p : Program). p.quints) c.machine.ensures.value in
    IfOk-weaker c.into_text.result (λ text. text.items ≡ c.loop-quint.writer) (λ text. Reads text.items t)
    (λ text e. reads-back t text.items c.machine.ensures.valid
    (whole t c.quints-quint-items.result.now c.loop-quint.quint-index text.items quints c.loop-quint-test.false
    (e ∙ c.loop-quint.invariant)))
    c.into_text.ensures
