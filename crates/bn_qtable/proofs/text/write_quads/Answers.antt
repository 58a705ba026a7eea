-- One line after another.
use Rattle.std.proofs.Common.{◌≡◌, ◌∙◌, sym, List, ℕ, [], ap, length, take, ◌≤◌, subst}
use Rattle.std.proofs.lemmas.Result.{IfOk-weaker}
use Rattle.bn_csv.specs.Entries.{entries_of}
use Rattle.bn_csv.specs.Lines.{lines_of}
use Rattle.bn_csv.proofs.LinesLemmas.{lines_of-all, lines_of-more, lines_of-nil}
use Rattle.bn_quad.specs.Kept.{quad_of, rules_of}
use Rattle.bn_quad.proofs.KeptLemmas.{rules_of-quads}
use Rattle.bn_quad.specs.Names.{Naming}
use Rattle.bn_quad.specs.Quadruples.{Quadruples, Rule}
use Rattle.bn_quad.specs.declared.quad.Quad.{Quad}
use Rattle.std.specs.Prelude.{map}
use Rattle.bn_qtable.specs.Reading.{ReadsQuadruples}
use Rattle.bn_qtable.specs.Rows.{IsTable, IsQuadTableOf, quadruple_rows_by, table_of}
use Rattle.bn_qtable.proofs.Drafting.{acts-at, named-at, unmixed-at}
use Rattle.bn_qtable.proofs.Writing.{all-named, entries-back, kept-lines, row}
use Rattle.bn_qtable.proofs.text.write_quads.Goals as goal

abbrev no_quad : Quad
no_quad = record { state = 0; read = []; act = []; next = 0 }

pub loop-quad-init : goal.loop-quad-init
loop-quad-init c = c.new-writer.ensures ∙ sym lines_of-nil

pub write_quad-requires-clause-acts : goal.write_quad-requires-clause-acts
write_quad-requires-clause-acts c =
    acts-at c.args.machine.now.rules c.quads-quad-items.result.now c.loop-quad.quad-index _
    c.quads-quad-items.ensures.value c.loop-quad-test.true

pub write_quad-requires-clause-unmixed : goal.write_quad-requires-clause-unmixed
write_quad-requires-clause-unmixed c =
    unmixed-at c.args.machine.now.rules c.quads-quad-items.result.now c.loop-quad.quad-index _
    c.quads-quad-items.ensures.value c.loop-quad-test.true

pub write_quad-requires-clause-named : goal.write_quad-requires-clause-named
write_quad-requires-clause-named c =
    named-at c.args.names.now c.args.machine.now.rules c.quads-quad-items.result.now c.loop-quad.quad-index _
    c.quads-quad-items.ensures.value c.loop-quad-test.true
    (all-named c.args.machine.now c.args.names.now c.quads-quad-items.ensures.valid c.requires)

pub loop-quad-preserved : goal.loop-quad-preserved
loop-quad-preserved c =
    lines_of-more (row c.args.names.now) c.quads-quad-items.result.now c.loop-quad.quad-index no_quad c.loop-quad.writer
    c.write_quad.new.writer c.loop-quad-test.true c.loop-quad.invariant c.in_ok-write_quad.ensures

-- the whole text
whole : (p : Quadruples) (n : Naming) (quads : List Quad) (i : ℕ) (text : List ℕ) → quads ≡ map quad_of p.rules
    → length quads ≤ i
    → text ≡ lines_of (map (row n) (take i quads)) → text ≡ lines_of (quadruple_rows_by n p.rules)
whole p n quads i text same all e =
    lines_of-all (row n) quads i text all e ∙ ap lines_of (kept-lines n quads)
    ∙ ap (λ (rs : List (Rule ℕ)). lines_of (quadruple_rows_by n rs)) (ap rules_of same ∙ rules_of-quads p.rules)

back : (p : Quadruples) (n : Naming) (text : List ℕ) → entries_of text ≡ quadruple_rows_by n p.rules
    → IsTable (table_of p n) → ReadsQuadruples text (table_of p n)
back p n text e h =
    let P : List (List (List ℕ)) → Type 0 = λ entries. IsQuadTableOf entries (table_of p n) in
    subst P (sym e) h

pub returns-clause-text : goal.returns-clause-text
returns-clause-text c =
    let p = c.args.machine.now in
    let n = c.args.names.now in
    IfOk-weaker c.into_text.result (λ text. text.items ≡ c.loop-quad.writer)
    (λ text. text.items ≡ lines_of (quadruple_rows_by n p.rules))
    (λ text e. whole p n c.quads-quad-items.result.now c.loop-quad.quad-index text.items
    c.quads-quad-items.ensures.value c.loop-quad-test.false (e ∙ c.loop-quad.invariant))
    c.into_text.ensures

pub returns-clause-entries : goal.returns-clause-entries
returns-clause-entries c =
    let p = c.args.machine.now in
    let n = c.args.names.now in
    IfOk-weaker c.into_text.result (λ text. text.items ≡ c.loop-quad.writer)
    (λ text. entries_of text.items ≡ quadruple_rows_by n p.rules)
    (λ text e. entries-back p n text.items c.quads-quad-items.ensures.valid c.requires
    (whole p n c.quads-quad-items.result.now c.loop-quad.quad-index text.items c.quads-quad-items.ensures.value
    c.loop-quad-test.false (e ∙ c.loop-quad.invariant)))
    c.into_text.ensures

pub returns-clause-read_back : goal.returns-clause-read_back
returns-clause-read_back c =
    let p = c.args.machine.now in
    let n = c.args.names.now in
    IfOk-weaker c.into_text.result (λ text. text.items ≡ c.loop-quad.writer)
    (λ text. IsTable (table_of p n) → ReadsQuadruples text.items (table_of p n))
    (λ text e. back p n text.items (entries-back p n text.items c.quads-quad-items.ensures.valid c.requires
    (whole p n c.quads-quad-items.result.now c.loop-quad.quad-index text.items c.quads-quad-items.ensures.value
    c.loop-quad-test.false (e ∙ c.loop-quad.invariant))))
    c.into_text.ensures
