use Rattle.std.proofs.Common.{◌≡◌, ◌+◌, ◌∙◌, ℕ, length, arith, sym, ap, refl}
use Rattle.std.proofs.lemmas.Result.{err_from_is_err_and}
use Rattle.bn_netlist_laws.specs.Sentences.{Column}
use Rattle.bn_netlist_laws.specs.Faults.{fault_of, wires_after}
use Rattle.bn_netlist_laws.specs.Spelling.{header_then}
use Rattle.bn_netlist.specs.Drafting.{column_fault}
use Rattle.bn_netlist.proofs.EntriesLemmas.{column_order, column_fault_at, column_read, connects_there, refuses_order}
use Rattle.bn_netlist.proofs.EntriesLemmas.{refuses_same}
use Rattle.bn_netlist.proofs.entries.Entries.take_column.Goals as goal

pub returns-then-number-from-clause-refused : goal.returns-then-number-from-clause-refused
returns-then-number-from-clause-refused c =
    let h = c.args.header.now in
    let line_is : c.from-line.result ≡ c.args.self.now.lines = omega arith in
    let from_is : c.from.result ≡ c.args.self.now.lines = omega arith in
    λ done holds.
    refuses_order (fault_of (header_then h done) (Column c.args.number c.args.rows c.args.state))
    (c.from-line.result + 7) (length done + 7)
    (column_order h done c.args.number c.args.self.now.lines c.args.rows c.args.state (sym holds.lines_are)
    (λ same. c.if-number-from.true (same ∙ sym from_is)))
    (ap (λ (n : ℕ). n + 7) (line_is ∙ holds.lines_are))

pub returns-in_err-connect_column-clause-refused : goal.returns-in_err-connect_column-clause-refused
returns-in_err-connect_column-clause-refused c =
    let h = c.args.header.now in
    let lines = c.args.self.now.lines in
    let from_is : c.from.result ≡ c.args.self.now.lines = omega arith in
    let p = err_from_is_err_and c.from_residual.result c.from_residual.ensures.1 in
    rw (p.1, p.2) (λ done holds.
    refuses_same (column_fault h (wires_after 6 done) lines c.args.rows) (fault_of (header_then h done)
    (Column c.args.number c.args.rows c.args.state)) (lines + 7) (length done + 7) _
    (column_fault_at h done (wires_after 6 done) c.args.number lines c.args.rows c.args.state
    (c.if-number-from.false ∙ from_is) (sym holds.lines_are) refl)
    (ap (λ (n : ℕ). n + 7) holds.lines_are)
    (c.in_err-connect_column.ensures.refused (wires_after 6 done) holds.kept))

pub returns-clause-read : goal.returns-clause-read
returns-clause-read c =
    let h = c.args.header.now in
    let from_is : c.from.result ≡ c.args.self.now.lines = omega arith in
    let last = c.push_states.new.self in
    λ done holds.
    column_read h done c.args.self.now.lines c.args.self.now.rows (last.lines + 1) c.args.rows c.args.state
    c.args.number c.args.self.now.states.items last.states.items c.args.self.now.own.items last.own.items
    c.args.self.now.ends.drawn last.ends.drawn c.args.self.now.ends.fed.items last.ends.fed.items
    (c.if-number-from.false ∙ from_is) (ap (λ (n : ℕ). n + 1) c.in_ok-push_states.ensures.lines)
    c.in_ok-push_states.ensures.states c.in_ok-push_states.ensures.own holds
    (connects_there h c.args.self.now.lines c.args.rows (wires_after 6 done)
    c.connect_column.new.self.drawn last.ends.drawn c.connect_column.new.self.fed.items
    last.ends.fed.items c.in_ok-push_states.ensures.drawn c.in_ok-push_states.ensures.marks
    (c.in_ok-connect_column.ensures.added (wires_after 6 done) holds.kept))
