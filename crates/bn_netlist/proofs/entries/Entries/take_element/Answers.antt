use Rattle.std.proofs.Common.{◌≡◌, ◌+◌, ◌∙◌, ℕ, [], length, arith, sym, ap, refl}
use Rattle.std.proofs.lemmas.Result.{err_from_is_err_and}
use Rattle.bn_netlist_laws.specs.Reading.{named_targets}
use Rattle.bn_netlist_laws.specs.Sentences.{Element}
use Rattle.bn_netlist_laws.specs.Faults.{outputs_fault, fault_of, wires_after}
use Rattle.bn_netlist_laws.specs.Spelling.{header_then}
use Rattle.bn_netlist.proofs.EntriesLemmas.{element_order, element_fault_at, element_read, refuses_order, refuses_same}
use Rattle.bn_netlist.proofs.entries.Entries.take_element.Goals as goal

pub returns-then-number-from-clause-refused : goal.returns-then-number-from-clause-refused
returns-then-number-from-clause-refused c =
    let h = c.args.header.now in
    let x = Element c.args.number c.args.state (named_targets c.args.targets.now) in
    let line_is : c.from-line.result ≡ c.args.self.now.lines = omega arith in
    let from_is : c.from.result ≡ c.args.self.now.lines = omega arith in
    λ rows holds.
    refuses_order (fault_of (header_then h rows) x) (c.from-line.result + 7) (length rows + 7)
    (element_order h rows c.args.number c.args.self.now.lines c.args.state (named_targets c.args.targets.now)
    (sym holds.lines_are) (λ same. c.if-number-from.true (same ∙ sym from_is)))
    (ap (λ (n : ℕ). n + 7) (line_is ∙ holds.lines_are))

pub returns-in_err-connect_all-clause-refused : goal.returns-in_err-connect_all-clause-refused
returns-in_err-connect_all-clause-refused c =
    let h = c.args.header.now in
    let ts = named_targets c.args.targets.now in
    let lines = c.args.self.now.lines in
    let line_is : c.from-line.result ≡ c.args.self.now.lines = omega arith in
    let from_is : c.from.result ≡ c.args.self.now.lines = omega arith in
    let p = err_from_is_err_and c.from_residual.result c.from_residual.ensures.1 in
    rw (p.1, p.2) (λ rows holds.
    refuses_same (outputs_fault (header_then h []) (wires_after 6 rows) lines 0 ts)
    (fault_of (header_then h rows) (Element c.args.number c.args.state ts)) (c.from-line.result + 7)
    (length rows + 7) _
    (element_fault_at h rows (wires_after 6 rows) c.args.number lines c.args.state ts
    (c.if-number-from.false ∙ from_is) (sym holds.lines_are) refl)
    (ap (λ (n : ℕ). n + 7) (line_is ∙ holds.lines_are))
    (c.in_err-connect_all.ensures.refused (wires_after 6 rows) holds.kept))

pub overflow_add-self : goal.overflow_add-self
overflow_add-self c = omega (arith, c.requires.room, c.requires.few)

pub returns-clause-read : goal.returns-clause-read
returns-clause-read c =
    let from_is : c.from.result ≡ c.args.self.now.lines = omega arith in
    λ rows holds.
    element_read c.args.header.now rows c.args.self.now.lines c.args.self.now.rows (c.args.self.now.lines + 1)
    c.args.state c.args.number c.args.self.now.states.items c.push.new.self.items c.args.self.now.own.items
    c.push-2.new.self.items c.args.self.now.ends.drawn c.connect_all.new.self.drawn
    c.args.self.now.ends.fed.items c.connect_all.new.self.fed.items (named_targets c.args.targets.now)
    (c.if-number-from.false ∙ from_is) refl c.in-Ok.ensures.items c.in-Ok-push.ensures.items holds
    (c.in_ok-connect_all.ensures.added (wires_after 6 rows) holds.kept)
