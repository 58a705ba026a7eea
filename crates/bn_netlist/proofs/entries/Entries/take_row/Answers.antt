use Rattle.std.proofs.Common.{◌≡◌, ◌+◌, ◌-◌, ◌∙◌, ℕ, [], ◌∷◌, length, None, arith, sym, ap, refl}
use Rattle.std.proofs.lemmas.Result.{err_from_is_err_and}
use Rattle.bn_netlist_laws.specs.Reading.{named_target}
use Rattle.bn_netlist_laws.specs.Sentences.{Row}
use Rattle.bn_netlist_laws.specs.Faults.{outputs_fault, fault_of, wires_after}
use Rattle.bn_netlist_laws.specs.Spelling.{header_then}
use Rattle.bn_netlist.proofs.EntriesLemmas.{row_fault, row_read, refuses_same}
use Rattle.bn_netlist.proofs.entries.Entries.take_row.Goals as goal

pub returns-in_err-connect_all-clause-refused : goal.returns-in_err-connect_all-clause-refused
returns-in_err-connect_all-clause-refused c =
    let h = c.args.header.now in
    let x = named_target c.args.east in
    let y = named_target c.args.west in
    let e = c.args.self.now.lines - 1 in
    let line_is : c.from-line.result ≡ c.args.self.now.lines = omega arith in
    let place : c.args.self.now.lines ≡ e + 1 = omega (arith, c.requires.begun) in
    let p = err_from_is_err_and c.from_residual.result c.from_residual.ensures.1 in
    rw (p.1, p.2) (λ rows holds.
    refuses_same (outputs_fault (header_then h []) (wires_after 6 rows) e 1 (x ∷ None ∷ y ∷ []))
    (fault_of (header_then h rows) (Row x y)) (c.from-line.result + 7) (length rows + 7) _
    (sym (row_fault h rows (wires_after 6 rows) e x y (sym holds.lines_are ∙ place) refl))
    (ap (λ (n : ℕ). n + 7) (line_is ∙ holds.lines_are))
    (c.in_err-connect_all.ensures.refused (wires_after 6 rows) holds.kept))

pub overflow_add-self : goal.overflow_add-self
overflow_add-self c = omega (arith, c.requires.room, c.requires.few)

pub returns-clause-read : goal.returns-clause-read
returns-clause-read c =
    let e = c.args.self.now.lines - 1 in
    let place : c.args.self.now.lines ≡ e + 1 = omega (arith, c.requires.begun) in
    λ rows holds.
    row_read c.args.header.now rows c.args.self.now.lines c.args.self.now.rows e (c.args.self.now.lines + 1)
    (c.args.self.now.rows - 1) c.args.self.now.states.items c.args.self.now.own.items
    c.args.self.now.ends.drawn c.connect_all.new.self.drawn c.args.self.now.ends.fed.items
    c.connect_all.new.self.fed.items (named_target c.args.east) (named_target c.args.west)
    place refl refl holds (c.in_ok-connect_all.ensures.added (wires_after 6 rows) holds.kept)

pub connect_all-requires-clause-there : goal.connect_all-requires-clause-there
connect_all-requires-clause-there c = omega (arith, c.requires.room)
