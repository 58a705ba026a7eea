use Rattle.std.proofs.Common.{◌≡◌, ◌+◌, ◌<◌, ℕ, arith, ap, subst, refl, true, false, ◌∙◌}
use Rattle.std.specs.Prelude.{is_some}
use Rattle.bn_circuits.specs.Circuits.{same_line, source}
use Rattle.bn_netlist_laws.specs.Faults.{is_left_by}
use Rattle.bn_netlist_laws.specs.Columns.{inner_wires}
use Rattle.bn_netlist_laws.specs.Faults.{no_element, end_wired, left_wired, start_fed, second_source, some_wire}
use Rattle.bn_netlist.specs.Drafting.{finds}
use Rattle.bn_netlist.specs.declared.line_refusal.NetlistRefusal.TheVariants.{Target, EndWired, LeftWired, StartFed}
use Rattle.bn_netlist.specs.declared.line_refusal.NetlistRefusal.TheVariants.{TwoSources}
use Rattle.bn_netlist.proofs.DraftLemmas.{fault_target, fault_end, fault_left, fault_start, fault_source, fault_none}
use Rattle.bn_netlist.proofs.DraftLemmas.{inner_there}
use Rattle.bn_netlist.proofs.draft.Draft.check_column.Goals as goal

pub returns-then-from-rows-clause-refused : goal.returns-then-from-rows-clause-refused
returns-then-from-rows-clause-refused c =
    let same : c.from-line.result ≡ c.args.first = omega arith in
    λ ws fed. finds no_element (fault_target c.args.header.now ws c.args.first c.args.rows
    (inner_wires c.args.first c.args.rows) refl (omega (arith, c.if-from-rows.true)))
    (ap (λ (n : ℕ). Target (n + 7)) same)

pub overflow_cast-rows : goal.overflow_cast-rows
overflow_cast-rows c = omega (arith, c.if-from-rows.false, c.requires.few)

pub inner_wires-requires : goal.inner_wires-requires
inner_wires-requires c = record { within = omega (arith, c.if-from-rows.false, c.requires.few) }

pub are_fed-requires-clause-within : goal.are_fed-requires-clause-within
are_fed-requires-clause-within c =
    let within : c.args.first + c.args.rows < c.args.header.now.count = omega (arith, c.if-from-rows.false) in
    inner_there c.args.header.now.count c.args.first c.args.rows c.as_slice-4.result.now c.requires.some within
    (c.as_slice-4.ensures.value ∙ c.in-Ok.ensures)

pub returns-then-leave-clause-refused : goal.returns-then-leave-clause-refused
returns-then-leave-clause-refused c =
    let same : c.from-line.result ≡ c.args.first = omega arith in
    let within : c.args.first + c.args.rows < c.args.header.now.count = omega (arith, c.if-from-rows.false) in
    λ ws fed. finds end_wired (fault_end c.args.header.now ws c.args.first c.args.rows
    c.in-Ok.inner.items c.in-Ok.ensures within (subst (λ us. true
    ≡ some_wire (λ w. same_line c.args.header.now.end w.from) us) c.as_slice.ensures.value c.if-leave.ensures))
    (ap (λ (n : ℕ). EndWired (n + 7)) same)

pub returns-then-leave_behind-clause-refused : goal.returns-then-leave_behind-clause-refused
returns-then-leave_behind-clause-refused c =
    let same : c.from-line.result ≡ c.args.first = omega arith in
    let within : c.args.first + c.args.rows < c.args.header.now.count = omega (arith, c.if-from-rows.false) in
    λ ws fed. finds left_wired (fault_left c.args.header.now ws c.args.first c.args.rows
    c.in-Ok.inner.items c.in-Ok.ensures within (subst (λ us. false
    ≡ some_wire (λ w. same_line c.args.header.now.end w.from) us) c.as_slice.ensures.value c.if-leave.ensures)
    (subst (λ us. true ≡ some_wire (λ w. is_left_by c.args.header.now.place w.from) us) c.as_slice-2.ensures.value
    c.if-leave_behind.ensures)) (ap (λ (n : ℕ). LeftWired (n + 7)) same)

pub returns-then-end_at-clause-refused : goal.returns-then-end_at-clause-refused
returns-then-end_at-clause-refused c =
    let same : c.from-line.result ≡ c.args.first = omega arith in
    let within : c.args.first + c.args.rows < c.args.header.now.count = omega (arith, c.if-from-rows.false) in
    λ ws fed. finds start_fed (fault_start c.args.header.now ws c.args.first c.args.rows
    c.in-Ok.inner.items c.in-Ok.ensures within (subst (λ us. false
    ≡ some_wire (λ w. same_line c.args.header.now.end w.from) us) c.as_slice.ensures.value c.if-leave.ensures)
    (subst (λ us. false ≡ some_wire (λ w. is_left_by c.args.header.now.place w.from) us) c.as_slice-2.ensures.value
    c.if-leave_behind.ensures) (subst (λ us. true ≡ some_wire (λ w. same_line c.args.header.now.start w.to) us)
    c.as_slice-3.ensures.value c.if-end_at.ensures)) (ap (λ (n : ℕ). StartFed (n + 7)) same)

pub returns-then-are_fed-clause-refused : goal.returns-then-are_fed-clause-refused
returns-then-are_fed-clause-refused c =
    let same : c.from-line.result ≡ c.args.first = omega arith in
    let within : c.args.first + c.args.rows < c.args.header.now.count = omega (arith, c.if-from-rows.false) in
    λ ws fed. finds second_source (fault_source c.args.header.now ws c.args.first c.args.rows
    c.in-Ok.inner.items c.in-Ok.ensures within (subst (λ us. false
    ≡ some_wire (λ w. same_line c.args.header.now.end w.from) us) c.as_slice.ensures.value c.if-leave.ensures)
    (subst (λ us. false ≡ some_wire (λ w. is_left_by c.args.header.now.place w.from) us) c.as_slice-2.ensures.value
    c.if-leave_behind.ensures) (subst (λ us. false ≡ some_wire (λ w. same_line c.args.header.now.start w.to) us)
    c.as_slice-3.ensures.value c.if-end_at.ensures) (subst (λ us. true
    ≡ some_wire (λ w. is_some (source ws w.to)) us) c.as_slice-4.ensures.value
    (c.if-are_fed.ensures ws fed))) (ap (λ (n : ℕ). TwoSources (n + 7)) same)

pub returns-clause-inner : goal.returns-clause-inner
returns-clause-inner c = record { are = c.in-Ok.ensures; within = omega (arith, c.if-from-rows.false) }

pub returns-clause-faultless : goal.returns-clause-faultless
returns-clause-faultless c =
    let within : c.args.first + c.args.rows < c.args.header.now.count = omega (arith, c.if-from-rows.false) in
    λ ws fed. fault_none c.args.header.now ws c.args.first c.args.rows c.in-Ok.inner.items
    c.in-Ok.ensures within (subst (λ us. false ≡ some_wire (λ w. same_line c.args.header.now.end w.from) us)
    c.as_slice.ensures.value c.if-leave.ensures) (subst (λ us. false
    ≡ some_wire (λ w. is_left_by c.args.header.now.place w.from) us) c.as_slice-2.ensures.value
    c.if-leave_behind.ensures) (subst (λ us. false ≡ some_wire (λ w. same_line c.args.header.now.start w.to) us)
    c.as_slice-3.ensures.value c.if-end_at.ensures) (subst (λ us. false
    ≡ some_wire (λ w. is_some (source ws w.to)) us) c.as_slice-4.ensures.value
    (c.if-are_fed.ensures ws fed))
