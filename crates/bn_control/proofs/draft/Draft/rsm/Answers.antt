use Rattle.std.proofs.Common.{◌≡◌, List, length, ap, subst, sym, ◌∙◌, slice_get, Some, map}
use Rattle.bn_network.specs.Controls.{lines_before, IsControlTable}
use Rattle.bn_control.specs.declared.named.NamedMove.{NamedMove}
use Rattle.bn_control.specs.declared.name.StateName.{StateName}
use Rattle.bn_control.specs.Numbered.{HasNumbers, AreNumbered, rsm_move}
use Rattle.bn_control.proofs.WithinLemmas.{move_numbers}
use Rattle.bn_control.proofs.TableLemmas.{control_sound, control_table}
use Rattle.std.proofs.lemmas.Result.{IfOk-weaker}
use Rattle.bn_rsm.specs.Machines.{IsMadeOf, machine_table}
use Rattle.bn_control.specs.Names.{state_of}
use Rattle.bn_control.proofs.draft.Draft.rsm.Goals as goal

pub in_numbers-requires-clause-known : goal.in_numbers-requires-clause-known
in_numbers-requires-clause-known c = λ n x e.
    let d = c.requires.is in
    let e' = subst (λ (l : List NamedMove). slice_get l n ≡ Some x) c.as_slice.ensures.value e in
    let numbers = move_numbers c.requires.machine d.valid c.args.self.now.states.items d.ordered
    c.args.self.now.moves.items d.moves n x e' in
    subst (λ (l : List StateName). HasNumbers l c.args.self.now.symbols x) (sym c.as_slice-states.ensures.value)
    (subst (λ zs. HasNumbers c.args.self.now.states.items zs x) d.symbols numbers)

pub new-requires-clause-sound : goal.new-requires-clause-sound
new-requires-clause-sound c =
    let m = c.requires.machine in
    let is = c.requires.is in
    let numbers : AreNumbered m c.args.self.now.states.items c.args.self.now.moves.items
    c.in_ok-numbered.numbered.items =
    subst (λ (l : List StateName). AreNumbered m l c.args.self.now.moves.items c.in_ok-numbered.numbered.items)
    c.as_slice-states.ensures.value
    (subst (λ (l : List NamedMove). AreNumbered m c.as_slice-states.result.now l c.in_ok-numbered.numbered.items)
    c.as_slice.ensures.value (c.in_ok-numbered.ensures.numbers m is.symbols)) in
    control_sound m is.uniform is.valid c.args.self.now.moves.items is.moves c.args.self.now.states.items is.ordered
    c.in_ok-numbered.numbered.items c.in_ok-ordered.ordered.items numbers
    c.in_ok-ordered.ensures.rising c.in_ok-ordered.ensures.each c.in_ok-ordered.ensures.only
    (length c.as_slice-states.result.now) c.lines_before-lines.result c.in_ok-moves.moves.items
    (ap length c.as_slice-states.ensures.value) (c.lines_before-lines.ensures
    ∙ ap (λ zs. lines_before zs 3) (sym is.symbols)) (c.in_ok-moves.ensures
    ∙ ap (map rsm_move) c.as_slice-2.ensures.value)

pub returns : goal.returns
returns c = λ m is.
    let numbers : AreNumbered m c.args.self.now.states.items c.args.self.now.moves.items
    c.in_ok-numbered.numbered.items =
    subst (λ (l : List StateName). AreNumbered m l c.args.self.now.moves.items c.in_ok-numbered.numbered.items)
    c.as_slice-states.ensures.value
    (subst (λ (l : List NamedMove). AreNumbered m c.as_slice-states.result.now l c.in_ok-numbered.numbered.items)
    c.as_slice.ensures.value (c.in_ok-numbered.ensures.numbers m is.symbols)) in
    IfOk-weaker c.new.result (λ r. IsMadeOf r (length c.as_slice-states.result.now) c.lines_before-lines.result
    c.in_ok-moves.moves.items) (λ r. IsControlTable m (map state_of c.args.self.now.states.items) (machine_table r))
    (λ r made. control_table m is.uniform is.valid c.args.self.now.moves.items is.moves c.args.self.now.states.items
    is.ordered c.in_ok-numbered.numbered.items c.in_ok-ordered.ordered.items numbers
    c.in_ok-ordered.ensures.rising c.in_ok-ordered.ensures.each c.in_ok-ordered.ensures.only
    r (length c.as_slice-states.result.now) c.lines_before-lines.result c.in_ok-moves.moves.items
    (ap length c.as_slice-states.ensures.value) (c.lines_before-lines.ensures
    ∙ ap (λ zs. lines_before zs 3) (sym is.symbols)) (c.in_ok-moves.ensures
    ∙ ap (map rsm_move) c.as_slice-2.ensures.value) made)
    c.new.ensures.made
