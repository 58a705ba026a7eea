use Rattle.std.proofs.Common.{◌≡◌, ◌++◌, ap, ◌∙◌, arith, length, rules, get_or, List, [], ◌∷◌}
use Rattle.std.proofs.lemmas.List.{length-map}
use Rattle.bn_quad.specs.Kept.{quad_of}
use Rattle.bn_control.specs.Commands.{moves_by}
use Rattle.bn_control.specs.declared.line.Line.TheVariants.{Outside}
use Rattle.bn_control.specs.declared.line.Sending.{Sending}
use Rattle.bn_control.specs.declared.named.NamedMove.{NamedMove}
use Rattle.bn_control.specs.declared.name.StateName.TheVariants.{Begin}
use Rattle.bn_control.proofs.NamedLemmas.{initial_low, move_first, next_low, moves_more, moves_few, all_moves}
use Rattle.bn_control.proofs.named.named_moves.Goals as goal

-- what a look-up past the end gives
abbrev nothing : Sending
nothing = record { state = Begin; line = Outside }

pub bounds-entries-initial_state : goal.bounds-entries-initial_state
bounds-entries-initial_state c =
    let low = initial_low c.args.machine.now c.quads-quads.ensures.valid c.args.entries.now c.requires.entries in
    let start = c.initial_state.ensures in
    omega arith

pub loop-index-init : goal.loop-index-init
loop-index-init c = record {
  moves = move_first c.args.machine.now c.quads-quads.ensures.valid c.args.entries.now c.requires.entries
      c.requires.uniform c.initial_state.result nothing c.push.new.self.items c.initial_state.ensures
      (c.in_ok-push.ensures.items ∙ ap (λ (l : List NamedMove). l
      ++ (record { state = Begin; line = Outside; to = get_or c.args.entries.now c.initial_state.result nothing }) ∷ [])
      c.new-moves.ensures.items);
  few = search rules;
}

pub bounds-entries-quad : goal.bounds-entries-quad
bounds-entries-quad c =
    next_low c.args.machine.now c.quads-quads.ensures.valid c.args.entries.now c.requires.entries c.requires.uniform
    c.quads-quads.result.now c.quads-quads.ensures.value c.loop-index.index _ c.loop-index-test.true

pub loop-index-preserved : goal.loop-index-preserved
loop-index-preserved c =
    let value = c.in_ok-push_moves.ensures ∙ ap (λ l. c.loop-index.moves.items
    ++ moves_by (get_or c.args.entries.now (get_or c.quads-quads.result.now c.loop-index.index
    (record { state = 0; read = []; act = []; next = 0 })).next nothing) l) c.as_slice.ensures.value in
    record {
      moves = moves_more c.args.machine.now c.quads-quads.ensures.valid c.args.entries.now c.requires.entries
          c.requires.uniform c.quads-quads.result.now c.quads-quads.ensures.value c.loop-index.index _
          c.loop-index-test.true c.in_ok-commands.commands.items c.in_ok-commands.ensures nothing
          c.loop-index.moves.items c.push_moves.new.moves.items value c.loop-index.invariant.moves;
      few = moves_few c.args.machine.now c.quads-quads.ensures.valid c.args.entries.now c.requires.entries
          c.requires.uniform c.quads-quads.result.now c.quads-quads.ensures.value c.loop-index.index _
          c.loop-index-test.true c.in_ok-commands.commands.items c.in_ok-commands.ensures nothing
          c.loop-index.moves.items c.push_moves.new.moves.items value c.loop-index.invariant.few;
    }

pub returns-clause-moves : goal.returns-clause-moves
returns-clause-moves c =
    let count : length c.quads-quads.result.now ≡ length c.args.machine.now.rules =
    ap length c.quads-quads.ensures.value ∙ length-map c.args.machine.now.rules quad_of in
    let past = c.loop-index-test.false in
    all_moves c.args.machine.now c.requires.uniform c.loop-index.index c.loop-index.moves.items (omega arith)
    c.loop-index.invariant.moves
