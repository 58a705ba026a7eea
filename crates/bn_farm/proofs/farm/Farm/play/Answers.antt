use Rattle.std.proofs.Common.{◌≡◌, ◌+◌, ◌<◌, ◌++◌, ◌∷◌, [], length, false, arith, sym, ap, ◌∙◌, subst, refl}
use Rattle.std.specs.Prelude.{not, slice_index_or, slice_set}
use Rattle.bn_farm.specs.declared.event.Event.{Event}
use Rattle.bn_farm.specs.Playing.{AreOnBoards}
use Rattle.bn_farm.proofs.PlayLemmas.{IsPlayed, board_admitted, board_at, board_there, event_at, none_made, not_other}
use Rattle.bn_farm.proofs.PlayLemmas.{some_made}
use Rattle.bn_farm.proofs.farm.Farm.play.Goals.{then-made-gt0+in-Ok, else-made-gt0}
use Rattle.bn_farm.proofs.farm.Farm.play.Goals as goal

pub index_mut-board-requires : goal.index_mut-board-requires
index_mut-board-requires c =
    let es = c.events-events.result.now in
    let e = slice_index_or es c.loop-index.index (record { forward = false; board = 0; count = 0 }) in
    let test = c.loop-index-test.true in
    let low : c.loop-index.index < length es = omega (arith, test) in
    let all = subst (AreOnBoards (length c.args.self.now)) (sym c.events-events.ensures) c.requires in
    let there = board_there c.args.self.now es c.loop-index.index c.loop-index.self-inside.boards.items
    c.loop-index.undo.items e all c.loop-index.invariant.0 (event_at es c.loop-index.index _ low) in
    omega (arith, there, c.loop-index.self-inside.boards.ok.0)

pub play_board-made-requires : goal.play_board-made-requires
play_board-made-requires c =
    let es = c.events-events.result.now in
    let e = slice_index_or es c.loop-index.index (record { forward = false; board = 0; count = 0 }) in
    let test = c.loop-index-test.true in
    let low : c.loop-index.index < length es = omega (arith, test) in
    let all = subst (AreOnBoards (length c.args.self.now)) (sym c.events-events.ensures) c.requires in
    let there = board_there c.args.self.now es c.loop-index.index c.loop-index.self-inside.boards.items
    c.loop-index.undo.items e all c.loop-index.invariant.0 (event_at es c.loop-index.index _ low) in
    board_admitted c.args.self.now es c.loop-index.index c.loop-index.self-inside.boards.items c.loop-index.undo.items
    e.board c.index_mut-board.result.now c.loop-index.invariant.0
    (board_at c.loop-index.self-inside.boards.items e.board c.index_mut-board.result.now there
    c.index_mut-board.ensures.value)

pub loop-index-preserved : goal.loop-index-preserved
loop-index-preserved c =
    let es = c.events-events.result.now in
    let e = slice_index_or es c.loop-index.index (record { forward = false; board = 0; count = 0 }) in
    let test = c.loop-index-test.true in
    let low : c.loop-index.index < length es = omega (arith, test) in
    let all = subst (AreOnBoards (length c.args.self.now)) (sym c.events-events.ensures) c.requires in
    let is = event_at es c.loop-index.index _ low in
    let there = board_there c.args.self.now es c.loop-index.index c.loop-index.self-inside.boards.items
    c.loop-index.undo.items e all c.loop-index.invariant.0 is in
    let at = board_at c.loop-index.self-inside.boards.items e.board c.index_mut-board.result.now there
    c.index_mut-board.ensures.value in
    elim c.if-made-gt0.branch [
      | then-made-gt0+in-Ok w ↦
          (let x : Event = record { forward = not e.forward; board = e.board; count = c.play_board-made.result } in
          let played = some_made c.args.self.now es c.loop-index.index c.loop-index.self-inside.boards.items
          c.loop-index.undo.items c.loop-index.invariant.0 e is
          c.index_mut-board.result.now c.play_board-made.new.board at c.play_board-made.ensures.board
          c.play_board-made.result x c.play_board-made.ensures.made w.if-made-gt0.true
          (not_other e.forward) refl refl in
          let items : c.if-made-gt0.undo.items ≡ c.loop-index.undo.items ++ x ∷ [] =
          ap (λ v. v.items) w.undo-is ∙ w.in-Ok.ensures.items in
          let cap : c.if-made-gt0.undo.cap ≡ w.push.new.self.cap = ap (λ v. v.cap) w.undo-is in
          let room = c.loop-index.invariant.1 in (
            subst (IsPlayed c.args.self.now es (c.loop-index.index + 1)
                (slice_set c.loop-index.self-inside.boards.items e.board c.play_board-made.new.board)) (sym items)
                played,
            omega (arith, cap, room, w.in-Ok.ensures.capacity),
          ))
      | else-made-gt0 w ↦
          (let none = w.if-made-gt0.false in
          let played = none_made c.args.self.now es c.loop-index.index c.loop-index.self-inside.boards.items
          c.loop-index.undo.items c.loop-index.invariant.0 e is
          c.index_mut-board.result.now c.play_board-made.new.board at c.play_board-made.ensures.board
          c.play_board-made.result c.play_board-made.ensures.made (λ some. omega (arith, none, some)) in
          let items : c.if-made-gt0.undo.items ≡ c.loop-index.undo.items = ap (λ v. v.items) w.undo-is in
          let cap : c.if-made-gt0.undo.cap ≡ c.loop-index.undo.cap = ap (λ v. v.cap) w.undo-is in
          let room = c.loop-index.invariant.1 in (
            subst (IsPlayed c.args.self.now es (c.loop-index.index + 1)
                (slice_set c.loop-index.self-inside.boards.items e.board c.play_board-made.new.board)) (sym items)
                played,
            omega (arith, cap, room),
          ))
    ]
