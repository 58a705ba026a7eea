-- The commands are played one after another.
use Rattle.std.proofs.Common.{◌≡◌, ◌+◌, take, drop, inr, sym, subst, ◌∙◌}
use Rattle.std.proofs.lemmas.List.{take_all}
use Rattle.std.proofs.lemmas.Result.{err_from_is_err_and}
use Rattle.bn_session.specs.Labels.{AreOrderly}
use Rattle.bn_session.specs.Breakpoints.{labels_of}
use Rattle.bn_session.specs.Plays.{session}
use Rattle.bn_session.specs.Boards.{IsPlayedTo}
use Rattle.bn_session.proofs.PlayLemmas.{one_more, one_left, all_played, whole_script, taken_more, orderly_next}
use Rattle.bn_session.proofs.PlayLemmas.{labels_after, left_first, played_first}
use Rattle.bn_session.proofs.player.play_on.Goals as goal

pub returns-in_err-play_command-clause-stopped : goal.returns-in_err-play_command-clause-stopped
returns-in_err-play_command-clause-stopped g c =
    let a = c.args.circuit.now in
    let w = c.args.writer.now in
    let before = c.loop-command in
    let b = before.circuit in
    let ys = c.commands-command-items.result.now in
    let x = c.command-item.result in
    let k = g.C.Playable.circuit a in
    let moment = g.C.Playable.moment a in
    let shows = g.C.Playable.shown a w in
    let s = session (g.C.Playable.config b) before.breaks in
    let d = g.C.Playable.config c.play_command.new.circuit in
    let p = err_from_is_err_and c.from_residual-in_err-play_command.result c.from_residual-in_err-play_command.ensures.1
    in
    let left = left_first k moment shows (g.C.Playable.circuit b) (g.C.Playable.moment b) (g.C.Playable.shown b w)
    (g.met.C.Playable.circuits a b before.invariant.same) (g.met.C.Playable.moments a b before.invariant.same)
    (λ e text shown. g.met.C.Playable.shows a b w e text before.invariant.same shown) s x d before.out.items
    c.play_command.new.out.items c.in_err-play_command.ensures.left in
    rw p.1 (inr (one_left k moment shows (g.C.Playable.config a) (take before.command-index ys) s c.args.out.now.items
    before.out.items c.play_command.new.out.items x before.invariant.played c.args.script.now
    (drop (before.command-index + 1) ys) d (whole_script c.args.script.now ys before.command-index x
    c.commands-command-items.ensures.commands c.loop-command-test.true c.command-item.is) left))

pub loop-command-preserved : goal.loop-command-preserved
loop-command-preserved g c =
    let a = c.args.circuit.now in
    let w = c.args.writer.now in
    let before = c.loop-command in
    let b = before.circuit in
    let ys = c.commands-command-items.result.now in
    let x = c.command-item.result in
    let k = g.C.Playable.circuit a in
    let moment = g.C.Playable.moment a in
    let shows = g.C.Playable.shown a w in
    let s = session (g.C.Playable.config b) before.breaks in
    let end = session (g.C.Playable.config c.play_command.new.circuit) c.play_command.new.breaks in
    let one = played_first k moment shows (g.C.Playable.circuit b) (g.C.Playable.moment b) (g.C.Playable.shown b w)
    (g.met.C.Playable.circuits a b before.invariant.same) (g.met.C.Playable.moments a b before.invariant.same)
    (λ e text shown. g.met.C.Playable.shows a b w e text before.invariant.same shown) s x end before.out.items
    c.play_command.new.out.items c.in_ok-play_command.ensures.played in
    let more = one_more k moment shows (g.C.Playable.config a) (take before.command-index ys) s c.args.out.now.items
    before.out.items c.play_command.new.out.items x before.invariant.played end one in
    let next = orderly_next (labels_of before.breaks) ys before.command-index x c.loop-command-test.true
    c.command-item.is before.invariant.orderly in
    let labels = labels_after k moment shows x s end one.text one.plays in
    record {
      played = subst (λ xs. IsPlayedTo k moment shows (g.C.Playable.config a) xs end c.args.out.now.items
          c.play_command.new.out.items) (taken_more ys before.command-index x c.loop-command-test.true
          c.command-item.is) more;
      orderly = subst (λ ls. AreOrderly ls (drop (before.command-index + 1) ys)) (sym labels) next.1;
      same = g.met.C.Playable.again a b c.play_command.new.circuit before.invariant.same
          c.in_ok-play_command.ensures.same;
    }

pub returns-clause-played : goal.returns-clause-played
returns-clause-played g c =
    let a = c.args.circuit.now in
    let w = c.args.writer.now in
    let before = c.loop-command in
    let ys = c.commands-command-items.result.now in
    let s = session (g.C.Playable.config before.circuit) before.breaks in
    let all : take before.command-index ys ≡ c.args.script.now =
    take_all before.command-index ys c.loop-command-test.false ∙ c.commands-command-items.ensures.commands in
    all_played (g.C.Playable.circuit a) (g.C.Playable.moment a) (g.C.Playable.shown a w) (g.C.Playable.config a)
    c.args.script.now s c.args.out.now.items before.out.items
    (subst (λ xs. IsPlayedTo (g.C.Playable.circuit a) (g.C.Playable.moment a) (g.C.Playable.shown a w)
    (g.C.Playable.config a) xs s c.args.out.now.items before.out.items) all before.invariant.played)

pub returns-in_err-play_command-clause-same : goal.returns-in_err-play_command-clause-same
returns-in_err-play_command-clause-same g c =
    g.met.C.Playable.again c.args.circuit.now c.loop-command.circuit c.play_command.new.circuit
    c.loop-command.invariant.same c.in_err-play_command.ensures.same
