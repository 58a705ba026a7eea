-- Want of memory within the run, and behind it.
use Rattle.std.proofs.lemmas.Result.{err_from_is_err_and}
use Rattle.bn_network_assembly.specs.Assembled.{limits_of}
use Rattle.bn_reply_boards.proofs.GenerateLemmas.{none_behind, none_within}
use Rattle.bn_reply_boards.proofs.generate.run_behind.Goals as goal

pub returns-in_err-reply : goal.returns-in_err-reply
returns-in_err-reply g c =
    let none = err_from_is_err_and c.from_residual.result c.from_residual.ensures.1 in
    rw none.1 (none_within c.args.k (limits_of c.window_of.result) c.args.table.now c.window_of.ensures c.requires.table
    none.0
    (g.W.Watch.told c.args.watch.now) (g.W.Watch.told c.reply_run.new.watch) c.in_err-reply.ensures.interrupted)

pub returns-in_err-extend_from_slice : goal.returns-in_err-extend_from_slice
returns-in_err-extend_from_slice g c =
    let none = err_from_is_err_and c.from_residual-in_err-extend_from_slice.result
    c.from_residual-in_err-extend_from_slice.ensures.1 in
    rw none.1 (none_behind c.args.k (limits_of c.window_of.result) c.args.table.now c.window_of.ensures c.requires.table
    none.0
    (g.W.Watch.told c.args.watch.now) (g.W.Watch.told c.reply_run.new.watch) c.in_ok-reply.reply
    c.in_ok-reply.ensures.replied)
