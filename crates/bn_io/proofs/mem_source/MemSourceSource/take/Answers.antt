use Rattle.std.proofs.Common.{rules, ◌≡◌, sym, ap, drop, arith}
use Rattle.bn_io.proofs.Pieces.{copied-split}
use Rattle.bn_io.proofs.mem_source.MemSourceSource.take.Goals as goal

pub returns-clause-given : goal.returns-clause-given
returns-clause-given c =
    let view : c.args.self.now.left ≡ drop c.self.inside.next c.self.inside.bytes.items =
    sym (ap (λ s. s.left) c.self.view_is)
    in
    copied-split c.self.inside.bytes.items _ _ _ c.self.inside.next c.min-count.result view (omega arith) (search rules)
