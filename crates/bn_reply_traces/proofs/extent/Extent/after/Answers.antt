use Rattle.std.proofs.Common.{rules, w64}
use Rattle.std.proofs.lemmas.Int.{to_z-of_z}
use Rattle.bn_reply_traces.proofs.extent.Extent.after.Goals as goal

pub returns-clause-first : goal.returns-clause-first
returns-clause-first c = λ t u m f.
    let h = to_z-of_z w64 c.args.head (search rules) in
    let l = to_z-of_z w64 c.args.left (search rules) in
    let k = to_z-of_z w64 c.args.self.first (search rules) in
    let r = to_z-of_z w64 c.first_after.result (search rules) in
    rw r (c.first_after.ensures t u (rw (h, l) m) (rw k f))

pub returns-clause-last : goal.returns-clause-last
returns-clause-last c = λ t u m f.
    let h = to_z-of_z w64 c.args.head (search rules) in
    let l = to_z-of_z w64 c.args.left (search rules) in
    let k = to_z-of_z w64 c.args.self.last (search rules) in
    let r = to_z-of_z w64 c.last_after.result (search rules) in
    rw r (c.last_after.ensures t u (rw (h, l) m) (rw k f))
