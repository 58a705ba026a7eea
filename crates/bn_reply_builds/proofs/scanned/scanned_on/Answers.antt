use Rattle.std.specs.Int.RustNames.{unsigned_abs}
use Rattle.std.proofs.Common.{◌≡◌, ◌-ℤ◌, rules}
use Rattle.bn_reply_builds.proofs.ScannedLemmas.{cell_told, some_head}
use Rattle.bn_reply_builds.proofs.scanned.scanned_on.Goals as goal

pub returns-in-Some : goal.returns-in-Some
returns-in-Some c = λ left right many x is count between.
    let place : c.abs_diff.result ≡ unsigned_abs (c.in-Some.head -ℤ c.args.shown.now.first) = search rules in
    c.symbol_at.ensures _ (cell_told c.args.shown.now left right many x is count between c.in-Some.head c.in-Some.is
    c.as_slice.result.now c.abs_diff.result
    c.as_slice.ensures place)

pub returns-in-None : goal.returns-in-None
returns-in-None c = λ left right many x is count between. absurd
    (some_head c.args.shown.now left right many x is count between c.in-None.is)
