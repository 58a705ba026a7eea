use Rattle.std.proofs.Common.{rules, ◌≡◌, ◌≢◌, ◌⊎◌, inl, inr, ap, arith, true, false, w64, of_z}
use Rattle.std.proofs.lemmas.Int.{ints, to_z-of_z}
use Rattle.bn_reply_traces.proofs.ExtentLemmas.{last_behind, last_stays}
use Rattle.bn_reply_traces.proofs.extent.last_after.Goals as goal

pub returns-then-last-head : goal.returns-then-last-head
returns-then-last-head c = λ t u m f.
    let h = to_z-of_z w64 c.args.head (search rules) in
    let k = to_z-of_z w64 c.args.last (search rules) in
    rw h (last_behind t u c.args.last c.args.left c.args.head c.args.is_blank m f
    (omega (arith, ints, h, k, c.if-last-head.true)))

pub returns : goal.returns
returns c = λ t u m f.
    let h = to_z-of_z w64 c.args.head (search rules) in
    let k = to_z-of_z w64 c.args.last (search rules) in
    rw k (last_stays t u c.args.last c.args.left c.args.head c.args.is_blank m f kept
    (omega (arith, ints, h, k, c.if-last-head.false)))
  where
    by : ((c.args.is_blank ≡ true) × (of_z w64 c.args.last ≡ of_z w64 c.args.left → ⊥)) ⊎ (c.args.is_blank ≡ false) →
        (c.args.is_blank ≡ false) ⊎ (c.args.last ≢ c.args.left)
    by (inl apart) = inr (λ e. apart.1 (ap (of_z w64) e))
    by (inr lettered) = inl lettered

    kept : (c.args.is_blank ≡ false) ⊎ (c.args.last ≢ c.args.left)
    kept = by c.else-is_blank.either
