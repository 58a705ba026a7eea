-- The tests on kept quadruples are the tests on their rules.
use Rattle.std.specs.Prelude.{ℕ, Option, Some, None}
use Rattle.bn_quad.specs.Overlap.{MeetsInDomain, MeetsInRange, OverlapsInDomain, OverlapsInRange}
use Rattle.bn_quad.specs.Kept.{deed_of, rule_of, read_at, act_at, Agree, IsUnmixed, ReadsMeet, ActsMeet}
use Rattle.bn_quad.specs.Kept.{QuadsMeetInDomain, QuadsMeetInRange}
use Rattle.bn_quad.specs.declared.quad.Quad.{Quad}
use Rattle.bn_quad.specs.declared.quad.Act.{Act}
use Rattle.bn_quad.specs.declared.quad.Act.TheVariants.{Write, Shift}

domain_same : (r : Option ℕ) (a : Act) (s : Option ℕ) (b : Act) → Agree r a → Agree s b
    → (ReadsMeet r s → MeetsInDomain (deed_of r a) (deed_of s b))
    × (MeetsInDomain (deed_of r a) (deed_of s b) → ReadsMeet r s)
domain_same None (Write v) s b h k = absurd h
domain_same (Some r) (Shift v) s b h k = absurd h
domain_same None (Shift v) None (Write w) h k = absurd k
domain_same None (Shift v) None (Shift w) h k = (λ e. tt, λ e. tt)
domain_same None (Shift v) (Some s) (Write w) h k = (λ e. tt, λ e. tt)
domain_same None (Shift v) (Some s) (Shift w) h k = absurd k
domain_same (Some r) (Write v) None (Write w) h k = absurd k
domain_same (Some r) (Write v) None (Shift w) h k = (λ e. tt, λ e. tt)
domain_same (Some r) (Write v) (Some s) (Write w) h k = (λ e. e, λ e. e)
domain_same (Some r) (Write v) (Some s) (Shift w) h k = absurd k

range_same : (r : Option ℕ) (a : Act) (s : Option ℕ) (b : Act) → Agree r a → Agree s b
    → (ActsMeet a b → MeetsInRange (deed_of r a) (deed_of s b))
    × (MeetsInRange (deed_of r a) (deed_of s b) → ActsMeet a b)
range_same None (Write v) s b h k = absurd h
range_same (Some r) (Shift v) s b h k = absurd h
range_same None (Shift v) None (Write w) h k = absurd k
range_same None (Shift v) None (Shift w) h k = (λ e. tt, λ e. tt)
range_same None (Shift v) (Some s) (Write w) h k = (λ e. tt, λ e. tt)
range_same None (Shift v) (Some s) (Shift w) h k = absurd k
range_same (Some r) (Write v) None (Write w) h k = absurd k
range_same (Some r) (Write v) None (Shift w) h k = (λ e. tt, λ e. tt)
range_same (Some r) (Write v) (Some s) (Write w) h k = (λ e. e, λ e. e)
range_same (Some r) (Write v) (Some s) (Shift w) h k = absurd k

pub domain_of_quads : (q p : Quad) → IsUnmixed q → IsUnmixed p
    → (QuadsMeetInDomain q p → OverlapsInDomain (rule_of q) (rule_of p))
    × (OverlapsInDomain (rule_of q) (rule_of p) → QuadsMeetInDomain q p)
domain_of_quads q p u v =
    let one = domain_same (read_at q 0) (act_at q 0) (read_at p 0) (act_at p 0) u.one v.one in
    let two = domain_same (read_at q 1) (act_at q 1) (read_at p 1) (act_at p 1) u.two v.two in
    let three = domain_same (read_at q 2) (act_at q 2) (read_at p 2) (act_at p 2) u.three v.three in (
      λ h. record { from = h.from; tapes = (one.0 h.one, (two.0 h.two, (three.0 h.three, tt))) },
      λ h. record { from = h.from; one = one.1 h.tapes.0; two = two.1 h.tapes.1.0; three = three.1 h.tapes.1.1.0 },
    )

pub range_of_quads : (q p : Quad) → IsUnmixed q → IsUnmixed p
    → (QuadsMeetInRange q p → OverlapsInRange (rule_of q) (rule_of p))
    × (OverlapsInRange (rule_of q) (rule_of p) → QuadsMeetInRange q p)
range_of_quads q p u v =
    let one = range_same (read_at q 0) (act_at q 0) (read_at p 0) (act_at p 0) u.one v.one in
    let two = range_same (read_at q 1) (act_at q 1) (read_at p 1) (act_at p 1) u.two v.two in
    let three = range_same (read_at q 2) (act_at q 2) (read_at p 2) (act_at p 2) u.three v.three in (
      λ h. record { to = h.to; tapes = (one.0 h.one, (two.0 h.two, (three.0 h.three, tt))) },
      λ h. record { to = h.to; one = one.1 h.tapes.0; two = two.1 h.tapes.1.0; three = three.1 h.tapes.1.1.0 },
    )
