-- Each call has one answer.
use Rattle.std.specs.Prelude.{◌≡◌, ℕ, zero, suc, List, [], ◌∷◌, Some}
use Rattle.std.proofs.Common.{refl, sym, subst, ◌∙◌, ap}
use Rattle.bn_machine.specs.Tape.{moved}
use Rattle.bn_machine.specs.Window.{Windowed, with_tape}
use Rattle.bn_lists.specs.Lists.{nth}
use Rattle.bn_lists.proofs.ListLemmas.{nth_once}
use Rattle.bn_machine.proofs.OutcomeLemmas.{beyond_one_side, not_inside_and_beyond}
use Rattle.bn_quad.specs.Quadruples.{Deed, Rewrite, Move, Rule, deeds_of, Configuration, after, Quadruples, IsFirstRule}
use Rattle.bn_quad.specs.Quadruples.{GoesBy, AreAllowed, IsQuadrupleStuck}
use Rattle.bn_quad.specs.Overlap.{IsClash, HasNoClash, IsLeastClash, IsFlawed, HasNoFlaw, IsFirstFlaw, initial_flaw}
use Rattle.bn_quad.specs.Overlap.{final_flaw}
use Rattle.bn_quad.specs.Kept.{IsFirstFault, IsQuadInRange}
use Rattle.bn_quad.specs.Calls.{configuration, windows_of, rooms_of, DeedLeaves, DeedStays, LeavesAt, IsLeaving}
use Rattle.bn_quad.specs.Calls.{AreSameWindows, IsQuadRefusal, IsNotUniform, IsUniformRefusal}
use Rattle.bn_quad.proofs.QuadStepLemmas.{first_rule_once}
use Rattle.bn_quad.specs.Laws.{QuadTurnsAreOne, RefusalsAreOne}
use Rattle.bn_machine.specs.declared.quint.Side.{Side}
use Rattle.bn_quad.specs.declared.clash.Clash.{Clash}
use Rattle.bn_quad.specs.declared.clash.Flaw.{Flaw}
use Rattle.bn_quad.specs.declared.quad.Quad.{Quad}
use Rattle.bn_quad.specs.declared.clash.Flaw.TheVariants as flaws
use Rattle.bn_quad.specs.declared.refusal.QuadRefusal.{QuadRefusal}
use Rattle.bn_quad.specs.declared.refusal.QuadRefusal.TheVariants as refusal
use Rattle.bn_quad.specs.declared.refusal.NotUniform.{NotUniform}
use Rattle.bn_quad.specs.declared.refusal.NotUniform.TheVariants as uneven
use Rattle.bn_quad.specs.declared.refusal.UniformRefusal.{UniformRefusal}
use Rattle.bn_quad.specs.declared.refusal.UniformRefusal.TheVariants as uniform
use Rattle.bn_quad.specs.declared.tapes.Tapes.{Tapes}
use Rattle.bn_quad.specs.declared.tapes.QuadTurn.TheVariants as turn
use Rattle.bn_lists.proofs.LeastLemmas.{least_once}
use Rattle.bn_lists.proofs.ListLemmas.{first_once}

fault_once : (states : ℕ) (symbols : List ℕ) (qs : List Quad) (i j : ℕ) (q p : Quad)
    → IsFirstFault states symbols qs i q → IsFirstFault states symbols qs j p → (i ≡ j) × (q ≡ p)
fault_once states symbols qs i j q p h k =
    let same : i ≡ j = least_once i j (λ l. h.faulty (k.first i q l h.stands)) (λ l. k.faulty (h.first j p l k.stands))
    in
    (same, nth_once qs j q p (subst (λ n. nth qs n ≡ Some q) same h.stands) k.stands)

nothing : (qs : List Quad) (j : ℕ) (q : Quad) → qs ≡ [] → nth qs j ≡ Some q → ⊥
nothing [] zero q e f = cc
nothing [] (suc j) q e f = cc
nothing (p ∷ qs) j q e f = cc

quad_refusal_once : (qs : List Quad) (states : ℕ) (symbols : List ℕ) (a b : QuadRefusal)
    → IsQuadRefusal qs states symbols a → IsQuadRefusal qs states symbols b → a ≡ b
quad_refusal_once qs states symbols refusal.Empty refusal.Empty h k = refl
quad_refusal_once qs states symbols refusal.Empty (refusal.Range j) h k = absurd (nothing qs j k.0 h k.1.stands)
quad_refusal_once qs states symbols refusal.Empty (refusal.Mixed j) h k = absurd (nothing qs j k.0 h k.1.stands)
quad_refusal_once qs states symbols (refusal.Range i) refusal.Empty h k = absurd (nothing qs i h.0 k h.1.stands)
quad_refusal_once qs states symbols (refusal.Mixed i) refusal.Empty h k = absurd (nothing qs i h.0 k h.1.stands)
quad_refusal_once qs states symbols (refusal.Range i) (refusal.Range j) h k =
    ap refusal.Range (fault_once states symbols qs i j h.0 k.0 h.1 k.1).0
quad_refusal_once qs states symbols (refusal.Mixed i) (refusal.Mixed j) h k =
    ap refusal.Mixed (fault_once states symbols qs i j h.0 k.0 h.1 k.1).0
quad_refusal_once qs states symbols (refusal.Range i) (refusal.Mixed j) h k =
    absurd (h.2 (subst (IsQuadInRange states symbols) (sym (fault_once states symbols qs i j h.0 k.0 h.1 k.1).1) k.2))
quad_refusal_once qs states symbols (refusal.Mixed i) (refusal.Range j) h k =
    absurd (k.2 (subst (IsQuadInRange states symbols) (fault_once states symbols qs i j h.0 k.0 h.1 k.1).1 h.2))

clash_once : (clash : Clash) (rs : List (Rule ℕ)) (i j m n : ℕ) → IsLeastClash clash rs i j → IsLeastClash clash rs m n
    → (i ≡ m) × (j ≡ n)
clash_once clash rs i j m n a b =
    let first : i ≡ m = least_once i m (λ h. b.least_first i j h a.holds) (λ h. a.least_first m n h b.holds) in
    let there : IsClash clash rs m j = subst (λ k. IsClash clash rs k j) first a.holds in
    let back : IsClash clash rs i n = subst (λ k. IsClash clash rs k n) (sym first) b.holds in
    (first, least_once j n (λ h. b.least_second j h there) (λ h. a.least_second n h back))

no_least : {clash : Clash} {rs : List (Rule ℕ)} {i j : ℕ} → HasNoClash clash rs → IsLeastClash clash rs i j → ⊥
no_least {i = i} {j = j} none least = none.none i j least.holds

flaw_once : (flaw : Flaw) (rs : List (Rule ℕ)) (i j : ℕ) → IsFirstFlaw flaw rs i → IsFirstFlaw flaw rs j → i ≡ j
flaw_once flaw rs i j a b = (first_once (IsFlawed flaw) rs i j a.0 b.0 a.1 b.1).0

no_first : (flaw : Flaw) (rs : List (Rule ℕ)) (i : ℕ) → HasNoFlaw flaw rs → IsFirstFlaw flaw rs i → ⊥
no_first flaw rs i none first = none.none i first.0 first.1.stands first.1.holds

uneven_once : (rs : List (Rule ℕ)) (a b : NotUniform) → IsNotUniform rs a → IsNotUniform rs b → a ≡ b
uneven_once rs (uneven.ReadMask i j) (uneven.ReadMask m n) h k = let e =
    clash_once _ rs i j m n h k in λ t. uneven.ReadMask (e.0 t) (e.1 t)
uneven_once rs (uneven.ReadMask i j) (uneven.WriteMask m n) h k = absurd (no_least k.0 h)
uneven_once rs (uneven.ReadMask i j) (uneven.Silent m) h k = absurd (no_least k.0 h)
uneven_once rs (uneven.ReadMask i j) (uneven.InitialEntered m) h k = absurd (no_least k.0 h)
uneven_once rs (uneven.ReadMask i j) (uneven.FinalLeft m) h k = absurd (no_least k.0 h)
uneven_once rs (uneven.WriteMask i j) (uneven.ReadMask m n) h k = absurd (no_least h.0 k)
uneven_once rs (uneven.WriteMask i j) (uneven.WriteMask m n) h k = let e =
    clash_once _ rs i j m n h.1 k.1 in λ t. uneven.WriteMask (e.0 t) (e.1 t)
uneven_once rs (uneven.WriteMask i j) (uneven.Silent m) h k = absurd (no_least k.1 h.1)
uneven_once rs (uneven.WriteMask i j) (uneven.InitialEntered m) h k = absurd (no_least k.1 h.1)
uneven_once rs (uneven.WriteMask i j) (uneven.FinalLeft m) h k = absurd (no_least k.1 h.1)
uneven_once rs (uneven.Silent i) (uneven.ReadMask m n) h k = absurd (no_least h.0 k)
uneven_once rs (uneven.Silent i) (uneven.WriteMask m n) h k = absurd (no_least h.1 k.1)
uneven_once rs (uneven.Silent i) (uneven.Silent m) h k = ap uneven.Silent (flaw_once flaws.Silent rs i m h.2 k.2)
uneven_once rs (uneven.Silent i) (uneven.InitialEntered m) h k = absurd (no_first flaws.Silent rs i k.2 h.2)
uneven_once rs (uneven.Silent i) (uneven.FinalLeft m) h k = absurd (no_first flaws.Silent rs i k.2 h.2)
uneven_once rs (uneven.InitialEntered i) (uneven.ReadMask m n) h k = absurd (no_least h.0 k)
uneven_once rs (uneven.InitialEntered i) (uneven.WriteMask m n) h k = absurd (no_least h.1 k.1)
uneven_once rs (uneven.InitialEntered i) (uneven.Silent m) h k = absurd (no_first flaws.Silent rs m h.2 k.2)
uneven_once rs (uneven.InitialEntered i) (uneven.InitialEntered m) h k =
    ap uneven.InitialEntered (flaw_once (initial_flaw rs) rs i m h.3 k.3)
uneven_once rs (uneven.InitialEntered i) (uneven.FinalLeft m) h k = absurd (no_first (initial_flaw rs) rs i k.3 h.3)
uneven_once rs (uneven.FinalLeft i) (uneven.ReadMask m n) h k = absurd (no_least h.0 k)
uneven_once rs (uneven.FinalLeft i) (uneven.WriteMask m n) h k = absurd (no_least h.1 k.1)
uneven_once rs (uneven.FinalLeft i) (uneven.Silent m) h k = absurd (no_first flaws.Silent rs m h.2 k.2)
uneven_once rs (uneven.FinalLeft i) (uneven.InitialEntered m) h k = absurd (no_first (initial_flaw rs) rs m h.3 k.3)
uneven_once rs (uneven.FinalLeft i) (uneven.FinalLeft m) h k =
    ap uneven.FinalLeft (flaw_once (final_flaw rs) rs i m h.4 k.4)

uniform_refusal_once : (rs : List (Rule ℕ)) (a b : UniformRefusal) → IsUniformRefusal rs a → IsUniformRefusal rs b
    → a ≡ b
uniform_refusal_once rs (uniform.Domain i j) (uniform.Domain m n) h k = let e =
    clash_once _ rs i j m n h k in λ t. uniform.Domain (e.0 t) (e.1 t)
uniform_refusal_once rs (uniform.Domain i j) (uniform.Range m n) h k = absurd (no_least k.0 h)
uniform_refusal_once rs (uniform.Domain i j) (uniform.Mask why) h k = absurd (no_least k.0 h)
uniform_refusal_once rs (uniform.Range i j) (uniform.Domain m n) h k = absurd (no_least h.0 k)
uniform_refusal_once rs (uniform.Range i j) (uniform.Range m n) h k = let e =
    clash_once _ rs i j m n h.1 k.1 in λ t. uniform.Range (e.0 t) (e.1 t)
uniform_refusal_once rs (uniform.Range i j) (uniform.Mask why) h k = absurd (no_least k.1 h.1)
uniform_refusal_once rs (uniform.Mask why) (uniform.Domain m n) h k = absurd (no_least h.0 k)
uniform_refusal_once rs (uniform.Mask why) (uniform.Range m n) h k = absurd (no_least h.1 k.1)
uniform_refusal_once rs (uniform.Mask why) (uniform.Mask other) h k = ap uniform.Mask (uneven_once rs why other h.2 k.2)

pub refusals_once : RefusalsAreOne
refusals_once = (quad_refusal_once, uneven_once, uniform_refusal_once)

stays_or_leaves : (d : Deed) (w : Windowed) (side : Side) → DeedStays d w → DeedLeaves d w side → ⊥
stays_or_leaves (Rewrite r v) w side h k = k
stays_or_leaves (Move s) w side h k = not_inside_and_beyond w.left w.right (moved w.tape.head s) side k h

leaves_one_side : (d : Deed) (w : Windowed) (a b : Side) → DeedLeaves d w a → DeedLeaves d w b → a ≡ b
leaves_one_side (Rewrite r v) w a b h k = absurd h
leaves_one_side (Move s) w a b h k = beyond_one_side w.left w.right (moved w.tape.head s) a b h k

leaves_once : (ds : List Deed) (ws : List Windowed) (n m : ℕ) (a b : Side) → LeavesAt ds ws n a → LeavesAt ds ws m b
    → (n ≡ m) × (a ≡ b)
leaves_once [] ws n m a b h k = absurd h
leaves_once (d ∷ ds) [] n m a b h k = absurd h
leaves_once (d ∷ ds) (w ∷ ws) zero m a b h k = absurd h
leaves_once (d ∷ ds) (w ∷ ws) (suc zero) zero a b h k = absurd k
leaves_once (d ∷ ds) (w ∷ ws) (suc zero) (suc zero) a b h k = (refl, leaves_one_side d w a b h k)
leaves_once (d ∷ ds) (w ∷ ws) (suc zero) (suc (suc m)) a b h k = absurd (stays_or_leaves d w a k.0 h)
leaves_once (d ∷ ds) (w ∷ ws) (suc (suc n)) zero a b h k = absurd k
leaves_once (d ∷ ds) (w ∷ ws) (suc (suc n)) (suc zero) a b h k = absurd (stays_or_leaves d w b h.0 k)
leaves_once (d ∷ ds) (w ∷ ws) (suc (suc n)) (suc (suc m)) a b h k = let e =
    leaves_once ds ws (suc n) (suc m) a b h.1 k.1 in (ap suc e.0, e.1)

-- a quadruple that takes a head out doesn't leave all heads inside
not_all_stay : (r : Rule ℕ) (s : ℕ) (w : Tapes) (n : ℕ) (side : Side) → LeavesAt (deeds_of r) (windows_of w) n side
    → AreAllowed (rooms_of w) (after r (configuration s w)) → ⊥
not_all_stay r s w zero side h k = h
not_all_stay r s w (suc zero) side h k = stays_or_leaves r.one w.one side k.one h
not_all_stay r s w (suc (suc zero)) side h k = stays_or_leaves r.two w.two side k.two h.1
not_all_stay r s w (suc (suc (suc zero))) side h k = stays_or_leaves r.three w.three side k.three h.1.1
not_all_stay r s w (suc (suc (suc (suc n)))) side h k = h.1.1.1

leaving_not_going : (p : Quadruples) (s : ℕ) (w : Tapes) (tape : ℕ) (side : Side) (n t : ℕ) (v : Tapes)
    → IsLeaving p s w tape side → GoesBy (rooms_of w) p n (configuration s w) (configuration t v) → ⊥
leaving_not_going p s w tape side n t v l g =
    let same = first_rule_once p.rules (configuration s w) l.number n l.rule g.rule l.first g.first in
    let stays = subst (AreAllowed (rooms_of w)) g.gives g.stays in
    not_all_stay g.rule s w tape side (subst (λ (r : Rule ℕ). LeavesAt (deeds_of r) (windows_of w) tape side) same.1
    l.leaves) stays

same_window : (w v x : Windowed) → v ≡ with_tape w v.tape → x ≡ with_tape w x.tape → v.tape ≡ x.tape → v ≡ x
same_window w v x e f tapes = e ∙ ap (with_tape w) tapes ∙ sym f

same_tapes : (w v x : Tapes) (t u : ℕ) → AreSameWindows w v → AreSameWindows w x → configuration t v ≡ configuration u x
    → v ≡ x
same_tapes w v x t u e f same =
    let one = same_window w.one v.one x.one e.one f.one (ap (λ (c : Configuration ℕ). c.one) same) in
    let two = same_window w.two v.two x.two e.two f.two (ap (λ (c : Configuration ℕ). c.two) same) in
    let three = same_window w.three v.three x.three e.three f.three (ap (λ (c : Configuration ℕ). c.three) same) in
    λ i. record { one = one i; two = two i; three = three i }

stuck_not_first : (p : Quadruples) (c : Configuration ℕ) (n : ℕ) (r : Rule ℕ) → IsQuadrupleStuck p c
    → IsFirstRule p.rules c n r → ⊥
stuck_not_first p c n r stuck f = stuck.none.none n r f.stands f.holds

pub quad_turn_once : QuadTurnsAreOne
quad_turn_once p turn.Final turn.Final s w t u v x h k = (refl, h.1 ∙ sym k.1, h.2 ∙ sym k.2)
quad_turn_once p turn.Final turn.Stuck s w t u v x h k = absurd (k.0.going h.0)
quad_turn_once p turn.Final (turn.Left tape side) s w t u v x h k = absurd (k.0.going h.0)
quad_turn_once p turn.Final (turn.Moved n) s w t u v x h k = absurd (k.0.going h.0)
quad_turn_once p turn.Stuck turn.Final s w t u v x h k = absurd (h.0.going k.0)
quad_turn_once p turn.Stuck turn.Stuck s w t u v x h k = (refl, h.1 ∙ sym k.1, h.2 ∙ sym k.2)
quad_turn_once p turn.Stuck (turn.Left tape side) s w t u v x h k =
    absurd (stuck_not_first p _ k.0.number k.0.rule h.0 k.0.first)
quad_turn_once p turn.Stuck (turn.Moved n) s w t u v x h k = absurd (stuck_not_first p _ n k.0.rule h.0 k.0.first)
quad_turn_once p (turn.Left tape side) turn.Final s w t u v x h k = absurd (h.0.going k.0)
quad_turn_once p (turn.Left tape side) turn.Stuck s w t u v x h k =
    absurd (stuck_not_first p _ h.0.number h.0.rule k.0 h.0.first)
quad_turn_once p (turn.Left tape side) (turn.Left tape' side') s w t u v x h k =
    let same = first_rule_once p.rules (configuration s w) h.0.number k.0.number h.0.rule k.0.rule h.0.first k.0.first
    in
    let e = leaves_once (deeds_of k.0.rule) (windows_of w) tape tape' side side'
    (subst (λ (r : Rule ℕ). LeavesAt (deeds_of r) (windows_of w) tape side) same.1 h.0.leaves) k.0.leaves in
    (λ i. turn.Left (e.0 i) (e.1 i), h.1 ∙ sym k.1, h.2 ∙ sym k.2)
quad_turn_once p (turn.Left tape side) (turn.Moved n) s w t u v x h k =
    absurd (leaving_not_going p s w tape side n u x h.0 k.0)
quad_turn_once p (turn.Moved n) turn.Final s w t u v x h k = absurd (h.0.going k.0)
quad_turn_once p (turn.Moved n) turn.Stuck s w t u v x h k = absurd (stuck_not_first p _ n h.0.rule k.0 h.0.first)
quad_turn_once p (turn.Moved n) (turn.Left tape side) s w t u v x h k =
    absurd (leaving_not_going p s w tape side n t v k.0 h.0)
quad_turn_once p (turn.Moved n) (turn.Moved m) s w t u v x h k =
    let same = first_rule_once p.rules (configuration s w) n m h.0.rule k.0.rule h.0.first k.0.first in
    let there : configuration t v ≡ configuration u x = h.0.gives
    ∙ ap (λ (r : Rule ℕ). after r (configuration s w)) same.1 ∙ sym k.0.gives in
    (ap turn.Moved same.0, ap (λ (c : Configuration ℕ). c.state) there, same_tapes w v x t u h.1 k.1 there)
