-- A machine is uniform, or there is the first demand that it doesn't meet; and what is answered of it is settled.
use Rattle.std.specs.Prelude.{◌≡◌, ℕ, List, [], ◌⊎◌, refl}
use Rattle.std.proofs.Common.{inl, inr, sym, subst, ap, ◌∙◌}
use Rattle.bn_lists.specs.Lists.{IsFirstWith}
use Rattle.bn_lists.proofs.ListLemmas.{first_or_none}
use Rattle.bn_circuits.specs.declared.place.Place.{Place}
use Rattle.bn_machine.specs.declared.quint.Shift.TheVariants as shift
use Rattle.bn_quad.specs.Calls.{IsNotUniform, IsUniformRefusal}
use Rattle.bn_quad.specs.Overlap.{DiffersInReads, DiffersInWrites, HasNoClash, HasNoFlaw, HaveSameTapes, IsAlike}
use Rattle.bn_quad.specs.Overlap.{IsFlawed, IsIdle, IsLeastClash, IsSilent, IsUniform, final_flaw, initial_flaw}
use Rattle.bn_quad.specs.Quadruples.{Deed, Move, Rewrite, Rule}
use Rattle.bn_quad.specs.declared.clash.Clash.TheVariants.{Reads, Writes}
use Rattle.bn_quad.specs.declared.clash.Flaw.{Flaw}
use Rattle.bn_quad.specs.declared.clash.Flaw.TheVariants.{Enters, Leaves, Silent}
use Rattle.bn_quad.specs.declared.refusal.NotUniform.{NotUniform}
use Rattle.bn_quad.specs.declared.refusal.NotUniform.TheVariants as uneven
use Rattle.bn_quad.specs.declared.refusal.UniformRefusal.{UniformRefusal}
use Rattle.bn_quad.specs.declared.refusal.UniformRefusal.TheVariants as failing
use Rattle.bn_quad.proofs.AnswerLemmas.{refusals_once}
use Rattle.bn_qtable.specs.Reading.{ReadsQuadruples}
use Rattle.bn_qtable.specs.Rows.{QuadTable}
use Rattle.bn_reply.specs.Answering.{HasAnswer, IsOneAnswer, IsSettled}
use Rattle.bn_reply.specs.Codes.{IsReplyStatus}
use Rattle.bn_reply.specs.declared.status.Status.{Status}
use Rattle.bn_reply.specs.declared.status.Status.TheVariants as statuses
use Rattle.bn_reply.proofs.SettledLemmas.{agree}
use Rattle.bn_reply_machines.proofs.ClashOrNot.{both, clash_or_none, on_each_tape, same}
use Rattle.bn_reply_machines.specs.QuadReply.{QuadReplies, domain, nothing, passes, range}
use Rattle.bn_reply_machines.specs.UniformReply.{UniformReplies, failing_line, not_uniform, uneven_line, uniform}
use Rattle.bn_reply_machines.proofs.QuadReplyLemmas.{answered_as}

-- ---- two quadruples, and one

negated : (P : Type 0) → P ⊎ (P → ⊥) → (P → ⊥) ⊎ ((P → ⊥) → ⊥)
negated P (inl p) = inr (λ never. never p)
negated P (inr never) = inl never

alike : (d e : Deed) → IsAlike d e ⊎ (IsAlike d e → ⊥)
alike (Rewrite r w) (Rewrite s v) = inl tt
alike (Rewrite r w) (Move s) = inr (λ h. h)
alike (Move s) (Rewrite r w) = inr (λ h. h)
alike (Move s) (Move t) = inl tt

differ_in_tapes : (r s : Rule ℕ) → (HaveSameTapes r s → ⊥) ⊎ ((HaveSameTapes r s → ⊥) → ⊥)
differ_in_tapes r s = negated (HaveSameTapes r s) (on_each_tape IsAlike alike r s)

differ_in_reads : (r s : Rule ℕ) → DiffersInReads r s ⊎ (DiffersInReads r s → ⊥)
differ_in_reads r s = elim (both _ _ (same r.from s.from) (differ_in_tapes r s)) [
  | inl h ↦ inl (record { from = h.0; apart = h.1 })
  | inr never ↦ inr (λ h. never (h.from, h.apart))
]

differ_in_writes : (r s : Rule ℕ) → DiffersInWrites r s ⊎ (DiffersInWrites r s → ⊥)
differ_in_writes r s = elim (both _ _ (same r.to s.to) (differ_in_tapes r s)) [
  | inl h ↦ inl (record { to = h.0; apart = h.1 })
  | inr never ↦ inr (λ h. never (h.to, h.apart))
]

idle : (d : Deed) → IsIdle d ⊎ (IsIdle d → ⊥)
idle (Rewrite r w) = inr (λ h. h)
idle (Move shift.Stay) = inl refl
idle (Move shift.Left) = inr (λ e. absurd (cc e))
idle (Move shift.Right) = inr (λ e. absurd (cc e))

silent : (r : Rule ℕ) → IsSilent r ⊎ (IsSilent r → ⊥)
silent r = elim (both _ _ (idle r.one) (both _ _ (idle r.two) (idle r.three))) [
  | inl h ↦ inl (record { one = h.0; two = h.1.0; three = h.1.1 })
  | inr never ↦ inr (λ h. never (h.one, (h.two, h.three)))
]

flawed : (flaw : Flaw) (r : Rule ℕ) → IsFlawed flaw r ⊎ (IsFlawed flaw r → ⊥)
flawed Silent r = silent r
flawed (Enters state) r = same r.to state
flawed (Leaves state) r = same r.from state

-- ---- all demands

module _ (rs : List (Rule ℕ)) where
  abbrev Flaws : Flaw → Type 0
  Flaws flaw = ((n : ℕ) × (r : Rule ℕ) × IsFirstWith (IsFlawed flaw) rs n r) ⊎ HasNoFlaw flaw rs

  judged : HasNoClash Reads rs ⊎ ((i : ℕ) × (j : ℕ) × IsLeastClash Reads rs i j) →
      HasNoClash Writes rs ⊎ ((i : ℕ) × (j : ℕ) × IsLeastClash Writes rs i j) →
      Flaws Silent → Flaws (initial_flaw rs) → Flaws (final_flaw rs) → ((why : NotUniform) × IsNotUniform rs why) ⊎
      IsUniform rs
  judged (inr c) w s i f = inl (uneven.ReadMask c.0 c.1, c.2)
  judged (inl r) (inr c) s i f = inl (uneven.WriteMask c.0 c.1, (r, c.2))
  judged (inl r) (inl w) (inl x) i f = inl (uneven.Silent x.0, (r, w, (x.1, x.2)))
  judged (inl r) (inl w) (inr s) (inl x) f = inl (uneven.InitialEntered x.0, (r, w, s, (x.1, x.2)))
  judged (inl r) (inl w) (inr s) (inr i) (inl x) = inl (uneven.FinalLeft x.0, (r, w, s, i, (x.1, x.2)))
  judged (inl r) (inl w) (inr s) (inr i) (inr f) =
      inr (record { reads = r; writes = w; active = s; initial = i; final = f })

  uniform_or_not : ((why : NotUniform) × IsNotUniform rs why) ⊎ IsUniform rs
  uniform_or_not = judged (clash_or_none Reads differ_in_reads rs) (clash_or_none Writes differ_in_writes rs)
      (first_or_none (IsFlawed Silent) (flawed Silent) rs)
      (first_or_none (IsFlawed (initial_flaw rs)) (flawed (initial_flaw rs)) rs)
      (first_or_none (IsFlawed (final_flaw rs)) (flawed (final_flaw rs)) rs)

  not_both : (why : NotUniform) → IsNotUniform rs why → IsUniform rs → ⊥
  not_both (uneven.ReadMask i j) h u = u.reads.none i j h.holds
  not_both (uneven.WriteMask i j) h u = u.writes.none i j h.1.holds
  not_both (uneven.Silent i) h u = u.active.none i h.2.0 h.2.1.stands h.2.1.holds
  not_both (uneven.InitialEntered i) h u = u.initial.none i h.3.0 h.3.1.stands h.3.1.holds
  not_both (uneven.FinalLeft i) h u = u.final.none i h.4.0 h.4.1.stands h.4.1.holds

-- ---- what is answered

-- the first test that a table's machine fails is told
pub failing_told : (bytes : List ℕ) (t : QuadTable) → ReadsQuadruples bytes t → (why : UniformRefusal) →
    IsUniformRefusal t.machine.rules why →
    (s : Status) (text : List ℕ) → text ≡ failing_line why → s ≡ statuses.Machine →
    QuadReplies (UniformReplies nothing) bytes s text []
failing_told bytes t reads (failing.Domain i j) h s text is e = domain t reads i j h is e refl
failing_told bytes t reads (failing.Range i j) h s text is e = range t reads h.0 i j h.1 is e refl
failing_told bytes t reads (failing.Mask why) h s text is e = passes t reads h.0 h.1 (not_uniform why h.2 is e refl)

-- a refusal is an answer whatever is answered to a table whose machine is uniform
pub uniform_refused : (tells : QuadTable → Status → List ℕ → List Place → Type 0) (bytes : List ℕ) (s : Status) (text
    : List ℕ)
    (told : List Place) → QuadReplies (UniformReplies nothing) bytes s text told → QuadReplies (UniformReplies tells)
    bytes s text told
uniform_refused tells bytes s text told = answered_as (UniformReplies nothing) (UniformReplies tells) bytes s text
    told by
  where
    by : (t : QuadTable) → UniformReplies nothing t s text told → UniformReplies tells t s text told
    by t (not_uniform why h e st n) = not_uniform why h e st n
    by t (uniform h none) = absurd none

module _ (tells : QuadTable → Status → List ℕ → List Place → Type 0) (t : QuadTable)
    (settled : IsUniform t.machine.rules → IsSettled (tells t)) where
  some_answer : ((why : NotUniform) × IsNotUniform t.machine.rules why) ⊎ IsUniform t.machine.rules → HasAnswer
      (UniformReplies tells t)
  some_answer (inl why) = (statuses.Machine, uneven_line why.0, [], not_uniform why.0 why.1 refl refl refl)
  some_answer (inr u) = let some = (settled u).some in (some.0, some.1, some.2, uniform u some.3)

  one_answer : IsOneAnswer (UniformReplies tells t)
  one_answer s u a b x y (not_uniform why h text e n) (not_uniform other k also f m) =
      agree statuses.Machine s u a b x y e f
      (text ∙ ap uneven_line (refusals_once.1 t.machine.rules why other h k) ∙ sym also) n m
  one_answer s u a b x y (not_uniform why h text e n) (uniform k g) = absurd (not_both t.machine.rules why h k)
  one_answer s u a b x y (uniform h g) (not_uniform why k text e n) = absurd (not_both t.machine.rules why k h)
  one_answer s u a b x y (uniform h g) (uniform k f) = (settled h).one s u a b x y g f

  status_is : (s : Status) (text : List ℕ) (told : List Place) → UniformReplies tells t s text told → IsReplyStatus s
  status_is s text told (not_uniform why h is_text e n) = subst IsReplyStatus (sym e) tt
  status_is s text told (uniform h g) = (settled h).status s text told g

  pub uniform_settled : IsSettled (UniformReplies tells t)
  uniform_settled = record {
    some = some_answer (uniform_or_not t.machine.rules);
    one = one_answer;
    status = status_is;
  }
