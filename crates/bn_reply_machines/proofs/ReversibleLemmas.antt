-- `reversible` has one answer to all bytes.
use Rattle.std.specs.Prelude.{◌≡◌, ℕ, List, [], ◌++◌, Option, Some, None, codes, ◌⊎◌}
use Rattle.std.proofs.Common.{refl, sym, subst, ◌∙◌, inl, inr}
use Rattle.bn_csv.specs.Entries.{entries_of}
use Rattle.bn_quad.specs.Quadruples.{Rule}
use Rattle.bn_quad.specs.Overlap.{QuadruplesClash, IsClash, IsLeastClash}
use Rattle.bn_quad.specs.declared.clash.Clash.{Clash}
use Rattle.bn_quad.specs.declared.clash.Clash.TheVariants.{Domain, Range}
use Rattle.bn_qtable.specs.Faults.{quadruple_table_fault}
use Rattle.bn_qtable.specs.Reading.{ReadsQuadruples}
use Rattle.bn_qtable.proofs.ReadingLaws.{no_fault_of, one_reading, reading_of}
use Rattle.bn_qtable.specs.Rows.{QuadTable}
use Rattle.bn_circuits.specs.declared.place.Place.{Place}
use Rattle.bn_reply.specs.Answering.{HasAnswer, IsOneAnswer}
use Rattle.bn_reply.specs.Codes.{IsReplyStatus}
use Rattle.bn_reply.proofs.SettledLemmas.{agree}
use Rattle.bn_reply.proofs.TableLemmas.{first_once, read_or_told}
use Rattle.bn_reply_machines.specs.ReversibleReply.{IsVerdict, TellsVerdicts, TellsQuadFault, ReversibleReplies, faulty}
use Rattle.bn_reply_machines.specs.ReversibleReply.{judged, ReversibleIsSettled, quad_fault_line, verdict_line}
use Rattle.bn_reply.specs.declared.status.Status.{Status}
use Rattle.bn_reply.specs.declared.status.Status.TheVariants as statuses
use Rattle.bn_reply_machines.proofs.ClashOrNot.{clash_or_none, overlap_in_domain, overlap_in_range}
use Rattle.bn_lists.proofs.LeastLemmas.{least_once as neither_below}

-- ---- one answer

pub clash_once : (clash : Clash) (rs : List (Rule ℕ)) (i j m n : ℕ) → IsLeastClash clash rs i j
    → IsLeastClash clash rs m n → (i ≡ m) × (j ≡ n)
clash_once clash rs i j m n a b =
    let first : i ≡ m = neither_below i m (λ h. b.least_first i j h a.holds) (λ h. a.least_first m n h b.holds) in
    let there : IsClash clash rs m j = subst (λ (k : ℕ). IsClash clash rs k j) first a.holds in
    let back : IsClash clash rs i n = subst (λ (k : ℕ). IsClash clash rs k n) (sym first) b.holds in
    (first, neither_below j n (λ h. b.least_second j h there) (λ h. a.least_second n h back))

verdict_once : (clash : Clash) (rs : List (Rule ℕ)) (a b : Option (ℕ × ℕ)) → IsVerdict clash rs a → IsVerdict clash rs b
    → a ≡ b
verdict_once clash rs None None h k = refl
verdict_once clash rs None (Some q) h k = absurd (h.none q.0 q.1 k.holds)
verdict_once clash rs (Some p) None h k = absurd (k.none p.0 p.1 h.holds)
verdict_once clash rs (Some p) (Some q) h k = let e = clash_once clash rs p.0 p.1 q.0 q.1 h k in λ t. Some
    (e.0 t, e.1 t)

verdicts_once : (rs : List (Rule ℕ)) (a b : List ℕ) → TellsVerdicts rs a → TellsVerdicts rs b → a ≡ b
verdicts_once rs a b h k =
    let domain = verdict_once Domain rs h.domain k.domain h.deterministic k.deterministic in
    let range = verdict_once Range rs h.range k.range h.reversible k.reversible in
    h.told ∙ (λ t. verdict_line (codes "deterministic") (domain t) ++ verdict_line (codes "reversible") (range t))
    ∙ sym k.told

-- ---- an answer

pub verdict_of : (clash : Clash) → ((r s : Rule ℕ) → QuadruplesClash clash r s ⊎ (QuadruplesClash clash r s → ⊥))
    → (rs : List (Rule ℕ)) →
    (found : Option (ℕ × ℕ)) × IsVerdict clash rs found
verdict_of clash test rs = elim (clash_or_none clash test rs) [
  | inl none ↦ (None, none)
  | inr some ↦ (Some (some.0, some.1), some.2)
]

verdicts_of : (rs : List (Rule ℕ)) → (text : List ℕ) × TellsVerdicts rs text
verdicts_of rs =
    let domain = verdict_of Domain overlap_in_domain rs in
    let range = verdict_of Range overlap_in_range rs in
    (_, record { domain = domain.0; range = range.0; deterministic = domain.1; reversible = range.1; told = refl })

module _ (bytes : List ℕ) where
  reversible_some : ((t : QuadTable) × ReadsQuadruples bytes t) ⊎ ((text : List ℕ) × TellsQuadFault bytes text)
      → HasAnswer (ReversibleReplies bytes)
  reversible_some (inl t) = let verdicts = verdicts_of t.0.machine.rules in
      (statuses.Done, verdicts.0, [], judged t.0 t.1 verdicts.1 refl refl)
  reversible_some (inr f) = (statuses.Text, f.0, [], faulty f.1 refl refl)

  reversible_one : IsOneAnswer (ReversibleReplies bytes)
  reversible_one s u a b x y (faulty h e n) (faulty k f m) = agree statuses.Text s u a b x y e f
      (first_once (ReadsQuadruples bytes) (quadruple_table_fault (entries_of bytes)) quad_fault_line a b h k) n m
  reversible_one s u a b x y (faulty h e n) (judged t reads k f m) = absurd (h.unread t reads)
  reversible_one s u a b x y (judged t reads h e n) (faulty k f m) = absurd (k.unread t reads)
  reversible_one s u a b x y (judged t reads h e n) (judged v also k f m) =
      let tables : v ≡ t = one_reading (entries_of bytes) v t also reads in
      agree statuses.Done s u a b x y e f (verdicts_once t.machine.rules a b h
      (subst (λ (w : QuadTable). TellsVerdicts w.machine.rules b) tables k)) n m

  reversible_status : (s : Status) (text : List ℕ) (told : List Place) → ReversibleReplies bytes s text told
      → IsReplyStatus s
  reversible_status s text told (faulty h e n) = subst IsReplyStatus (sym e) tt
  reversible_status s text told (judged t reads h e n) = subst IsReplyStatus (sym e) tt

pub reversible_settled : ReversibleIsSettled
reversible_settled bytes = record {
  some = reversible_some bytes (read_or_told (ReadsQuadruples bytes) (quadruple_table_fault (entries_of bytes))
      quad_fault_line
      (λ none. reading_of (entries_of bytes) none, λ r. no_fault_of (entries_of bytes) r.0 r.1));
  one = reversible_one bytes;
  status = reversible_status bytes;
}
