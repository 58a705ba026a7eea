-- The reply of the command `plan`, of which there is one and only one.
use Rattle.std.specs.Prelude.{◌≡◌, ◌≢◌, ◌⊎◌, ℕ, zero, suc, ◌≤◌, true, not, List, [], ◌∷◌, Some, Result, Ok, Err, IfOk}
use Rattle.std.specs.Prelude.{replicate, refl}
use Rattle.std.specs.List.{filter}
use Rattle.std.proofs.Common.{inl, inr, sym, ap, subst, ◌∙◌, arith}
use Rattle.bn_circuits.specs.Circuits.{target, same_line, inputs_of, outputs_of}
use Rattle.bn_circuits.specs.declared.line.Wire.{Wire}
use Rattle.bn_circuits.specs.declared.place.Place.{Place}
use Rattle.bn_element.specs.Rotary.{rotary}
use Rattle.bn_circuits.proofs.WireListLemmas.{line_tells}
use Rattle.bn_netlist_laws.specs.Faults.{Fault, IsFirstFault}
use Rattle.bn_circuits.specs.declared.net.TheConstants.{MOST_ELEMENTS}
use Rattle.bn_netlist_laws.specs.Spelling.{Spelling, Admits, Spelled, circuit_of, most_elements}
use Rattle.bn_netlist_laws.specs.declared.version.Version.{Version}
use Rattle.bn_netlist_laws.proofs.AdmittedLemmas.{most_small}
use Rattle.bn_netlist_laws.proofs.TextLemmas.{spellings-agree, faulty_texts-spell-nothing}
use Rattle.bn_netlist_laws.proofs.DecideLemmas.{texts-spell-or-fault}
use Rattle.bn_reply_relations.proofs.SettledLemmas.{one_fault}
use Rattle.bn_plan.specs.Lists.{Pairwise}
use Rattle.bn_lists.specs.Lists.{Has}
use Rattle.bn_plan.specs.Wires.{AreRotary, AreWiresOf}
use Rattle.bn_plan.proofs.ListLemmas.{in_filter, filter_in, pairwise_filter}
use Rattle.bn_plan.proofs.CircuitLemmas.{circuits_are_rotary}
use Rattle.bn_plan.proofs.FloorLemmas.{floor_exists, floor_once}
use Rattle.bn_reply_relations.specs.CircuitReply.{Misspelled, fault_text}
use Rattle.bn_reply.specs.Answering.{HasAnswer, IsOneAnswer}
use Rattle.bn_reply.specs.Codes.{IsReplyStatus}
use Rattle.bn_reply.specs.declared.reply.Reply.{Reply}
use Rattle.bn_lists.specs.declared.memory.NoMemory.{NoMemory as WantOfMemory}
use Rattle.bn_reply.specs.declared.status.Status.{Status}
use Rattle.bn_reply.specs.declared.status.Status.TheVariants.{Done, Text}
use Rattle.bn_reply.proofs.SettledLemmas.{agree}
use Rattle.bn_reply_circuits.specs.PlanReply.{plan_text, TellsPlan, Planned, PlanReplies, PlanIsSettled, misspelled}
use Rattle.bn_reply_circuits.specs.PlanReply.{planned}

-- ---- what the code replies

-- what is read has no more elements than a circuit may have
pub few_elements : (v : Version) (s : Spelling) → Admits v s → s.elements ≤ MOST_ELEMENTS
few_elements v s a =
    let most = most_small v in
    let few : s.elements ≤ most_elements v = a.few in
    omega arith

-- the reply to a text that is read
pub replied : (bytes : List ℕ) (v : Version) (s : Spelling) (result : Result Reply WantOfMemory) → Spelled v s bytes
    → IfOk result (λ r. r.status ≡ Done)
    → IfOk result (λ r. TellsPlan s.wires s.elements r.text.items)
    → IfOk result (λ r. PlanReplies bytes r.status r.text.items [])
replied bytes v s (Ok r) spelled done tells = planned (record
    { version = v; spelling = s; spelled = spelled; tells = tells }) done refl
replied bytes v s (Err e) spelled done tells = tt

-- ---- each circuit has a list of its wires

-- the wires that leave a line that no earlier wire leaves
abbrev leading : List Wire → List Wire
leading [] = []
leading (w ∷ ws) = w ∷ filter (λ (v : Wire). not (same_line w.from v.from)) (leading ws)

leads_there : (ws : List Wire) (v : Wire) → Has (leading ws) v → target ws v.from ≡ Some v.to
leads_there [] v h = absurd h
leads_there (w ∷ ws) v (inl e) = subst (λ (x : Wire). target (w ∷ ws) x.from ≡ Some x.to) (sym e) here
  where
    here : target (w ∷ ws) w.from ≡ Some w.to
    here = elim (line_tells w.from w.from) [ inl same ↦ rw same.0 refl | inr other ↦ absurd (other.1 refl) ]
leads_there (w ∷ ws) v (inr h) =
    let stays = filter_in (λ (x : Wire). not (same_line w.from x.from)) (leading ws) v h in
    let rest = leads_there ws v stays.0 in
    elim (line_tells w.from v.from) [
      | inl same ↦ let clash : not true ≡ true = ap not (sym same.0) ∙ stays.1 in absurd (cc)
      | inr other ↦ rw other.0 rest
    ]

leads_back : (ws : List Wire) (v : Wire) → target ws v.from ≡ Some v.to → Has (leading ws) v
leads_back [] v is = absurd (cc)
leads_back (w ∷ ws) v is = elim (line_tells w.from v.from) [
  | inl same ↦ let to : Some w.to ≡ Some v.to = rw same.0 at is in let also : v.to ≡ w.to =
      cc in inl (λ i. record { from = (sym same.1) i; to = also i })
  | inr other ↦ inr (in_filter (λ (x : Wire). not (same_line w.from x.from)) (leading ws) v
      (leads_back ws v (rw other.0 at is)) (ap not other.0))
]

leading_apart : (ws : List Wire) → Pairwise (λ (v w : Wire). v.from ≢ w.from) (leading ws)
leading_apart [] = tt
leading_apart (w ∷ ws) = (
  first,
  pairwise_filter (λ (v x : Wire). v.from ≢ x.from)
      (λ (v : Wire). not (same_line w.from v.from)) (leading ws) (leading_apart ws),
)
  where
    first : (v : Wire) → Has (filter (λ (x : Wire). not (same_line w.from x.from)) (leading ws)) v → w.from ≢ v.from
    first v h e = let stays = filter_in (λ (x : Wire). not (same_line w.from x.from)) (leading ws) v h in elim
        (line_tells w.from v.from) [
          | inl same ↦ let clash : not true ≡ true = ap not (sym same.0) ∙ stays.1 in absurd (cc)
          | inr other ↦ absurd (other.1 e)
        ]

listing : (ws : List Wire) → AreWiresOf ws (leading ws)
listing ws = record { each = λ v. (leads_there ws v, leads_back ws v); once = leading_apart ws }

-- ---- one reply

-- a circuit that is spelled has four lines each way everywhere
four_lines : (n e : ℕ) → (inputs_of (replicate n rotary) e ≤ 4) × (outputs_of (replicate n rotary) e ≤ 4)
four_lines zero e = (omega arith, omega arith)
four_lines (suc n) zero = (omega arith, omega arith)
four_lines (suc n) (suc e) = four_lines n e

spelled_rotary : (v : Version) (s : Spelling) (bytes : List ℕ) (ws : List Wire) → Spelled v s bytes
    → AreWiresOf s.wires ws → AreRotary ws
spelled_rotary v s bytes ws spelled listed = circuits_are_rotary (circuit_of s) ws spelled.admitted.circuit
    (four_lines s.elements) listed

one_plan : (bytes text second : List ℕ) → Planned bytes text → Planned bytes second → text ≡ second
one_plan bytes text second a b =
    let same = (spellings-agree a.version b.version a.spelling b.spelling bytes a.spelled b.spelled).1 in
    let plans : a.tells.plan ≡ b.tells.plan = floor_once a.tells.wires b.tells.wires a.tells.plan b.tells.plan
    (spelled_rotary a.version a.spelling bytes a.tells.wires a.spelled a.tells.listed)
    (spelled_rotary b.version b.spelling bytes b.tells.wires b.spelled b.tells.listed)
    (λ w. (
      (λ h. (b.tells.listed.each w).1 (sym (same.targets w.from) ∙ (a.tells.listed.each w).0 h)),
      λ h. (a.tells.listed.each w).1 (same.targets w.from ∙ (b.tells.listed.each w).0 h),
    ))
    a.tells.floor b.tells.floor in
    a.tells.written ∙ ap (λ n. plan_text n a.tells.plan) same.elements ∙ ap (plan_text b.spelling.elements) plans
    ∙ sym b.tells.written

planned_or_not : (bytes text second : List ℕ) → Planned bytes text → Misspelled bytes second → ⊥
planned_or_not bytes text second a b = faulty_texts-spell-nothing a.version a.spelling bytes b.line b.fault b.first
    a.spelled

by_spelling : (bytes : List ℕ) → ((v : Version) × (s : Spelling) × Spelled v s bytes)
    ⊎ ((line : ℕ) × (fault : Fault) × IsFirstFault bytes line fault) → HasAnswer (PlanReplies bytes)
by_spelling bytes (inl (v, s, is)) =
    let floor = floor_exists (leading s.wires) in (
      Done,
      plan_text s.elements floor.0,
      [],
      planned (record {
        version = v;
        spelling = s;
        spelled = is;
        tells = record {
          wires = leading s.wires;
          listed = listing s.wires;
          plan = floor.0;
          floor = floor.1;
          written = refl;
        };
      }) refl refl,
    )
by_spelling bytes (inr h) = (
  Text,
  fault_text h.0 h.1,
  [],
  misspelled (record { line = h.0; fault = h.1; first = h.2; written = refl }) refl refl,
)

plan_one : (bytes : List ℕ) → IsOneAnswer (PlanReplies bytes)
plan_one bytes status other text second told heard (planned a e m) (planned b d n) =
    agree Done status other text second told heard e d (one_plan bytes text second a b) m n
plan_one bytes status other text second told heard (planned a e m) (misspelled b d n) =
    absurd (planned_or_not bytes text second a b)
plan_one bytes status other text second told heard (misspelled a e m) (planned b d n) =
    absurd (planned_or_not bytes second text b a)
plan_one bytes status other text second told heard (misspelled a e m) (misspelled b d n) =
    agree Text status other text second told heard e d (one_fault bytes text second a b) m n

plan_status : (bytes : List ℕ) (status : Status) (text : List ℕ) (told : List Place)
    → PlanReplies bytes status text told → IsReplyStatus status
plan_status bytes status text told (planned a e m) = subst IsReplyStatus (sym e) tt
plan_status bytes status text told (misspelled a e m) = subst IsReplyStatus (sym e) tt

pub plan_settled : PlanIsSettled
plan_settled bytes = record {
  some = by_spelling bytes (texts-spell-or-fault bytes);
  one = plan_one bytes;
  status = plan_status bytes;
}
