-- Entries without a fault, and the moves that they are.
use Rattle.std.specs.Prelude.{◌≡◌, ℕ, ◌≤◌, List, [], ◌∷◌, None, refl}
use Rattle.std.proofs.Common.{◌∙◌}
use Rattle.bn_csv.proofs.FaultLemmas.{in_number, passed, within_number}
use Rattle.bn_rsm.specs.declared.rsm_move.RsmMove.{RsmMove}
use Rattle.bn_rsm.specs.Entry.{IsMove, move_entry}
use Rattle.bn_rsm.specs.TableFaults.{move_entry_fault, move_field_fault, move_form_fault, is_number}
use Rattle.bn_rsm.specs.declared.entry.TheConstants.{MOST_ENTRIES}
use Rattle.bn_rsm.specs.declared.table_refusal.RsmTableRefusal.TheVariants as refusal
use Rattle.bn_rsm.proofs.Decimals.{number_decimal, numbered, same_number}

-- the move that an entry is
pub record IsEntry (fields : List (List ℕ)) : Type 0 where
  pub step : RsmMove
  pub is : fields ≡ move_entry step
  pub within : IsMove step

four_step : (n : ℕ) (a b c d : List ℕ) → move_field_fault n a b c d ≡ None → IsEntry (a ∷ b ∷ c ∷ d ∷ [])
four_step n a b c d p =
    let p1 = passed (is_number a) _ _ p in
    let p2 = passed (is_number b) _ _ p1.1 in
    let p3 = passed (is_number c) _ _ p2.1 in
    let p4 = passed (is_number d) _ _ p3.1 in
    let x = numbered a p1.0 in
    let y = numbered b p2.0 in
    let z = numbered c p3.0 in
    let w = numbered d p4.0 in
    record {
      step = record { state = x.number; line = y.number; next = z.number; out = w.number };
      is = (λ i. x.spelled i ∷ y.spelled i ∷ z.spelled i ∷ w.spelled i ∷ []);
      within = record { state = x.few; line = y.few; next = z.few; out = w.few };
    }

form_step : (n : ℕ) (fields : List (List ℕ)) → move_form_fault n fields ≡ None → IsEntry fields
form_step n (a ∷ b ∷ c ∷ d ∷ []) p = four_step n a b c d p
form_step n [] p = cc p
form_step n (a ∷ []) p = cc p
form_step n (a ∷ b ∷ []) p = cc p
form_step n (a ∷ b ∷ c ∷ []) p = cc p
form_step n (a ∷ b ∷ c ∷ d ∷ e ∷ es) p = cc p

-- an entry without a fault is that of a move
pub step_of : (n : ℕ) (fields : List (List ℕ)) → move_entry_fault n fields ≡ None → IsEntry fields
step_of n fields none = form_step n fields (in_number MOST_ENTRIES refusal.TooMany move_form_fault n fields none).1

-- entries of moves have no fault, up to as many as a table may have
pub no_fault : (n : ℕ) (m : RsmMove) → n ≤ MOST_ENTRIES → IsMove m → move_entry_fault n (move_entry m) ≡ None
no_fault n m few h =
    within_number MOST_ENTRIES refusal.TooMany move_form_fault n (move_entry m) few
    ∙ rw (
      number_decimal m.state h.state,
      number_decimal m.line h.line,
      number_decimal m.next h.next,
      number_decimal m.out h.out,
    ) refl

-- two moves with one entry are one
same_fields : (a b c d a2 b2 c2 d2 : List ℕ) → a ∷ b ∷ c ∷ d ∷ [] ≡ a2 ∷ b2 ∷ c2 ∷ d2 ∷ []
    → (a ≡ a2) × (b ≡ b2) × (c ≡ c2) × (d ≡ d2)
same_fields a b c d a2 b2 c2 d2 e = (cc, cc, cc, cc)

pub same_step : (m n : RsmMove) → IsMove m → IsMove n → move_entry m ≡ move_entry n → m ≡ n
same_step m n h k e =
    let parts = same_fields _ _ _ _ _ _ _ _ e in
    let state : m.state ≡ n.state = same_number m.state n.state h.state k.state parts.0 in
    let line : m.line ≡ n.line = same_number m.line n.line h.line k.line parts.1 in
    let next : m.next ≡ n.next = same_number m.next n.next h.next k.next parts.2 in
    let out : m.out ≡ n.out = same_number m.out n.out h.out k.out parts.3 in
    λ i. record { state = state i; line = line i; next = next i; out = out i }
