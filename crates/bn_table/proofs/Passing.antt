-- Entries without a fault, and what they say.
use Rattle.std.proofs.Common.{◌≡◌, ◌≤◌, ◌∷◌, ◌∙◌, ℕ, true, List, [], length, None, refl, sym, subst, arith, Result, Ok}
use Rattle.std.proofs.Common.{Err}
use Rattle.std.specs.Prelude.{◌==◌, IfOk}
use Rattle.std.proofs.lemmas.Bool.{false≢true}
use Rattle.std.proofs.lemmas.Bool.Decides.{Decides-eqb}
use Rattle.bn_csv.specs.Faults.{err_of}
use Rattle.bn_csv.specs.Forms.{is_letter, is_state_name, is_symbol_byte}
use Rattle.bn_csv.proofs.FaultLemmas.{in_number, passed, within_number}
use Rattle.bn_csv.proofs.NumberingLemmas.{both_true}
use Rattle.bn_machine.specs.declared.quint.Shift.{Shift}
use Rattle.bn_machine.specs.declared.quint.Shift.TheVariants.{Left, Stay, Right}
use Rattle.bn_table.specs.Entry.{Said, HasForms, entry_of}
use Rattle.bn_machine.specs.Shifts.{is_shift, shift_text}
use Rattle.bn_table.specs.Faults.{entry_fault, field_fault, form_fault}
use Rattle.bn_table.specs.Fields.{said}
use Rattle.bn_table.specs.declared.entry.Fields.{Fields}
use Rattle.bn_table.specs.declared.entry.TheConstants.{MOST_ENTRIES}
use Rattle.bn_table.specs.declared.refusal.TableRefusal.{TableRefusal}
use Rattle.bn_table.specs.declared.refusal.TableRefusal.TheVariants as refusal
use Rattle.bn_machine.proofs.ShiftLemmas.{shift_is}

letter_is : (field : List ℕ) → is_letter field ≡ true → (b : ℕ) × (field ≡ b ∷ []) × (is_symbol_byte b ≡ true)
letter_is [] e = absurd (false≢true e)
letter_is (b ∷ []) e = (b, refl, (both_true (is_symbol_byte b) true e).0)
letter_is (b ∷ c ∷ rest) e =
    let one : length (b ∷ c ∷ rest) ≡ 1 = (Decides-eqb (length (b ∷ c ∷ rest)) 1).0
    (both_true (length (b ∷ c ∷ rest) == 1) _ e).0 in
    absurd (omega arith)

pub letter_back : (b : ℕ) → is_symbol_byte b ≡ true → is_letter (b ∷ []) ≡ true
letter_back b e = rw e refl

pub shift_back : (s : Shift) → is_shift (shift_text s) ≡ true
shift_back Left = refl
shift_back Stay = refl
shift_back Right = refl

-- the tests that five fields pass
record Passes (a b c d e : List ℕ) : Type 0 where
  state : is_state_name a ≡ true
  read : is_letter b ≡ true
  write : is_letter c ≡ true
  shift : is_shift d ≡ true
  next : is_state_name e ≡ true

fields-pass : (n : ℕ) (a b c d e : List ℕ) → field_fault n a b c d e ≡ None → Passes a b c d e
fields-pass n a b c d e h =
    let one = passed (is_state_name a) _ _ h in
    let two = passed (is_letter b) _ _ one.1 in
    let three = passed (is_letter c) _ _ two.1 in
    let four = passed (is_shift d) _ _ three.1 in
    let five = passed (is_state_name e) _ _ four.1 in
    record { state = one.0; read = two.0; write = three.0; shift = four.0; next = five.0 }

pub fields-back : (n : ℕ) (s : Said) → HasForms s → form_fault n (entry_of s) ≡ None
fields-back n s h = rw (h.state, letter_back s.read h.read, letter_back s.write h.write, shift_back s.shift, h.next)
    refl

five-or-fault : (n : ℕ) (fields : List (List ℕ)) → form_fault n fields ≡ None
    → (a b c d e : List ℕ) × (fields ≡ a ∷ b ∷ c ∷ d ∷ e ∷ []) × Passes a b c d e
five-or-fault n (a ∷ b ∷ c ∷ d ∷ e ∷ []) h = (a, b, c, d, e, refl, fields-pass n a b c d e h)
five-or-fault n [] h = cc h
five-or-fault n (a ∷ []) h = cc h
five-or-fault n (a ∷ b ∷ []) h = cc h
five-or-fault n (a ∷ b ∷ c ∷ []) h = cc h
five-or-fault n (a ∷ b ∷ c ∷ d ∷ []) h = cc h
five-or-fault n (a ∷ b ∷ c ∷ d ∷ e ∷ f ∷ fs) h = cc h

five-said : (a b c d e : List ℕ) (r w : ℕ) (s : Shift) → b ≡ r ∷ [] → c ≡ w ∷ [] → d ≡ shift_text s
    → a ∷ b ∷ c ∷ d ∷ e ∷ [] ≡ a ∷ (r ∷ []) ∷ (w ∷ []) ∷ shift_text s ∷ e ∷ []
five-said a b c d e r w s read write shift = rw (read, write, shift) refl

-- an entry without a fault says something, in the right forms
pub says : (n : ℕ) (fields : List (List ℕ)) → entry_fault n fields ≡ None
    → (n ≤ MOST_ENTRIES) × ((s : Said) × (fields ≡ entry_of s) × HasForms s)
says n fields h =
    let (few, form) = in_number MOST_ENTRIES refusal.TooMany form_fault n fields h in
    let (a, b, c, d, e, is, p) = five-or-fault n fields form in
    let (r, read, read-form) = letter_is b p.read in
    let (w, write, write-form) = letter_is c p.write in
    let (s, shift) = shift_is d p.shift in (
      few,
      (
        record { state = a; read = r; write = w; shift = s; next = e },
        is ∙ five-said a b c d e r w s read write shift,
        record { state = p.state; read = read-form; write = write-form; next = p.next },
      ),
    )

-- what five fields without a fault say has the right forms
forms : (n : ℕ) (s : Said) → form_fault n (entry_of s) ≡ None → HasForms s
forms n s form =
    let p = fields-pass n s.state (s.read ∷ []) (s.write ∷ []) (shift_text s.shift) s.next form in record {
      state = p.state;
      read = (both_true (is_symbol_byte s.read) true p.read).0;
      write = (both_true (is_symbol_byte s.write) true p.write).0;
      next = p.next;
    }

pub said-forms : (n : ℕ) (a b c d e : List ℕ) (r : Result Fields TableRefusal)
    → IfOk r (λ f. entry_of (said f) ≡ a ∷ b ∷ c ∷ d ∷ e ∷ []) → field_fault n a b c d e ≡ err_of r
    → IfOk r (λ f. HasForms (said f))
said-forms n a b c d e (Ok f) is none =
    let P : List (List ℕ) → Type 0 = λ fields. form_fault n fields ≡ None in
    forms n (said f) (subst P (sym is) none)
said-forms n a b c d e (Err x) is none = tt

-- entries in the right forms have no fault, up to as many as a table may have
pub no_fault : (n : ℕ) (s : Said) → n ≤ MOST_ENTRIES → HasForms s → entry_fault n (entry_of s) ≡ None
no_fault n s few h = within_number MOST_ENTRIES refusal.TooMany form_fault n (entry_of s) few ∙ fields-back n s h
