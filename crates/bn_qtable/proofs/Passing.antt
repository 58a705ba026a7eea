-- Entries without a fault, and what they say.
use Rattle.std.proofs.Common.{◌≡◌, ◌≤◌, ◌∷◌, ◌∙◌, ℕ, true, false, List, [], None, refl, sym, ap, inl, inr}
use Rattle.std.specs.Prelude.{bytes_eq}
use Rattle.std.proofs.lemmas.Bool.{cases_Bool, false≢true}
use Rattle.std.proofs.lemmas.Slice.Eq.{bytes_eq-Decides}
use Rattle.bn_csv.specs.Forms.{is_state_name, is_symbol}
use Rattle.bn_csv.proofs.FaultLemmas.{in_number, passed, within_number}
use Rattle.bn_machine.specs.declared.quint.Shift.{Shift}
use Rattle.bn_machine.specs.declared.quint.Shift.TheVariants.{Left, Stay, Right}
use Rattle.bn_qtable.specs.Entry.{SaidQuadruple, Says, Rewrites, Moves, HasForms, SaysHasForms, quadruple_entry}
use Rattle.bn_qtable.specs.Entry.{read_field, act_field, slash}
use Rattle.bn_machine.specs.Shifts.{is_shift, shift_text}
use Rattle.bn_qtable.specs.Faults.{quadruple_entry_fault, quadruple_field_fault, quadruple_form_fault, is_read, is_act}
use Rattle.bn_qtable.specs.declared.entry.TheConstants.{MOST_ENTRIES}
use Rattle.bn_qtable.specs.declared.refusal.QuadTableRefusal.TheVariants as refusal
use Rattle.bn_machine.proofs.ShiftLemmas.{shift_is}

shift_back : (s : Shift) → is_shift (shift_text s) ≡ true
shift_back Left = refl
shift_back Stay = refl
shift_back Right = refl

-- a symbol isn't `/`
pub slash-is-none : is_symbol slash ≡ true → ⊥
slash-is-none e = false≢true e

pub no-slash : (field : List ℕ) → is_symbol field ≡ true → bytes_eq field slash ≡ false
no-slash field e = elim (cases_Bool (bytes_eq field slash)) [
  | inl hit ↦ absurd (slash-is-none (ap is_symbol (sym ((bytes_eq-Decides field slash).0 hit)) ∙ e))
  | inr miss ↦ miss
]

-- what a read and an act say of their tape
record Told (read act : List ℕ) : Type 0 where
  told : Says
  read_is : read ≡ read_field told
  act_is : act ≡ act_field told
  forms : SaysHasForms told

tell : (read act : List ℕ) → is_read read ≡ true → is_act read act ≡ true → Told read act
tell read act r a = elim (cases_Bool (bytes_eq read slash)) [
  | inl hit ↦
      let (s, is) = shift_is act (rw hit at a) in
      record { told = Moves s; read_is = (bytes_eq-Decides read slash).0 hit; act_is = is; forms = tt }
  | inr miss ↦
      let here : is_symbol read ≡ true = rw miss at r in
      let there : is_symbol act ≡ true = rw miss at a in
      record { told = Rewrites read act; read_is = refl; act_is = refl; forms = (here, there) }
]

read-back : (t : Says) → SaysHasForms t → is_read (read_field t) ≡ true
read-back (Rewrites r w) h = rw (no-slash r h.0, h.0) refl
read-back (Moves s) h = refl

act-back : (t : Says) → SaysHasForms t → is_act (read_field t) (act_field t) ≡ true
act-back (Rewrites r w) h = rw (no-slash r h.0, h.1) refl
act-back (Moves s) h = shift_back s

-- the tests that eight fields pass
record Passes (a b c d e f g h : List ℕ) : Type 0 where
  state : is_state_name a ≡ true
  read1 : is_read b ≡ true
  read2 : is_read c ≡ true
  read3 : is_read d ≡ true
  act1 : is_act b e ≡ true
  act2 : is_act c f ≡ true
  act3 : is_act d g ≡ true
  next : is_state_name h ≡ true

fields-pass : (n : ℕ) (a b c d e f g h : List ℕ) → quadruple_field_fault n a b c d e f g h ≡ None
    → Passes a b c d e f g h
fields-pass n a b c d e f g h p =
    let p1 = passed (is_state_name a) _ _ p in
    let p2 = passed (is_read b) _ _ p1.1 in
    let p3 = passed (is_read c) _ _ p2.1 in
    let p4 = passed (is_read d) _ _ p3.1 in
    let p5 = passed (is_act b e) _ _ p4.1 in
    let p6 = passed (is_act c f) _ _ p5.1 in
    let p7 = passed (is_act d g) _ _ p6.1 in
    let p8 = passed (is_state_name h) _ _ p7.1 in
    record {
      state = p1.0;
      read1 = p2.0;
      read2 = p3.0;
      read3 = p4.0;
      act1 = p5.0;
      act2 = p6.0;
      act3 = p7.0;
      next = p8.0;
    }

fields-back : (n : ℕ) (s : SaidQuadruple) → HasForms s → quadruple_form_fault n (quadruple_entry s) ≡ None
fields-back n s h = rw (
  h.state,
  read-back s.one h.one,
  read-back s.two h.two,
  read-back s.three h.three,
  act-back s.one h.one,
  act-back s.two h.two,
  act-back s.three h.three,
  h.next,
) refl

record Eight (fields : List (List ℕ)) : Type 0 where
  a : List ℕ
  b : List ℕ
  c : List ℕ
  d : List ℕ
  e : List ℕ
  f : List ℕ
  g : List ℕ
  h : List ℕ
  is : fields ≡ a ∷ b ∷ c ∷ d ∷ e ∷ f ∷ g ∷ h ∷ []
  pass : Passes a b c d e f g h

eight-or-fault : (n : ℕ) (fields : List (List ℕ)) → quadruple_form_fault n fields ≡ None → Eight fields
eight-or-fault n (a ∷ b ∷ c ∷ d ∷ e ∷ f ∷ g ∷ x ∷ []) p =
    record { a = a; b = b; c = c; d = d; e = e; f = f; g = g; h = x; is = refl; pass = fields-pass n a b c d e f g x p }
eight-or-fault n [] p = cc p
eight-or-fault n (a ∷ []) p = cc p
eight-or-fault n (a ∷ b ∷ []) p = cc p
eight-or-fault n (a ∷ b ∷ c ∷ []) p = cc p
eight-or-fault n (a ∷ b ∷ c ∷ d ∷ []) p = cc p
eight-or-fault n (a ∷ b ∷ c ∷ d ∷ e ∷ []) p = cc p
eight-or-fault n (a ∷ b ∷ c ∷ d ∷ e ∷ f ∷ []) p = cc p
eight-or-fault n (a ∷ b ∷ c ∷ d ∷ e ∷ f ∷ g ∷ []) p = cc p
eight-or-fault n (a ∷ b ∷ c ∷ d ∷ e ∷ f ∷ g ∷ x ∷ y ∷ ys) p = cc p

eight-said : (a b c d e f g h b2 c2 d2 e2 f2 g2 : List ℕ) → b ≡ b2 → c ≡ c2 → d ≡ d2 → e ≡ e2 → f ≡ f2 → g ≡ g2
    → a ∷ b ∷ c ∷ d ∷ e ∷ f ∷ g ∷ h ∷ [] ≡ a ∷ b2 ∷ c2 ∷ d2 ∷ e2 ∷ f2 ∷ g2 ∷ h ∷ []
eight-said a b c d e f g h b2 c2 d2 e2 f2 g2 p1 p2 p3 p4 p5 p6 =
    λ i. a ∷ p1 i ∷ p2 i ∷ p3 i ∷ p4 i ∷ p5 i ∷ p6 i ∷ h ∷ []

-- what an entry says
pub record SaysSo (fields : List (List ℕ)) : Type 0 where
  pub what : SaidQuadruple
  pub is : fields ≡ quadruple_entry what
  pub forms : HasForms what

pub says-so : (n : ℕ) (fields : List (List ℕ)) → quadruple_entry_fault n fields ≡ None → SaysSo fields
says-so n fields none =
    let x = eight-or-fault n fields (in_number MOST_ENTRIES refusal.TooMany quadruple_form_fault n fields none).1 in
    let p = x.pass in
    let one = tell x.b x.e p.read1 p.act1 in
    let two = tell x.c x.f p.read2 p.act2 in
    let three = tell x.d x.g p.read3 p.act3 in
    record {
      what = record { state = x.a; one = one.told; two = two.told; three = three.told; next = x.h };
      is = x.is ∙ eight-said x.a x.b x.c x.d x.e x.f x.g x.h _ _ _ _ _ _ one.read_is two.read_is three.read_is
          one.act_is two.act_is three.act_is;
      forms = record { state = p.state; one = one.forms; two = two.forms; three = three.forms; next = p.next };
    }

-- entries in the right forms have no fault, up to as many as a table may have
pub no_fault : (n : ℕ) (s : SaidQuadruple) → n ≤ MOST_ENTRIES → HasForms s
    → quadruple_entry_fault n (quadruple_entry s) ≡ None
no_fault n s few h = within_number MOST_ENTRIES refusal.TooMany quadruple_form_fault n (quadruple_entry s) few
    ∙ fields-back n s h
