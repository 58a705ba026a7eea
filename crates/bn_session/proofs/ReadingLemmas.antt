-- What is read from a line is written so, and what is written so is read back.
use Rattle.std.specs.Prelude.{◌≡◌, bytes_eq, ℕ, ◌≤◌, nat_le, ◌&&◌, cond, Bool, true, false, List, [], ◌∷◌, ◌++◌, length}
use Rattle.std.specs.Prelude.{take, drop, Option, Some, None, option_map, ◌⊎◌, codes, decimal, refl}
use Rattle.std.specs.List.{list_all}
use Rattle.std.specs.Option.{option_or}
use Rattle.std.specs.Char.{is_ascii_alphanumeric}
use Rattle.std.proofs.Common.{sym, ap, subst, ◌∙◌, inl, inr, arith}
use Rattle.std.proofs.lemmas.Bool.{leb-true, le-leb}
use Rattle.std.proofs.lemmas.Slice.Eq.{bytes_eq-Decides}
use Rattle.std.proofs.lemmas.List.{take-append-drop}
use Rattle.std.proofs.lemmas.Option.{option_and_then_some, cond_some, same_Some}
use Rattle.std.proofs.Math.Seq.{drop-append_seam, take-append_seam}
use Rattle.bn_base.specs.Number.{greatest}
use Rattle.bn_csv.specs.Forms.{is_state_name}
use Rattle.bn_netlist_laws.specs.Reading.{word_taken, number_after, named_after}
use Rattle.bn_netlist_laws.proofs.LineReadingLemmas.{word_taken-takes, word_taken-again}
use Rattle.bn_netlist_laws.proofs.FormLemmas.{number_after-takes, number_after-again, named_after-takes}
use Rattle.bn_netlist_laws.proofs.FormLemmas.{named_after-again}
use Rattle.bn_netlist_laws.specs.Sentences.{IsNameable, line_text}
use Rattle.bn_circuits.specs.Circuits.{line_at}
use Rattle.bn_session.specs.Sentences.{ScriptSentence, Step, Back, Go, Rev, BreakState, BreakElement, BreakLine}
use Rattle.bn_session.specs.Sentences.{Drop, View}
use Rattle.bn_session.specs.Sentences.{is_label, script_sentence_text, IsSayableInScript}
use Rattle.bn_session.specs.Reading.{at_least_one, ordinal_after, label_by, label_after, name_by, name_after, label_len}
use Rattle.bn_session.specs.Reading.{break_line, named_in, condition_in, labelled, breakpoint_in, breakpoint_after}
use Rattle.bn_session.specs.Reading.{view_in, sentence_in}

-- the line says this
pub record IsSaid (m : Bool) (line : List ℕ) (s : ScriptSentence) : Type 0 where
  pub spelled : line ≡ script_sentence_text s
  pub sayable : IsSayableInScript m s

or_some : {X : Type 0} (a b : Option X) (x : X) → option_or a b ≡ Some x → (a ≡ Some x) ⊎ (b ≡ Some x)
or_some (Some y) b x e = inl e
or_some None b x e = inr e

map_some : {A B P : Type 0} (f : A → B) (o : Option A) (y : B) → option_map f o ≡ Some y
    → ((x : A) → o ≡ Some x → f x ≡ y → P) → P
map_some f (Some x) y e then = then x refl (same_Some (f x) y e)
map_some f None y e then = absurd (cc)

-- ---- what is read is written so

ordinal-takes : (word line : List ℕ) (n : ℕ) → ordinal_after word line ≡ Some n
    → (1 ≤ n) × (n ≤ greatest) × (line ≡ word ++ decimal n)
unfolding ordinal_after
ordinal-takes word line n h =
    option_and_then_some at_least_one (number_after word line) n h (λ m is one.
    let both = cond_some (nat_le 1 m) m n one in
    let same : m ≡ n = both.1 in
    let taken = number_after-takes word line n (is ∙ ap (λ k. Some k) same) in
    (subst (λ k. 1 ≤ k) same (leb-true 1 m both.0), taken.0, taken.1))

label-takes : (word line label : List ℕ) → label_after word line ≡ Some label
    → (is_label label ≡ true) × (line ≡ word ++ label)
unfolding label_after
label-takes word line label h =
    option_and_then_some label_by (word_taken word line) label h (λ rest is form.
    let both = cond_some (is_label rest) rest label form in
    let same : rest ≡ label = both.1 in
    (subst (λ r. is_label r ≡ true) same both.0, word_taken-takes word line rest is ∙ ap (λ r. word ++ r) same))

name-takes : (word line name : List ℕ) → name_after word line ≡ Some name
    → (is_state_name name ≡ true) × (line ≡ word ++ name)
unfolding name_after
name-takes word line name h =
    option_and_then_some name_by (word_taken word line) name h (λ rest is form.
    let both = cond_some (is_state_name rest) rest name form in
    let same : rest ≡ name = both.1 in
    (subst (λ r. is_state_name r ≡ true) same both.0, word_taken-takes word line rest is ∙ ap (λ r. word ++ r) same))

named-takes : (m : Bool) (label words : List ℕ) (s : ScriptSentence) → is_label label ≡ true
    → named_in m label words ≡ Some s → IsSaid m (codes "break " ++ (label ++ words)) s
unfolding named_in
named-takes true label words s form h =
    map_some (BreakState label) (name_after (codes " state ") words) s h (λ name is made.
    let taken = name-takes (codes " state ") words name is in
    let line : codes "break " ++ (label ++ words) ≡ script_sentence_text (BreakState label name) =
    ap (λ r. codes "break " ++ (label ++ r)) taken.1 in
    subst (IsSaid true (codes "break " ++ (label ++ words))) made
    (record { spelled = line; sayable = (form, taken.0, refl) }))
named-takes false label words s form h =
    map_some (break_line label) (named_after (codes " line ") words) s h (λ l is made.
    let taken = named_after-takes (codes " line ") words l is in
    let line : codes "break " ++ (label ++ words) ≡ script_sentence_text (break_line label l) =
    ap (λ r. codes "break " ++ (label ++ r)) taken.1 in
    subst (IsSaid false (codes "break " ++ (label ++ words))) made
    (record { spelled = line; sayable = (form, taken.0, refl) }))

condition-takes : (m : Bool) (label words : List ℕ) (s : ScriptSentence) → is_label label ≡ true
    → condition_in m label words ≡ Some s → IsSaid m (codes "break " ++ (label ++ words)) s
unfolding condition_in
condition-takes m label words s form h =
    elim (or_some (named_in m label words) (option_map (BreakElement label) (number_after (codes " element ") words)) s
    h) [
      | inl name ↦ named-takes m label words s form name
      | inr element ↦
          map_some (BreakElement label) (number_after (codes " element ") words) s element (λ e is made.
          let taken = number_after-takes (codes " element ") words e is in
          let line : codes "break " ++ (label ++ words) ≡ script_sentence_text (BreakElement label e) =
          ap (λ r. codes "break " ++ (label ++ r)) taken.1 in
          subst (IsSaid m (codes "break " ++ (label ++ words))) made
          (record { spelled = line; sayable = (form, taken.0) }))
    ]

breakpoint-takes : (m : Bool) (line : List ℕ) (s : ScriptSentence) → breakpoint_after m (codes "break ") line ≡ Some s
    → IsSaid m line s
unfolding breakpoint_after breakpoint_in
breakpoint-takes m line s h =
    option_and_then_some (breakpoint_in m) (word_taken (codes "break ") line) s h (λ words is said.
    let k = label_len words in
    let both = labelled-some (take k words) (drop k words) s said in
    let first : line ≡ codes "break " ++ words = word_taken-takes (codes "break ") line words is in
    let split : take k words ++ drop k words ≡ words = take-append-drop k words in
    let whole : codes "break " ++ (take k words ++ drop k words) ≡ line =
    ap (λ r. codes "break " ++ r) split ∙ sym first in
    subst (λ l. IsSaid m l s) whole (condition-takes m (take k words) (drop k words) s both.0 both.1))
  where
    labelled-some : (label words : List ℕ) (s : ScriptSentence) → labelled m label words ≡ Some s
        → (is_label label ≡ true) × (condition_in m label words ≡ Some s)
    labelled-some label words s e = by (is_label label) refl e
      where
        by : (b : Bool) → is_label label ≡ b → cond b (condition_in m label words) None ≡ Some s
            → (is_label label ≡ true) × (condition_in m label words ≡ Some s)
        by true form e = (form, e)
        by false form e = absurd (cc)

view-takes : (m : Bool) (line : List ℕ) (s : ScriptSentence) → view_in line ≡ Some s → IsSaid m line s
view-takes m line s h =
    let both = cond_some (bytes_eq line (codes "view")) View s h in
    let same : line ≡ codes "view" = (bytes_eq-Decides line (codes "view")).0 both.0 in
    subst (IsSaid m line) both.1 (record { spelled = same; sayable = tt })

drop-takes : (m : Bool) (line : List ℕ) (s : ScriptSentence)
    → option_map Drop (label_after (codes "drop ") line) ≡ Some s
    → IsSaid m line s
drop-takes m line s h =
    map_some Drop (label_after (codes "drop ") line) s h (λ label is made.
    let taken = label-takes (codes "drop ") line label is in
    subst (IsSaid m line) made (record { spelled = taken.1; sayable = taken.0 }))

step-takes : (m : Bool) (line : List ℕ) (s : ScriptSentence)
    → option_map Step (number_after (codes "step ") line) ≡ Some s
    → IsSaid m line s
step-takes m line s h =
    map_some Step (number_after (codes "step ") line) s h (λ e is made.
    let taken = number_after-takes (codes "step ") line e is in
    subst (IsSaid m line) made (record { spelled = taken.1; sayable = taken.0 }))

back-takes : (m : Bool) (line : List ℕ) (s : ScriptSentence)
    → option_map Back (number_after (codes "back ") line) ≡ Some s
    → IsSaid m line s
back-takes m line s h =
    map_some Back (number_after (codes "back ") line) s h (λ e is made.
    let taken = number_after-takes (codes "back ") line e is in
    subst (IsSaid m line) made (record { spelled = taken.1; sayable = taken.0 }))

go-takes : (m : Bool) (line : List ℕ) (s : ScriptSentence) → option_map Go (ordinal_after (codes "go ") line) ≡ Some s
    → IsSaid m line s
go-takes m line s h =
    map_some Go (ordinal_after (codes "go ") line) s h (λ e is made.
    let taken = ordinal-takes (codes "go ") line e is in
    subst (IsSaid m line) made (record { spelled = taken.2; sayable = (taken.0, taken.1) }))

rev-takes : (m : Bool) (line : List ℕ) (s : ScriptSentence) → option_map Rev (ordinal_after (codes "rev ") line)
    ≡ Some s
    → IsSaid m line s
rev-takes m line s h =
    map_some Rev (ordinal_after (codes "rev ") line) s h (λ e is made.
    let taken = ordinal-takes (codes "rev ") line e is in
    subst (IsSaid m line) made (record { spelled = taken.2; sayable = (taken.0, taken.1) }))

either_said : (m : Bool) (line : List ℕ) (s : ScriptSentence) (first later : Option ScriptSentence)
    → (first ≡ Some s → IsSaid m line s) → (later ≡ Some s → IsSaid m line s) → option_or first later ≡ Some s
    → IsSaid m line s
either_said m line s first later a b h = elim (or_some first later s h) [ inl e ↦ a e | inr e ↦ b e ]

-- a line says what is read from it
pub sentence_in-takes : (m : Bool) (line : List ℕ) (s : ScriptSentence) → sentence_in m line ≡ Some s → IsSaid m line s
unfolding sentence_in
sentence_in-takes m line s h =
    either_said m line s _ _ (step-takes m line s) (
    either_said m line s _ _ (back-takes m line s) (
    either_said m line s _ _ (go-takes m line s) (
    either_said m line s _ _ (rev-takes m line s) (
    either_said m line s _ _ (drop-takes m line s) (
    either_said m line s _ _ (view-takes m line s) (breakpoint-takes m line s)
    )
    )
    )
    )
    ) h

-- ---- what is written so is read back

ordinal-again : (word : List ℕ) (n : ℕ) → 1 ≤ n → n ≤ greatest → ordinal_after word (word ++ decimal n) ≡ Some n
unfolding ordinal_after
ordinal-again word n some small = rw (number_after-again word n small, le-leb 1 n some) refl

label-again : (word label : List ℕ) → is_label label ≡ true → label_after word (word ++ label) ≡ Some label
unfolding label_after
label-again word label form = rw (word_taken-again word label, form) refl

name-again : (word name : List ℕ) → is_state_name name ≡ true → name_after word (word ++ name) ≡ Some name
unfolding name_after
name-again word name form = rw (word_taken-again word name, form) refl

-- the run of letters and digits in front of a space
run_len : (label rest : List ℕ) → list_all is_ascii_alphanumeric label ≡ true
    → label_len (label ++ 32 ∷ rest) ≡ length label
run_len [] rest all = refl
run_len (x ∷ label) rest all = both (is_ascii_alphanumeric x) refl (run_len label rest) all
  where
    both : (b : Bool) → is_ascii_alphanumeric x ≡ b → (list_all is_ascii_alphanumeric label ≡ true
        → label_len (label ++ 32 ∷ rest) ≡ length label) → (b && list_all is_ascii_alphanumeric label) ≡ true
        → label_len ((x ∷ label) ++ 32 ∷ rest) ≡ length (x ∷ label)
    both true e behind rest_all = rw e (let later = behind rest_all in omega arith)
    both false e behind rest_all = absurd (cc)

-- the last of three tests that all pass
pub third_of : (a b c : Bool) → (a && b && c) ≡ true → c ≡ true
third_of true true c e = e
third_of true false c e = absurd (cc)
third_of false b c e = absurd (cc)

labelled-again : (m : Bool) (label rest : List ℕ) (s : ScriptSentence) → is_label label ≡ true
    → condition_in m label (32 ∷ rest) ≡ Some s → breakpoint_in m (label ++ 32 ∷ rest) ≡ Some s
unfolding breakpoint_in
labelled-again m label rest s form condition =
    let len : label_len (label ++ 32 ∷ rest) ≡ length label = run_len label rest
    (third_of (nat_le 1 (length label)) (nat_le (length label) 16) (list_all is_ascii_alphanumeric label) form) in
    rw (len, take-append_seam label (32 ∷ rest), drop-append_seam label (32 ∷ rest), form) condition

state-again : (m : Bool) (label name : List ℕ) → is_state_name name ≡ true → m ≡ true
    → condition_in m label (codes " state " ++ name) ≡ Some (BreakState label name)
unfolding condition_in named_in
state-again true label name form is = rw (name-again (codes " state ") name form) refl
state-again false label name form is = absurd (cc)

line-again : (m : Bool) (label : List ℕ) (e l : ℕ) → IsNameable (line_at e l) → m ≡ false
    → condition_in m label (codes " line " ++ line_text (line_at e l)) ≡ Some (BreakLine label e l)
unfolding condition_in named_in
line-again true label e l form is = absurd (cc)
line-again false label e l form is = rw (named_after-again (codes " line ") (line_at e l) form) refl

element-again : (m : Bool) (label : List ℕ) (e : ℕ) → e ≤ greatest
    → condition_in m label (codes " element " ++ decimal e) ≡ Some (BreakElement label e)
unfolding condition_in named_in name_after named_after word_taken
element-again true label e small = rw (number_after-again (codes " element ") e small) refl
element-again false label e small = rw (number_after-again (codes " element ") e small) refl

-- what a line says is read from it
pub sentence_in-again : (m : Bool) (s : ScriptSentence) → IsSayableInScript m s
    → sentence_in m (script_sentence_text s) ≡ Some s
unfolding sentence_in ordinal_after label_after breakpoint_after number_after word_taken
sentence_in-again m (Step e) h = ap (λ o. option_or (option_map Step o) None) (number_after-again (codes "step ") e h)
sentence_in-again m (Back e) h = ap (λ o. option_or (option_map Back o) None) (number_after-again (codes "back ") e h)
sentence_in-again m (Go e) h = ap (λ o. option_or (option_map Go o) None) (ordinal-again (codes "go ") e h.0 h.1)
sentence_in-again m (Rev e) h = ap (λ o. option_or (option_map Rev o) None) (ordinal-again (codes "rev ") e h.0 h.1)
sentence_in-again m (BreakState label name) h = labelled-again m label (codes "state " ++ name) (BreakState label name)
    h.0 (state-again m label name h.1 h.2)
sentence_in-again m (BreakElement label e) h = labelled-again m label (codes "element " ++ decimal e)
    (BreakElement label e) h.0 (element-again m label e h.1)
sentence_in-again m (BreakLine label e l) h = labelled-again m label (codes "line " ++ line_text (line_at e l))
    (BreakLine label e l) h.0 (line-again m label e l h.1 h.2)
sentence_in-again m (Drop label) h = ap (λ o. option_or (option_map Drop o) None) (label-again (codes "drop ") label h)
sentence_in-again m View h = refl
