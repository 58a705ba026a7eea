-- Reading the names of ports, one after another.
use Rattle.std.specs.Prelude.{◌≡◌, ℕ, ◌+◌, ◌*◌, ◌-◌, ◌<◌, ◌≤◌, ◌==◌, List, [], ◌∷◌, ◌++◌, Bool, true, false, Contains}
use Rattle.std.specs.Prelude.{None, Some, length, map, position, take, drop, refl}
use Rattle.std.proofs.Common.{zero, suc, arith, sym, ap, subst, ◌∙◌, inl, inr, get_or}
use Rattle.std.proofs.lemmas.Bool.Decides.{eqb_tells}
use Rattle.std.proofs.lemmas.List.{append-nil, append_assoc, length-map, take_rest}
use Rattle.std.proofs.lemmas.List.Quantifiers.{position-Some}
use Rattle.bn_lists.specs.Lists.{Has}
use Rattle.bn_lists.proofs.ApartLemmas.{IsApart, fewer}
use Rattle.bn_lists.proofs.MemberLemmas.{place_of}
use Rattle.bn_qtable.specs.TapeWords.{begin_first, comma, names_between}
use Rattle.bn_circuits.specs.Circuits.{Circuit, IsInputOf, IsOutputOf}
use Rattle.bn_circuits.specs.declared.net.TheConstants.{MOST_ELEMENTS}
use Rattle.bn_netlist_laws.specs.Reading.{named, named_after}
use Rattle.bn_netlist_laws.proofs.FormLemmas.{named_after-again, named_after-takes}
use Rattle.bn_circuits.specs.declared.line.Line.{Line}
use Rattle.bn_circuits.specs.declared.line.Wire.{Wire}
use Rattle.bn_element.specs.Rotary.{rotary}
use Rattle.bn_netlist_laws.specs.Sentences.{IsNameable, line_text}
use Rattle.bn_behaviour.specs.Explored.{StandOnce}
use Rattle.bn_behaviour.specs.FreeLines.{free_inputs, free_outputs}
use Rattle.bn_behaviour.proofs.FreeLemmas.{all_rotary, input_known, input_listed, inputs_few, known_input, known_output}
use Rattle.bn_behaviour.proofs.FreeLemmas.{output_known, output_listed, outputs_few}
use Rattle.bn_reply_behaviours.specs.NamedPorts.{AreNamed, IsMisnamed, names_in}
use Rattle.bn_reply_behaviours.specs.Replying.{AreNamedSoFar, IsAdded, IsFree, end_of}
use Rattle.bn_reply_behaviours.specs.declared.side.Side.{Side}
use Rattle.bn_reply_behaviours.specs.declared.side.Side.TheVariants.{Input, Output}
use Rattle.bn_reply_behaviours.proofs.NameLemmas.{name_tells, named_long, named_more, named_none, wrong_name}

-- ---- names between commas

abbrev is_comma : ℕ → Bool
is_comma byte = byte == comma

cut_by : (bytes : List ℕ) (k : ℕ) → k < length bytes → is_comma (get_or bytes k 0) ≡ true
    → ((i : ℕ) → i < k → is_comma (get_or bytes i 0) ≡ false)
    → names_between bytes ≡ take k bytes ∷ names_between (drop (suc k) bytes)
cut_by [] k inside here before = absurd (omega arith)
cut_by (byte ∷ bytes) zero inside here before = rw here refl
cut_by (byte ∷ bytes) (suc k) inside here before =
    let other : is_comma byte ≡ false = before 0 (omega arith) in
    rw other (ap (begin_first byte) (cut_by bytes k (omega arith) here (λ i low. before (suc i) (omega arith))))

-- the first name is what stands before the first comma
names_cut : (bytes : List ℕ) (k : ℕ) → position (λ byte. byte == comma) bytes ≡ Some k
    → names_between bytes ≡ take k bytes ∷ names_between (take (length bytes - (k + 1)) (drop (k + 1) bytes))
names_cut bytes k h =
    let first = position-Some is_comma bytes k 0 h in
    let e : suc k ≡ k + 1 = omega arith in
    subst (λ (rest : List ℕ). names_between bytes ≡ take k bytes ∷ names_between rest) (sym (take_rest bytes (k + 1)))
    (subst (λ (n : ℕ). names_between bytes ≡ take k bytes ∷ names_between (drop n bytes)) e
    (cut_by bytes k first.0 first.1 first.2))

-- where there is no comma, all is one name
pub names_uncut : (bytes : List ℕ) → (Contains bytes comma → ⊥) → names_between bytes ≡ bytes ∷ []
names_uncut [] none = refl
names_uncut (byte ∷ bytes) none = elim (eqb_tells byte comma) [
  | inl same ↦ absurd (none (0, omega arith, same.1))
  | inr other ↦ rw other.0 (ap (begin_first byte) (names_uncut bytes (λ h. none (suc h.0, omega arith, h.2))))
]

-- where there is a byte, names are given
pub names_given : (bytes : List ℕ) → 0 < length bytes → names_in bytes ≡ names_between bytes
names_given [] some = absurd (omega (arith, some))
names_given (byte ∷ bytes) some = refl

take_short : (n : ℕ) (xs : List ℕ) → length (take n xs) ≤ n
take_short zero xs = omega arith
take_short (suc n) [] = omega arith
take_short (suc n) (x ∷ xs) = let less = take_short n xs in omega arith

-- what is behind a place is no longer than the whole
pub rest_short : (left : List ℕ) (most k : ℕ) → length left ≤ most
    → length (take (length left - k) (drop k left)) ≤ most
rest_short left most k low = let less = take_short (length left - k) (drop k left) in omega arith

-- ---- one name more

module _ (free : Line → Type 0) (names : List (List ℕ)) where
  pub so_far_none : AreNamedSoFar free names [] names
  so_far_none = record { front = []; split = refl; named = named_none free }

  added_name : (ports new : List Line) (name : List ℕ) (rest : List (List ℕ))
      → AreNamedSoFar free names ports (name ∷ rest) → IsAdded free name ports new → AreNamedSoFar free names new rest
  added_name ports new name rest x is = record {
    front = x.front ++ name ∷ [];
    split = x.split ∙ sym (append_assoc x.front (name ∷ []) rest);
    named = subst (λ l. AreNamed free (x.front ++ name ∷ []) l) (sym is.added)
        (named_more free x.front ports name is.port x.named is.free_port is.named is.fresh);
  }

  refused_name : (ports : List Line) (name : List ℕ) (rest : List (List ℕ)) (p : ℕ)
      → AreNamedSoFar free names ports (name ∷ rest) → ((l : Line) → free l → name ≡ line_text l → Has ports l)
      → p ≡ length ports + 1 → IsMisnamed free names p
  refused_name ports name rest p x wrong place =
      let long = named_long free x.front ports x.named in
      wrong_name free names x.front rest name ports p x.split x.named wrong (omega arith)

  pub one_cut : (ports new : List Line) (left : List ℕ) (k : ℕ) → position (λ byte. byte == comma) left ≡ Some k
      → AreNamedSoFar free names ports (names_between left) → IsAdded free (take k left) ports new
      → AreNamedSoFar free names new (names_between (take (length left - (k + 1)) (drop (k + 1) left)))
  one_cut ports new left k at x is =
      added_name ports new (take k left) (names_between (take (length left - (k + 1)) (drop (k + 1) left)))
      (subst (AreNamedSoFar free names ports) (names_cut left k at) x) is

  pub cut_refused : (ports : List Line) (left : List ℕ) (k p : ℕ) → position (λ byte. byte == comma) left ≡ Some k
      → AreNamedSoFar free names ports (names_between left)
      → ((l : Line) → free l → take k left ≡ line_text l → Has ports l) → p ≡ length ports + 1
      → IsMisnamed free names p
  cut_refused ports left k p at x wrong place =
      refused_name ports (take k left) (names_between (take (length left - (k + 1)) (drop (k + 1) left))) p
      (subst (AreNamedSoFar free names ports) (names_cut left k at) x) wrong place

  pub last_added : (ports new : List Line) (name : List ℕ) → AreNamedSoFar free names ports (name ∷ [])
      → IsAdded free name ports new → AreNamed free names new
  last_added ports new name x is =
      let all = added_name ports new name [] x is in
      subst (λ ys. AreNamed free ys new) (sym (all.split ∙ append-nil all.front)) all.named

  pub last_refused : (ports : List Line) (name : List ℕ) (p : ℕ) → AreNamedSoFar free names ports (name ∷ [])
      → ((l : Line) → free l → name ≡ line_text l → Has ports l) → p ≡ length ports + 1 → IsMisnamed free names p
  last_refused ports name p x wrong place = refused_name ports name [] p x wrong place

-- ---- ports are few

once_apart : (xs : List Line) → StandOnce xs → IsApart xs
once_apart [] once = tt
once_apart (x ∷ xs) once = (
  λ has. (let p = place_of xs x has in
      let same : 0 ≡ suc p.0 = once.once 0 (suc p.0) x refl p.1 in
      absurd (omega arith)),
  once_apart xs (record {
    once = λ m n y e f. (let same : suc m ≡ suc n = once.once (suc m) (suc n) y e f in
        omega arith);
  }),
)

pub ports_few : {E : Type 0} (es : List E) (ws : List Wire) (side : Side) (names : List (List ℕ)) (xs : List Line)
    → AreNamed (IsFree (record { tables = map (λ _. rotary) es; wires = ws }) side) names xs
    → length xs ≤ 4 * length es
ports_few es ws Input names xs x =
    let k : Circuit = record { tables = map (λ _. rotary) es; wires = ws } in
    let less = fewer xs (free_inputs k) (once_apart xs x.once)
    (λ l has. input_listed k (all_rotary es) l (x.each l has)) in
    let few = inputs_few es ws in
    omega arith
ports_few es ws Output names xs x =
    let k : Circuit = record { tables = map (λ _. rotary) es; wires = ws } in
    let less = fewer xs (free_outputs k) (once_apart xs x.once)
    (λ l has. output_listed k (all_rotary es) l (x.each l has)) in
    let few = outputs_few es ws in
    omega arith

-- ---- ports by their ends

module _ {E : Type 0} (es : List E) (ws : List Wire) where
  abbrev net : Circuit
  net = record { tables = map (λ _. rotary) es; wires = ws }

  known_low : (port : Line) → port.element < length es → port.element < length (map (λ _. rotary) es)
  known_low port low = omega (arith, low, length-map es (λ _. rotary))

  pub has_input : (port : Line) → port.element < length es → port.line < 4 → IsInputOf (map (λ _. rotary) es) port
  has_input port low four =
      known_input (map (λ _. rotary) es) (all_rotary es) port.element port.line (known_low port low) four

  pub has_output : (port : Line) → port.element < length es → port.line < 4 → IsOutputOf (map (λ _. rotary) es) port
  has_output port low four =
      known_output (map (λ _. rotary) es) (all_rotary es) port.element port.line (known_low port low) four

  pub free_port : (side : Side) (port : Line) → port.element < length es → port.line < 4 → end_of net side port ≡ None
      → IsFree net side port
  free_port Input port low four e = record { input = has_input port low four; free = e }
  free_port Output port low four e = record { output = has_output port low four; free = e }

  not_free : (side : Side) (port x : Line) → end_of net side port ≡ Some x → IsFree net side port → ⊥
  not_free Input port x e f = let clash : Some x ≡ None = sym e ∙ f.free in absurd (cc)
  not_free Output port x e f = let clash : Some x ≡ None = sym e ∙ f.free in absurd (cc)

  free_low : (side : Side) (port : Line) → IsFree net side port → (port.element < length es) × (port.line < 4)
  free_low Input port f =
      let known = input_known (map (λ _. rotary) es) (all_rotary es) port.element port.line f.input in
      (omega (arith, known.0, length-map es (λ _. rotary)), known.1)
  free_low Output port f =
      let known = output_known (map (λ _. rotary) es) (all_rotary es) port.element port.line f.output in
      (omega (arith, known.0, length-map es (λ _. rotary)), known.1)

  module _ (few : length es ≤ MOST_ELEMENTS) (side : Side) (name : List ℕ) where
    nameable : (l : Line) → IsFree net side l → IsNameable l
    nameable l f = let low = free_low side l f in (omega (arith, low.0, few), low.1)

    -- a name in which no port is written
    pub none_written : named_after [] name ≡ None → (l : Line) → IsFree net side l → name ≡ line_text l → ⊥
    none_written e l f is =
        let there = named_after-again [] l (nameable l f) in
        let clash : None ≡ Some (l.element, l.line) = sym e ∙ ap (named_after []) is ∙ there in
        absurd (cc)

    -- a name in which a port is written
    module _ (q : ℕ × ℕ) (e : named_after [] name ≡ Some q) where
      pub written_four : q.1 < 4
      written_four = (named_after-takes [] name q e).0.1

      pub written_is : name ≡ line_text (record { element = q.0; line = q.1 })
      written_is = (named_after-takes [] name q e).1

      same_port : (l : Line) → IsFree net side l → name ≡ line_text l → l ≡ named q
      same_port l f is = name_tells l (named q) (nameable l f) (named_after-takes [] name q e).0 (sym is ∙ written_is)

      pub none_high : length es ≤ q.0 → (l : Line) → IsFree net side l → name ≡ line_text l → ⊥
      none_high high l f is =
          let same : l.element ≡ q.0 = ap (λ (x : Line). x.element) (same_port l f is) in
          let low = free_low side l f in
          absurd (omega (arith, low.0, same, high))

      pub none_free : (x : Line) → end_of net side (record { element = q.0; line = q.1 }) ≡ Some x → (l : Line)
          → IsFree net side l → name ≡ line_text l → ⊥
      none_free x there l f is = not_free side (named q) x there (subst (IsFree net side) (same_port l f is) f)

  -- a name whose port stands there
  pub none_new : (few : length es ≤ MOST_ELEMENTS) (side : Side) (name : List ℕ) (port : Line) (ports : List Line)
      → IsFree net side port → name ≡ line_text port → Has ports port → (l : Line) → IsFree net side l
      → name ≡ line_text l → Has ports l
  none_new few side name port ports f is has l g also =
      subst (Has ports) (name_tells port l (nameable few side name port f) (nameable few side name l g) (sym is ∙ also))
      has
