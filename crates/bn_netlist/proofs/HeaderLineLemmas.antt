-- A line of the header from its bytes.
use Rattle.std.specs.Prelude.{◌≡◌, ◌≢◌, ℕ, ◌+◌, ◌<◌, ◌≤◌, nat_lt, nat_le, true, false, List, [], ◌∷◌, length, Option}
use Rattle.std.specs.Prelude.{Some, None, option_map, codes, refl}
use Rattle.std.proofs.Common.{arith, sym, ap, subst, ◌∙◌, inl, inr}
use Rattle.std.proofs.lemmas.Bool.Decides.{nat_tests, eqb_tells}
use Rattle.bn_circuits.specs.declared.line.Line.{Line}
use Rattle.bn_circuits.specs.declared.place.Place.TheVariants.{Enter, Left}
use Rattle.bn_netlist_laws.specs.Reading.{number_after, named_after, named}
use Rattle.bn_netlist_laws.specs.Sentences.{Sentence, Title, Count, Start, End, Steps, At}
use Rattle.bn_netlist_laws.specs.Spelling.{most_elements}
use Rattle.bn_netlist_laws.specs.Faults.{Fault, too_many, no_element, header_lines, count_in, version_in, kind_after}
use Rattle.bn_netlist_laws.specs.Faults.{fault_of}
use Rattle.bn_netlist_laws.specs.Saying.{said, title_said, count_said}
use Rattle.bn_netlist_laws.specs.declared.version.Version.{Version}
use Rattle.bn_netlist.specs.Drafting.{refusal_of}
use Rattle.bn_netlist.specs.LineReading.{TakesLine, RefusesLine, no_form, has_fault}
use Rattle.bn_netlist.specs.declared.line_refusal.NetlistRefusal.TheVariants.{Syntax}
use Rattle.bn_netlist.proofs.TakenLineLemmas.{lines-are-read, other-lines-are-not}

takes : (b : List Sentence) (line : List ℕ) (x : Sentence) → length b < header_lines + count_in b
    → said (version_in b) (kind_after b) line ≡ Some x → fault_of b x ≡ None → TakesLine b line x
takes b line x room is none =
    let read = lines-are-read b line x room is in
    record { next = read.0; faultless = none; written = read.1 }

unformed : (b : List Sentence) (line : List ℕ) → said (version_in b) (kind_after b) line ≡ None
    → RefusesLine b line (Syntax (length b + 1))
unformed b line none = no_form refl (other-lines-are-not b line none)

faulty : (b : List Sentence) (line : List ℕ) (x : Sentence) (fault : Fault) → length b < header_lines + count_in b
    → said (version_in b) (kind_after b) line ≡ Some x → fault_of b x ≡ Some fault
    → RefusesLine b line (refusal_of fault (length b + 1))
faulty b line x fault room is has =
    let read = lines-are-read b line x room is in
    has_fault x fault read.0 read.1 has refl

-- ---- line 1

pub title_takes : (line : List ℕ) (v : Version) → title_said line ≡ Some (Title v) → TakesLine [] line (Title v)
title_takes line v is = takes [] line (Title v) (omega arith) is refl

pub title_unsaid : (line : List ℕ) → title_said line ≡ None → RefusesLine [] line (Syntax 1)
title_unsaid line none = unformed [] line none

-- ---- line 2

module _ (v : Version) (line : List ℕ) where
  count_is : (c : ℕ) → number_after (codes "elements ") line ≡ Some c → c ≢ 0 → count_said line ≡ Some (Count c)
  count_is c is some = rw is (elim (eqb_tells c 0) [ inl same ↦ absurd (some same.1) | inr other ↦ rw other.0 refl ])

  pub count_takes : (c : ℕ) → number_after (codes "elements ") line ≡ Some c → c ≢ 0 → c ≤ most_elements v
      → TakesLine (Title v ∷ []) line (Count c)
  count_takes c is some few =
      let test : nat_le c (most_elements v) ≡ true = grind (arith, nat_tests) in
      takes (Title v ∷ []) line (Count c) (omega arith) (count_is c is some) (rw test refl)

  pub count_unsaid : number_after (codes "elements ") line ≡ None → RefusesLine (Title v ∷ []) line (Syntax 2)
  count_unsaid none = unformed (Title v ∷ []) line (rw none refl)

  pub count_none : (c : ℕ) → number_after (codes "elements ") line ≡ Some c → c ≡ 0
      → RefusesLine (Title v ∷ []) line (Syntax 2)
  count_none c is none = unformed (Title v ∷ []) line (rw is (elim (eqb_tells c 0)
      [ inl same ↦ rw same.0 refl | inr other ↦ absurd (other.1 none) ]))

  pub count_many : (c : ℕ) → number_after (codes "elements ") line ≡ Some c → c ≢ 0 → most_elements v < c
      → RefusesLine (Title v ∷ []) line (refusal_of too_many 2)
  count_many c is some many =
      let test : nat_le c (most_elements v) ≡ false = grind (arith, nat_tests) in
      faulty (Title v ∷ []) line (Count c) too_many (omega arith) (count_is c is some) (rw test refl)

  -- ---- line 3

  pub start_takes : (n : ℕ) (p : ℕ × ℕ) → named_after (codes "start ") line ≡ Some p → p.0 < n
      → TakesLine (Title v ∷ Count n ∷ []) line (Start (named p))
  start_takes n p is there =
      let test : nat_lt p.0 n ≡ true = grind (arith, nat_tests) in
      takes (Title v ∷ Count n ∷ []) line (Start (named p)) (omega arith) (rw is refl) (rw test refl)

  pub start_unsaid : (n : ℕ) → named_after (codes "start ") line ≡ None
      → RefusesLine (Title v ∷ Count n ∷ []) line (Syntax 3)
  start_unsaid n none = unformed (Title v ∷ Count n ∷ []) line (rw none refl)

  pub start_absent : (n : ℕ) (p : ℕ × ℕ) → named_after (codes "start ") line ≡ Some p → n ≤ p.0
      → RefusesLine (Title v ∷ Count n ∷ []) line (refusal_of no_element 3)
  start_absent n p is absent =
      let test : nat_lt p.0 n ≡ false = grind (arith, nat_tests) in
      faulty (Title v ∷ Count n ∷ []) line (Start (named p)) no_element (omega arith) (rw is refl) (rw test refl)

  -- ---- line 5

  pub steps_takes : (n t : ℕ) (s e : Line) → number_after (codes "steps ") line ≡ Some t
      → TakesLine (Title v ∷ Count n ∷ Start s ∷ End e ∷ []) line (Steps t)
  steps_takes n t s e is = takes (Title v ∷ Count n ∷ Start s ∷ End e ∷ []) line (Steps t) (omega arith) (rw is refl)
      refl

  pub steps_unsaid : (n : ℕ) (s e : Line) → number_after (codes "steps ") line ≡ None
      → RefusesLine (Title v ∷ Count n ∷ Start s ∷ End e ∷ []) line (Syntax 5)
  steps_unsaid n s e none = unformed (Title v ∷ Count n ∷ Start s ∷ End e ∷ []) line (rw none refl)

-- ---- a version that was found

pub mapped : (line : List ℕ) (o : Option Version) (v : Version) → option_map Title o ≡ title_said line → o ≡ Some v
    → title_said line ≡ Some (Title v)
mapped line o v is found = sym is ∙ ap (option_map Title) found

pub unmapped : (line : List ℕ) (o : Option Version) → option_map Title o ≡ title_said line → o ≡ None
    → title_said line ≡ None
unmapped line o is found = sym is ∙ ap (option_map Title) found

-- ---- lines 4 and 6

module _ (v : Version) (line : List ℕ) (n : ℕ) (s : Line) where
  pub end_takes : (p : ℕ × ℕ) (l : Line) → named_after (codes "end ") line ≡ Some p → l ≡ named p → p.0 < n
      → TakesLine (Title v ∷ Count n ∷ Start s ∷ []) line (End l)
  end_takes p l is at_p there =
      let test : nat_lt p.0 n ≡ true = grind (arith, nat_tests) in
      subst (λ (m : Line). TakesLine (Title v ∷ Count n ∷ Start s ∷ []) line (End m)) (sym at_p)
      (takes (Title v ∷ Count n ∷ Start s ∷ []) line (End (named p)) (omega arith) (rw is refl) (rw test refl))

  pub end_unsaid : named_after (codes "end ") line ≡ None → RefusesLine (Title v ∷ Count n ∷ Start s ∷ []) line
      (Syntax 4)
  end_unsaid none = unformed (Title v ∷ Count n ∷ Start s ∷ []) line (rw none refl)

  pub end_absent : (p : ℕ × ℕ) → named_after (codes "end ") line ≡ Some p → n ≤ p.0
      → RefusesLine (Title v ∷ Count n ∷ Start s ∷ []) line (refusal_of no_element 4)
  end_absent p is absent =
      let test : nat_lt p.0 n ≡ false = grind (arith, nat_tests) in
      faulty (Title v ∷ Count n ∷ Start s ∷ []) line (End (named p)) no_element (omega arith) (rw is refl)
      (rw test refl)

module _ (v : Version) (line : List ℕ) (n : ℕ) (s e : Line) (t : ℕ) where
  abbrev pub five : List Sentence
  five = Title v ∷ Count n ∷ Start s ∷ End e ∷ Steps t ∷ []

  pub enter_takes : (p : ℕ × ℕ) (l : Line) → named_after (codes "at ") line ≡ Some p → l ≡ named p → p.0 < n
      → TakesLine five line (At (Enter l.element l.line))
  enter_takes p l is at_p there =
      let test : nat_lt p.0 n ≡ true = grind (arith, nat_tests) in
      subst (λ (m : Line). TakesLine five line (At (Enter m.element m.line))) (sym at_p)
      (takes five line (At (Enter p.0 p.1)) (omega arith) (rw is refl) (rw test refl))

  pub enter_absent : (p : ℕ × ℕ) → named_after (codes "at ") line ≡ Some p → n ≤ p.0
      → RefusesLine five line (refusal_of no_element 6)
  enter_absent p is absent =
      let test : nat_lt p.0 n ≡ false = grind (arith, nat_tests) in
      faulty five line (At (Enter p.0 p.1)) no_element (omega arith) (rw is refl) (rw test refl)

  pub left_takes : (p : ℕ × ℕ) (l : Line) → named_after (codes "at ") line ≡ None
      → named_after (codes "left ") line ≡ Some p → l ≡ named p → p.0 < n
      → TakesLine five line (At (Left l.element l.line))
  left_takes p l none is at_p there =
      let test : nat_lt p.0 n ≡ true = grind (arith, nat_tests) in
      subst (λ (m : Line). TakesLine five line (At (Left m.element m.line))) (sym at_p)
      (takes five line (At (Left p.0 p.1)) (omega arith) (rw (none, is) refl) (rw test refl))

  pub left_absent : (p : ℕ × ℕ) → named_after (codes "at ") line ≡ None → named_after (codes "left ") line ≡ Some p
      → n ≤ p.0 → RefusesLine five line (refusal_of no_element 6)
  left_absent p none is absent =
      let test : nat_lt p.0 n ≡ false = grind (arith, nat_tests) in
      faulty five line (At (Left p.0 p.1)) no_element (omega arith) (rw (none, is) refl) (rw test refl)

  pub left_unsaid : named_after (codes "at ") line ≡ None → named_after (codes "left ") line ≡ None
      → RefusesLine five line (Syntax 6)
  left_unsaid none other = unformed five line (rw (none, other) refl)
