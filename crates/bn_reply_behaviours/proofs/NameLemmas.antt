-- Names of ports: each list of them names free ports, or has a first wrong one, and that in one way.
use Rattle.std.specs.Prelude.{◌≡◌, ℕ, ◌+◌, ◌<◌, ◌≤◌, List, [], ◌∷◌, ◌++◌, length, map, take, slice_get, ◌⊎◌, refl}
use Rattle.std.specs.Prelude.{Option, Some, None}
use Rattle.std.proofs.Common.{zero, suc, arith, sym, ap, subst, ◌∙◌, inl, inr}
use Rattle.std.proofs.Math.Seq.{take-append_seam}
use Rattle.std.proofs.lemmas.Bool.{cases_lt}
use Rattle.std.proofs.lemmas.List.{append-nil, append_assoc, length-map, map-append}
use Rattle.std.proofs.lemmas.Option.{slice_get_within}
use Rattle.bn_lists.specs.Lists.{Has}
use Rattle.bn_lists.proofs.ApartLemmas.{mapped}
use Rattle.bn_lists.proofs.MemberLemmas.{member_at, of_two}
use Rattle.bn_base.specs.Number.{greatest}
use Rattle.bn_circuits.specs.Circuits.{Circuit, inputs_of, outputs_of, source, target}
use Rattle.bn_circuits.specs.Behaviours.{IsFreeInput, IsFreeOutput}
use Rattle.bn_circuits.specs.declared.line.Line.{Line}
use Rattle.bn_netlist_laws.specs.Reading.{named, named_after}
use Rattle.bn_netlist_laws.specs.Sentences.{IsNameable, line_text}
use Rattle.bn_netlist_laws.proofs.FormLemmas.{named_after-again, named_after-takes}
use Rattle.bn_behaviour.specs.Explored.{StandOnce}
use Rattle.bn_behaviour.specs.Laws.{AreRotary}
use Rattle.bn_behaviour.proofs.FreeLemmas.{input_known, known_input, known_output, output_known}
use Rattle.bn_behaviour.proofs.ListLemmas.{get_more, none_at}
use Rattle.bn_behaviour.proofs.OutcomeLemmas.{has_or_not}
use Rattle.bn_behaviour.proofs.PortLemmas.{in_front}
use Rattle.bn_reply_behaviours.specs.NamedPorts.{AreNamed, IsMisnamed}

-- ---- lists

mapped_at : {A B : Type 0} (f : A → B) (xs : List A) (n : ℕ) (y : B) → slice_get (map f xs) n ≡ Some y
    → (x : A) × (slice_get xs n ≡ Some x) × (f x ≡ y)
mapped_at f [] n y e = absurd (none_at n y e)
mapped_at f (x ∷ xs) zero y e = (x, refl, cc)
mapped_at f (x ∷ xs) (suc n) y e = mapped_at f xs n y e

taken_at : {A : Type 0} (m n : ℕ) (xs : List A) → n < m → slice_get (take m xs) n ≡ slice_get xs n
taken_at zero n xs low = absurd (omega arith)
taken_at (suc m) n [] low = refl
taken_at (suc m) zero (x ∷ xs) low = refl
taken_at (suc m) (suc n) (x ∷ xs) low = taken_at m n xs (omega arith)

take_whole : {A : Type 0} (xs : List A) → take (length xs) xs ≡ xs
take_whole [] = refl
take_whole (x ∷ xs) = ap (λ ys. x ∷ ys) (take_whole xs)

once_more : {A : Type 0} (xs : List A) (x : A) → StandOnce xs → (Has xs x → ⊥) → StandOnce (xs ++ x ∷ [])
once_more {A} xs x once none = record { once = λ m n y e f. by m n y (get_more xs x y m e) (get_more xs x y n f) }
  where
    by : (m n : ℕ) (y : A) → (slice_get xs m ≡ Some y) ⊎ ((m ≡ length xs) × (x ≡ y))
        → (slice_get xs n ≡ Some y) ⊎ ((n ≡ length xs) × (x ≡ y)) → m ≡ n
    by m n y (inl a) (inl b) = once.once m n y a b
    by m n y (inl a) (inr b) = absurd (none (subst (Has xs) (sym b.1) (member_at xs m y a)))
    by m n y (inr a) (inl b) = absurd (none (subst (Has xs) (sym a.1) (member_at xs n y b)))
    by m n y (inr a) (inr b) = a.0 ∙ sym b.0

-- ---- one name

some_tells : (a b : ℕ × ℕ) → Some a ≡ Some b → a ≡ b
some_tells a b e = cc

pub name_tells : (l m : Line) → IsNameable l → IsNameable m → line_text l ≡ line_text m → l ≡ m
name_tells l m a b e =
    let first = named_after-again [] l a in
    let second = named_after-again [] m b in
    let pair = some_tells (l.element, l.line) (m.element, m.line) (sym first ∙ ap (named_after []) e ∙ second) in
    λ i. record { element = (pair i).0; line = (pair i).1 }

-- a name is that of a free port, or of none
pub data Naming (free : Line → Type 0) (name : List ℕ) : Type 0 where
  of_port : (l : Line) → free l → name ≡ line_text l → Naming free name
  of_none : ((l : Line) → free l → name ≡ line_text l → ⊥) → Naming free name

-- ---- names so far

module _ (free : Line → Type 0) where
  -- all names are those of free ports, or there is a first wrong one
  pub data Outcome (names : List (List ℕ)) : Type 0 where
    all : (ports : List Line) → AreNamed free names ports → Outcome names
    wrong_at : (p : ℕ) → IsMisnamed free names p → Outcome names

  pub named_none : AreNamed free [] []
  named_none = record {
    named = refl;
    each = λ l has. absurd has;
    once = record { once = λ m n x e f. absurd (none_at m x e) };
  }

  pub named_more : (front : List (List ℕ)) (ports : List Line) (name : List ℕ) (l : Line) → AreNamed free front ports
      → free l → name ≡ line_text l → (Has ports l → ⊥) → AreNamed free (front ++ name ∷ []) (ports ++ l ∷ [])
  named_more front ports name l x f is none = record {
    named = (λ i. x.named i ++ is i ∷ []) ∙ sym (map-append line_text ports (l ∷ []));
    each = λ y has. by y (of_two ports (l ∷ []) y has);
    once = once_more ports l x.once none;
  }
    where
      by : (y : Line) → Has ports y ⊎ Has (l ∷ []) y → free y
      by y (inl has) = x.each y has
      by y (inr (inl e)) = subst free (sym e) f
      by y (inr (inr none)) = absurd none

  pub named_long : (names : List (List ℕ)) (ports : List Line) → AreNamed free names ports → length names ≡ length ports
  named_long names ports x = ap (λ (ys : List (List ℕ)). length ys) x.named ∙ length-map ports line_text

  pub wrong_name : (names front rest : List (List ℕ)) (name : List ℕ) (ports : List Line) (p : ℕ)
      → names ≡ front ++ name ∷ rest → AreNamed free front ports
      → ((l : Line) → free l → name ≡ line_text l → Has ports l) → p ≡ length front + 1 → IsMisnamed free names p
  wrong_name names front rest name ports p split x wrong place =
      let cut : take (length front) names ≡ front =
      ap (take (length front)) split ∙ take-append_seam front (name ∷ rest) in
      record {
        before = length front;
        place = place;
        name = name;
        stands = ap (λ ys. slice_get ys (length front)) split ∙ seam front name rest;
        ports = ports;
        named = subst (λ ys. AreNamed free ys ports) (sym cut) x;
        wrong = λ l f is. subst (λ ys. Has ys name) (sym cut)
            (subst (Has front) (sym is) (subst (λ ys. Has ys (line_text l)) (sym x.named)
            (mapped line_text ports l (wrong l f is))));
      }
    where
      seam : (xs : List (List ℕ)) (x : List ℕ) (ys : List (List ℕ)) → slice_get (xs ++ x ∷ ys) (length xs) ≡ Some x
      seam [] x ys = refl
      seam (y ∷ xs) x ys = seam xs x ys

-- ---- one outcome

module _ (free : Line → Type 0) (nameable : (l : Line) → free l → IsNameable l) where
  port_at : (names : List (List ℕ)) (ports : List Line) (n : ℕ) (name : List ℕ) → AreNamed free names ports
      → slice_get names n ≡ Some name
      → (l : Line) × (slice_get ports n ≡ Some l) × (line_text l ≡ name) × IsNameable l × free l
  port_at names ports n name x e =
      let at = mapped_at line_text ports n name (ap (λ ys. slice_get ys n) (sym x.named) ∙ e) in
      let f = x.each at.0 (member_at ports n at.0 at.1) in
      (at.0, at.1, at.2, nameable at.0 f, f)

  clash : (names : List (List ℕ)) (m p : ℕ) (ports : List Line) → AreNamed free (take m names) ports
      → (x : IsMisnamed free names p) → x.before < m → ⊥
  clash names m p ports are x low =
      let here = port_at (take m names) ports x.before x.name are (taken_at m x.before names low ∙ x.stands) in
      let earlier = in_front names x.before x.name (x.wrong here.0 here.4 (sym here.2)) in
      let less = earlier.1 in
      let also = port_at (take m names) ports earlier.0 x.name are
      (taken_at m earlier.0 names (omega arith) ∙ earlier.2) in
      let same = name_tells also.0 here.0 also.3 here.3 (also.2 ∙ sym here.2) in
      let place = are.once.once earlier.0 x.before here.0
      (subst (λ l. slice_get ports earlier.0 ≡ Some l) same also.1) here.1 in
      absurd (omega arith)

  pub not_both : (names : List (List ℕ)) (p : ℕ) (ports : List Line) → AreNamed free names ports
      → IsMisnamed free names p → ⊥
  not_both names p ports are x =
      clash names (length names) p ports (subst (λ ys. AreNamed free ys ports) (sym (take_whole names)) are) x
      (slice_get_within names x.before x.name x.stands)

  pub misnamed_once : (names : List (List ℕ)) (p r : ℕ) → IsMisnamed free names p → IsMisnamed free names r → p ≡ r
  misnamed_once names p r x y = elim (cases_lt x.before y.before) [
    | inl less ↦ absurd (clash names y.before p y.ports y.named x less)
    | inr high ↦ elim (cases_lt y.before x.before) [
      | inl more ↦ absurd (clash names x.before r x.ports x.named y more)
      | inr low ↦
          let a = x.place in
          let b = y.place in
          omega arith
    ]
  ]

  texts_tell : (xs ys : List Line) → ((l : Line) → Has xs l → free l) → ((l : Line) → Has ys l → free l)
      → map line_text xs ≡ map line_text ys → xs ≡ ys
  texts_tell [] [] f g e = refl
  texts_tell [] (y ∷ ys) f g e = absurd (cc)
  texts_tell (x ∷ xs) [] f g e = absurd (cc)
  texts_tell (x ∷ xs) (y ∷ ys) f g e =
      let head : line_text x ≡ line_text y = cc in
      let tail : map line_text xs ≡ map line_text ys = cc in
      let first = name_tells x y (nameable x (f x (inl refl))) (nameable y (g y (inl refl))) head in
      let rest = texts_tell xs ys (λ l h. f l (inr h)) (λ l h. g l (inr h)) tail in
      λ i. first i ∷ rest i

  pub named_once : (names : List (List ℕ)) (xs ys : List Line) → AreNamed free names xs → AreNamed free names ys
      → xs ≡ ys
  named_once names xs ys a b = texts_tell xs ys a.each b.each (sym a.named ∙ b.named)

  -- ---- some outcome

  module _ (decide : (name : List ℕ) → Naming free name) where
    walk : (names front rest : List (List ℕ)) (ports : List Line) → names ≡ front ++ rest → AreNamed free front ports
        → Outcome free names
    walk names front [] ports split x =
        all ports (subst (λ ys. AreNamed free ys ports) (sym (split ∙ append-nil front)) x)
    walk names front (name ∷ rest) ports split x = elim (decide name) [
      | of_none none ↦ wrong_at (length front + 1)
          (wrong_name free names front rest name ports (length front + 1) split x (λ l f is. absurd (none l f is)) refl)
      | of_port l f is ↦ elim (has_or_not ports l) [
        | inl has ↦ wrong_at (length front + 1)
            (wrong_name free names front rest name ports (length front + 1) split x
            (λ m g same. subst (Has ports) (name_tells l m (nameable l f) (nameable m g) (sym is ∙ same)) has) refl)
        | inr new ↦ walk names (front ++ name ∷ []) rest (ports ++ l ∷ [])
            (split ∙ sym (append_assoc front (name ∷ []) rest)) (named_more free front ports name l x f is new)
      ]
    ]

    pub some_outcome : (names : List (List ℕ)) → Outcome free names
    some_outcome names = walk names [] names [] refl (named_none free)

-- ---- the ports of a circuit

module _ (k : Circuit) (are : AreRotary k.tables) (few : length k.tables ≤ greatest) where
  pub input_nameable : (l : Line) → IsFreeInput k l → IsNameable l
  input_nameable l f =
      let known = input_known k.tables are l.element l.line f.input in (omega (arith, known.0, few), known.1)

  pub output_nameable : (l : Line) → IsFreeOutput k l → IsNameable l
  output_nameable l f =
      let known = output_known k.tables are l.element l.line f.output in (omega (arith, known.0, few), known.1)

  data OrNot (P : Type 0) : Type 0 where
    holds : P → OrNot P
    fails : (P → ⊥) → OrNot P

  free_input : (l : Line) → OrNot (IsFreeInput k l)
  free_input l = elim (cases_lt l.element (length k.tables)) [
    | inr high ↦ fails (λ f. (let known = input_known k.tables are l.element l.line f.input in
        absurd (omega (arith, known.0, high))))
    | inl low ↦ elim (cases_lt l.line 4) [
      | inr five ↦ fails (λ f. (let known = input_known k.tables are l.element l.line f.input in
          absurd (omega (arith, known.1, five))))
      | inl four ↦ by (source k.wires l) refl (known_input k.tables are l.element l.line low four)
    ]
  ]
    where
      by : (o : Option Line) → source k.wires l ≡ o → l.line < inputs_of k.tables l.element → OrNot (IsFreeInput k l)
      by None e known = holds (record { input = known; free = e })
      by (Some x) e known = fails (λ f. (let clash : Some x ≡ None = sym e ∙ f.free in absurd (cc)))

  free_output : (l : Line) → OrNot (IsFreeOutput k l)
  free_output l = elim (cases_lt l.element (length k.tables)) [
    | inr high ↦ fails (λ f. (let known = output_known k.tables are l.element l.line f.output in
        absurd (omega (arith, known.0, high))))
    | inl low ↦ elim (cases_lt l.line 4) [
      | inr five ↦ fails (λ f. (let known = output_known k.tables are l.element l.line f.output in
          absurd (omega (arith, known.1, five))))
      | inl four ↦ by (target k.wires l) refl (known_output k.tables are l.element l.line low four)
    ]
  ]
    where
      by : (o : Option Line) → target k.wires l ≡ o → l.line < outputs_of k.tables l.element → OrNot (IsFreeOutput k l)
      by None e known = holds (record { output = known; free = e })
      by (Some x) e known = fails (λ f. (let clash : Some x ≡ None = sym e ∙ f.free in absurd (cc)))

  decide : (free : Line → Type 0) → ((l : Line) → free l → IsNameable l) → ((l : Line) → OrNot (free l))
      → (name : List ℕ) → Naming free name
  decide free nameable test name = by (named_after [] name) refl
    where
      other : (l m : Line) → IsNameable m → name ≡ line_text m → (free m → ⊥) → free l → name ≡ line_text l → ⊥
      other l m a e none f is = none (subst free (name_tells l m (nameable l f) a (sym is ∙ e)) f)

      by_test : (m : Line) → IsNameable m → name ≡ line_text m → OrNot (free m) → Naming free name
      by_test m a e (holds f) = of_port m f e
      by_test m a e (fails none) = of_none (λ l f is. other l m a e none f is)

      by : (o : Option (ℕ × ℕ)) → named_after [] name ≡ o → Naming free name
      by (Some q) e = let takes = named_after-takes [] name q e in by_test (named q) takes.0 takes.1 (test (named q))
      by None e = of_none (λ l f is.
          (let there = named_after-again [] l (nameable l f) in
          let clash : None ≡ Some (l.element, l.line) = sym e ∙ ap (named_after []) is ∙ there in
          absurd (cc)))

  pub decide_input : (name : List ℕ) → Naming (IsFreeInput k) name
  decide_input = decide (IsFreeInput k) input_nameable free_input

  pub decide_output : (name : List ℕ) → Naming (IsFreeOutput k) name
  decide_output = decide (IsFreeOutput k) output_nameable free_output
