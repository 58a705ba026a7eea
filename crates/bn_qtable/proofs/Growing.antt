-- One more entry of a table.
use Rattle.std.proofs.Common.{◌≡◌, ◌<◌, ◌≤◌, ◌+◌, ◌*◌, ◌∷◌, ◌++◌, ◌∙◌, ℕ, true, List, [], length, refl, sym, ap, subst}
use Rattle.std.proofs.Common.{inl, inr, arith, append_assoc, length-append, All}
use Rattle.std.specs.Prelude.{bytes_eq, slice_index_or, if◌then◌else◌}
use Rattle.std.specs.List.{list_all}
use Rattle.std.proofs.lemmas.Bool.{cases_Bool}
use Rattle.std.proofs.lemmas.List.{append-nil, map-append}
use Rattle.std.proofs.lemmas.List.Concat.{flat_map-append}
use Rattle.std.proofs.lemmas.List.Elements.{All-nil, All-push, All-head, All-tail, All-weaker}
use Rattle.std.proofs.lemmas.Option.{slice_get_within, get_or_from_slice_get}
use Rattle.std.proofs.lemmas.Slice.Eq.{bytes_eq-Decides}
use Rattle.bn_csv.specs.Forms.{is_state_name, is_symbol}
use Rattle.bn_csv.specs.Numbering.{firsts, firsts_by, with_name}
use Rattle.bn_csv.proofs.NumberingLemmas.{firsts_push, length-firsts}
use Rattle.bn_csv.proofs.AddedLemmas.{front, new_all, new_grows}
use Rattle.bn_quad.specs.Names.{Naming}
use Rattle.bn_quad.specs.Quadruples.{Deed, Rewrite, Move, Rule, IsDeedInRange, IsRuleInRange}
use Rattle.bn_qtable.specs.Entry.{SaidQuadruple, Says, Rewrites, Moves, SaysHasForms, quadruple_entry, read_field}
use Rattle.bn_qtable.specs.Entry.{act_field, slash}
use Rattle.bn_qtable.specs.Rows.{SpellsQuadruples, blank_name, counts_of, quadruple_rows_by, said_deed}
use Rattle.bn_qtable.specs.Rows.{said_of_quadruple, state_names_in, symbols_at, symbol_names_in}
use Rattle.bn_csv.specs.Entries.{field_at}
use Rattle.bn_qtable.specs.Draft.{Adds, Stands, blanks_alone, with_says}
use Rattle.bn_qtable.proofs.Passing.{no-slash}

-- names with others behind them
abbrev pub Grown : List (List ℕ) → List (List ℕ) → Type 0
Grown names names2 = (more : List (List ℕ)) × (names2 ≡ names ++ more)

grown-twice : (a b c : List (List ℕ)) → Grown a b → Grown b c → Grown a c
grown-twice a b c (m, e) (k, f) = (m ++ k, f ∙ ap (λ t. t ++ k) e ∙ append_assoc a m k)

pub grown-says : (names : List (List ℕ)) (t : Says) → Grown names (with_says names t)
grown-says names (Rewrites r w) = grown-twice names (with_name names r) (with_name (with_name names r) w)
    (new_grows bytes_eq names r) (new_grows bytes_eq (with_name names r) w)
grown-says names (Moves s) = ([], sym (append-nil names))

longer : (a b : List (List ℕ)) → Grown a b → length a ≤ length b
longer a b (m, e) = let long : length b ≡ length a + length m =
    ap (λ (t : List (List ℕ)). length t) e ∙ length-append a m in omega arith

front-grown : (a b : List (List ℕ)) (n : ℕ) → Grown a b → n < length a → slice_index_or b n [] ≡ slice_index_or a n []
front-grown a b n (m, e) h = ap (λ (t : List (List ℕ)). slice_index_or t n []) e ∙ front a m [] n h

deed-stays : (a b : List (List ℕ)) (d : Deed) → Grown a b → IsDeedInRange (length a) d → said_deed b d ≡ said_deed a d
deed-stays a b (Rewrite r w) g h = λ i. Rewrites (front-grown a b r g h.0 i) (front-grown a b w g h.1 i)
deed-stays a b (Move s) g h = refl

-- each list of names with others behind it
pub record GrownAll (n n2 : Naming) : Type 0 where
  pub states : Grown n.states n2.states
  pub one : Grown n.one n2.one
  pub two : Grown n.two n2.two
  pub three : Grown n.three n2.three

said-stays : (n n2 : Naming) (r : Rule ℕ) → GrownAll n n2 → IsRuleInRange (length n.states) (counts_of n) r
    → said_of_quadruple n2 r ≡ said_of_quadruple n r
said-stays n n2 r g h = λ i. record {
  state = front-grown n.states n2.states r.from g.states h.from i;
  one = deed-stays n.one n2.one r.one g.one h.deeds.0 i;
  two = deed-stays n.two n2.two r.two g.two h.deeds.1.0 i;
  three = deed-stays n.three n2.three r.three g.three h.deeds.1.1.0 i;
  next = front-grown n.states n2.states r.to g.states h.to i;
}

-- the entries of quadruples stay when names are added
rows-stay : (n n2 : Naming) (rules : List (Rule ℕ)) → GrownAll n n2
    → All (IsRuleInRange (length n.states) (counts_of n)) rules → quadruple_rows_by n2 rules ≡ quadruple_rows_by n rules
rows-stay n n2 [] g h = refl
rows-stay n n2 (r ∷ rs) g h =
    let In : Rule ℕ → Type 0 = IsRuleInRange (length n.states) (counts_of n) in
    let here = said-stays n n2 r g (All-head In r rs h) in
    let rest = rows-stay n n2 rs g (All-tail In r rs h) in
    λ i. quadruple_entry (here i) ∷ rest i

wider-deed : (a b : ℕ) (d : Deed) → a ≤ b → IsDeedInRange a d → IsDeedInRange b d
wider-deed a b (Rewrite r w) le h = let x = h.0 in let y = h.1 in (omega arith, omega arith)
wider-deed a b (Move s) le h = tt

wider : (n n2 : Naming) → GrownAll n n2 → (r : Rule ℕ) → IsRuleInRange (length n.states) (counts_of n) r
    → IsRuleInRange (length n2.states) (counts_of n2) r
wider n n2 g r h =
    let s = longer n.states n2.states g.states in
    let a = h.from in
    let b = h.to in
    record {
      from = omega arith;
      deeds = (
        wider-deed _ _ r.one (longer n.one n2.one g.one) h.deeds.0,
        (
          wider-deed _ _ r.two (longer n.two n2.two g.two) h.deeds.1.0,
          (wider-deed _ _ r.three (longer n.three n2.three g.three) h.deeds.1.1.0, tt),
        ),
      );
      to = omega arith;
    }

grown-all : (n : Naming) (s : SaidQuadruple) (r : Rule ℕ) (n2 : Naming) → Adds n s r n2 → GrownAll n n2
grown-all n s r n2 a =
    let S : List (List ℕ) → Type 0 = Grown n.states in
    let A : List (List ℕ) → Type 0 = Grown n.one in
    let B : List (List ℕ) → Type 0 = Grown n.two in
    let C : List (List ℕ) → Type 0 = Grown n.three in
    record {
      states = subst S (sym a.states_after) (grown-twice n.states (with_name n.states s.state)
          (with_name (with_name n.states s.state) s.next) (new_grows bytes_eq n.states s.state)
          (new_grows bytes_eq (with_name n.states s.state) s.next));
      one = subst A (sym a.one_after) (grown-says n.one s.one);
      two = subst B (sym a.two_after) (grown-says n.two s.two);
      three = subst C (sym a.three_after) (grown-says n.three s.three);
    }

deed-said : (names : List (List ℕ)) (d : Deed) (t : Says) → Stands names d t → said_deed names d ≡ t
deed-said names (Rewrite r w) (Rewrites x y) h = rw (
  get_or_from_slice_get names r x [] h.0,
  get_or_from_slice_get names w y [] h.1,
) refl
deed-said names (Rewrite r w) (Moves s) h = absurd h
deed-said names (Move s) (Rewrites x y) h = absurd h
deed-said names (Move s) (Moves t) h = ap Moves h

deed-within : (names : List (List ℕ)) (d : Deed) (t : Says) → Stands names d t → IsDeedInRange (length names) d
deed-within names (Rewrite r w) (Rewrites x y) h = (slice_get_within names r x h.0, slice_get_within names w y h.1)
deed-within names (Rewrite r w) (Moves s) h = absurd h
deed-within names (Move s) (Rewrites x y) h = absurd h
deed-within names (Move s) (Moves t) h = tt

said-added : (n : Naming) (s : SaidQuadruple) (r : Rule ℕ) (n2 : Naming) → Adds n s r n2 → said_of_quadruple n2 r ≡ s
said-added n s r n2 h =
    let a = get_or_from_slice_get n2.states r.from s.state [] h.from in
    let b = deed-said n2.one r.one s.one h.one in
    let c = deed-said n2.two r.two s.two h.two in
    let d = deed-said n2.three r.three s.three h.three in
    let e = get_or_from_slice_get n2.states r.to s.next [] h.to in
    λ i. record { state = a i; one = b i; two = c i; three = d i; next = e i }

names-after : (entries : List (List (List ℕ))) (s : SaidQuadruple)
    → firsts (state_names_in (entries ++ quadruple_entry s ∷ []))
    ≡ with_name (with_name (firsts (state_names_in entries)) s.state) s.next
names-after entries s =
    let more : state_names_in (entries ++ quadruple_entry s ∷ [])
    ≡ (state_names_in entries ++ s.state ∷ []) ++ s.next ∷ [] =
    flat_map-append (λ fields. field_at fields 0 ∷ field_at fields 7 ∷ []) entries (quadruple_entry s ∷ [])
    ∙ sym (append_assoc (state_names_in entries) (s.state ∷ []) (s.next ∷ [])) in
    rw more (firsts_push (state_names_in entries ++ s.state ∷ []) s.next
    ∙ rw (firsts_push (state_names_in entries) s.state) refl)

-- the symbols that are said of a tape
abbrev said-symbols : Says → List (List ℕ)
said-symbols (Rewrites r w) = r ∷ w ∷ []
said-symbols (Moves s) = []

symbols-said : (t : Says) → SaysHasForms t → (if bytes_eq (read_field t) slash then [] else read_field t ∷ act_field t
    ∷ []) ≡ said-symbols t
symbols-said (Rewrites r w) h = rw (no-slash r h.0) refl
symbols-said (Moves s) h = refl

symbols-push : (tape : ℕ) (entries : List (List (List ℕ))) (fields : List (List ℕ))
    → symbol_names_in tape (entries ++ fields ∷ []) ≡ symbol_names_in tape entries ++ symbols_at tape fields
symbols-push tape entries fields =
    flat_map-append (symbols_at tape) entries (fields ∷ []) ∙ ap
    (λ (u : List (List ℕ)). symbol_names_in tape entries ++ u) (append-nil (symbols_at tape fields))

symbols-after : (tape : ℕ) (entries : List (List (List ℕ))) (fields : List (List ℕ)) (t : Says)
    → symbols_at tape fields ≡ said-symbols t
    → firsts (blank_name ∷ symbol_names_in tape (entries ++ fields ∷ []))
    ≡ with_says (firsts (blank_name ∷ symbol_names_in tape entries)) t
symbols-after tape entries fields (Rewrites r w) e =
    let more : blank_name ∷ symbol_names_in tape (entries ++ fields ∷ [])
    ≡ ((blank_name ∷ symbol_names_in tape entries) ++ r ∷ []) ++ w ∷ [] =
    ap (λ (t : List (List ℕ)). blank_name ∷ t) (symbols-push tape entries fields
    ∙ ap (λ (u : List (List ℕ)). symbol_names_in tape entries ++ u) e
    ∙ sym (append_assoc (symbol_names_in tape entries) (r ∷ []) (w ∷ []))) in
    ap firsts more ∙ firsts_push ((blank_name ∷ symbol_names_in tape entries) ++ r ∷ []) w
    ∙ ap (λ (t : List (List ℕ)). with_name t w) (firsts_push (blank_name ∷ symbol_names_in tape entries) r)
symbols-after tape entries fields (Moves s) e =
    ap (λ (t : List (List ℕ)). firsts (blank_name ∷ t)) (symbols-push tape entries fields
    ∙ ap (λ (u : List (List ℕ)). symbol_names_in tape entries ++ u) e ∙ append-nil (symbol_names_in tape entries))

form-says : (names : List (List ℕ)) (t : Says) → list_all is_symbol names ≡ true → SaysHasForms t
    → list_all is_symbol (with_says names t) ≡ true
form-says names (Rewrites r w) all h = new_all bytes_eq is_symbol (with_name names r) w
    (new_all bytes_eq is_symbol names r all h.0) h.1
form-says names (Moves s) all h = all

-- one more entry, and its quadruple
pub spells-more : (n : Naming) (rules : List (Rule ℕ)) (entries : List (List (List ℕ))) (s : SaidQuadruple) (r : Rule ℕ)
    (n2 : Naming)
    → SpellsQuadruples n rules entries → Adds n s r n2 → SpellsQuadruples n2 (rules ++ r ∷ [])
    (entries ++ quadruple_entry s ∷ [])
spells-more n rules entries s r n2 h a =
    let g = grown-all n s r n2 a in
    let In : Rule ℕ → Type 0 = IsRuleInRange (length n.states) (counts_of n) in
    let In2 : Rule ℕ → Type 0 = IsRuleInRange (length n2.states) (counts_of n2) in
    let here : In2 r = record {
      from = slice_get_within n2.states r.from s.state a.from;
      deeds = (
        deed-within n2.one r.one s.one a.one,
        (
          deed-within n2.two r.two s.two a.two,
          (deed-within n2.three r.three s.three a.three, tt),
        ),
      );
      to = slice_get_within n2.states r.to s.next a.to;
    } in
    let rows : quadruple_rows_by n2 rules ≡ entries = rows-stay n n2 rules g h.in_range ∙ h.rows in
    let last : quadruple_entry (said_of_quadruple n2 r) ≡ quadruple_entry s =
    ap quadruple_entry (said-added n s r n2 a) in
    let f = a.forms in
    record {
      rows = map-append (λ (q : Rule ℕ). quadruple_entry (said_of_quadruple n2 q)) rules (r ∷ [])
          ∙ (λ i. rows i ++ last i ∷ []);
      in_range = All-push In2 rules r (All-weaker In In2 (wider n n2 g) rules h.in_range) here;
      states_by_first = a.states_after ∙ ap (λ (t : List (List ℕ)). with_name (with_name t s.state) s.next)
          h.states_by_first ∙ sym (names-after entries s);
      one_by_first = a.one_after ∙ ap (λ (t : List (List ℕ)). with_says t s.one) h.one_by_first
          ∙ sym (symbols-after 1 entries (quadruple_entry s) s.one (symbols-said s.one f.one));
      two_by_first = a.two_after ∙ ap (λ (t : List (List ℕ)). with_says t s.two) h.two_by_first
          ∙ sym (symbols-after 2 entries (quadruple_entry s) s.two (symbols-said s.two f.two));
      three_by_first = a.three_after ∙ ap (λ (t : List (List ℕ)). with_says t s.three) h.three_by_first
          ∙ sym (symbols-after 3 entries (quadruple_entry s) s.three (symbols-said s.three f.three));
      states_form = rw a.states_after (new_all bytes_eq is_state_name (with_name n.states s.state) s.next
          (new_all bytes_eq is_state_name n.states s.state h.states_form f.state) f.next);
      one_form = rw a.one_after (form-says n.one s.one h.one_form f.one);
      two_form = rw a.two_after (form-says n.two s.two h.two_form f.two);
      three_form = rw a.three_after (form-says n.three s.three h.three_form f.three);
    }

-- no entry
pub spells-none : SpellsQuadruples blanks_alone [] []
unfolding firsts_by
spells-none = record {
  rows = refl;
  in_range = All-nil (IsRuleInRange 0 (1 ∷ 1 ∷ 1 ∷ []));
  states_by_first = refl;
  one_by_first = refl;
  two_by_first = refl;
  three_by_first = refl;
  states_form = refl;
  one_form = refl;
  two_form = refl;
  three_form = refl;
}

-- quadruples have their own entries
pub spells-own : (n : Naming) (rules : List (Rule ℕ)) (entries : List (List (List ℕ)))
    → SpellsQuadruples n rules entries → SpellsQuadruples n rules (quadruple_rows_by n rules)
spells-own n rules entries h =
    let P : List (List (List ℕ)) → Type 0 = SpellsQuadruples n rules in subst P (sym h.rows) h

-- ---- how many names there are

states-count : (entries : List (List (List ℕ))) → length (state_names_in entries) ≡ 2 * length entries
states-count [] = refl
states-count (fields ∷ rest) = let later = states-count rest in omega arith

two-at-most : (tape : ℕ) (fields : List (List ℕ)) → length (symbols_at tape fields) ≤ 2
two-at-most tape fields = elim (cases_Bool (bytes_eq (field_at fields tape) slash)) [
  | inl hit ↦ rw hit (omega arith)
  | inr miss ↦ rw miss (omega arith)
]

symbols-count : (tape : ℕ) (entries : List (List (List ℕ))) → length (symbol_names_in tape entries) ≤ 2 * length entries
symbols-count tape [] = omega arith
symbols-count tape (fields ∷ rest) =
    let long : length (symbol_names_in tape (fields ∷ rest)) ≡ length (symbols_at tape fields)
    + length (symbol_names_in tape rest) = length-append (symbols_at tape fields) (symbol_names_in tape rest) in
    let here = two-at-most tape fields in
    let later = symbols-count tape rest in
    omega arith

few-symbols : (tape : ℕ) (names : List (List ℕ)) (entries : List (List (List ℕ)))
    → names ≡ firsts (blank_name ∷ symbol_names_in tape entries) → length names ≤ 2 * length entries + 1
few-symbols tape names entries e =
    let most : length (firsts (blank_name ∷ symbol_names_in tape entries))
    ≤ length (blank_name ∷ symbol_names_in tape entries) = length-firsts bytes_eq bytes_eq-Decides
    (blank_name ∷ symbol_names_in tape entries) in
    let is : length names ≡ length (firsts (blank_name ∷ symbol_names_in tape entries)) =
    ap (λ (t : List (List ℕ)). length t) e in
    let count = symbols-count tape entries in
    omega arith

pub record Few (n : Naming) (count : ℕ) : Type 0 where
  pub states : length n.states ≤ 2 * count
  pub one : length n.one ≤ 2 * count + 1
  pub two : length n.two ≤ 2 * count + 1
  pub three : length n.three ≤ 2 * count + 1

pub few-of : (n : Naming) (rules : List (Rule ℕ)) (entries : List (List (List ℕ))) → SpellsQuadruples n rules entries
    → Few n (length entries)
few-of n rules entries h =
    let most : length (firsts (state_names_in entries)) ≤ length (state_names_in entries) =
    length-firsts bytes_eq bytes_eq-Decides (state_names_in entries) in
    let is : length n.states ≡ length (firsts (state_names_in entries)) =
    ap (λ (t : List (List ℕ)). length t) h.states_by_first in
    let count = states-count entries in
    record {
      states = omega arith;
      one = few-symbols 1 n.one entries h.one_by_first;
      two = few-symbols 2 n.two entries h.two_by_first;
      three = few-symbols 3 n.three entries h.three_by_first;
    }
