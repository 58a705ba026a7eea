-- The text of a table.
use Rattle.std.proofs.Common.{◌≡◌, ◌<◌, ◌∷◌, ◌∙◌, ℕ, zero, suc, List, [], length, get_or, map, true, refl, ap, All}
use Rattle.std.proofs.Common.{Some, slice_get, arith}
use Rattle.std.specs.Prelude.{slice_index_or}
use Rattle.std.proofs.lemmas.Option.{get_or_from_slice_get}
use Rattle.bn_csv.specs.Entries.{entries_of}
use Rattle.bn_csv.specs.Forms.{is_state_name, is_symbol}
use Rattle.bn_csv.proofs.FormsLemmas.{plain-state-name, plain-symbol}
use Rattle.bn_csv.specs.Lines.{is_plain, is_plain_entry, lines_of}
use Rattle.bn_csv.proofs.LinesLemmas.{all_plain, entries_of-lines_of}
use Rattle.bn_lists.specs.Lists.{nth}
use Rattle.bn_machine.specs.declared.quint.Shift.{Shift}
use Rattle.bn_machine.specs.declared.quint.Shift.TheVariants.{Left, Stay, Right}
use Rattle.bn_quad.specs.Names.{Naming}
use Rattle.bn_quad.specs.Quadruples.{Deed, Rewrite, Move, Rule, Quadruples, IsDeedInRange, IsQuadMachine, IsRuleInRange}
use Rattle.bn_quad.specs.Kept.{rule_of, rules_of}
use Rattle.bn_quad.specs.declared.quad.Quad.{Quad}
use Rattle.bn_qtable.specs.Entry.{quadruple_entry, read_field, act_field}
use Rattle.bn_machine.specs.Shifts.{shift_text}
use Rattle.bn_qtable.specs.Named.{AreNamed, DeedIsNamed, HasNames, IsNamed, RuleIsNamed}
use Rattle.bn_qtable.specs.Rows.{quadruple_rows_by, said_deed, said_of_quadruple}

pub plain_shift : (s : Shift) → is_plain (shift_text s) ≡ true
plain_shift Left = refl
plain_shift Stay = refl
plain_shift Right = refl

-- named symbols and states need no quotes
pub plain-named : (names : List (List ℕ)) (n : ℕ) → IsNamed is_symbol names n
    → is_plain (slice_index_or names n []) ≡ true
plain-named names n (name, at, form) = ap is_plain (get_or_from_slice_get names n name [] at) ∙ plain-symbol name form

pub plain-state : (names : List (List ℕ)) (n : ℕ) → IsNamed is_state_name names n
    → is_plain (slice_index_or names n []) ≡ true
plain-state names n (name, at, form) = ap is_plain (get_or_from_slice_get names n name [] at)
    ∙ plain-state-name name form

plain-read : (names : List (List ℕ)) (d : Deed) → DeedIsNamed names d → is_plain (read_field (said_deed names d)) ≡ true
plain-read names (Rewrite r w) h = plain-named names r h.0
plain-read names (Move s) h = refl

plain-act : (names : List (List ℕ)) (d : Deed) → DeedIsNamed names d → is_plain (act_field (said_deed names d)) ≡ true
plain-act names (Rewrite r w) h = plain-named names w h.1
plain-act names (Move s) h = plain_shift s

pub plain-row : (n : Naming) (r : Rule ℕ) → RuleIsNamed n r → is_plain_entry (quadruple_entry (said_of_quadruple n r))
    ≡ true
plain-row n r h = rw (
  plain-state n.states r.from h.from,
  plain-read n.one r.one h.one,
  plain-read n.two r.two h.two,
  plain-read n.three r.three h.three,
  plain-act n.one r.one h.one,
  plain-act n.two r.two h.two,
  plain-act n.three r.three h.three,
  plain-state n.states r.to h.to,
) refl

-- the quadruples of a machine have names where its states and symbols have
deed-named : (names : List (List ℕ)) (z : ℕ) (d : Deed) → AreNamed is_symbol names z → IsDeedInRange z d
    → DeedIsNamed names d
deed-named names z (Rewrite r w) a h = (a.each r h.0, a.each w h.1)
deed-named names z (Move s) a h = tt

rule-named : (p : Quadruples) (n : Naming) (symbols : List ℕ) → p.symbols ≡ symbols → length symbols ≡ 3 → HasNames p n
    → (r : Rule ℕ) → IsRuleInRange p.states symbols r → RuleIsNamed n r
rule-named p n [] e l h r k = absurd (omega arith)
rule-named p n (a ∷ []) e l h r k = absurd (omega arith)
rule-named p n (a ∷ b ∷ []) e l h r k = absurd (omega arith)
rule-named p n (a ∷ b ∷ c ∷ d ∷ ds) e l h r k = absurd (omega arith)
rule-named p n (a ∷ b ∷ c ∷ []) e l h r k =
    let one : nth p.symbols 1 ≡ Some a = ap (λ (zs : List ℕ). nth zs 1) e in
    let two : nth p.symbols 2 ≡ Some b = ap (λ (zs : List ℕ). nth zs 2) e in
    let three : nth p.symbols 3 ≡ Some c = ap (λ (zs : List ℕ). nth zs 3) e in
    record {
      from = h.states.each r.from k.from;
      one = deed-named n.one a r.one (h.one a one) k.deeds.0;
      two = deed-named n.two b r.two (h.two b two) k.deeds.1.0;
      three = deed-named n.three c r.three (h.three c three) k.deeds.1.1.0;
      to = h.states.each r.to k.to;
    }

pub all-named : (p : Quadruples) (n : Naming) → IsQuadMachine p → HasNames p n → All (RuleIsNamed n) p.rules
all-named p n m h = λ k d inside. rule-named p n p.symbols refl m.tapes h (get_or p.rules k d) (m.in_range k d inside)

-- the lines of a machine's entries are read as the entries
pub entries-back : (p : Quadruples) (n : Naming) (text : List ℕ) → IsQuadMachine p → HasNames p n
    → text ≡ lines_of (quadruple_rows_by n p.rules) → entries_of text ≡ quadruple_rows_by n p.rules
entries-back p n text m h e = ap entries_of e ∙ entries_of-lines_of (quadruple_rows_by n p.rules)
    (all_plain (λ (r : Rule ℕ). quadruple_entry (said_of_quadruple n r)) (RuleIsNamed n) (plain-row n) p.rules
    (all-named p n m h))

-- the entry of a kept quadruple
abbrev pub row : Naming → Quad → List (List ℕ)
row n q = quadruple_entry (said_of_quadruple n (rule_of q))

-- the lines of kept quadruples are those of their rules
pub kept-lines : (n : Naming) (quads : List Quad) → map (row n) quads ≡ quadruple_rows_by n (rules_of quads)
kept-lines n [] = refl
kept-lines n (q ∷ qs) = ap (λ (rows : List (List (List ℕ))). row n q ∷ rows) (kept-lines n qs)

pub plain-at : (names : List (List ℕ)) (n : ℕ) (name : List ℕ) → slice_get names n ≡ Some name
    → IsNamed is_symbol names n → is_plain name ≡ true
plain-at names n name at (other, there, form) = let same : name ≡ other =
    cc in ap is_plain same ∙ plain-symbol other form

pub plain-state-at : (names : List (List ℕ)) (n : ℕ) (name : List ℕ) → slice_get names n ≡ Some name
    → IsNamed is_state_name names n → is_plain name ≡ true
plain-state-at names n name at (other, there, form) = let same : name ≡ other =
    cc in ap is_plain same ∙ plain-state-name other form

-- a look-up in range, whatever stands for those out of range
pub same-get : {X : Type 0} (xs : List X) (k : ℕ) (d e : X) → k < length xs
    → slice_index_or xs k d ≡ slice_index_or xs k e
same-get [] k d e h = absurd (omega arith)
same-get (x ∷ xs) zero d e h = refl
same-get (x ∷ xs) (suc k) d e h = same-get xs k d e (omega arith)
