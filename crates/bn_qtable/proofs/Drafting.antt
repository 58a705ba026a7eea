-- A draft and its quadruples.
use Rattle.std.proofs.Common.{◌≡◌, ◌<◌, ◌≤◌, get_or, ◌∷◌, ◌++◌, ◌∙◌, ℕ, List, [], length, Option, Some, refl, sym, ap}
use Rattle.std.proofs.Common.{arith, subst, All, zero, suc, map}
use Rattle.std.proofs.lemmas.List.{length-map, map-append}
use Rattle.std.proofs.lemmas.List.Elements.{All-head, All-tail}
use Rattle.std.proofs.lemmas.Option.{slice_get-get_or}
use Rattle.bn_lists.specs.Lists.{nth}
use Rattle.bn_quad.specs.Names.{Naming}
use Rattle.bn_quad.specs.Quadruples.{Rule, Quadruples}
use Rattle.bn_quad.specs.Kept.{Agree, IsUnmixed, IsFirstFault, IsSound, act_at, quad_of, read_at, rule_of, rules_of}
use Rattle.bn_quad.proofs.KeptLemmas.{act_of-deed_of, read_of-deed_of, rule_of-quad_of, rules_of-quads}
use Rattle.bn_quad.proofs.SoundLemmas.{no_first_fault, sound_if, unmixed_rule}
use Rattle.bn_quad.specs.declared.quad.Quad.{Quad}
use Rattle.bn_quad.specs.declared.quad.Act.{Act}
use Rattle.bn_qtable.specs.Draft.{Adds, IsDraft, blanks_alone, drafted, names_of}
use Rattle.bn_qtable.specs.Entry.{SaidQuadruple, quadruple_entry}
use Rattle.bn_qtable.specs.declared.entry.TheConstants.{MOST_ENTRIES}
use Rattle.bn_qtable.specs.Rows.{IsQuadTableOf, SpellsQuadruples, counts_of, quadruple_rows_by, table_of}
use Rattle.bn_qtable.specs.Named.{RuleIsNamed}
use Rattle.bn_qtable.specs.declared.draft.Draft.{Draft}
use Rattle.bn_qtable.proofs.Growing.{spells-more, spells-none, spells-own}

-- three tapes that agree
abbrev pub AllAgree : Quad → Type 0
AllAgree q = Agree (read_at q 0) (act_at q 0) × Agree (read_at q 1) (act_at q 1) × Agree (read_at q 2) (act_at q 2)

abbrev pub three_reads : Quad → List (Option ℕ)
three_reads q = read_at q 0 ∷ read_at q 1 ∷ read_at q 2 ∷ []

abbrev pub three_acts : Quad → List Act
three_acts q = act_at q 0 ∷ act_at q 1 ∷ act_at q 2 ∷ []

pub quad-kept : (q : Quad) → AllAgree q → q.read ≡ three_reads q → q.act ≡ three_acts q → quad_of (rule_of q) ≡ q
quad-kept q h reads acts =
    let r1 = read_of-deed_of (read_at q 0) (act_at q 0) h.0 in
    let r2 = read_of-deed_of (read_at q 1) (act_at q 1) h.1 in
    let r3 = read_of-deed_of (read_at q 2) (act_at q 2) h.2 in
    let a1 = act_of-deed_of (read_at q 0) (act_at q 0) h.0 in
    let a2 = act_of-deed_of (read_at q 1) (act_at q 1) h.1 in
    let a3 = act_of-deed_of (read_at q 2) (act_at q 2) h.2 in
    let rs : (quad_of (rule_of q)).read ≡ three_reads q = λ i. r1 i ∷ r2 i ∷ r3 i ∷ [] in
    let acts1 : (quad_of (rule_of q)).act ≡ three_acts q = λ i. a1 i ∷ a2 i ∷ a3 i ∷ [] in
    let rs2 : (quad_of (rule_of q)).read ≡ q.read = rs ∙ sym reads in
    let as2 : (quad_of (rule_of q)).act ≡ q.act = acts1 ∙ sym acts in
    λ i. record { state = q.state; read = rs2 i; act = as2 i; next = q.next }

-- one more entry of a draft
pub one-drafted : (d : Draft) (s : SaidQuadruple) (q : Quad) (d2 : Draft) → IsDraft d
    → Adds (names_of d) s (rule_of q) (names_of d2) → quad_of (rule_of q) ≡ q → d2.quads.items ≡ d.quads.items ++ q ∷ []
    → IsDraft d2 × (drafted d2 ≡ drafted d ++ quadruple_entry s ∷ [])
one-drafted d s q d2 h a last e =
    let n2 = names_of d2 in
    let rules2 : rules_of d2.quads.items ≡ rules_of d.quads.items ++ rule_of q ∷ [] =
    ap rules_of e ∙ map-append rule_of d.quads.items (q ∷ []) in
    let more = spells-more (names_of d) (rules_of d.quads.items) (drafted d) s (rule_of q) n2 h.spelled a in
    let P : List (Rule ℕ) → Type 0 = λ rs. SpellsQuadruples n2 rs (drafted d ++ quadruple_entry s ∷ []) in
    let spelled : SpellsQuadruples n2 (rules_of d2.quads.items) (drafted d ++ quadruple_entry s ∷ []) =
    subst P (sym rules2) more in
    let kept = h.kept in
    let all : map quad_of (rules_of d.quads.items ++ rule_of q ∷ []) ≡ d.quads.items ++ q ∷ [] =
    map-append quad_of (rules_of d.quads.items) (rule_of q ∷ []) ∙ (λ i. kept i ++ last i ∷ []) in (
      record {
        spelled = spells-own n2 (rules_of d2.quads.items) (drafted d ++ quadruple_entry s ∷ []) spelled;
        kept = ap (λ (rs : List (Rule ℕ)). map quad_of rs) rules2 ∙ all ∙ sym e;
      },
      spelled.rows,
    )

-- ---- the quadruples of a draft are sound

nth-map : (rs : List (Rule ℕ)) (i : ℕ) (q : Quad) → nth (map quad_of rs) i ≡ Some q
    → (r : Rule ℕ) × (nth rs i ≡ Some r) × (quad_of r ≡ q)
nth-map rs zero q e = cc e
nth-map [] (suc i) q e = cc e
nth-map (r ∷ rs) (suc zero) q e = let same : quad_of r ≡ q = cc in (r, refl, same)
nth-map (r ∷ rs) (suc (suc i)) q e = nth-map rs (suc i) q e

nth-all : (P : Rule ℕ → Type 0) (rs : List (Rule ℕ)) (i : ℕ) (r : Rule ℕ) → All P rs → nth rs i ≡ Some r → P r
nth-all P rs zero r h e = cc e
nth-all P [] (suc i) r h e = cc e
nth-all P (x ∷ xs) (suc zero) r h e = let same : x ≡ r = cc in subst P same (All-head P x xs h)
nth-all P (x ∷ xs) (suc (suc i)) r h e = nth-all P xs (suc i) r (All-tail P x xs h) e

pub no-first-fault : (d : Draft) (states : ℕ) (symbols : List ℕ) (i : ℕ) (q : Quad) → IsDraft d
    → states ≡ length (names_of d).states → symbols ≡ counts_of (names_of d)
    → IsFirstFault states symbols d.quads.items i q → ⊥
no-first-fault d states symbols i q h e f fault =
    let n = names_of d in
    let sound : All (IsSound (length n.states) (counts_of n)) d.quads.items =
    sound_if (length n.states) (counts_of n) d.quads.items h.kept h.spelled.in_range in
    let P : ℕ → Type 0 = λ m. All (IsSound m (counts_of n)) d.quads.items in
    let Q : List ℕ → Type 0 = λ zs. All (IsSound states zs) d.quads.items in
    no_first_fault states symbols d.quads.items i q (subst Q (sym f) (subst P (sym e) sound)) fault

pub table-of-draft : (d : Draft) (p : Quadruples) (n : Naming) → IsDraft d → length (drafted d) ≤ MOST_ENTRIES
    → map quad_of p.rules ≡ d.quads.items → p.states ≡ length (names_of d).states → p.symbols ≡ counts_of (names_of d)
    → 0 < length p.rules → n ≡ names_of d → IsQuadTableOf (drafted d) (table_of p n)
table-of-draft d p n h few listed states symbols some names =
    let rules : p.rules ≡ rules_of d.quads.items = sym (rules_of-quads p.rules) ∙ ap rules_of listed in
    let P : List (Rule ℕ) → Type 0 = λ rs. SpellsQuadruples (names_of d) rs (drafted d) in
    let Q : Naming → Type 0 = λ m. SpellsQuadruples m p.rules (drafted d) in
    let count : length (drafted d) ≡ length (rules_of d.quads.items) = length-map (rules_of d.quads.items) _ in
    let long : length p.rules ≡ length (rules_of d.quads.items) = ap (λ (rs : List (Rule ℕ)). length rs) rules in
    record {
      spelled = subst Q (sym names) (subst P (sym rules) h.spelled);
      some = omega arith;
      few = few;
      states = states ∙ ap (λ (m : Naming). length m.states) (sym names);
      symbols = symbols ∙ ap counts_of (sym names);
    }

pub none-drafted : (d : Draft) → names_of d ≡ blanks_alone → d.quads.items ≡ [] → IsDraft d × (drafted d ≡ [])
none-drafted d names f =
    let rules : rules_of d.quads.items ≡ [] = ap rules_of f in
    let P : Naming → Type 0 = λ n. SpellsQuadruples n [] [] in
    let Q : List (Rule ℕ) → Type 0 = λ rs. SpellsQuadruples (names_of d) rs (quadruple_rows_by (names_of d) rs) in (
      record {
        spelled = subst Q (sym rules) (subst P (sym names) spells-none);
        kept = ap (λ (rs : List (Rule ℕ)). map quad_of rs) rules ∙ sym f;
      },
      ap (quadruple_rows_by (names_of d)) rules,
    )

-- a kept quadruple is that of a rule
pub quad-at : (rules : List (Rule ℕ)) (quads : List Quad) (k : ℕ) (x : Quad) → quads ≡ map quad_of rules
    → k < length quads → (r : Rule ℕ) × (nth rules (suc k) ≡ Some r) × (quad_of r ≡ get_or quads k x)
quad-at rules quads k x e inside =
    nth-map rules (suc k) (get_or quads k x) (ap (λ (qs : List Quad). nth qs (suc k)) (sym e)
    ∙ slice_get-get_or quads k x inside)

pub unmixed-at : (rules : List (Rule ℕ)) (quads : List Quad) (k : ℕ) (x : Quad) → quads ≡ map quad_of rules
    → k < length quads → IsUnmixed (get_or quads k x)
unmixed-at rules quads k x e inside =
    let (r, at, is) = quad-at rules quads k x e inside in
    subst IsUnmixed is (unmixed_rule r)

pub named-at : (n : Naming) (rules : List (Rule ℕ)) (quads : List Quad) (k : ℕ) (x : Quad) → quads ≡ map quad_of rules
    → k < length quads → All (RuleIsNamed n) rules → RuleIsNamed n (rule_of (get_or quads k x))
named-at n rules quads k x e inside h =
    let (r, at, is) = quad-at rules quads k x e inside in
    let N : Rule ℕ → Type 0 = RuleIsNamed n in
    let rule : r ≡ rule_of (get_or quads k x) = sym (rule_of-quad_of r) ∙ ap rule_of is in
    subst N rule (nth-all N rules (suc k) r h at)

pub acts-at : (rules : List (Rule ℕ)) (quads : List Quad) (k : ℕ) (x : Quad) → quads ≡ map quad_of rules
    → k < length quads → length (get_or quads k x).act ≡ 3
acts-at rules quads k x e inside =
    let (r, at, is) = quad-at rules quads k x e inside in
    ap (λ (q : Quad). length q.act) (sym is)
