-- A machine has one translation at most.
use Rattle.std.proofs.Common.{◌≡◌, ◌<◌, ◌∷◌, ◌∙◌, ℕ, suc, List, [], length, Some, slice_get, refl, sym, ap, subst}
use Rattle.std.proofs.Common.{arith}
use Rattle.std.specs.List.{All}
use Rattle.std.proofs.lemmas.Option.{slice_get-get_or}
use Rattle.bn_quad.specs.Quadruples.{IsRuleInRange, Rule}
use Rattle.bn_bennett_laws.specs.List.{bennett}
use Rattle.bn_bennett_laws.specs.Renamed.{name_at, rename, renamed}
use Rattle.bn_bennett_laws.specs.declared.name.Name.{Name}
use Rattle.bn_bennett_laws.specs.declared.name.Name.TheVariants.{GoRight}
use Rattle.bn_bennett.specs.Laws.{TranslationsAreOne}
use Rattle.bn_bennett.proofs.Counting.{numbers_states}

module _ (names : List Name) (apart : (m n : ℕ) (q : Name) → slice_get names m ≡ Some q → slice_get names n ≡ Some q
    → m ≡ n) (states : ℕ) (symbols : List ℕ) (same : states ≡ length names) where
  state_once : (m n : ℕ) → m < states → n < states → name_at GoRight names m ≡ name_at GoRight names n → m ≡ n
  state_once m n low high e = apart m n (name_at GoRight names n)
      (slice_get-get_or names m GoRight (omega arith) ∙ ap Some e) (slice_get-get_or names n GoRight (omega arith))

  rule_once : (r s : Rule ℕ) → IsRuleInRange states symbols r → IsRuleInRange states symbols s
      → renamed (name_at GoRight names) r ≡ renamed (name_at GoRight names) s → r ≡ s
  rule_once r s in_r in_s e =
      let from : r.from ≡ s.from = state_once r.from s.from in_r.from in_s.from (ap (λ (x : Rule Name). x.from) e) in
      let to : r.to ≡ s.to = state_once r.to s.to in_r.to in_s.to (ap (λ (x : Rule Name). x.to) e) in
      λ i. record { from = from i; one = (e i).one; two = (e i).two; three = (e i).three; to = to i }

  tail : (r : Rule ℕ) (rs : List (Rule ℕ)) → All (IsRuleInRange states symbols) (r ∷ rs)
      → All (IsRuleInRange states symbols) rs
  tail r rs h = λ k d inside. h (suc k) d (omega arith)

  rules_once : (rs ss : List (Rule ℕ)) → All (IsRuleInRange states symbols) rs → All (IsRuleInRange states symbols) ss
      → rename (name_at GoRight names) rs ≡ rename (name_at GoRight names) ss → rs ≡ ss
  rules_once [] [] h k e = refl
  rules_once [] (s ∷ ss) h k e = absurd (cc)
  rules_once (r ∷ rs) [] h k e = absurd (cc)
  rules_once (r ∷ rs) (s ∷ ss) h k e =
      let first : renamed (name_at GoRight names) r ≡ renamed (name_at GoRight names) s = cc in
      let rest : rename (name_at GoRight names) rs ≡ rename (name_at GoRight names) ss = cc in
      let one = rule_once r s (h 0 r (omega arith)) (k 0 s (omega arith)) first in
      let others = rules_once rs ss (tail r rs h) (tail s ss k) rest in
      λ i. one i ∷ others i

pub translations_are_one : TranslationsAreOne
translations_are_one p t u h k =
    let names : t.names ≡ u.names = h.names ∙ sym k.names in
    let states : t.machine.states ≡ u.machine.states = h.states ∙ ap length names ∙ sym k.states in
    let symbols : t.machine.symbols ≡ u.machine.symbols = h.symbols ∙ sym k.symbols in
    let P : ℕ → Type 0 = λ n. All (IsRuleInRange n t.machine.symbols) u.machine.rules in
    let Q : List ℕ → Type 0 = λ zs. All (IsRuleInRange u.machine.states zs) u.machine.rules in
    let range : All (IsRuleInRange t.machine.states t.machine.symbols) u.machine.rules =
    subst P (sym states) (subst Q (sym symbols) k.machine.in_range) in
    let named : rename (name_at GoRight t.names) t.machine.rules ≡ rename (name_at GoRight t.names) u.machine.rules =
    h.rules ∙ sym k.rules ∙ ap (λ ns. rename (name_at GoRight ns) u.machine.rules) (sym names) in
    let rules : t.machine.rules ≡ u.machine.rules = rules_once t.names
    (numbers_states (bennett p) t.names h.names).apart t.machine.states t.machine.symbols h.states t.machine.rules
    u.machine.rules h.machine.in_range range named in
    let final : t.final_state ≡ u.final_state = h.final_state ∙ sym k.final_state in
    λ i. record {
      names = names i;
      final_state = final i;
      machine = record { rules = rules i; states = states i; symbols = symbols i };
    }
