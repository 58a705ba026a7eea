-- Each configuration has its entries, and only one list of them.
use Rattle.std.specs.Prelude.{◌≡◌, ◌≢◌, ℕ, ◌+◌, ◌-◌, ◌<◌, ◌≤◌, List, [], ◌∷◌, ◌++◌, length, Some, slice_get, refl}
use Rattle.std.proofs.Common.{zero, suc, arith, sym, ap, subst, ◌∙◌, inl, inr, ◌⊎◌, get_or}
use Rattle.std.proofs.lemmas.Bool.{cases_eq}
use Rattle.std.proofs.lemmas.List.{length-replicate}
use Rattle.std.proofs.lemmas.Option.{same_Some, slice_get_within, slice_get-get_or}
use Rattle.bn_circuits.specs.Circuits.{target}
use Rattle.bn_circuits.specs.declared.line.Line.{Line}
use Rattle.bn_circuits.specs.declared.line.Wire.{Wire}
use Rattle.bn_circuits.specs.declared.config.Config.{Config}
use Rattle.bn_element.specs.Rotary.{rotary, vertical, north, east, south, west}
use Rattle.bn_circuits.specs.Circuits.{line_at}
use Rattle.bn_netlist_laws.specs.Spelling.{Spelling, circuit_of, targets_of, AreSame}
use Rattle.bn_netlist_laws.specs.Columns.{IsColumnAt}
use Rattle.bn_netlist_laws.specs.Sentences.{Sentence, Element, Column, lines_text}
use Rattle.bn_netlist_laws.specs.Spelling.{Admits, header_of, header_then, IsWrittenAt, row_sentences, AreEntries}
use Rattle.bn_netlist_laws.specs.Spelling.{no_entry, element_entry, column_entry, HasText, SameHaveOneText}
use Rattle.bn_netlist_laws.specs.declared.version.Version.{Version}
use Rattle.bn_netlist_laws.specs.declared.version.Version.TheVariants.{One, Two}
use Rattle.bn_netlist_laws.specs.declared.header.Header.{Header}
use Rattle.bn_netlist_laws.proofs.ColumnLemmas.{rows-agree, column_or_none, rotary_at, rotary_within}

-- ---- there are entries

one_is_not_two : One ≢ Two
one_is_not_two e = cc

-- a column is written there, or none is
pub written_or_none : (v : Version) (s : Spelling) (e : ℕ) → ((k : ℕ) × IsWrittenAt v s e k)
    ⊎ ((k : ℕ) → IsWrittenAt v s e k → ⊥)
written_or_none One s e = inr (λ k written. one_is_not_two written.second)
written_or_none Two s e =
    elim (column_or_none s.elements s.wires s.config.states e) [
      | inl column ↦ inl (column.0, record { second = refl; column = column.1 })
      | inr none ↦ inr (λ k written. none k written.column)
    ]

pub count_states : (v : Version) (s : Spelling) → Admits v s → length s.config.states ≡ s.elements
count_states v s a = a.config.count ∙ length-replicate s.elements rotary

pub column_within : (s : Spelling) (e k : ℕ) → IsColumnAt (circuit_of s) s.config.states e k → e + k < s.elements
column_within s e k is = rotary_within s.elements (e + k) rotary (is.column.rotaries k (omega arith))

module _ (v : Version) (s : Spelling) (a : Admits v s) where
  state_at : (e : ℕ) → e < s.elements → slice_get s.config.states e ≡ Some (get_or s.config.states e 0)
  state_at e below = let count = count_states v s a in slice_get-get_or s.config.states e 0 (omega arith)

  pub entries_from : (fuel e : ℕ) → e ≤ s.elements → s.elements ≤ e + fuel → (xs : List Sentence) × AreEntries v s e xs
  entries_from zero e low high = ([], no_entry (omega arith) refl)
  entries_from (suc fuel) e low high =
      elim (cases_eq e s.elements) [
        | inl all ↦ ([], no_entry all refl)
        | inr some ↦ more (written_or_none v s e) (omega (arith, some)) (λ f. entries_from fuel f)
      ]
    where
      more : ((k : ℕ) × IsWrittenAt v s e k) ⊎ ((k : ℕ) → IsWrittenAt v s e k → ⊥) → e < s.elements
          → ((f : ℕ) → f ≤ s.elements → s.elements ≤ f + fuel → (xs : List Sentence) × AreEntries v s f xs)
          → (xs : List Sentence) × AreEntries v s e xs
      more (inl (k, written)) below again =
          let within = column_within s e k written.column in
          let rest = again (suc (e + k)) (omega arith) (omega arith) in
          let q = get_or s.config.states (e + k) 0 in (
            Column e k q ∷ (row_sentences s.wires e k ++ rest.0),
            column_entry k q rest.0 written (state_at (e + k) within) refl rest.1,
          )
      more (inr none) below again =
          let rest = again (suc e) (omega arith) (omega arith) in
          let q = get_or s.config.states e 0 in
          (Element e q (targets_of s.wires e) ∷ rest.0, element_entry q rest.0 (state_at e below) none refl rest.1)

pub has-text : HasText
has-text v s a =
    let entries = entries_from v s a s.elements 0 (omega arith) (omega arith) in (
      lines_text (header_then (header_of v s) entries.0),
      record { admitted = a; is_text = record { entries = entries.0; are = entries.1; written = refl } },
    )

-- ---- and one list of them

targets-alike : (ws vs : List Wire) → ((from : Line) → target ws from ≡ target vs from) → (e : ℕ)
    → targets_of ws e ≡ targets_of vs e
targets-alike ws vs same e =
    let n = same (record { element = e; line = north }) in
    let o = same (record { element = e; line = east }) in
    let s = same (record { element = e; line = south }) in
    let w = same (record { element = e; line = west }) in
    rw (n, o, s, w) refl

rows-alike : (ws vs : List Wire) → ((from : Line) → target ws from ≡ target vs from) → (e k : ℕ)
    → row_sentences ws e k ≡ row_sentences vs e k
rows-alike ws vs same e zero = refl
rows-alike ws vs same e (suc k) =
    let x = same (line_at e east) in
    let y = same (line_at e west) in
    let rest = rows-alike ws vs same (suc e) k in
    rw (x, y, rest) refl

-- the same column in the same configuration
pub column_alike : (s t : Spelling) (e k : ℕ) → s.elements ≡ t.elements
    → ((from : Line) → target s.wires from ≡ target t.wires from) → s.config.states ≡ t.config.states
    → IsColumnAt (circuit_of s) s.config.states e k → IsColumnAt (circuit_of t) t.config.states e k
column_alike s t e k elements targets states is =
    let within : e + k < s.elements = column_within s e k is in
    record {
      some = is.some;
      column = record {
        rotaries = λ r low. rotary_at t.elements (e + r) (omega arith);
        wired = λ from to inner. sym (targets from) ∙ is.column.wired from to inner;
      };
      loose = sym (targets (line_at (e + k) east)) ∙ is.loose;
      upright = λ r below. subst (λ (qs : List ℕ). slice_get qs (e + r) ≡ Some vertical) states (is.upright r below);
    }

module _ (v : Version) (s t : Spelling) (a : Admits v s) (b : Admits v t) (same : AreSame s t) where
  alike : (e k : ℕ) → IsWrittenAt v s e k → IsWrittenAt v t e k
  alike e k written = record {
    second = written.second;
    column = column_alike s t e k same.elements same.targets (ap (λ (c : Config). c.states) same.config) written.column;
  }

  alike_back : (e k : ℕ) → IsWrittenAt v t e k → IsWrittenAt v s e k
  alike_back e k written = record {
    second = written.second;
    column = column_alike t s e k (sym same.elements)
        (λ from. sym (same.targets from)) (sym (ap (λ (c : Config). c.states) same.config)) written.column;
  }

  inside_s : (e q : ℕ) → slice_get s.config.states e ≡ Some q → e < s.elements
  inside_s e q has = let below = slice_get_within s.config.states e q has in let count =
      count_states v s a in omega arith

  inside_t : (e q : ℕ) → slice_get t.config.states e ≡ Some q → e < t.elements
  inside_t e q has = let below = slice_get_within t.config.states e q has in let count =
      count_states v t b in omega arith

  same_state : (e q p : ℕ) → slice_get s.config.states e ≡ Some q → slice_get t.config.states e ≡ Some p → q ≡ p
  same_state e q p here there = same_Some q p (sym here ∙ ap (λ (c : Config). slice_get c.states e) same.config ∙ there)

  entries-alike : (e : ℕ) (xs ys : List Sentence) → AreEntries v s e xs → AreEntries v t e ys → xs ≡ ys
  entries-alike e xs ys (no_entry all is) (no_entry both other) = is ∙ sym other
  entries-alike e xs ys (no_entry all is) (element_entry q rest has none other more) =
      absurd (let below = inside_t e q has in let count = same.elements in omega arith)
  entries-alike e xs ys (no_entry all is) (column_entry k q rest written has other more) =
      absurd (let below = inside_t (e + k) q has in let count = same.elements in omega arith)
  entries-alike e xs ys (element_entry q rest has none is more) (no_entry both other) =
      absurd (let below = inside_s e q has in let count = same.elements in omega arith)
  entries-alike e xs ys (element_entry q rest has none is more) (element_entry p tail there absent other again) =
      let state : q ≡ p = same_state e q p has there in
      let targets = targets-alike s.wires t.wires same.targets e in
      let behind = entries-alike (suc e) rest tail more again in
      is ∙ (λ i. Element e (state i) (targets i) ∷ behind i) ∙ sym other
  entries-alike e xs ys (element_entry q rest has none is more) (column_entry k p tail written there other again) =
      absurd (none k (alike_back e k written))
  entries-alike e xs ys (column_entry k q rest written has is more) (no_entry both other) =
      absurd (let below = inside_s (e + k) q has in let count = same.elements in omega arith)
  entries-alike e xs ys (column_entry k q rest written has is more) (element_entry p tail there absent other again) =
      absurd (absent k (alike e k written))
  entries-alike e xs ys (column_entry k q rest written has is more) (column_entry m p tail here there other again) =
      let rows : m ≡ k = rows-agree (circuit_of t) t.config.states e m k here.column (alike e k written).column in
      let there_k : slice_get t.config.states (e + k) ≡ Some p =
      subst (λ (n : ℕ). slice_get t.config.states (e + n) ≡ Some p) rows there in
      let again_k : AreEntries v t (suc (e + k)) tail = subst (λ (n : ℕ). AreEntries v t (suc (e + n)) tail) rows again
      in
      let other_k : ys ≡ Column e k p ∷ (row_sentences t.wires e k ++ tail) =
      subst (λ (n : ℕ). ys ≡ Column e n p ∷ (row_sentences t.wires e n ++ tail)) rows other in
      let state : q ≡ p = same_state (e + k) q p has there_k in
      let lines = rows-alike s.wires t.wires same.targets e k in
      let behind = entries-alike (suc (e + k)) rest tail more again_k in
      is ∙ (λ i. Column e k (state i) ∷ (lines i ++ behind i)) ∙ sym other_k

pub header-alike : (v : Version) (s t : Spelling) → AreSame s t → header_of v s ≡ header_of v t
header-alike v s t same =
    let build : ℕ → Line → Line → Config → Header = λ n a b c. record
    { version = v; count = n; start = a; end = b; steps = c.steps; place = c.place } in
    λ i. build (same.elements i) (same.start i) (same.end i) (same.config i)

pub same-have-one-text : SameHaveOneText
same-have-one-text v s t first second same here there =
    let headers = header-alike v s t same in
    let entries = entries-alike v s t here.admitted there.admitted same 0 here.is_text.entries there.is_text.entries
    here.is_text.are there.is_text.are in
    here.is_text.written ∙ (λ i. lines_text (header_then (headers i) (entries i))) ∙ sym there.is_text.written
