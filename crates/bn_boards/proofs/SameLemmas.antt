-- Two boards of one machine, word and limits are alike.
use Rattle.std.specs.Prelude.{◌≡◌, ℕ, ◌+◌, List, [], ◌∷◌, length, replicate, Option, Some, slice_get, refl}
use Rattle.std.specs.Ordering.{nat_cmp}
use Rattle.std.specs.Cmp.Lexicographic.{slice_cmp}
use Rattle.std.specs.Cmp.{nat_cmp_is}
use Rattle.std.specs.declared.cmp.Ordering.TheVariants.{Less, Equal}
use Rattle.std.proofs.Common.{zero, suc, arith, sym, ap, subst, ◌∙◌, inl, inr}
use Rattle.std.proofs.lemmas.Bool.Decides.{leb_tells}
use Rattle.bn_element.specs.Tables.{Table}
use Rattle.bn_circuits.specs.Circuits.{Circuit, target}
use Rattle.bn_circuits.specs.declared.line.Line.{Line}
use Rattle.bn_element.specs.Rotary.{rotary}
use Rattle.bn_machine.specs.Outcome.{Limits}
use Rattle.bn_quad.specs.Quadruples.{Quadruples}
use Rattle.bn_bennett.specs.Laws.{TranslationsAreOne, TranslationsAreUniform}
use Rattle.bn_bennett.specs.Translation.{Translation}
use Rattle.bn_realise.specs.Banks.{IsBankWire, bank_input_line, bank_output_line}
use Rattle.bn_network.specs.Controls.{ControlState, ControlMove, key_of, IsNumbering, IsControlTable, out_number}
use Rattle.bn_network.specs.Controls.{IsFirstKept, final_kept, sent_kept}
use Rattle.bn_network.specs.ControlLaws.{HasEntries, ControlsAreOne, StatesHaveEntries}
use Rattle.bn_network.specs.Networks.{IsNetwork, module_tables, network_start}
use Rattle.bn_boards.specs.Boards.{IsBoard, IsBoardWire, own, between, size, base, board_start}
use Rattle.bn_boards.specs.Layouts.{Layout, IsLayout}
use Rattle.bn_circuits.specs.Alike.{AreAlike}
use Rattle.bn_circuits.proofs.AlikeLemmas.{options_one, sources_one}
use Rattle.bn_boards.specs.LayoutLaws.{FlatsAreOne}

-- ---- lists

lists_one : {X : Type 0} (xs ys : List X) → length xs ≡ length ys
    → ((i : ℕ) (x y : X) → slice_get xs i ≡ Some x → slice_get ys i ≡ Some y → x ≡ y) → xs ≡ ys
lists_one [] [] n h = refl
lists_one [] (y ∷ ys) n h = absurd (omega arith)
lists_one (x ∷ xs) [] n h = absurd (omega arith)
lists_one (x ∷ xs) (y ∷ ys) n h =
    let first = h zero x y refl refl in
    let rest = lists_one xs ys (omega (arith, n)) (λ i. h (suc i)) in
    λ i. first i ∷ rest i

-- ---- circuits

pub networks_one : (m : Quadruples) (l : Limits) (names : List ControlState) (k n : Circuit)
    → ((t u : Table) → IsControlTable m names t → IsControlTable m names u → t ≡ u) → IsNetwork m l names k
    → IsNetwork m l names n → AreAlike k n
networks_one m l names k n one a b =
    record {
      tables = a.tables ∙ ap (module_tables m l) (one a.control b.control a.is_control b.is_control) ∙ sym b.tables;
      targets = targets;
      sources = sources_one k.wires n.wires a.circuit.one_to_one b.circuit.one_to_one targets;
    }
  where
    targets : (from : Line) → target k.wires from ≡ target n.wires from
    targets from = options_one (target k.wires from) (target n.wires from)
        (λ to h. (b.wires from to).1 ((a.wires from to).0 h)) (λ to h. (a.wires from to).1 ((b.wires from to).0 h))

module _ (n o : Circuit) (alike : AreAlike n o) where
  wire_alike : (from to : Line) → IsBoardWire n from to → IsBoardWire o from to
  wire_alike from to (own m t has bank) = own m t (subst (λ ts. slice_get ts m ≡ Some t) alike.tables has)
      (subst (λ ts. IsBankWire (base ts m) t from to) alike.tables bank)
  wire_alike from to (between out into t wire has leaves ends) =
      between out into t (sym (alike.targets out) ∙ wire) (subst (λ ts. slice_get ts out.element ≡ Some t) alike.tables
      has) (subst (λ ts. from ≡ bank_output_line (base ts out.element) t out.line) alike.tables leaves)
      (subst (λ ts. to ≡ bank_input_line (base ts into.element) into.line) alike.tables ends)

alike_back : (n o : Circuit) → AreAlike n o → AreAlike o n
alike_back n o a = record {
  tables = sym a.tables;
  targets = λ from. sym (a.targets from);
  sources = λ to. sym (a.sources to);
}

boards_one : (n o k j : Circuit) → AreAlike n o → IsBoard n k → IsBoard o j → AreAlike k j
boards_one n o k j alike a b =
    record {
      tables = a.tables ∙ ap (λ ts. replicate (size ts) rotary) alike.tables ∙ sym b.tables;
      targets = targets;
      sources = sources_one k.wires j.wires a.circuit.one_to_one b.circuit.one_to_one targets;
    }
  where
    targets : (from : Line) → target k.wires from ≡ target j.wires from
    targets from =
        options_one (target k.wires from) (target j.wires from) (λ to h. (b.wires from to).1
        (wire_alike n o alike from to ((a.wires from to).0 h)))
        (λ to h. (a.wires from to).1 (wire_alike o n (alike_back n o alike) from to ((b.wires from to).0 h)))

-- ---- layouts

itself : (k : List ℕ) → slice_cmp nat_cmp k k ≡ Equal
itself [] = refl
itself (x ∷ xs) = let here : nat_cmp x x ≡ Equal = sym (nat_cmp_is x x Equal refl) in rw here (itself xs)

not_less : (k : List ℕ) → slice_cmp nat_cmp k k ≡ Less → ⊥
not_less k h = let equal = itself k in cc

pub number_once : (m : Quadruples) (names : List ControlState) → IsNumbering m names → (q : ControlState) (i j : ℕ)
    → slice_get names i ≡ Some q
    → slice_get names j ≡ Some q → i ≡ j
number_once m names numbering q i j a b =
    elim (leb_tells (i + 1) j) [
      | inl low ↦ absurd (not_less (key_of q) (numbering.rising_keys i j q q (omega (arith, low.1)) a b))
      | inr high ↦
          (elim (leb_tells (j + 1) i) [
            | inl less ↦ absurd (not_less (key_of q) (numbering.rising_keys j i q q (omega (arith, less.1)) b a))
            | inr more ↦ omega (arith, high.1, more.1)
          ])
    ]

module _ (m : Quadruples) (l : Limits) (names : List ControlState) (numbering : IsNumbering m names)
    (entries : HasEntries m) where
  first_once : (a : ℕ) (x y : Option (ℕ × ℕ)) → IsFirstKept m names a x → IsFirstKept m names a y → x ≡ y
  first_once a x y (final_kept e) (final_kept f) = refl
  first_once a x y (final_kept e) (sent_kept f k q entry at) = absurd (f e)
  first_once a x y (sent_kept e k q entry at) (final_kept f) = absurd (e f)
  first_once a x y (sent_kept e k q entry at) (sent_kept f j r other there) =
      let same : k ≡ j = entries.one a k j entry other in
      let place : q ≡ r = number_once m names numbering k.0 q r at
      (subst (λ (z : ControlMove). slice_get names r ≡ Some z.0) (sym same) there) in
      λ i. Some (place i, out_number m (same i).1)

  pub layouts_one : (b c : Layout) → IsLayout m l names b → IsLayout m l names c → b ≡ c
  layouts_one b c a d =
      let limits : b.limits ≡ c.limits = a.limits ∙ sym d.limits in
      let symbols : b.symbols ≡ c.symbols = a.symbols ∙ sym d.symbols in
      let states : b.states ≡ c.states = a.states ∙ sym d.states in
      let firsts : b.firsts ≡ c.firsts = lists_one b.firsts c.firsts (a.counted ∙ sym d.counted)
      (λ i x y h k. first_once i x y (a.firsts i x h) (d.firsts i y k)) in
      let awaited : b.awaited ≡ c.awaited = lists_one b.awaited c.awaited (a.awaited_counted ∙ sym d.awaited_counted)
      awaited_once in
      λ i. record { limits = limits i; symbols = symbols i; states = states i; firsts = firsts i; awaited = awaited i }
    where
      awaited_once : (q : ℕ) (x y : Option (ℕ × ℕ)) → slice_get b.awaited q ≡ Some x → slice_get c.awaited q ≡ Some y
          → x ≡ y
      awaited_once q x y h k =
          options_one x y (λ w e. let there = (d.awaiting q w.0 w.1).1
          ((a.awaiting q w.0 w.1).0 (h ∙ ap (λ o. Some o) e)) in let same : Some y ≡ Some (Some w) = sym k
          ∙ there in cc)
          (λ w e. let there = (a.awaiting q w.0 w.1).1 ((d.awaiting q w.0 w.1).0 (k ∙ ap (λ o. Some o) e)) in let same :
          Some x ≡ Some (Some w) = sym h ∙ there in cc)

-- ---- boards

pub flats-one : TranslationsAreOne → TranslationsAreUniform → ControlsAreOne → StatesHaveEntries → FlatsAreOne
flats-one translations uniform controls entries p word l f g standard a b =
    let same : f.translation ≡ g.translation = translations p f.translation g.translation a.translation b.translation in
    let m = f.translation.machine in
    let numbering : IsNumbering m g.names = subst (λ (t : Translation). IsNumbering t.machine g.names) (sym same)
    b.numbering in
    let names : f.names ≡ g.names = controls.0 m f.names g.names a.numbering numbering in
    let network : IsNetwork m l f.names g.network = subst (λ ns. IsNetwork m l ns g.network) (sym names)
    (subst (λ (t : Translation). IsNetwork t.machine l g.names g.network) (sym same) b.is_network) in
    let alike = networks_one m l f.names f.network g.network (controls.3 m f.names) a.is_network network in
    let layout : IsLayout m l f.names g.layout = subst (λ ns. IsLayout m l ns g.layout) (sym names)
    (subst (λ (t : Translation). IsLayout t.machine l g.names g.layout) (sym same) b.is_layout) in
    let words : f.word ≡ g.word = a.word_is ∙ sym b.word_is in
    let limits : f.limits ≡ g.limits = a.limits_are ∙ sym b.limits_are in
    record {
      translation = same;
      names = names;
      network = alike;
      circuit = boards_one f.network g.network f.circuit g.circuit alike a.is_board b.is_board;
      layout = layouts_one m l f.names a.numbering (entries m a.translation.machine
          (uniform p f.translation standard a.translation).0) f.layout g.layout a.is_layout layout;
      start = λ i. board_start (alike.tables i) (network_start (same i).machine (limits i) (words i));
    }
