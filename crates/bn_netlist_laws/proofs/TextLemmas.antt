-- Laws of configuration texts of both versions: one configuration a text, no text a proper prefix of another, no text
-- with a fault that is one of a configuration, and one first fault a text.
use Rattle.std.specs.Prelude.{◌≡◌, ℕ, ◌+◌, ◌-◌, ◌<◌, ◌≤◌, List, [], ◌∷◌, ◌++◌, length, Option, Some, None, refl}
use Rattle.std.proofs.Common.{arith, sym, ap, subst, ◌∙◌, inl, inr, ◌⊎◌}
use Rattle.std.proofs.lemmas.Bool.Decides.{nat_tests}
use Rattle.std.proofs.lemmas.List.{append_assoc, append-nil}
use Rattle.std.proofs.lemmas.Option.{same_Some}
use Rattle.bn_lists.specs.Lists.{IsLeast}
use Rattle.bn_lists.proofs.LeastLemmas.{least_is_one}
use Rattle.bn_circuits.specs.Circuits.{target, source, IsOneToOne}
use Rattle.bn_circuits.proofs.StepLemmas.{same_config}
use Rattle.bn_circuits.specs.declared.line.Line.{Line}
use Rattle.bn_circuits.specs.declared.line.Wire.{Wire}
use Rattle.bn_circuits.specs.declared.place.Place.{Place}
use Rattle.bn_netlist_laws.specs.Spelling.{Spelling}
use Rattle.bn_netlist_laws.specs.Sentences.{Sentence, Start, End, Steps, At, sentence_text, lines_text}
use Rattle.bn_netlist_laws.specs.Spelling.{header_of, header_then, Spelled, SpellingsAgree, TextsEnd}
use Rattle.bn_netlist_laws.specs.Faults.{Fault, malformed, too_many, no_element, out_of_order, end_wired, left_wired}
use Rattle.bn_netlist_laws.specs.Faults.{start_fed, second_source, spelled_out, header_lines, version_in, count_in}
use Rattle.bn_netlist_laws.specs.Faults.{bars_in, wires_after, fault_of, IsNext, AreFaultlessAfter, AreFaultless}
use Rattle.bn_netlist_laws.specs.Faults.{IsMalformed, IsFaulty, BeginsWithFault, IsFirstBadLine, AreWhole, IsSpelledOut}
use Rattle.bn_netlist_laws.specs.Faults.{IsFirstSpelledOut, IsFirstFault, FaultyTextsSpellNothing, FaultsAgree}
use Rattle.bn_netlist_laws.specs.declared.version.Version.{Version}
use Rattle.bn_netlist_laws.proofs.SentenceLemmas.{lines-same}
use Rattle.bn_netlist_laws.proofs.SaidLemmas.{states-said, wires-said}
use Rattle.bn_netlist_laws.proofs.AdmittedLemmas.{admitted-whole, none-spelled-out}

-- lines before lines
pub lines_text-append : (xs ys : List Sentence) → lines_text (xs ++ ys) ≡ lines_text xs ++ lines_text ys
lines_text-append [] ys = refl
lines_text-append (x ∷ xs) ys = ap (λ r. sentence_text x ++ 10 ∷ r) (lines_text-append xs ys)
    ∙ sym (append_assoc (sentence_text x) (10 ∷ lines_text xs) (lines_text ys))

-- two lines that come next say one thing, where one text begins with both
pub next_same : (before : List Sentence) (x y : Sentence) (rest other : List ℕ) → IsNext before x → IsNext before y
    → sentence_text x ++ 10 ∷ rest ≡ sentence_text y ++ 10 ∷ other → (x ≡ y) × (rest ≡ other)
next_same before x y rest other nx ny e = lines-same (version_in before) x y rest other nx.sayable ny.sayable nx.version
    ny.version (nx.kind ∙ sym ny.kind) e

-- One text that begins with two lists of faultless lines: the shorter list is the beginning of the longer one.
pub record Continues (xs ys : List Sentence) (left other : List ℕ) : Type 0 where
  pub rest : List Sentence
  pub longer : ys ≡ xs ++ rest
  pub same : left ≡ lines_text rest ++ other

pub shorter-continues : (earlier xs ys : List Sentence) (left other : List ℕ) → AreFaultlessAfter earlier xs
    → AreFaultlessAfter earlier ys → lines_text xs ++ left ≡ lines_text ys ++ other → length xs ≤ length ys
    → Continues xs ys left other
shorter-continues earlier [] ys left other fx fy e h = record { rest = ys; longer = refl; same = e }
shorter-continues earlier (x ∷ xs) [] left other fx fy e h = absurd (omega arith)
shorter-continues earlier (x ∷ xs) (y ∷ ys) left other fx fy e h =
    let regrouped : sentence_text x ++ 10 ∷ (lines_text xs ++ left) ≡ sentence_text y ++ 10 ∷ (lines_text ys ++ other) =
    sym (append_assoc (sentence_text x) (10 ∷ lines_text xs) left) ∙ e
    ∙ append_assoc (sentence_text y) (10 ∷ lines_text ys) other
    in
    let both = next_same earlier x y (lines_text xs ++ left) (lines_text ys ++ other) fx.0 fy.0 regrouped in
    let same : y ≡ x = sym both.0 in
    let fy_rest : AreFaultlessAfter (earlier ++ x ∷ []) ys = subst
    (λ (z : Sentence). AreFaultlessAfter (earlier ++ z ∷ []) ys) same fy.2 in
    let rest = shorter-continues (earlier ++ x ∷ []) xs ys left other fx.2 fy_rest both.1 (omega arith) in
    record {
      rest = rest.rest;
      longer = ap (λ (z : Sentence). z ∷ ys) same ∙ ap (λ (zs : List Sentence). x ∷ zs) rest.longer;
      same = rest.same;
    }

pub either_longer : (m n : ℕ) → (m ≤ n) ⊎ (n < m)
either_longer m n = grind (arith, nat_tests)

-- Lines that go on are none where the text is complete.
pub first_after : (earlier xs ys : List Sentence) → AreFaultlessAfter earlier (xs ++ ys)
    → AreFaultlessAfter (earlier ++ xs) ys
first_after earlier [] ys f = subst (λ (zs : List Sentence). AreFaultlessAfter zs ys) (sym (append-nil earlier)) f
first_after earlier (x ∷ xs) ys f =
    let rest = first_after (earlier ++ x ∷ []) xs ys f.2 in
    subst (λ (zs : List Sentence). AreFaultlessAfter zs ys) (append_assoc earlier (x ∷ []) xs) rest

complete-ends : (before rest : List Sentence) → AreFaultlessAfter before rest
    → length before ≡ header_lines + count_in before → rest ≡ []
complete-ends before [] f whole = refl
complete-ends before (x ∷ rest) f whole = let next : IsNext before x =
    f.0 in let room : length before < header_lines + count_in before = next.room in absurd (omega arith)

-- whole lines with which a text begins are all of it, where it is the text of whole lines too
whole_continues : (xs ys : List Sentence) (left other : List ℕ) → AreWhole xs → AreFaultless ys
    → lines_text xs ++ left ≡ lines_text ys ++ other → length xs ≤ length ys → (ys ≡ xs) × (left ≡ other)
whole_continues xs ys left other wx fy one h =
    let goes = shorter-continues [] xs ys left other wx.faultless fy one h in
    let later : AreFaultlessAfter xs goes.rest = first_after [] xs goes.rest
    (subst (λ (zs : List Sentence). AreFaultlessAfter [] zs) goes.longer fy) in
    let none : goes.rest ≡ [] = complete-ends xs goes.rest later wx.complete in (
      goes.longer ∙ ap (λ (zs : List Sentence). xs ++ zs) none ∙ append-nil xs,
      goes.same ∙ ap (λ (zs : List Sentence). lines_text zs ++ other) none,
    )

pub whole_same : (xs ys : List Sentence) (rest : List ℕ) → AreWhole xs → AreWhole ys
    → lines_text xs ++ rest ≡ lines_text ys → (ys ≡ xs) × (rest ≡ [])
whole_same xs ys rest wx wy e =
    let one : lines_text xs ++ rest ≡ lines_text ys ++ [] = e ∙ sym (append-nil (lines_text ys)) in
    elim (either_longer (length xs) (length ys)) [
      | inl h ↦ whole_continues xs ys rest [] wx wy.faultless one h
      | inr h ↦ (let both = whole_continues ys xs [] rest wy wx.faultless (sym one) (omega arith) in
          (sym both.0, sym both.1))
    ]

-- ---- one configuration a text

start_in : List Sentence → Option Line
start_in [] = None
start_in (Start l ∷ xs) = Some l
start_in (x ∷ xs) = start_in xs

end_in : List Sentence → Option Line
end_in [] = None
end_in (End l ∷ xs) = Some l
end_in (x ∷ xs) = end_in xs

steps_in : List Sentence → ℕ
steps_in [] = 0
steps_in (Steps t ∷ xs) = t
steps_in (x ∷ xs) = steps_in xs

place_in : List Sentence → Option Place
place_in [] = None
place_in (At p ∷ xs) = Some p
place_in (x ∷ xs) = place_in xs

entries_in : List Sentence → List Sentence
entries_in [] = []
entries_in (At p ∷ xs) = xs
entries_in (x ∷ xs) = entries_in xs

-- wires with the same targets have the same sources
same_sources : (ws vs : List Wire) → IsOneToOne ws → IsOneToOne vs → ((from : Line) → target ws from ≡ target vs from)
    → (to : Line) → source ws to ≡ source vs to
same_sources ws vs one_w one_v same to = by_source (source ws to) refl (source vs to) refl
  where
    by_source : (o : Option Line) → source ws to ≡ o → (p : Option Line) → source vs to ≡ p
        → source ws to ≡ source vs to
    by_source (Some f) is p other =
        let there : target ws f ≡ Some to = (one_w f to).1 is in
        let here : target vs f ≡ Some to = sym (same f) ∙ there in
        is ∙ sym ((one_v f to).0 here)
    by_source None is None other = is ∙ sym other
    by_source None is (Some f) other =
        let there : target vs f ≡ Some to = (one_v f to).1 other in
        let here : target ws f ≡ Some to = same f ∙ there in
        (one_w f to).0 here ∙ sym other

-- the lines of two texts, one of which goes on after the other
same_lines : (v w : Version) (s t : Spelling) (text rest : List ℕ) (a : Spelled v s text)
    (b : Spelled w t (text ++ rest)) → (header_then (header_of w t) b.is_text.entries
    ≡ header_then (header_of v s) a.is_text.entries) × (rest ≡ [])
same_lines v w s t text rest a b =
    whole_same (header_then (header_of v s) a.is_text.entries) (header_then (header_of w t) b.is_text.entries) rest
    (admitted-whole v s a.admitted a.is_text.entries a.is_text.are)
    (admitted-whole w t b.admitted b.is_text.entries b.is_text.are)
    (ap (λ (r : List ℕ). r ++ rest) (sym a.is_text.written) ∙ b.is_text.written)

pub spellings-agree : SpellingsAgree
unfolding start_in end_in steps_in place_in entries_in
spellings-agree v w s t text a b =
    let longer : Spelled w t (text ++ []) = subst (Spelled w t) (sym (append-nil text)) b in
    let same : header_then (header_of v s) a.is_text.entries ≡ header_then (header_of w t) longer.is_text.entries =
    sym (same_lines v w s t text [] a longer).0 in
    let versions : v ≡ w = ap version_in same in
    let elements : s.elements ≡ t.elements = ap count_in same in
    let start : s.start ≡ t.start = same_Some s.start t.start (ap start_in same) in
    let end : s.end ≡ t.end = same_Some s.end t.end (ap end_in same) in
    let steps : s.config.steps ≡ t.config.steps = ap steps_in same in
    let place : s.config.place ≡ t.config.place = same_Some s.config.place t.config.place (ap place_in same) in
    let entries : a.is_text.entries ≡ longer.is_text.entries = ap entries_in same in
    let states : s.config.states ≡ t.config.states = sym (states-said v s a.admitted 0 a.is_text.entries a.is_text.are)
    ∙ ap bars_in entries ∙ states-said w t longer.admitted 0 longer.is_text.entries longer.is_text.are in
    let targets : (from : Line) → target s.wires from ≡ target t.wires from =
    λ from. sym (wires-said v s a.is_text.entries a.admitted a.is_text.are from)
    ∙ ap (λ (xs : List Sentence). target (wires_after 6 xs) from) entries
    ∙ wires-said w t longer.is_text.entries longer.admitted longer.is_text.are from
    in (
      versions,
      record {
        elements = elements;
        targets = targets;
        sources = same_sources s.wires t.wires a.admitted.circuit.one_to_one b.admitted.circuit.one_to_one targets;
        config = same_config s.config t.config states place steps;
        start = start;
        end = end;
      },
    )

-- no text of a configuration is a proper prefix of another
pub texts-end : TextsEnd
texts-end v w s t text rest a b = (same_lines v w s t text rest a b).1

-- ---- faults

clash : (fault : Fault) → ◌≡◌ {A = Option Fault} None (Some fault) → ⊥
clash fault e = cc

same_fault : (fault second : Fault) → ◌≡◌ {A = Option Fault} (Some fault) (Some second) → fault ≡ second
same_fault fault second e = same_Some fault second e

-- how a text begins after some lines: malformed, or with a line of its form that has this fault
data Kind (before : List Sentence) (left : List ℕ) (fault : Fault) : Type 0 where
  bad_form : fault ≡ malformed → IsMalformed before left → Kind before left fault
  bad_line : IsFaulty before left fault → Kind before left fault

kind : (before : List Sentence) (left : List ℕ) (fault : Fault) → BeginsWithFault before left fault
    → Kind before left fault
kind before left malformed here = bad_form refl here
kind before left too_many here = bad_line here
kind before left no_element here = bad_line here
kind before left out_of_order here = bad_line here
kind before left end_wired here = bad_line here
kind before left left_wired here = bad_line here
kind before left start_fed here = bad_line here
kind before left second_source here = bad_line here
kind before left spelled_out here = bad_line here

-- two faults at one place are one
one_place : (before : List Sentence) (left : List ℕ) (fault second : Fault) → Kind before left fault
    → Kind before left second → fault ≡ second
one_place before left fault second (bad_form e h) (bad_form d k) = e ∙ sym d
one_place before left fault second (bad_form e h) (bad_line k) = absurd (h.unsaid k.says k.behind k.next k.begins)
one_place before left fault second (bad_line h) (bad_form d k) = absurd (k.unsaid h.says h.behind h.next h.begins)
one_place before left fault second (bad_line h) (bad_line k) =
    let both = next_same before h.says k.says h.behind k.behind h.next k.next (sym h.begins ∙ k.begins) in
    same_fault fault second (sym h.has ∙ ap (fault_of before) both.0 ∙ k.has)

-- where faultless lines go on there is no fault
goes_on : (before rest : List Sentence) (x : Sentence) (left other : List ℕ) (fault : Fault)
    → AreFaultlessAfter before (x ∷ rest) → left ≡ lines_text (x ∷ rest) ++ other → Kind before left fault → ⊥
goes_on before rest x left other fault f is (bad_form e h) =
    h.unsaid x (lines_text rest ++ other) f.0 (is ∙ append_assoc (sentence_text x) (10 ∷ lines_text rest) other)
goes_on before rest x left other fault f is (bad_line h) =
    let regrouped = is ∙ append_assoc (sentence_text x) (10 ∷ lines_text rest) other in
    let both = next_same before x h.says (lines_text rest ++ other) h.behind f.0 h.next (sym regrouped ∙ h.begins) in
    clash fault (sym f.1 ∙ ap (fault_of before) both.0 ∙ h.has)

-- where the lines are complete and nothing is left there is no fault
ends_well : (before : List Sentence) (left : List ℕ) (fault : Fault) → length before ≡ header_lines + count_in before
    → left ≡ [] → Kind before left fault → ⊥
ends_well before left fault complete none (bad_form e h) = h.unfinished complete none
ends_well before left fault complete none (bad_line h) = let room : length before < header_lines + count_in before =
    h.next.room in omega arith

-- whole lines have no bad one
whole_not_bad : (text : List ℕ) (lines : List Sentence) (line : ℕ) (fault : Fault) → AreWhole lines
    → text ≡ lines_text lines → IsFirstBadLine text line fault → ⊥
whole_not_bad text lines line fault whole is bad =
    let one : lines_text lines ++ [] ≡ lines_text bad.before ++ bad.left =
    append-nil (lines_text lines) ∙ sym is ∙ bad.begins in
    elim (either_longer (length lines) (length bad.before)) [
      | inl h ↦
          (let both = whole_continues lines bad.before [] bad.left whole bad.faultless one h in
          let complete : length bad.before ≡ header_lines + count_in bad.before =
          subst (λ (zs : List Sentence). length zs ≡ header_lines + count_in zs) (sym both.0) whole.complete in
          ends_well bad.before bad.left fault complete (sym both.1) (kind bad.before bad.left fault bad.here))
      | inr h ↦
          (let goes = shorter-continues [] bad.before lines bad.left [] bad.faultless whole.faultless (sym one)
          (omega arith) in
          by_rest h goes.rest goes.longer goes.same)
    ]
  where
    by_rest : length bad.before < length lines → (rest : List Sentence) → lines ≡ bad.before ++ rest
        → bad.left ≡ lines_text rest ++ [] → ⊥
    by_rest short [] longer same = let count : length lines ≡ length bad.before =
        ap length (longer ∙ append-nil bad.before) in omega arith
    by_rest short (x ∷ rest) longer same =
        let later : AreFaultlessAfter bad.before (x ∷ rest) = first_after [] bad.before (x ∷ rest)
        (subst (λ (zs : List Sentence). AreFaultlessAfter [] zs) longer whole.faultless) in
        goes_on bad.before rest x bad.left [] fault later same (kind bad.before bad.left fault bad.here)

-- two bad lines are one, where one list of lines is the beginning of the other
shorter_first : (text : List ℕ) (line other : ℕ) (fault second : Fault) (a : IsFirstBadLine text line fault)
    (b : IsFirstBadLine text other second) → length a.before ≤ length b.before → (line ≡ other) × (fault ≡ second)
shorter_first text line other fault second a b short =
    let one : lines_text a.before ++ a.left ≡ lines_text b.before ++ b.left = sym a.begins ∙ b.begins in
    let goes = shorter-continues [] a.before b.before a.left b.left a.faultless b.faultless one short in
    by_rest goes.rest goes.longer goes.same
  where
    by_rest : (rest : List Sentence) → b.before ≡ a.before ++ rest → a.left ≡ lines_text rest ++ b.left
        → (line ≡ other) × (fault ≡ second)
    by_rest [] longer same =
        let lists : b.before ≡ a.before = longer ∙ append-nil a.before in
        let counted : length b.before ≡ length a.before = ap length lists in
        let here_b : BeginsWithFault a.before a.left second = subst (λ l. BeginsWithFault a.before l second) (sym same)
        (subst (λ (zs : List Sentence). BeginsWithFault zs b.left second) lists b.here) in (
          omega (arith, a.counted, b.counted, counted),
          one_place a.before a.left fault second
              (kind a.before a.left fault a.here) (kind a.before a.left second here_b),
        )
    by_rest (x ∷ rest) longer same =
        let later : AreFaultlessAfter a.before (x ∷ rest) = first_after [] a.before (x ∷ rest)
        (subst (λ (zs : List Sentence). AreFaultlessAfter [] zs) longer b.faultless) in
        absurd (goes_on a.before rest x a.left b.left fault later same (kind a.before a.left fault a.here))

bad_lines-agree : (text : List ℕ) (line other : ℕ) (fault second : Fault) → IsFirstBadLine text line fault
    → IsFirstBadLine text other second → (line ≡ other) × (fault ≡ second)
bad_lines-agree text line other fault second a b =
    elim (either_longer (length a.before) (length b.before)) [
      | inl short ↦ shorter_first text line other fault second a b short
      | inr long ↦ (let both = shorter_first text other line second fault b a (omega arith) in (sym both.0, sym both.1))
    ]

-- the two kinds of first faults
data First (text : List ℕ) (line : ℕ) (fault : Fault) : Type 0 where
  bad : IsFirstBadLine text line fault → First text line fault
  out : fault ≡ spelled_out → IsFirstSpelledOut text line → First text line fault

first_kind : (text : List ℕ) (line : ℕ) (fault : Fault) → IsFirstFault text line fault → First text line fault
first_kind text line malformed h = bad h
first_kind text line too_many h = bad h
first_kind text line no_element h = bad h
first_kind text line out_of_order h = bad h
first_kind text line end_wired h = bad h
first_kind text line left_wired h = bad h
first_kind text line start_fed h = bad h
first_kind text line second_source h = bad h
first_kind text line spelled_out h = out refl h

spelled_out-agree : (text : List ℕ) (line other : ℕ) → IsFirstSpelledOut text line → IsFirstSpelledOut text other
    → line ≡ other
spelled_out-agree text line other a b =
    let one : lines_text a.lines ++ [] ≡ lines_text b.lines = append-nil (lines_text a.lines) ∙ sym a.begins
    ∙ b.begins in
    let lines : b.lines ≡ a.lines = (whole_same a.lines b.lines [] a.whole b.whole one).0 in
    let elements = least_is_one (IsSpelledOut a.lines) a.element b.element a.first
    (subst (λ (zs : List Sentence). IsLeast (IsSpelledOut zs) b.element) lines b.first) in
    omega (arith, a.counted, b.counted, elements)

pub faults-agree : FaultsAgree
faults-agree text line other fault second a b = by_kinds (first_kind text line fault a) (first_kind text other second b)
  where
    by_kinds : First text line fault → First text other second → (line ≡ other) × (fault ≡ second)
    by_kinds (bad h) (bad k) = bad_lines-agree text line other fault second h k
    by_kinds (bad h) (out e k) = absurd (whole_not_bad text k.lines line fault k.whole k.begins h)
    by_kinds (out e h) (bad k) = absurd (whole_not_bad text h.lines other second h.whole h.begins k)
    by_kinds (out e h) (out d k) = (spelled_out-agree text line other h k, e ∙ sym d)

pub faulty_texts-spell-nothing : FaultyTextsSpellNothing
faulty_texts-spell-nothing v s text line fault first is = by_kind (first_kind text line fault first)
  where
    by_kind : First text line fault → ⊥
    by_kind (bad h) = whole_not_bad text (header_then (header_of v s) is.is_text.entries) line fault
        (admitted-whole v s is.admitted is.is_text.entries is.is_text.are) is.is_text.written h
    by_kind (out e h) =
        let one : lines_text h.lines ++ [] ≡ lines_text (header_then (header_of v s) is.is_text.entries) =
        append-nil (lines_text h.lines) ∙ sym h.begins ∙ is.is_text.written in
        let same = (whole_same h.lines (header_then (header_of v s) is.is_text.entries) [] h.whole
        (admitted-whole v s is.admitted is.is_text.entries is.is_text.are) one).0 in
        none-spelled-out v s is.admitted is.is_text.entries is.is_text.are h.element
        (subst (λ (zs : List Sentence). IsSpelledOut zs h.element) (sym same) h.first.holds)
