-- The text of a farm is cut into its parts in one way: no line of a configuration text or of a schedule is the mark.
use Rattle.std.specs.Prelude.{◌≡◌, ◌≢◌, ℕ, ◌<◌, List, [], ◌∷◌, ◌++◌, length, refl}
use Rattle.std.proofs.Common.{zero, suc, arith, sym, ap, subst, ◌∙◌, inl, inr, append_assoc, length-append}
use Rattle.std.proofs.lemmas.List.{append-nil}
use Rattle.std.proofs.lemmas.List.Elements.{All-nil}
use Rattle.bn_circuits.specs.declared.place.Place.TheVariants.{Enter, Left}
use Rattle.bn_netlist_laws.specs.Sentences.{Sentence, Title, Count, Start, End, Steps, At, Element, Column, Row}
use Rattle.bn_netlist_laws.specs.Sentences.{IsSayable, sentence_text, lines_text, title_text}
use Rattle.bn_netlist_laws.specs.Spelling.{header_of, header_then}
use Rattle.bn_netlist_laws.specs.declared.version.Version.{Version}
use Rattle.bn_netlist_laws.specs.declared.version.Version.TheVariants.{One, Two}
use Rattle.bn_farm.specs.Farms.{FarmBoard, IsAdmitted, IsSpelled}
use Rattle.bn_netlist_laws.specs.Faults.{AreFaultlessAfter}
use Rattle.bn_netlist_laws.proofs.AdmittedLemmas.{admitted-whole}
use Rattle.bn_netlist_laws.proofs.EntryLemmas.{has-text}
use Rattle.bn_netlist_laws.proofs.SentenceLemmas.{sentence_text-in_line}
use Rattle.bn_base.specs.Cuts.{IsCut, IsUncut}
use Rattle.bn_base.proofs.CutLemmas.{IsLooked, IsNoMark, all_looked, cuts-never_both, cuts-one, line_looked}
use Rattle.bn_base.proofs.CutLemmas.{mark_looked, none_looked}
use Rattle.bn_base.proofs.CutOrNot.{cut_or_not}
use Rattle.bn_farm.specs.declared.event.Event.{Event}
use Rattle.bn_farm.specs.Farms.{IsFarm}
use Rattle.bn_farm.specs.FarmTexts.{AreEventsOf, AreParts, SpellBoards, parts_text, order_of, order_text, schedule_text}
use Rattle.bn_farm.proofs.OrderLemmas.{front_is, order_in_line, order_no_mark}

-- ---- configuration texts

abbrev AreSayable : List Sentence → Type 0
AreSayable [] = Unit {0}
AreSayable (x ∷ xs) = IsSayable x × AreSayable xs

faultless_sayable : (earlier xs : List Sentence) → AreFaultlessAfter earlier xs → AreSayable xs
faultless_sayable earlier [] h = tt
faultless_sayable earlier (x ∷ xs) h = (h.0.sayable, faultless_sayable (earlier ++ x ∷ []) xs h.2)

title_no_mark : (v : Version) (behind rest : List ℕ) → title_text v ++ behind ≢ 37 ∷ rest
title_no_mark One behind rest e = let h = front_is 114 (title_text One ++ behind) rest refl e in omega arith
title_no_mark Two behind rest e = let h = front_is 114 (title_text Two ++ behind) rest refl e in omega arith

sentence_no_mark : (x : Sentence) (behind rest : List ℕ) → sentence_text x ++ behind ≢ 37 ∷ rest
sentence_no_mark (Title v) behind rest e = title_no_mark v behind rest e
sentence_no_mark (Count c) behind rest e = let h = front_is 101 (sentence_text (Count c) ++ behind) rest refl e in omega
    arith
sentence_no_mark (Start l) behind rest e = let h = front_is 115 (sentence_text (Start l) ++ behind) rest refl e in omega
    arith
sentence_no_mark (End l) behind rest e = let h = front_is 101 (sentence_text (End l) ++ behind) rest refl e in omega
    arith
sentence_no_mark (Steps t) behind rest e = let h = front_is 115 (sentence_text (Steps t) ++ behind) rest refl e in omega
    arith
sentence_no_mark (At (Enter n l)) behind rest e = let h = front_is 97 (sentence_text (At (Enter n l)) ++ behind) rest
    refl e in omega arith
sentence_no_mark (At (Left n l)) behind rest e = let h = front_is 108 (sentence_text (At (Left n l)) ++ behind) rest
    refl e in omega arith
sentence_no_mark (Element n q xs) behind rest e = let h = front_is 101 (sentence_text (Element n q xs) ++ behind) rest
    refl e in omega arith
sentence_no_mark (Column n k q) behind rest e = let h = front_is 99 (sentence_text (Column n k q) ++ behind) rest refl e
    in omega arith
sentence_no_mark (Row x y) behind rest e = let h = front_is 114 (sentence_text (Row x y) ++ behind) rest refl e in omega
    arith

-- line by line
lines_looked : (xs : List Sentence) → AreSayable xs → (bytes front rest : List ℕ)
    → IsLooked bytes front (lines_text xs ++ rest) → IsLooked bytes (front ++ lines_text xs) rest
lines_looked [] all bytes front rest looked = subst (λ f. IsLooked bytes f rest) (sym (append-nil front)) looked
lines_looked (x ∷ xs) all bytes front rest looked =
    let is : lines_text (x ∷ xs) ++ rest ≡ sentence_text x ++ 10 ∷ (lines_text xs ++ rest) =
    append_assoc (sentence_text x) (10 ∷ lines_text xs) rest in
    let no_mark : IsNoMark (lines_text (x ∷ xs) ++ rest) = λ r e. sentence_no_mark x (10 ∷ (lines_text xs ++ rest))
    (10 ∷ r) (sym is ∙ e) in
    let next : IsLooked bytes (front ++ (sentence_text x ++ 10 ∷ [])) (lines_text xs ++ rest) =
    line_looked bytes front (lines_text (x ∷ xs) ++ rest) (sentence_text x) (lines_text xs ++ rest) looked is
    (sentence_text-in_line x all.0) no_mark in
    let more = lines_looked xs all.1 bytes (front ++ (sentence_text x ++ 10 ∷ [])) rest next in
    let fronts : (front ++ (sentence_text x ++ 10 ∷ [])) ++ lines_text xs ≡ front ++ lines_text (x ∷ xs) =
    append_assoc front (sentence_text x ++ 10 ∷ []) (lines_text xs)
    ∙ ap (λ r. front ++ r) (append_assoc (sentence_text x) (10 ∷ []) (lines_text xs)) in
    subst (λ f. IsLooked bytes f rest) fronts more

pub text_cut : (b : FarmBoard) (part rest : List ℕ) → IsSpelled b part → IsCut (part ++ 37 ∷ 10 ∷ rest) part rest
text_cut b part rest spelled = subst (λ p. IsCut (p ++ 37 ∷ 10 ∷ rest) p rest) (sym spelled.is_text.written)
    (lines_cut (header_then (header_of b.version b.spelling) spelled.is_text.entries) all)
  where
    all : AreSayable (header_then (header_of b.version b.spelling) spelled.is_text.entries)
    all =
        let whole = admitted-whole b.version b.spelling spelled.admitted spelled.is_text.entries spelled.is_text.are in
        faultless_sayable [] (header_then (header_of b.version b.spelling) spelled.is_text.entries) whole.faultless

    lines_cut : (xs : List Sentence) → AreSayable xs → IsCut (lines_text xs ++ 37 ∷ 10 ∷ rest) (lines_text xs) rest
    lines_cut xs sayable =
        let bytes = lines_text xs ++ 37 ∷ 10 ∷ rest in
        mark_looked bytes (lines_text xs) (37 ∷ 10 ∷ rest) rest (lines_looked xs sayable bytes [] (37 ∷ 10 ∷ rest)
        (none_looked bytes)) refl

-- ---- schedules

events_looked : (boards : ℕ) (es : List Event) → AreEventsOf boards es → (bytes front : List ℕ)
    → IsLooked bytes front (schedule_text es) → IsUncut bytes
events_looked boards [] all bytes front looked = all_looked bytes front [] looked (All-nil (λ byte. byte ≢ 10))
events_looked boards (e ∷ es) all bytes front looked =
    let text = order_text (order_of e) in
    let no_mark : IsNoMark (text ++ 10 ∷ schedule_text es) = λ r is. order_no_mark (order_of e) (10 ∷ schedule_text es)
    (10 ∷ r) is in
    events_looked boards es all.1 bytes (front ++ (text ++ 10 ∷ []))
    (line_looked bytes front (text ++ 10 ∷ schedule_text es) text (schedule_text es) looked refl
    (order_in_line (order_of e) all.0.sayable) no_mark)

pub schedule_uncut : (boards : ℕ) (es : List Event) → AreEventsOf boards es → IsUncut (schedule_text es)
schedule_uncut boards es all = events_looked boards es all (schedule_text es) [] (none_looked (schedule_text es))

-- ---- farms

-- each farm has texts of its boards
pub farm_texts : (bs : List FarmBoard) → IsFarm bs → (parts : List (List ℕ)) × SpellBoards parts bs
farm_texts [] good = ([], tt)
farm_texts (b ∷ bs) good =
    let first = has-text b.version b.spelling (good 0 b refl) in
    let rest = farm_texts bs (λ i. good (suc i)) in
    (first.0 ∷ rest.0, (first.1, rest.1))

pub parts_back : (boards : ℕ) (parts : List (List ℕ)) (bs : List FarmBoard) (es : List Event) → SpellBoards parts bs
    → AreEventsOf boards es
    → AreParts (parts_text parts ++ schedule_text es) parts (schedule_text es)
parts_back boards [] [] es spell all = (schedule_uncut boards es all, refl)
parts_back boards [] (b ∷ bs) es spell all = absurd spell
parts_back boards (part ∷ parts) [] es spell all = absurd spell
parts_back boards (part ∷ parts) (b ∷ bs) es spell all =
    let rest = parts_text parts ++ schedule_text es in
    let is : part ++ 37 ∷ 10 ∷ rest ≡ parts_text (part ∷ parts) ++ schedule_text es =
    sym (append_assoc part (37 ∷ 10 ∷ parts_text parts) (schedule_text es)) in (
      rest,
      subst (λ bytes. IsCut bytes part rest) is (text_cut b part rest spell.0),
      parts_back boards parts bs es spell.1 all,
    )

pub spelled_farm : (parts : List (List ℕ)) (bs : List FarmBoard) → SpellBoards parts bs → IsFarm bs
spelled_farm [] [] spell i b is = absurd (cc)
spelled_farm [] (c ∷ bs) spell i b is = absurd spell
spelled_farm (part ∷ parts) [] spell i b is = absurd spell
spelled_farm (part ∷ parts) (c ∷ bs) spell zero b is = let same : c ≡ b = cc in subst IsAdmitted same spell.0.admitted
spelled_farm (part ∷ parts) (c ∷ bs) spell (suc i) b is = spelled_farm parts bs spell.1 i b is

-- the bytes are the parts, each with the mark behind it, and what stands behind the last
pub text_of_parts : (bytes : List ℕ) (parts : List (List ℕ)) (last : List ℕ) → AreParts bytes parts last
    → bytes ≡ parts_text parts ++ last
text_of_parts bytes [] last are = are.1
text_of_parts bytes (part ∷ parts) last are =
    let rest = text_of_parts are.0 parts last are.2 in
    are.1.cut ∙ ap (λ r. part ++ 37 ∷ 10 ∷ r) rest ∙ sym (append_assoc part (37 ∷ 10 ∷ parts_text parts) last)

-- ---- one cut into parts

pub parts_once : (bytes : List ℕ) (ps qs : List (List ℕ)) (last other : List ℕ) → AreParts bytes ps last
    → AreParts bytes qs other → (ps ≡ qs) × (last ≡ other)
parts_once bytes [] [] last other a b = (refl, sym a.1 ∙ b.1)
parts_once bytes [] (q ∷ qs) last other a b = absurd (cuts-never_both bytes q b.0 b.1 a.0)
parts_once bytes (p ∷ ps) [] last other a b = absurd (cuts-never_both bytes p a.0 a.1 b.0)
parts_once bytes (p ∷ ps) (q ∷ qs) last other a b =
    let both = cuts-one bytes p a.0 q b.0 a.1 b.1 in
    let rest = parts_once b.0 ps qs last other (subst (λ bytes. AreParts bytes ps last) both.1 a.2) b.2 in
    ((λ i. both.0 i ∷ rest.0 i), rest.1)

parts_from : (fuel : ℕ) (bytes : List ℕ) → length bytes < fuel
    → (parts : List (List ℕ)) × (last : List ℕ) × AreParts bytes parts last
parts_from zero bytes short = absurd (omega arith)
parts_from (suc fuel) bytes short = elim (cut_or_not bytes) [
  | inl cut ↦
      (let long : length bytes ≡ length (cut.0 ++ 37 ∷ 10 ∷ cut.1) = ap (λ (xs : List ℕ). length xs) cut.2.cut in
      let sum = length-append cut.0 (37 ∷ 10 ∷ cut.1) in
      let rest = parts_from fuel cut.1 (omega (arith, short, long, sum)) in
      (cut.0 ∷ rest.0, rest.1, (cut.1, cut.2, rest.2)))
  | inr none ↦ ([], bytes, (none, refl))
]

pub parts_there : (bytes : List ℕ) → (parts : List (List ℕ)) × (last : List ℕ) × AreParts bytes parts last
parts_there bytes = parts_from (suc (length bytes)) bytes (omega arith)
