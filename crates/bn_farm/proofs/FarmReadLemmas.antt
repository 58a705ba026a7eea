-- Reading a farm: part after part, and then the schedule.
use Rattle.std.specs.Prelude.{◌≡◌, ◌≢◌, ℕ, ◌+◌, ◌*◌, ◌<◌, ◌≤◌, List, [], ◌∷◌, ◌++◌, length, map, take, get_or, Some}
use Rattle.std.specs.Prelude.{refl, Bool, true, false, ◌==◌, Result, Ok, Err, IfOk, IfErr}
use Rattle.std.proofs.Common.{zero, suc, arith, sym, ap, subst, ◌∙◌, append-nil, length-append}
use Rattle.std.proofs.lemmas.Bool.Decides.{nat_tests}
use Rattle.std.proofs.lemmas.List.{length-map, map-append}
use Rattle.bn_lists.specs.Lists.{IsFirstWith, nth}
use Rattle.bn_circuits.specs.declared.net.TheConstants.{MOST_ELEMENTS}
use Rattle.bn_farm.specs.Farms.{board_of, elements_together, FarmBoard, IsSpelled}
use Rattle.bn_netlist.specs.declared.net_config.NetConfig.{NetConfig}
use Rattle.bn_base.specs.Cuts.{IsCut, IsUncut}
use Rattle.bn_netlist_laws.proofs.AdmittedLemmas.{most_small}
use Rattle.bn_farm.specs.declared.event.Event.{Event}
use Rattle.bn_farm.specs.declared.farm_refusal.FarmRefusal.{FarmRefusal}
use Rattle.bn_farm.specs.declared.farm_refusal.FarmRefusal.TheVariants.{NoSchedule, Board, Form, NoBoard, Elements}
use Rattle.bn_farm.specs.declared.farm_refusal.FarmRefusal.TheVariants.{NoMemory}
use Rattle.bn_farm.specs.Farms.{IsFarm}
use Rattle.bn_farm.specs.FarmTexts.{AreParts, IsSchedule, SpellBoards}
use Rattle.bn_farm.specs.FarmRead.{HasPushed, IsFarmRead, IsFarmRefusal, IsPartRefusal, IsRefusedBehind, IsRestRead}
use Rattle.bn_farm.specs.FarmRead.{IsRestRefusal, IsUnspelled}
use Rattle.bn_farm.proofs.PartLemmas.{parts_there, spelled_farm}
use Rattle.bn_farm.proofs.WriteLemmas.{board_good, spell_more}

-- ---- cuts

-- the bytes are cut behind each of these parts, and this is what is left
abbrev pub CutsTo : List ℕ → List (List ℕ) → List ℕ → Type 0
CutsTo bytes [] left = bytes ≡ left
CutsTo bytes (part ∷ parts) left = (rest : List ℕ) × IsCut bytes part rest × CutsTo rest parts left

cuts_more : (bytes : List ℕ) (parts : List (List ℕ)) (left part behind : List ℕ) → CutsTo bytes parts left
    → IsCut left part behind → CutsTo bytes (parts ++ part ∷ []) behind
cuts_more bytes [] left part behind cuts cut = (behind, subst (λ b. IsCut b part behind) (sym cuts) cut, refl)
cuts_more bytes (p ∷ parts) left part behind cuts cut = (
  cuts.0,
  cuts.1,
  cuts_more cuts.0 parts left part behind cuts.2 cut,
)

cuts_parts : (bytes : List ℕ) (parts others : List (List ℕ)) (left last : List ℕ) → CutsTo bytes parts left
    → AreParts left others last → AreParts bytes (parts ++ others) last
cuts_parts bytes [] others left last cuts are = subst (λ b. AreParts b others last) (sym cuts) are
cuts_parts bytes (p ∷ parts) others left last cuts are = (
  cuts.0,
  cuts.1,
  cuts_parts cuts.0 parts others left last cuts.2 are,
)

-- each cut takes two bytes at least
pub cut_short : (bytes part rest : List ℕ) → IsCut bytes part rest → length rest + 2 ≤ length bytes
cut_short bytes part rest cut =
    let long : length bytes ≡ length (part ++ 37 ∷ 10 ∷ rest) = ap (λ (xs : List ℕ). length xs) cut.cut in
    let sum = length-append part (37 ∷ 10 ∷ rest) in
    omega (arith, long, sum)

cuts_short : (bytes : List ℕ) (parts : List (List ℕ)) (left : List ℕ) → CutsTo bytes parts left
    → length parts + length left ≤ length bytes
cuts_short bytes [] left cuts = let same : length bytes ≡ length left =
    ap (λ (xs : List ℕ). length xs) cuts in omega (arith, same)
cuts_short bytes (p ∷ parts) left cuts =
    let rest = cuts_short cuts.0 parts left cuts.2 in
    let short = cut_short bytes p cuts.0 cuts.1 in
    omega (arith, rest, short)

-- ---- boards

spell_length : (parts : List (List ℕ)) (bs : List FarmBoard) → SpellBoards parts bs → length parts ≡ length bs
spell_length [] [] spell = refl
spell_length [] (c ∷ bs) spell = absurd spell
spell_length (p ∷ parts) [] spell = absurd spell
spell_length (p ∷ parts) (c ∷ bs) spell = ap (λ n. suc n) (spell_length parts bs spell.1)

-- the first part that is misspelled, behind parts that are spelled
first_bad : (parts : List (List ℕ)) (bs : List FarmBoard) (part : List ℕ) (others : List (List ℕ))
    → SpellBoards parts bs → IsUnspelled part
    → IsFirstWith IsUnspelled (parts ++ part ∷ others) (suc (length parts)) part
first_bad [] [] part others spell bad = record { stands = refl; holds = bad; first = none_before }
  where
    none_before : (m : ℕ) (y : List ℕ) → m < suc zero → nth (part ∷ others) m ≡ Some y → IsUnspelled y → ⊥
    none_before zero y low is unspelled = cc
    none_before (suc m) y low is unspelled = omega (arith, low)
first_bad [] (c ∷ bs) part others spell bad = absurd spell
first_bad (p ∷ parts) [] part others spell bad = absurd spell
first_bad (p ∷ parts) (c ∷ bs) part others spell bad =
    let rest = first_bad parts bs part others spell.1 bad in
    record { stands = rest.stands; holds = bad; first = before rest }
  where
    before : IsFirstWith IsUnspelled (parts ++ part ∷ others) (suc (length parts)) part → (m : ℕ) (y : List ℕ)
        → m < suc (suc (length parts))
        → nth (p ∷ parts ++ part ∷ others) m ≡ Some y → IsUnspelled y → ⊥
    before rest zero y low is unspelled = cc
    before rest (suc zero) y low is unspelled = let same : p ≡ y = cc in unspelled c (subst (IsSpelled c) same spell.0)
    before rest (suc (suc m)) y low is unspelled = rest.first (suc m) y (omega (arith, low)) is unspelled

-- so many boards were read from the front of the bytes, and this is left
pub record HasReadBoards (bytes : List ℕ) (boards : List NetConfig) (left : List ℕ) : Type 0 where
  pub parts : List (List ℕ)
  pub cuts : CutsTo bytes parts left
  pub spell : SpellBoards parts (map board_of boards)

module _ (bytes : List ℕ) (boards : List NetConfig) (left : List ℕ) (h : HasReadBoards bytes boards left) where
  as_many : length h.parts ≡ length boards
  as_many = spell_length h.parts (map board_of boards) h.spell ∙ length-map boards board_of

  pub few_boards : length boards + length left ≤ length bytes
  few_boards =
      let short = cuts_short bytes h.parts left h.cuts in
      let same = as_many in
      omega (arith, short, same)

  -- one board more
  pub one_pushed : (part behind : List ℕ) (now : List NetConfig) → IsCut left part behind → HasPushed boards part now
      → HasReadBoards bytes now behind
  one_pushed part behind now cut pushed = record {
    parts = h.parts ++ part ∷ [];
    cuts = cuts_more bytes h.parts left part behind h.cuts cut;
    spell = subst (SpellBoards (h.parts ++ part ∷ [])) (sym (ap (map board_of) pushed.pushed
        ∙ map-append board_of boards (pushed.board ∷ [])))
        (spell_more h.parts (map board_of boards) part (board_of pushed.board) h.spell pushed.spelled);
  }

  pub read_farm_of : IsFarm (map board_of boards)
  read_farm_of = spelled_farm h.parts (map board_of boards) h.spell

  some_parts : length boards ≢ 0 → h.parts ≢ []
  some_parts some e =
      let none : length h.parts ≡ 0 = ap (λ (ps : List (List ℕ)). length ps) e in
      some (sym as_many ∙ none)

  -- where no board was read, nothing was cut
  pub no_cut : length boards ≡ 0 → IsUncut left → IsUncut bytes
  no_cut none uncut = by_parts h.parts h.cuts (as_many ∙ none)
    where
      by_parts : (parts : List (List ℕ)) → CutsTo bytes parts left → length parts ≡ 0 → IsUncut bytes
      by_parts [] cuts e = subst IsUncut (sym cuts) uncut
      by_parts (p ∷ parts) cuts e = absurd (omega (arith, e))

  -- all parts
  module _ (some : length boards ≢ 0) (uncut : IsUncut left) where
    all_parts : AreParts bytes h.parts left
    all_parts = subst (λ ps. AreParts bytes ps left) (append-nil h.parts)
        (cuts_parts bytes h.parts [] left left h.cuts (uncut, refl))

    pub rest_read : (bs : List FarmBoard) (es : List Event) → IsRestRead (map board_of boards) left bs es
        → IsFarmRead bytes bs es
    rest_read bs es is = record {
      parts = h.parts;
      last = left;
      some = some_parts some;
      are = all_parts;
      spell = subst (SpellBoards h.parts) (sym is.same) h.spell;
      schedule = subst (λ x. IsSchedule (length x) left es) (sym is.same) is.schedule;
      few = subst (λ x. elements_together x ≤ MOST_ELEMENTS) (sym is.same) is.few;
    }

    refused_behind : (refusal : FarmRefusal) → IsRestRefusal (map board_of boards) left refusal
        → IsRefusedBehind bytes refusal
    refused_behind refusal is = record {
      parts = h.parts;
      last = left;
      boards = map board_of boards;
      some = some_parts some;
      are = all_parts;
      spell = h.spell;
      refused = is;
    }

    pub rest_refused : (refusal : FarmRefusal) → IsRestRefusal (map board_of boards) left refusal
        → IsFarmRefusal bytes refusal
    rest_refused NoSchedule is = absurd is
    rest_refused (Board board fault) is = absurd is
    rest_refused (Form line) is = refused_behind (Form line) is
    rest_refused (NoBoard line) is = refused_behind (NoBoard line) is
    rest_refused (Elements count) is = refused_behind (Elements count) is
    rest_refused NoMemory is = tt

  -- ---- a part that is misspelled

  pub part_refused : (part behind : List ℕ) (refusal : FarmRefusal) → IsCut left part behind
      → IsPartRefusal part (length boards + 1) refusal → IsFarmRefusal bytes refusal
  part_refused part behind NoSchedule cut is = absurd is
  part_refused part behind (Board board fault) cut is =
      let rest = parts_there behind in
      let number : suc (length h.parts) ≡ board = let same = as_many in let b = is.0 in omega (arith, same, b) in
      record {
        parts = h.parts ++ part ∷ rest.0;
        last = rest.1;
        are = cuts_parts bytes h.parts (part ∷ rest.0) left rest.1 h.cuts (behind, cut, rest.2);
        part = part;
        first = subst (λ n. IsFirstWith IsUnspelled (h.parts ++ part ∷ rest.0) n part) number
            (first_bad h.parts (map board_of boards) part rest.0 h.spell is.3);
        faulty = is.2;
        said = is.1;
      }
  part_refused part behind (Form line) cut is = absurd is
  part_refused part behind (NoBoard line) cut is = absurd is
  part_refused part behind (Elements count) cut is = absurd is
  part_refused part behind NoMemory cut is = tt

-- ---- elements

elements_next : (bs : List NetConfig) (i : ℕ) (d : NetConfig) → i < length bs
    → elements_together (map board_of (take (suc i) bs)) ≡ elements_together (map board_of (take i bs))
    + (board_of (get_or bs i d)).spelling.elements
elements_next [] i d h = absurd (omega (arith, h))
elements_next (b ∷ bs) zero d h = omega arith
elements_next (b ∷ bs) (suc i) d h =
    let more = elements_next bs i d (omega (arith, h)) in
    omega (arith, more)

-- the elements counted so far
pub record HasCounted (bs : List NetConfig) (i count : ℕ) : Type 0 where
  pub is : count ≡ elements_together (map board_of (take i bs))
  pub few : count ≤ MOST_ELEMENTS * i

pub one_counted : (bs : List NetConfig) (i count : ℕ) (d : NetConfig) → IsFarm (map board_of bs) → i < length bs
    → HasCounted bs i count
    → HasCounted bs (i + 1) (count + (board_of (get_or bs i d)).spelling.elements)
one_counted bs i count d good low h =
    let few = (board_good bs i d good low).few in
    let most = most_small (board_of (get_or bs i d)).version in
    let so_far = h.few in
    let next : suc i ≡ i + 1 = omega arith in
    let more : count + (board_of (get_or bs i d)).spelling.elements
    ≡ elements_together (map board_of (take (suc i) bs)) =
    ap (λ n. n + (board_of (get_or bs i d)).spelling.elements) h.is ∙ sym (elements_next bs i d low) in
    record {
      is = more ∙ ap (λ n. elements_together (map board_of (take n bs))) next;
      few = omega arith;
    }

-- ---- what the program reads

-- the number of boards fits
pub boards_fit : (bytes : List ℕ) (boards : List NetConfig) (left : List ℕ) → HasReadBoards bytes boards left
    → length bytes ≤ 268435456 → length boards ≤ 268435456
boards_fit bytes boards left h short =
    let few = few_boards bytes boards left h in
    omega (arith, few, short)

pub some_boards : (boards : List NetConfig) (len : ℕ) → len ≡ length boards → (b : Bool) → b ≡ (len == 0) → b ≡ false
    → length boards ≢ 0
some_boards boards len count b is fails none = let clash : true ≡ false =
    sym (is ∙ ap (λ n. n == 0) (count ∙ none)) ∙ fails in cc

pub no_boards : (boards : List NetConfig) (len : ℕ) → len ≡ length boards → (b : Bool) → b ≡ (len == 0) → b ≡ true
    → length boards ≡ 0
no_boards boards len count b is holds = grind (arith, nat_tests)

module _ (bytes : List ℕ) (boards : List NetConfig) (left : List ℕ) (h : HasReadBoards bytes boards left)
    (some : length boards ≢ 0) (uncut : IsUncut left) where
  pub whole_read : (result : Result (List FarmBoard × List Event) FarmRefusal)
      → IfOk result (λ r. IsRestRead (map board_of boards) left r.0 r.1) → IfOk result (λ r. IsFarmRead bytes r.0 r.1)
  whole_read (Ok r) is = rest_read bytes boards left h some uncut r.0 r.1 is
  whole_read (Err e) is = tt

  pub whole_refused : (result : Result (List FarmBoard × List Event) FarmRefusal)
      → IfErr result (IsRestRefusal (map board_of boards) left) → IfErr result (IsFarmRefusal bytes)
  whole_refused (Ok r) is = tt
  whole_refused (Err e) is = rest_refused bytes boards left h some uncut e is
