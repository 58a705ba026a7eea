-- Farms whose boards are the same but for the order of wires are played alike, and have one text.
use Rattle.std.specs.Prelude.{◌≡◌, ℕ, ◌+◌, Bool, true, false, List, [], ◌∷◌, ◌++◌, length, replicate, slice_get, refl}
use Rattle.std.specs.Option.{option_map_or}
use Rattle.std.proofs.Common.{zero, suc, sym, ap, subst, ◌∙◌}
use Rattle.bn_circuits.specs.Alike.{AreAlike}
use Rattle.bn_circuits.proofs.AlikeLemmas.{back-alike, run-alike}
use Rattle.bn_circuits.specs.Stepping.{back, run}
use Rattle.bn_element.specs.Rotary.{rotary}
use Rattle.bn_netlist_laws.specs.Spelling.{AreSame, Spelled}
use Rattle.bn_netlist_laws.proofs.TextLemmas.{spellings-agree}
use Rattle.bn_netlist_laws.proofs.EntryLemmas.{same-have-one-text}
use Rattle.bn_farm.specs.declared.event.Event.{Event}
use Rattle.bn_farm.specs.Farms.{FarmBoard, Tick, after_steps, at_board, circuit_in, elements_together, farm_after, play}
use Rattle.bn_farm.specs.Farms.{stepped, ticked, ticks, ticks_of}
use Rattle.bn_farm.specs.Undo.{steps_between, event_of, made, made_on, other, undoing}
use Rattle.bn_farm.specs.FarmTexts.{IsFarmText, SpellBoards, parts_text, schedule_text}

-- the boards are the same, and so are the versions of their texts
pub record AreSameBoards (b c : FarmBoard) : Type 0 where
  pub version : b.version ≡ c.version
  pub same : AreSame b.spelling c.spelling

-- each board of one farm is the same as that of the other in its place
abbrev pub AreAllSame : List FarmBoard → List FarmBoard → Type 0
AreAllSame [] [] = Unit {0}
AreAllSame [] (c ∷ cs) = ⊥
AreAllSame (b ∷ bs) [] = ⊥
AreAllSame (b ∷ bs) (c ∷ cs) = AreSameBoards b c × AreAllSame bs cs

pub spelled_same : (parts : List (List ℕ)) (bs cs : List FarmBoard) → SpellBoards parts bs → SpellBoards parts cs
    → AreAllSame bs cs
spelled_same [] [] [] a b = tt
spelled_same [] [] (c ∷ cs) a b = absurd b
spelled_same [] (x ∷ bs) cs a b = absurd a
spelled_same (part ∷ parts) [] cs a b = absurd a
spelled_same (part ∷ parts) (x ∷ bs) [] a b = absurd b
spelled_same (part ∷ parts) (x ∷ bs) (c ∷ cs) a b =
    let both = spellings-agree x.version c.version x.spelling c.spelling part a.0 b.0 in
    (record { version = both.0; same = both.1 }, spelled_same parts bs cs a.1 b.1)

alike : (b c : FarmBoard) → AreSameBoards b c → AreAlike (circuit_in b) (circuit_in c)
alike b c is = record {
  tables = ap (λ n. replicate n rotary) is.same.elements;
  targets = is.same.targets;
  sources = is.same.sources;
}

stepped_same : (f : Bool) (n : ℕ) (b c : FarmBoard) → AreSameBoards b c
    → stepped f (circuit_in b) b.spelling.config n ≡ stepped f (circuit_in c) c.spelling.config n
stepped_same true n b c is = run-alike (circuit_in b) (circuit_in c) (alike b c is) b.spelling.config n
    ∙ ap (λ x. run (circuit_in c) x n) is.same.config
stepped_same false n b c is = back-alike (circuit_in b) (circuit_in c) (alike b c is) b.spelling.config n
    ∙ ap (λ x. back (circuit_in c) x n) is.same.config

after_same : (f : Bool) (n : ℕ) (b c : FarmBoard) → AreSameBoards b c
    → AreSameBoards (after_steps f n b) (after_steps f n c)
after_same f n b c is = record {
  version = is.version;
  same = record {
    elements = is.same.elements;
    targets = is.same.targets;
    sources = is.same.sources;
    config = stepped_same f n b c is;
    start = is.same.start;
    end = is.same.end;
  };
}

at_same : (f : Bool) (n i : ℕ) (bs cs : List FarmBoard) → AreAllSame bs cs
    → AreAllSame (at_board (after_steps f n) i bs) (at_board (after_steps f n) i cs)
at_same f n i [] [] same = tt
at_same f n i [] (c ∷ cs) same = absurd same
at_same f n i (b ∷ bs) [] same = absurd same
at_same f n zero (b ∷ bs) (c ∷ cs) same = (after_same f n b c same.0, same.1)
at_same f n (suc i) (b ∷ bs) (c ∷ cs) same = (same.0, at_same f n i bs cs same.1)

play_same : (bs cs : List FarmBoard) (ts : List Tick) → AreAllSame bs cs → AreAllSame (play bs ts) (play cs ts)
play_same bs cs [] same = same
play_same bs cs (t ∷ ts) same = play_same (ticked t bs) (ticked t cs) ts (at_same t.forward 1 t.board bs cs same)

made_same : (e : Event) (i : ℕ) (bs cs : List FarmBoard) → AreAllSame bs cs
    → option_map_or (made_on e) (slice_get bs i) 0 ≡ option_map_or (made_on e) (slice_get cs i) 0
made_same e i [] [] same = refl
made_same e i [] (c ∷ cs) same = absurd same
made_same e i (b ∷ bs) [] same = absurd same
made_same e zero (b ∷ bs) (c ∷ cs) same =
    let there = stepped_same e.forward e.count b c same.0 in
    (λ i. steps_between e.forward (same.0.same.config i) (there i))
made_same e (suc i) (b ∷ bs) (c ∷ cs) same = made_same e i bs cs same.1

pub undoing_same : (bs cs : List FarmBoard) (es : List Event) → AreAllSame bs cs → undoing bs es ≡ undoing cs es
undoing_same bs cs [] same = refl
undoing_same bs cs (e ∷ es) same =
    let rest = undoing_same (play bs (ticks_of e)) (play cs (ticks_of e)) es (play_same bs cs (ticks_of e) same) in
    let number : made bs e ≡ made cs e = made_same e e.board bs cs same in
    (λ i. rest i ++ event_of (other e.forward) e.board (number i))

-- and have the same texts
pub texts_same : (parts others : List (List ℕ)) (bs cs : List FarmBoard) → AreAllSame bs cs → SpellBoards parts bs
    → SpellBoards others cs → parts ≡ others
texts_same [] [] bs cs same a b = refl
texts_same [] (q ∷ others) [] [] same a b = absurd b
texts_same [] (q ∷ others) [] (c ∷ cs) same a b = absurd same
texts_same [] (q ∷ others) (x ∷ bs) cs same a b = absurd a
texts_same (p ∷ parts) others [] cs same a b = absurd a
texts_same (p ∷ parts) [] (x ∷ bs) [] same a b = absurd same
texts_same (p ∷ parts) [] (x ∷ bs) (c ∷ cs) same a b = absurd b
texts_same (p ∷ parts) (q ∷ others) (x ∷ bs) [] same a b = absurd same
texts_same (p ∷ parts) (q ∷ others) (x ∷ bs) (c ∷ cs) same a b =
    let is = same.0 in
    let here : Spelled c.version x.spelling p = subst (λ v. Spelled v x.spelling p) is.version a.0 in
    let first = same-have-one-text c.version x.spelling c.spelling p q is.same here b.0 in
    let rest = texts_same parts others bs cs same.1 a.1 b.1 in
    (λ i. first i ∷ rest i)

pub length_same : (bs cs : List FarmBoard) → AreAllSame bs cs → length bs ≡ length cs
length_same [] [] same = refl
length_same [] (c ∷ cs) same = absurd same
length_same (b ∷ bs) [] same = absurd same
length_same (b ∷ bs) (c ∷ cs) same = ap (λ n. suc n) (length_same bs cs same.1)

pub elements_same : (bs cs : List FarmBoard) → AreAllSame bs cs → elements_together bs ≡ elements_together cs
elements_same [] [] same = refl
elements_same [] (c ∷ cs) same = absurd same
elements_same (b ∷ bs) [] same = absurd same
elements_same (b ∷ bs) (c ∷ cs) same = let rest = elements_same bs cs same.1 in (λ i. same.0.same.elements i + rest i)

-- so what is answered is one
pub played_same : (bs cs : List FarmBoard) (es : List Event) (text other : List ℕ) → AreAllSame bs cs
    → IsFarmText (farm_after bs es) (undoing bs es) text
    → IsFarmText (farm_after cs es) (undoing cs es) other → text ≡ other
played_same bs cs es text other same a b =
    let parts = texts_same a.parts b.parts (farm_after bs es) (farm_after cs es) (play_same bs cs (ticks es) same)
    a.spell b.spell in
    let back = undoing_same bs cs es same in
    a.written ∙ (λ i. parts_text (parts i) ++ schedule_text (back i)) ∙ sym b.written
