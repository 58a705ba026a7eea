-- Writing a farm with a schedule.
use Rattle.std.specs.Prelude.{◌≡◌, ℕ, ◌+◌, ◌<◌, List, [], ◌∷◌, ◌++◌, length, map, take, get_or, codes, decimal}
use Rattle.std.proofs.Common.{zero, suc, refl, sym, ap, subst, ◌∙◌, arith, append_assoc}
use Rattle.std.proofs.lemmas.Option.{slice_get-get_or, slice_get-map}
use Rattle.bn_netlist_laws.specs.Spelling.{IsTextOf}
use Rattle.bn_farm.specs.Farms.{FarmBoard, IsAdmitted, IsSpelled, board_of}
use Rattle.bn_netlist.specs.declared.net_config.NetConfig.{NetConfig}
use Rattle.std.specs.Prelude.{option_map}
use Rattle.bn_farm.specs.declared.event.Event.{Event}
use Rattle.bn_farm.specs.Farms.{IsFarm}
use Rattle.bn_farm.specs.FarmTexts.{SpellBoards, parts_text, order_of, order_text, schedule_text, sign_text}
use Rattle.bn_farm.specs.Writing.{HasWritten}
use Rattle.bn_farm.proofs.OrderLemmas.{pieces}

joined_more : (parts : List (List ℕ)) (part : List ℕ) → parts_text (parts ++ part ∷ [])
    ≡ parts_text parts ++ (part ++ 37 ∷ 10 ∷ [])
joined_more [] part = refl
joined_more (p ∷ parts) part =
    ap (λ rest. p ++ 37 ∷ 10 ∷ rest) (joined_more parts part) ∙ sym
    (append_assoc p (37 ∷ 10 ∷ parts_text parts) (part ++ 37 ∷ 10 ∷ []))

pub spell_more : (parts : List (List ℕ)) (bs : List FarmBoard) (part : List ℕ) (b : FarmBoard) → SpellBoards parts bs
    → IsSpelled b part → SpellBoards (parts ++ part ∷ []) (bs ++ b ∷ [])
spell_more [] [] part b spell is = (is, tt)
spell_more [] (c ∷ bs) part b spell is = absurd spell
spell_more (p ∷ parts) [] part b spell is = absurd spell
spell_more (p ∷ parts) (c ∷ bs) part b spell is = (spell.0, spell_more parts bs part b spell.1 is)

take_more : (bs : List NetConfig) (i : ℕ) (d : NetConfig) → i < length bs
    → map board_of (take (i + 1) bs) ≡ map board_of (take i bs) ++ board_of (get_or bs i d) ∷ []
take_more [] i d h = absurd (omega (arith, h))
take_more (b ∷ bs) zero d h = refl
take_more (b ∷ bs) (suc i) d h =
    let sum : suc i + 1 ≡ suc (i + 1) = omega arith in
    ap (λ n. map board_of (take n (b ∷ bs))) sum ∙ ap (λ rest. board_of b ∷ rest) (take_more bs i d (omega (arith, h)))

pub one_written : (old before after : List ℕ) (bs : List NetConfig) (i : ℕ) (d : NetConfig)
    → HasWritten old before (map board_of (take i bs)) → i < length bs
    → HasWritten before after (board_of (get_or bs i d) ∷ []) → HasWritten old after (map board_of (take (i + 1) bs))
one_written old before after bs i d so_far low one = by_parts one.parts one.spell one.is
  where
    by_parts : (parts : List (List ℕ)) → SpellBoards parts (board_of (get_or bs i d) ∷ [])
        → after ≡ before ++ parts_text parts → HasWritten old after (map board_of (take (i + 1) bs))
    by_parts [] spell is = absurd spell
    by_parts (p ∷ q ∷ parts) spell is = absurd spell.1
    by_parts (p ∷ []) spell is = record {
      parts = so_far.parts ++ p ∷ [];
      spell = subst (SpellBoards (so_far.parts ++ p ∷ [])) (sym (take_more bs i d low))
          (spell_more so_far.parts (map board_of (take i bs)) p (board_of (get_or bs i d)) so_far.spell spell.0);
      is = is ∙ ap (λ xs. xs ++ parts_text (p ∷ [])) so_far.is ∙ append_assoc old (parts_text so_far.parts)
          (parts_text (p ∷ []))
          ∙ ap (λ xs. old ++ xs) (sym (joined_more so_far.parts p));
    }

-- one board
pub board_written : (old now part : List ℕ) (b : FarmBoard) → IsAdmitted b → IsTextOf b.version b.spelling part
    → now ≡ old ++ (part ++ 37 ∷ 10 ∷ []) → HasWritten old now (b ∷ [])
board_written old now part b admitted is written = record {
  parts = part ∷ [];
  spell = (record { admitted = admitted; is_text = is }, tt);
  is = written;
}

pub board_good : (bs : List NetConfig) (i : ℕ) (d : NetConfig) → IsFarm (map board_of bs) → i < length bs
    → IsAdmitted (board_of (get_or bs i d))
board_good bs i d good h = good i (board_of (get_or bs i d))
    (slice_get-map board_of bs i ∙ ap (option_map board_of) (slice_get-get_or bs i d h))

abbrev event_text : Event → List ℕ
event_text e = sign_text e.forward ++ (decimal (e.board + 1) ++ (codes " " ++ (decimal e.count ++ 10 ∷ [])))

events_more : (es : List Event) (i : ℕ) (d : Event) → i < length es
    → schedule_text (take (suc i) es) ≡ schedule_text (take i es) ++ event_text (get_or es i d)
events_more [] i d h = absurd (omega (arith, h))
events_more (e ∷ es) zero d h = pieces (order_of e) []
events_more (e ∷ es) (suc i) d h =
    ap (λ rest. order_text (order_of e) ++ 10 ∷ rest) (events_more es i d (omega (arith, h)))
    ∙ sym (append_assoc (order_text (order_of e)) (10 ∷ schedule_text (take i es)) (event_text (get_or es i d)))

pub events_text_more : (old before after : List ℕ) (es : List Event) (i : ℕ) (d : Event)
    → before ≡ old ++ schedule_text (take i es) → i < length es → after ≡ before ++ event_text (get_or es i d)
    → after ≡ old ++ schedule_text (take (i + 1) es)
events_text_more old before after es i d so_far h is =
    let next : suc i ≡ i + 1 = omega arith in
    is ∙ ap (λ xs. xs ++ event_text (get_or es i d)) so_far ∙ append_assoc old (schedule_text (take i es))
    (event_text (get_or es i d))
    ∙ ap (λ xs. old ++ xs) (sym (events_more es i d h)) ∙ ap (λ n. old ++ schedule_text (take n es)) next
