-- What a farm keeps, and what lines the undoing schedule has.
use Rattle.std.specs.Prelude.{◌≡◌, ℕ, ◌<◌, ◌≤◌, Bool, true, false, List, [], ◌∷◌, ◌++◌, length, Option, Some, None}
use Rattle.std.specs.Prelude.{slice_get, option_map, refl}
use Rattle.std.specs.Option.{option_map_or}
use Rattle.std.proofs.Common.{zero, suc, arith, ap, subst, ◌∙◌}
use Rattle.std.proofs.lemmas.Option.{slice_get_within}
use Rattle.bn_circuits.specs.Circuits.{clock}
use Rattle.bn_circuits.specs.declared.config.Config.{Config}
use Rattle.bn_farm.specs.Farms.{Tick, stepped, after_steps, at_board, ticked, play, ticks_of, own, alone, IsFarm}
use Rattle.bn_farm.specs.Farms.{FarmBoard, IsAdmitted, circuit_in, in_config}
use Rattle.bn_farm.specs.declared.event.Event.{Event}
use Rattle.bn_farm.specs.Undo.{other, steps_between, made_on, made, event_of, undoing, AllLawful}
use Rattle.bn_farm.proofs.BoardLemmas.{after_good}
use Rattle.bn_farm.proofs.FarmLemmas.{boards_are_apart, farms_stay}

length_on : (f : FarmBoard → FarmBoard) (i : ℕ) (bs : List FarmBoard) → length (at_board f i bs) ≡ length bs
length_on f i [] = refl
length_on f zero (b ∷ bs) = refl
length_on f (suc i) (b ∷ bs) = ap suc (length_on f i bs)

pub length_play : (farm : List FarmBoard) (es : List Tick) → length (play farm es) ≡ length farm
length_play farm [] = refl
length_play farm (e ∷ es) = length_play (ticked e farm) es ∙ length_on (after_steps e.forward 1) e.board farm

alone_circuit : (b : FarmBoard) (ss : List Bool) → alone b ss ≡ in_config b (alone b ss).spelling.config
alone_circuit b [] = refl
alone_circuit b (s ∷ ss) = alone_circuit (after_steps s 1 b) ss

pub keeps_circuit : (farm : List FarmBoard) (es : List Tick) (i : ℕ) (b : FarmBoard) → slice_get farm i ≡ Some b
    → (d : FarmBoard) × (slice_get (play farm es) i ≡ Some d) × (d ≡ in_config b d.spelling.config)
keeps_circuit farm es i b is = (
  alone b (own i es),
  boards_are_apart farm es i ∙ ap (option_map (λ x. alone x (own i es))) is,
  alone_circuit b (own i es),
)

all_append : (n : ℕ) (a b : List Event) → AllLawful n a → AllLawful n b → AllLawful n (a ++ b)
all_append n [] b x y = y
all_append n (e ∷ a) b x y = (x.0, all_append n a b x.1 y)

counted_bound : (f : Bool) (c d : Config) → c.steps ≤ clock → d.steps ≤ clock → steps_between f c d ≤ clock
counted_bound true c d before later = omega arith
counted_bound false c d before later = omega arith

made_bound : (e : Event) (b : FarmBoard) → IsAdmitted b → made_on e b ≤ clock
made_bound e b good = counted_bound e.forward b.spelling.config
    (stepped e.forward (circuit_in b) b.spelling.config e.count) good.config.in_time
    (after_good e.forward e.count b good).config.in_time

-- where a number was made there is a board, and the number is one that the clock counts
pub made_where : (e : Event) (farm : List FarmBoard) → IsFarm farm → 0 < made farm e
    → (made farm e ≤ clock) × (e.board < length farm)
made_where e farm good some_ = by_board (slice_get farm e.board) refl some_
  where
    by_board : (o : Option FarmBoard) → slice_get farm e.board ≡ o → 0 < option_map_or (made_on e) o 0
        → (option_map_or (made_on e) o 0 ≤ clock) × (e.board < length farm)
    by_board None is h = absurd (omega arith)
    by_board (Some b) is h = (made_bound e b (good e.board b is), slice_get_within farm e.board b is)

line_lawful : (f : Bool) (i n boards : ℕ) → (0 < n → (n ≤ clock) × (i < boards)) → AllLawful boards (event_of f i n)
line_lawful f i zero boards h = tt
line_lawful f i (suc n) boards h = (
  record {
    some_events = omega arith;
    few_events = (h (omega arith)).0;
    has_board = (h (omega arith)).1;
  },
  tt,
)

pub undoing_is_lawful : (farm : List FarmBoard) (schedule : List Event) → IsFarm farm
    → AllLawful (length farm) (undoing farm schedule)
undoing_is_lawful farm [] good = tt
undoing_is_lawful farm (e ∷ es) good =
    let next = play farm (ticks_of e) in
    let rest : AllLawful (length next) (undoing next es) = undoing_is_lawful next es (farms_stay farm (ticks_of e) good)
    in
    all_append (length farm) (undoing next es) (event_of (other e.forward) e.board (made farm e))
    (subst (λ n. AllLawful n (undoing next es)) (length_play farm (ticks_of e)) rest)
    (line_lawful (other e.forward) e.board (made farm e) (length farm) (made_where e farm good))
