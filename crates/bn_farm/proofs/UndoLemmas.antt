-- The undoing schedule.
use Rattle.std.specs.Prelude.{◌≡◌, ℕ, Bool, List, [], ◌∷◌, ◌++◌, Option, Some, None, slice_get, option_map, refl}
use Rattle.std.specs.Option.{option_map_or}
use Rattle.std.proofs.Common.{zero, suc, sym, ap, subst, ◌∙◌, append_assoc}
use Rattle.bn_farm.specs.Farms.{Tick, stepped, after_steps, at_board, ticked, play, ticks_of, ticks, IsFarm, farm_after}
use Rattle.bn_farm.specs.Farms.{FarmBoard, IsAdmitted, circuit_in}
use Rattle.bn_farm.specs.declared.event.Event.{Event}
use Rattle.bn_farm.specs.Undo.{other, steps_between, made_on, made, event_of, undoing, moving}
use Rattle.bn_farm.proofs.BoardLemmas.{after_zero, after_back, counted_turned, other_twice}
use Rattle.bn_farm.proofs.FarmLemmas.{get_here, on_twice, on_kept, line_run, lines_are_runs, farms_stay}

pub play_append : (farm : List FarmBoard) (a b : List Tick) → play farm (a ++ b) ≡ play (play farm a) b
play_append farm [] b = refl
play_append farm (e ∷ a) b = play_append (ticked e farm) a b

pub after_line : (farm : List FarmBoard) (e : Event) (es : List Event)
    → farm_after farm (e ∷ es) ≡ farm_after (play farm (ticks_of e)) es
after_line farm e es = play_append farm (ticks_of e) (ticks es)

pub after_append : (farm : List FarmBoard) (a b : List Event)
    → farm_after farm (a ++ b) ≡ farm_after (farm_after farm a) b
after_append farm [] b = refl
after_append farm (e ∷ a) b =
    after_line farm e (a ++ b) ∙ after_append (play farm (ticks_of e)) a b
    ∙ ap (λ f. farm_after f b) (sym (after_line farm e a))

pub undoing_append : (farm : List FarmBoard) (a b : List Event)
    → undoing farm (a ++ b) ≡ undoing (farm_after farm a) b ++ undoing farm a
undoing_append farm [] b = append_nil (undoing farm b)
  where
    append_nil : (xs : List Event) → xs ≡ xs ++ []
    append_nil [] = refl
    append_nil (x ∷ xs) = ap (λ ys. x ∷ ys) (append_nil xs)
undoing_append farm (e ∷ a) b =
    let next = play farm (ticks_of e) in
    let u = event_of (other e.forward) e.board (made farm e) in
    ap (λ xs. xs ++ u) (undoing_append next a b) ∙ append_assoc (undoing (farm_after next a) b) (undoing next a) u
    ∙ ap (λ f. undoing f b ++ (undoing next a ++ u)) (sym (after_line farm e a))

-- a line of n ticks, or none for none, is a run of n steps
pub line_of_run : (f : Bool) (i n : ℕ) (farm : List FarmBoard)
    → farm_after farm (event_of f i n) ≡ at_board (after_steps f n) i farm
line_of_run f i zero farm = sym (on_kept (after_steps f 0) i farm (λ b _. after_zero f b))
line_of_run f i (suc n) farm = after_line farm (record { forward = f; board = i; count = suc n }) []
    ∙ line_run f i (suc n) farm

made_at : (e : Event) (o : Option FarmBoard) (b : FarmBoard) → o ≡ Some b → option_map_or (made_on e) o 0 ≡ made_on e b
made_at e o b is = rw is refl

-- the line undone: the board is as it was
pub line_undone : (farm : List FarmBoard) (e : Event) → IsFarm farm
    → farm_after (play farm (ticks_of e)) (event_of (other e.forward) e.board (made farm e)) ≡ farm
line_undone farm e good =
    ap (λ f. farm_after f (event_of (other e.forward) e.board (made farm e))) (lines_are_runs farm e)
    ∙ line_of_run (other e.forward) e.board (made farm e) (at_board (after_steps e.forward e.count) e.board farm)
    ∙ on_twice (after_steps e.forward e.count) (after_steps (other e.forward) (made farm e)) e.board farm
    ∙ on_kept (λ b. after_steps (other e.forward) (made farm e) (after_steps e.forward e.count b)) e.board farm
    (λ b is. ap (λ n. after_steps (other e.forward) n (after_steps e.forward e.count b))
    (made_at e (slice_get farm e.board) b is) ∙ after_back e.forward e.count b (good e.board b is))

pub undoing_restores : (farm : List FarmBoard) (schedule : List Event) → IsFarm farm
    → farm_after (farm_after farm schedule) (undoing farm schedule) ≡ farm
undoing_restores farm [] good = refl
undoing_restores farm (e ∷ es) good =
    let next = play farm (ticks_of e) in
    let u = event_of (other e.forward) e.board (made farm e) in
    ap (λ f. farm_after f (undoing next es ++ u)) (after_line farm e es)
    ∙ after_append (farm_after next es) (undoing next es) u
    ∙ ap (λ f. farm_after f u) (undoing_restores next es (farms_stay farm (ticks_of e) good))
    ∙ line_undone farm e good

-- the number of steps made the other way is the same
turned_by : (f : Bool) (i n : ℕ) (farm : List FarmBoard) → ((b : FarmBoard) → slice_get farm i ≡ Some b
    → steps_between f b.spelling.config (stepped f (circuit_in b) b.spelling.config n) ≡ n)
    → (slice_get farm i ≡ None → n ≡ 0) → made farm (record { forward = f; board = i; count = n }) ≡ n
turned_by f i n farm all none = by_board (slice_get farm i) refl
  where
    by_board : (o : Option FarmBoard) → slice_get farm i ≡ o → option_map_or
        (made_on (record { forward = f; board = i; count = n })) o 0 ≡ n
    by_board None is = sym (none is)
    by_board (Some b) is = all b is

undoing_line : (f : Bool) (i n : ℕ) (farm : List FarmBoard) → made farm (record { forward = f; board = i; count = n })
    ≡ n → undoing farm (event_of f i n) ≡ event_of (other f) i n
undoing_line f i zero farm all = refl
undoing_line f i (suc n) farm all = ap (event_of (other f) i) all

map_some : (f : FarmBoard → FarmBoard) (o : Option FarmBoard) (b : FarmBoard) → option_map f o ≡ Some b
    → (a : FarmBoard) × (o ≡ Some a) × (f a ≡ b)
map_some f None b e = absurd (cc)
map_some f (Some a) b e = (a, refl, cc)

map_none : (f : FarmBoard → FarmBoard) (e : Event) (o : Option FarmBoard) → option_map f o ≡ None
    → option_map_or (made_on e) o 0 ≡ 0
map_none f e None is = refl
map_none f e (Some a) is = absurd (cc)

undone_count : (e : Event) (a : FarmBoard) → IsAdmitted a → steps_between (other e.forward)
    (after_steps e.forward e.count a).spelling.config (stepped (other e.forward) (circuit_in a)
    (after_steps e.forward e.count a).spelling.config (made_on e a)) ≡ made_on e a
undone_count e a good =
    let d = (after_steps e.forward e.count a).spelling.config in
    let there = ap (λ (x : FarmBoard). x.spelling.config) (after_back e.forward e.count a good) in
    ap (steps_between (other e.forward) d) there ∙ counted_turned e.forward d a.spelling.config

line_made : (farm : List FarmBoard) (e : Event) → IsFarm farm → (b : FarmBoard)
    → slice_get (at_board (after_steps e.forward e.count) e.board farm) e.board ≡ Some b
    → steps_between (other e.forward) b.spelling.config (stepped (other e.forward) (circuit_in b) b.spelling.config
    (made farm e)) ≡ made farm e
line_made farm e good b is =
    let was = map_some (after_steps e.forward e.count) (slice_get farm e.board) b
    (sym (get_here (after_steps e.forward e.count) e.board farm) ∙ is) in
    let number : made farm e ≡ made_on e was.0 = made_at e (slice_get farm e.board) was.0 was.1 in
    subst (λ (x : FarmBoard). steps_between (other e.forward) x.spelling.config
    (stepped (other e.forward) (circuit_in x) x.spelling.config (made farm e)) ≡ made farm e) was.2
    (subst (λ n. steps_between (other e.forward) (after_steps e.forward e.count was.0).spelling.config
    (stepped (other e.forward) (circuit_in was.0) (after_steps e.forward e.count was.0).spelling.config n) ≡ n)
    (sym number) (undone_count e was.0 (good e.board was.0 was.1)))

line_twice : (farm : List FarmBoard) (e : Event) → IsFarm farm
    → undoing (play farm (ticks_of e)) (event_of (other e.forward) e.board (made farm e))
    ≡ event_of e.forward e.board (made farm e)
line_twice farm e good =
    let there = at_board (after_steps e.forward e.count) e.board farm in
    let all = turned_by (other e.forward) e.board (made farm e) there (line_made farm e good)
    (λ none. map_none (after_steps e.forward e.count) e (slice_get farm e.board)
    (sym (get_here (after_steps e.forward e.count) e.board farm) ∙ none)) in
    ap (λ f. undoing f (event_of (other e.forward) e.board (made farm e))) (lines_are_runs farm e)
    ∙ undoing_line (other e.forward) e.board (made farm e) there all
    ∙ ap (λ s. event_of s e.board (made farm e)) (other_twice e.forward)

pub undoing_twice : (farm : List FarmBoard) (schedule : List Event) → IsFarm farm
    → undoing (farm_after farm schedule) (undoing farm schedule) ≡ moving farm schedule
undoing_twice farm [] good = refl
undoing_twice farm (e ∷ es) good =
    let next = play farm (ticks_of e) in
    let u = event_of (other e.forward) e.board (made farm e) in
    let stays = farms_stay farm (ticks_of e) good in
    ap (λ f. undoing f (undoing next es ++ u)) (after_line farm e es)
    ∙ undoing_append (farm_after next es) (undoing next es) u
    ∙ ap (λ f. undoing f u ++ undoing (farm_after next es) (undoing next es)) (undoing_restores next es stays)
    ∙ ap (λ xs. undoing next u ++ xs) (undoing_twice next es stays)
    ∙ ap (λ xs. xs ++ moving next es) (line_twice farm e good)

-- one line more at the end: what a loop over the lines keeps
pub farm_more : (farm : List FarmBoard) (a : List Event) (e : Event)
    → farm_after farm (a ++ (e ∷ [])) ≡ at_board (after_steps e.forward e.count) e.board (farm_after farm a)
farm_more farm a e = after_append farm a (e ∷ []) ∙ after_line (farm_after farm a) e []
    ∙ lines_are_runs (farm_after farm a) e

pub undoing_more : (farm : List FarmBoard) (a : List Event) (e : Event)
    → undoing farm (a ++ (e ∷ [])) ≡ event_of (other e.forward) e.board (made (farm_after farm a) e) ++ undoing farm a
undoing_more farm a e = undoing_append farm a (e ∷ [])
