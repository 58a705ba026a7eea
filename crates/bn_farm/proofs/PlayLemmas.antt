-- A farm played event by event.
use Rattle.std.specs.Prelude.{◌≡◌, ℕ, ◌+◌, ◌<◌, ◌≤◌, Bool, true, false, List, [], ◌∷◌, ◌++◌, length, map, take, reverse}
use Rattle.std.specs.Prelude.{not, Some, slice_get, slice_set, slice_index_or, option_map, refl}
use Rattle.std.specs.Option.{option_map_or}
use Rattle.std.proofs.Common.{zero, suc, arith, sym, ap, subst, ◌∙◌, length-append}
use Rattle.std.proofs.lemmas.List.{reverse-append}
use Rattle.std.proofs.lemmas.Option.{slice_get-get_or, slice_get-map}
use Rattle.bn_lists.specs.Runs.{Reaches}
use Rattle.bn_circuits.specs.Circuits.{Circuit, Goes, IsConfig}
use Rattle.bn_circuits.specs.Stepping.{back, run}
use Rattle.bn_circuits.specs.declared.config.Config.{Config}
use Rattle.bn_circuits.specs.RotaryNets.{rotary_circuit}
use Rattle.bn_farm.specs.Farms.{board_of, IsAdmitted, FarmBoard, circuit_in, in_config}
use Rattle.bn_netlist.specs.declared.net_config.NetConfig.{NetConfig}
use Rattle.bn_netlist.proofs.NetLemmas.{circuits-agree}
use Rattle.bn_farm.specs.declared.event.Event.{Event}
use Rattle.bn_farm.specs.Farms.{IsFarm, after_steps, at_board, farm_after, stepped, ticks}
use Rattle.bn_farm.specs.Playing.{AreOnBoards}
use Rattle.bn_farm.specs.Undo.{steps_between, event_of, made, made_on, other, undoing}
use Rattle.bn_farm.proofs.BoardLemmas.{after_good, way_back_counted, way_counted}
use Rattle.bn_farm.proofs.FarmLemmas.{on_good}
use Rattle.bn_farm.proofs.LawfulLemmas.{length_play}
use Rattle.bn_farm.proofs.UndoLemmas.{farm_more, undoing_more}

-- ---- one board

pub board_config : (b : NetConfig) → IsAdmitted (board_of b) → IsConfig (rotary_circuit b.net) b.config
board_config b admitted = subst (λ (k : Circuit). IsConfig k b.config) (sym (circuits-agree b)) admitted.config

abbrev with_config : NetConfig → Config → NetConfig
with_config b d = record { version = b.version; net = b.net; config = d; start = b.start; end = b.end }

pub played_on : (b : NetConfig) (f : Bool) (n : ℕ) (d : Config) → f ≡ true → d ≡ run (rotary_circuit b.net) b.config n
    → board_of (with_config b d) ≡ after_steps f n (board_of b)
played_on b f n d is ran =
    ap (in_config (board_of b)) (ran ∙ ap (λ (k : Circuit). run k b.config n) (circuits-agree b))
    ∙ ap (λ g. after_steps g n (board_of b)) (sym is)

pub played_back : (b : NetConfig) (f : Bool) (n : ℕ) (d : Config) → f ≡ false
    → d ≡ back (rotary_circuit b.net) b.config n → board_of (with_config b d) ≡ after_steps f n (board_of b)
played_back b f n d is ran =
    ap (in_config (board_of b)) (ran ∙ ap (λ (k : Circuit). back k b.config n) (circuits-agree b))
    ∙ ap (λ g. after_steps g n (board_of b)) (sym is)

pub counted_on : (k : Circuit) (f : Bool) (n : ℕ) (c d : Config) → f ≡ true → Reaches (Goes k) n c d
    → n ≡ steps_between f c d
counted_on k f n c d is way = sym (way_counted k n c d way) ∙ ap (λ g. steps_between g c d) (sym is)

pub counted_back : (k : Circuit) (f : Bool) (n : ℕ) (c d : Config) → f ≡ false → Reaches (Goes k) n d c
    → n ≡ steps_between f c d
counted_back k f n c d is way = sym (way_back_counted k n c d way) ∙ ap (λ g. steps_between g c d) (sym is)

-- ---- lists

abbrev spelled : List NetConfig → List FarmBoard
spelled bs = map board_of bs

set_at : (bs : List NetConfig) (i : ℕ) (old new : NetConfig) (change : FarmBoard → FarmBoard)
    → slice_get bs i ≡ Some old → board_of new ≡ change (board_of old)
    → spelled (slice_set bs i new) ≡ at_board change i (spelled bs)
set_at [] i old new change is same = refl
set_at (b ∷ bs) zero old new change is same =
    let first : b ≡ old = cc in
    ap (λ x. x ∷ spelled bs) (same ∙ ap (λ (x : NetConfig). change (board_of x)) (sym first))
set_at (b ∷ bs) (suc i) old new change is same = ap (λ xs. board_of b ∷ xs) (set_at bs i old new change is same)

take_more : (es : List Event) (n : ℕ) (e : Event) → slice_get es n ≡ Some e → take (n + 1) es ≡ take n es ++ e ∷ []
take_more [] n e is = absurd (cc)
take_more (x ∷ es) zero e is = let first : x ≡ e = cc in ap (λ y. y ∷ []) first
take_more (x ∷ es) (suc n) e is =
    let sum : suc n + 1 ≡ suc (n + 1) = omega arith in
    ap (λ m. take m (x ∷ es)) sum ∙ ap (λ ys. x ∷ ys) (take_more es n e is)

event_there : (k : ℕ) (es : List Event) (n : ℕ) (e : Event) → AreOnBoards k es → slice_get es n ≡ Some e → e.board < k
event_there k [] n e all is = absurd (cc)
event_there k (x ∷ es) zero e all is = let first : x ≡ e = cc in subst (λ (y : Event). y.board < k) first all.0
event_there k (x ∷ es) (suc n) e all is = event_there k es n e all.1 is

length-map : (bs : List NetConfig) → length (spelled bs) ≡ length bs
length-map [] = refl
length-map (b ∷ bs) = ap (λ n. suc n) (length-map bs)

-- ---- what the loop keeps

-- of a schedule so many events were played, and the list undoes them, the last event first
pub record IsPlayed (start : List FarmBoard) (es : List Event) (n : ℕ) (boards : List NetConfig) (undo : List Event) :
    Type 0 where
  pub farm : IsFarm (spelled boards)
  pub now : spelled boards ≡ farm_after start (take n es)
  pub undo_is : reverse undo ≡ undoing start (take n es)
  pub few : length undo ≤ n

-- the board of the next event is there
pub board_there : (start : List FarmBoard) (es : List Event) (n : ℕ) (boards : List NetConfig) (undo : List Event)
    (e : Event) → AreOnBoards (length start) es → IsPlayed start es n boards undo → slice_get es n ≡ Some e
    → e.board < length boards
board_there start es n boards undo e all h is =
    let low = event_there (length start) es n e all is in
    let same : length (spelled boards) ≡ length start = ap (λ (xs : List FarmBoard). length xs) h.now
    ∙ length_play start (ticks (take n es)) in
    let count = length-map boards in
    omega (arith, low, same, count)

pub board_admitted : (start : List FarmBoard) (es : List Event) (n : ℕ) (boards : List NetConfig) (undo : List Event)
    (i : ℕ) (b : NetConfig) → IsPlayed start es n boards undo → slice_get boards i ≡ Some b → IsAdmitted (board_of b)
board_admitted start es n boards undo i b h is = h.farm i (board_of b)
    (slice_get-map board_of boards i ∙ ap (option_map board_of) is)

module _ (start : List FarmBoard) (es : List Event) (n : ℕ) (boards : List NetConfig) (undo : List Event)
    (h : IsPlayed start es n boards undo) (e : Event) (is : slice_get es n ≡ Some e)
    (old new : NetConfig) (at : slice_get boards e.board ≡ Some old)
    (ran : board_of new ≡ after_steps e.forward e.count (board_of old)) where
  abbrev there : List NetConfig
  there = slice_set boards e.board new

  changed : spelled there ≡ at_board (after_steps e.forward e.count) e.board (spelled boards)
  changed = set_at boards e.board old new (after_steps e.forward e.count) at ran

  farm_next : spelled there ≡ farm_after start (take (n + 1) es)
  farm_next =
      changed ∙ ap (at_board (after_steps e.forward e.count) e.board) h.now ∙ sym (farm_more start (take n es) e)
      ∙ ap (farm_after start) (sym (take_more es n e is))

  farm_good : IsFarm (spelled there)
  farm_good = subst IsFarm (sym changed) (on_good (after_steps e.forward e.count) e.board (spelled boards)
      (after_good e.forward e.count) h.farm)

  -- how many steps were made
  made_here : made (farm_after start (take n es)) e ≡ steps_between e.forward old.config new.config
  made_here =
      let found : slice_get (spelled boards) e.board ≡ Some (board_of old) =
      slice_get-map board_of boards e.board ∙ ap (option_map board_of) at in
      let config : new.config ≡ stepped e.forward (circuit_in (board_of old)) old.config e.count =
      ap (λ (s : FarmBoard). s.spelling.config) ran in
      ap (λ f. made f e) (sym h.now) ∙ ap (λ o. option_map_or (made_on e) o 0) found
      ∙ ap (steps_between e.forward old.config) (sym config)

  undo_next : (k : ℕ) → k ≡ steps_between e.forward old.config new.config
      → undoing start (take (n + 1) es) ≡ event_of (other e.forward) e.board k ++ undoing start (take n es)
  undo_next k count =
      ap (undoing start) (take_more es n e is) ∙ undoing_more start (take n es) e
      ∙ ap (λ m. event_of (other e.forward) e.board m ++ undoing start (take n es)) (made_here ∙ sym count)

  -- an event that made no step
  pub none_made : (k : ℕ) → k ≡ steps_between e.forward old.config new.config → (0 < k → ⊥)
      → IsPlayed start es (n + 1) there undo
  none_made k count none = record {
    farm = farm_good;
    now = farm_next;
    undo_is = h.undo_is ∙ sym (undo_next k count ∙ ap (λ m. event_of (other e.forward) e.board m
        ++ undoing start (take n es)) zero_is);
    few = let few = h.few in omega arith;
  }
    where
      zero_is : k ≡ 0
      zero_is = by_number k none
        where
          by_number : (m : ℕ) → (0 < m → ⊥) → m ≡ 0
          by_number zero none = refl
          by_number (suc m) none = absurd (none (omega arith))

  -- an event that made some steps
  pub some_made : (k : ℕ) (x : Event) → k ≡ steps_between e.forward old.config new.config → 0 < k
      → x.forward ≡ other e.forward → x.board ≡ e.board → x.count ≡ k → IsPlayed start es (n + 1) there (undo ++ x ∷ [])
  some_made k x count some forward board number = record {
    farm = farm_good;
    now = farm_next;
    undo_is = reverse-append undo (x ∷ []) ∙ (λ i. same k some number i ∷ h.undo_is i)
        ∙ sym (undo_next k count ∙ by_number k some);
    few = let few = h.few in let long = length-append undo (x ∷ []) in omega arith;
  }
    where
      undone : ℕ → Event
      undone m = record { forward = other e.forward; board = e.board; count = m }

      same : (m : ℕ) → 0 < m → x.count ≡ m → x ≡ undone m
      same m some number = λ i. let y : Event = record { forward = forward i; board = board i; count = number i } in y

      by_number : (m : ℕ) → 0 < m → event_of (other e.forward) e.board m ++ undoing start (take n es)
          ≡ undone m ∷ undoing start (take n es)
      by_number zero some = absurd (omega arith)
      by_number (suc m) some = refl

-- ---- what the program reads

pub event_at : (es : List Event) (n : ℕ) (d : Event) → n < length es → slice_get es n ≡ Some (slice_index_or es n d)
event_at es n d low = slice_get-get_or es n d low

pub board_at : (boards : List NetConfig) (i : ℕ) (b : NetConfig) → i < length boards → b ≡ slice_index_or boards i b
    → slice_get boards i ≡ Some b
board_at boards i b low is = slice_get-get_or boards i b low ∙ ap (λ (x : NetConfig). Some x) (sym is)

pub not_other : (f : Bool) → not f ≡ other f
not_other true = refl
not_other false = refl
