-- Farms: what ticks do to each board.
use Rattle.std.specs.Prelude.{◌≡◌, ◌≢◌, ℕ, Bool, List, [], ◌∷◌, Option, Some, None, replicate, slice_get, option_map}
use Rattle.std.specs.Prelude.{refl}
use Rattle.std.proofs.Common.{zero, suc, sym, ap, subst, ◌∙◌, inl, inr}
use Rattle.std.proofs.lemmas.Bool.Decides.{eqb_tells}
use Rattle.bn_farm.specs.Farms.{Tick, tick, after_steps, at_board, ticked, play, ticks_of, ticks, own, alone, IsFarm}
use Rattle.bn_farm.specs.Farms.{farm_after, FarmBoard, IsAdmitted}
use Rattle.bn_farm.specs.declared.event.Event.{Event}
use Rattle.bn_farm.proofs.BoardLemmas.{after_zero, after_more, after_good}

pub get_here : (f : FarmBoard → FarmBoard) (i : ℕ) (bs : List FarmBoard)
    → slice_get (at_board f i bs) i ≡ option_map f (slice_get bs i)
get_here f i [] = refl
get_here f zero (b ∷ bs) = refl
get_here f (suc i) (b ∷ bs) = get_here f i bs

pub get_there : (f : FarmBoard → FarmBoard) (i j : ℕ) (bs : List FarmBoard) → j ≢ i
    → slice_get (at_board f i bs) j ≡ slice_get bs j
get_there f i j [] h = refl
get_there f zero zero (b ∷ bs) h = absurd (h refl)
get_there f zero (suc j) (b ∷ bs) h = refl
get_there f (suc i) zero (b ∷ bs) h = refl
get_there f (suc i) (suc j) (b ∷ bs) h = get_there f i j bs (λ e. h (ap suc e))

-- changes of one board that come to the same
pub on_same : (f g : FarmBoard → FarmBoard) (i : ℕ) (bs : List FarmBoard) → ((b : FarmBoard) → f b ≡ g b)
    → at_board f i bs ≡ at_board g i bs
on_same f g i [] e = refl
on_same f g zero (b ∷ bs) e = ap (λ x. x ∷ bs) (e b)
on_same f g (suc i) (b ∷ bs) e = ap (λ xs. b ∷ xs) (on_same f g i bs e)

pub on_twice : (f g : FarmBoard → FarmBoard) (i : ℕ) (bs : List FarmBoard)
    → at_board g i (at_board f i bs) ≡ at_board (λ b. g (f b)) i bs
on_twice f g i [] = refl
on_twice f g zero (b ∷ bs) = refl
on_twice f g (suc i) (b ∷ bs) = ap (λ xs. b ∷ xs) (on_twice f g i bs)

-- a change that changes nothing
pub on_kept : (f : FarmBoard → FarmBoard) (i : ℕ) (bs : List FarmBoard)
    → ((b : FarmBoard) → slice_get bs i ≡ Some b → f b ≡ b) → at_board f i bs ≡ bs
on_kept f i [] e = refl
on_kept f zero (b ∷ bs) e = ap (λ x. x ∷ bs) (e b refl)
on_kept f (suc i) (b ∷ bs) e = ap (λ xs. b ∷ xs) (on_kept f i bs e)

-- ---- lines

pub line_run : (f : Bool) (i n : ℕ) (farm : List FarmBoard) → play farm (replicate n (tick f i))
    ≡ at_board (after_steps f n) i farm
line_run f i zero farm = sym (on_kept (after_steps f 0) i farm (λ b _. after_zero f b))
line_run f i (suc n) farm =
    line_run f i n (at_board (after_steps f 1) i farm) ∙ on_twice (after_steps f 1) (after_steps f n) i farm
    ∙ on_same (λ b. after_steps f n (after_steps f 1 b)) (after_steps f (suc n)) i farm
    (λ b. sym (after_more f n b))

pub lines_are_runs : (farm : List FarmBoard) (e : Event) → play farm (ticks_of e)
    ≡ at_board (after_steps e.forward e.count) e.board farm
lines_are_runs farm e = line_run e.forward e.board e.count farm

-- ---- boards are apart

map_twice : (f g : FarmBoard → FarmBoard) (o : Option FarmBoard)
    → option_map g (option_map f o) ≡ option_map (λ b. g (f b)) o
map_twice f g None = refl
map_twice f g (Some b) = refl

map_same : (o : Option FarmBoard) → o ≡ option_map (λ b. b) o
map_same None = refl
map_same (Some b) = refl

pub boards_are_apart : (farm : List FarmBoard) (es : List Tick) (i : ℕ)
    → slice_get (play farm es) i ≡ option_map (λ b. alone b (own i es)) (slice_get farm i)
boards_are_apart farm [] i = map_same (slice_get farm i)
boards_are_apart farm (e ∷ es) i = boards_are_apart (ticked e farm) es i ∙ elim (eqb_tells e.board i) [
  | inl same ↦
      (let seen : slice_get (ticked e farm) i ≡ option_map (after_steps e.forward 1) (slice_get farm i) = subst
      (λ j. slice_get (at_board (after_steps e.forward 1) j farm) i
      ≡ option_map (after_steps e.forward 1) (slice_get farm i)) (sym same.1)
      (get_here (after_steps e.forward 1) i farm) in
      let signs : own i (e ∷ es) ≡ e.forward ∷ own i es = rw same.0 refl in
      ap (option_map (λ b. alone b (own i es))) seen ∙ map_twice (after_steps e.forward 1) (λ b. alone b (own i es))
      (slice_get farm i) ∙ ap (λ ss. option_map (λ b. alone b ss) (slice_get farm i)) (sym signs))
  | inr apart ↦
      (let seen : slice_get (ticked e farm) i ≡ slice_get farm i = get_there (after_steps e.forward 1) e.board i farm
      (λ x. apart.1 (sym x)) in
      let signs : own i (e ∷ es) ≡ own i es = rw apart.0 refl in
      ap (option_map (λ b. alone b (own i es))) seen ∙ ap (λ ss. option_map (λ b. alone b ss) (slice_get farm i))
      (sym signs))
]

-- lists with the same at each place are the same
some_same : (a b : FarmBoard) → Some a ≡ Some b → a ≡ b
some_same a b e = cc

pub same_lists : (xs ys : List FarmBoard) → ((i : ℕ) → slice_get xs i ≡ slice_get ys i) → xs ≡ ys
same_lists [] [] h = refl
same_lists [] (y ∷ ys) h = let e : None ≡ Some y = h 0 in absurd (cc)
same_lists (x ∷ xs) [] h = let e : Some x ≡ None = h 0 in absurd (cc)
same_lists (x ∷ xs) (y ∷ ys) h =
    let first : x ≡ y = some_same x y (h 0) in
    let rest : xs ≡ ys = same_lists xs ys (λ i. h (suc i)) in
    ap (λ v. v ∷ xs) first ∙ ap (λ vs. y ∷ vs) rest

map_by : (f g : FarmBoard → FarmBoard) (o : Option FarmBoard) → ((b : FarmBoard) → o ≡ Some b → f b ≡ g b)
    → option_map f o ≡ option_map g o
map_by f g None e = refl
map_by f g (Some b) e = ap Some (e b refl)

pub order_is_free : (farm : List FarmBoard) (first second : List Event)
    → ((i : ℕ) (b : FarmBoard) → slice_get farm i ≡ Some b → own i (ticks first) ≡ own i (ticks second))
    → farm_after farm first ≡ farm_after farm second
order_is_free farm first second same =
    same_lists (farm_after farm first) (farm_after farm second)
    (λ i. boards_are_apart farm (ticks first) i ∙ map_by (λ b. alone b (own i (ticks first)))
    (λ b. alone b (own i (ticks second))) (slice_get farm i) (λ b is. ap (alone b) (same i b is))
    ∙ sym (boards_are_apart farm (ticks second) i))

-- ---- boards stay boards

good_map : (f : FarmBoard → FarmBoard) (o : Option FarmBoard) → ((b : FarmBoard) → IsAdmitted b → IsAdmitted (f b))
    → ((b : FarmBoard) → o ≡ Some b → IsAdmitted b) → (b : FarmBoard) → option_map f o ≡ Some b → IsAdmitted b
good_map f None keeps good b e = absurd (cc)
good_map f (Some a) keeps good b e = subst IsAdmitted (some_same (f a) b e) (keeps a (good a refl))

pub on_good : (f : FarmBoard → FarmBoard) (i : ℕ) (farm : List FarmBoard)
    → ((b : FarmBoard) → IsAdmitted b → IsAdmitted (f b)) → IsFarm farm → IsFarm (at_board f i farm)
on_good f i farm keeps good j b is = elim (eqb_tells j i) [
  | inl same ↦
      (let here : slice_get (at_board f i farm) i ≡ Some b = subst (λ n. slice_get (at_board f i farm) n ≡ Some b)
      same.1 is in
      good_map f (slice_get farm i) keeps (good i) b (sym (get_here f i farm) ∙ here))
  | inr apart ↦ good j b (sym (get_there f i j farm apart.1) ∙ is)
]

pub farms_stay : (farm : List FarmBoard) (es : List Tick) → IsFarm farm → IsFarm (play farm es)
farms_stay farm [] good = good
farms_stay farm (e ∷ es) good = farms_stay (ticked e farm) es
    (on_good (after_steps e.forward 1) e.board farm (after_good e.forward 1) good)
