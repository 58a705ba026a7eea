-- One board: runs forward and back, and how each undoes the other.
use Rattle.std.specs.Prelude.{◌≡◌, ℕ, ◌+◌, Bool, true, false, Option, Some, None, refl}
use Rattle.std.proofs.Common.{zero, suc, arith, sym, ap, subst, ◌∙◌}
use Rattle.bn_lists.specs.Runs.{Reaches}
use Rattle.bn_circuits.specs.Circuits.{Circuit, IsCircuit, IsConfig, Goes}
use Rattle.bn_circuits.specs.Stepping.{run, back, retreat, previous}
use Rattle.bn_circuits.proofs.StepLemmas.{previous-Goes, previous-IsConfig}
use Rattle.bn_circuits.proofs.RunLemmas.{run_makes, run-zero, back-zero, Reaches-run, Reaches-back, Reaches-IsConfig}
use Rattle.bn_circuits.proofs.RunLemmas.{run_composes, back_composes}
use Rattle.bn_circuits.specs.declared.config.Config.{Config}
use Rattle.bn_farm.specs.Farms.{stepped, after_steps, FarmBoard, IsAdmitted, circuit_in, in_config}
use Rattle.bn_netlist_laws.proofs.VersionLemmas.{spellings-move}
use Rattle.bn_farm.specs.Undo.{other, steps_between}

module _ (k : Circuit) where
  -- each step is counted
  pub steps_count : (n : ℕ) (c d : Config) → Reaches (Goes k) n c d → d.steps ≡ c.steps + n
  steps_count zero c d way = let e : d.steps ≡ c.steps = ap (λ (x : Config). x.steps) (sym way) in omega arith
  steps_count (suc n) c d way =
      let rest = steps_count n way.0 d way.2 in
      let once = way.1.steps in
      omega arith

  back-suc : (c : Config) (t : ℕ) → back k c (suc t) ≡ retreat k (back k c t)
  unfolding back
  back-suc c t = refl

  -- what a run back comes to: from there some number of steps lead on to the start
  pub record Returns (c d : Config) : Type 0 where
    pub number : ℕ
    pub way : Reaches (Goes k) number d c
    pub good : IsConfig k d

  returns_more : IsCircuit k → (c : Config) (t : ℕ) (o : Option Config) → previous k (back k c t) ≡ o
      → Returns c (back k c t) → Returns c (back k c (suc t))
  returns_more circuit c t None none before =
      let same : back k c (suc t) ≡ back k c t = back-suc c t ∙ rw none refl in
      subst (Returns c) (sym same) before
  returns_more circuit c t (Some b) some before =
      let is : back k c (suc t) ≡ b = back-suc c t ∙ rw some refl in
      let goes : Goes k b (back k c t) = previous-Goes k circuit b (back k c t) before.good some in
      let there : Returns c b = record {
        number = suc before.number;
        way = (back k c t, goes, before.way);
        good = previous-IsConfig k circuit b (back k c t) before.good goes;
      } in
      subst (Returns c) (sym is) there

  pub back_returns : IsCircuit k → (c : Config) → IsConfig k c → (t : ℕ) → Returns c (back k c t)
  back_returns circuit c good zero = record {
    number = 0;
    way = back-zero k c;
    good = subst (IsConfig k) (sym (back-zero k c)) good;
  }
  back_returns circuit c good (suc t) = returns_more circuit c t (previous k (back k c t)) refl
      (back_returns circuit c good t)

  -- the number of steps made, forward or back
  pub forward_counted : (c : Config) (n : ℕ) → Reaches (Goes k) (steps_between true c (run k c n)) c (run k c n)
  forward_counted c n =
      let m = run_makes k c n in
      let sum = steps_count m.made c (run k c n) m.reaches in
      let same : m.made ≡ steps_between true c (run k c n) = omega arith in
      subst (λ i. Reaches (Goes k) i c (run k c n)) same m.reaches

  pub back_counted : IsCircuit k → (c : Config) → IsConfig k c → (n : ℕ)
      → Reaches (Goes k) (steps_between false c (back k c n)) (back k c n) c
  back_counted circuit c good n =
      let m = back_returns circuit c good n in
      let sum = steps_count m.number (back k c n) c m.way in
      let same : m.number ≡ steps_between false c (back k c n) = omega arith in
      subst (λ i. Reaches (Goes k) i (back k c n) c) same m.way

  -- the number of steps of any way is what is counted
  pub way_counted : (n : ℕ) (c d : Config) → Reaches (Goes k) n c d → steps_between true c d ≡ n
  way_counted n c d way = let sum = steps_count n c d way in omega arith

  pub way_back_counted : (n : ℕ) (c d : Config) → Reaches (Goes k) n d c → steps_between false c d ≡ n
  way_back_counted n c d way = let sum = steps_count n d c way in omega arith

  -- as many steps the other way lead back
  pub stepped_back : IsCircuit k → (f : Bool) (c : Config) → IsConfig k c → (n : ℕ)
      → stepped (other f) k (stepped f k c n) (steps_between f c (stepped f k c n)) ≡ c
  stepped_back circuit true c good n = Reaches-back k circuit (steps_between true c (run k c n)) c (run k c n)
      (forward_counted c n)
  stepped_back circuit false c good n = Reaches-run k (steps_between false c (back k c n)) (back k c n) c
      (back_counted circuit c good n)

  pub stepped_good : IsCircuit k → (f : Bool) (c : Config) → IsConfig k c → (n : ℕ) → IsConfig k (stepped f k c n)
  stepped_good circuit true c good n = let m = run_makes k c n in Reaches-IsConfig k circuit m.made c (run k c n) good
      m.reaches
  stepped_good circuit false c good n = (back_returns circuit c good n).good

  pub stepped_zero : (f : Bool) (c : Config) → stepped f k c 0 ≡ c
  stepped_zero true c = run-zero k c
  stepped_zero false c = back-zero k c

  pub stepped_more : (f : Bool) (c : Config) (n : ℕ) → stepped f k c (suc n) ≡ stepped f k (stepped f k c 1) n
  stepped_more true c n = let sum : suc n ≡ 1 + n = omega arith in run_composes k c 1 n (suc n) sum
  stepped_more false c n = let sum : suc n ≡ 1 + n = omega arith in back_composes k c 1 n (suc n) sum

-- the same steps are counted on the way back
pub counted_turned : (f : Bool) (c d : Config) → steps_between (other f) c d ≡ steps_between f d c
counted_turned true c d = refl
counted_turned false c d = refl

pub other_twice : (f : Bool) → other (other f) ≡ f
other_twice true = refl
other_twice false = refl

pub after_good : (f : Bool) (n : ℕ) (b : FarmBoard) → IsAdmitted b → IsAdmitted (after_steps f n b)
after_good f n b good = spellings-move b.version b.spelling (stepped f (circuit_in b) b.spelling.config n) good
    (stepped_good (circuit_in b) good.circuit f b.spelling.config good.config n)

pub same_board : (b : FarmBoard) (c : Config) → c ≡ b.spelling.config → in_config b c ≡ b
same_board b c e = ap (in_config b) e

pub after_zero : (f : Bool) (b : FarmBoard) → after_steps f 0 b ≡ b
after_zero f b = same_board b (stepped f (circuit_in b) b.spelling.config 0)
    (stepped_zero (circuit_in b) f b.spelling.config)

pub after_more : (f : Bool) (n : ℕ) (b : FarmBoard) → after_steps f (suc n) b ≡ after_steps f n (after_steps f 1 b)
after_more f n b = ap (in_config b) (stepped_more (circuit_in b) f b.spelling.config n)

-- as many steps the other way restore the board
pub after_back : (f : Bool) (n : ℕ) (b : FarmBoard) → IsAdmitted b
    → after_steps (other f) (steps_between f b.spelling.config (stepped f (circuit_in b) b.spelling.config n))
    (after_steps f n b) ≡ b
after_back f n b good = same_board b (stepped (other f) (circuit_in b) (stepped f (circuit_in b) b.spelling.config n)
    (steps_between f b.spelling.config (stepped f (circuit_in b) b.spelling.config n)))
    (stepped_back (circuit_in b) good.circuit f b.spelling.config good.config n)
