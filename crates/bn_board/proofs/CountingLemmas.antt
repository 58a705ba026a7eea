-- The moments of a run, counted step by step.
use Rattle.std.specs.Prelude.{◌≡◌, ℕ, ◌+◌, ◌-◌, ◌<◌, ◌≤◌, Bool, true, false, not, ◌&&◌, ◌||◌, ◌==◌, nat_lt, is_some}
use Rattle.std.specs.Prelude.{List, [], ◌∷◌, ◌++◌, Option, None, refl}
use Rattle.std.proofs.Common.{zero, suc, arith, sym, ap, subst, ◌∙◌, inl, inr, append-nil}
use Rattle.bn_lists.specs.Runs.{Reaches, Passes}
use Rattle.bn_lists.proofs.RunsLemmas.{passes_run, runs_join}
use Rattle.bn_circuits.proofs.RunPartLemmas.{passes_weaker}
use Rattle.bn_circuits.specs.Circuits.{Circuit, IsConfig, Goes, IsStuck}
use Rattle.bn_circuits.specs.Stepping.{run, places}
use Rattle.bn_circuits.proofs.RunLemmas.{run_stops, next-stuck, places-zero, places-Goes}
use Rattle.bn_circuits.specs.Counting.{tally, one_if}
use Rattle.bn_circuits.specs.declared.place.Place.{Place}
use Rattle.bn_circuits.specs.declared.place.Place.TheVariants.{Enter, Left}
use Rattle.bn_circuits.specs.declared.config.Config.{Config}
use Rattle.bn_circuits.proofs.CountingLemmas.{tally-zero, tallies-add, one_low as at_most_one}
use Rattle.bn_circuits.specs.Watching.{Hears}
use Rattle.bn_circuits.specs.Walking.{HasWalked}
use Rattle.bn_circuits.proofs.WalkLemmas.{hears-joins, walk_starts, walk_ends}
use Rattle.bn_circuits.specs.RotaryNets.{rotary_circuit}
use Rattle.bn_boards.specs.Layouts.{Layout, is_moment, moment_at, first_element, symbol_count_at}
use Rattle.bn_boards.proofs.FirstLemmas.{below, not_below}
use Rattle.bn_element.specs.Rotary.{west}
use Rattle.std.proofs.lemmas.Bool.Decides.{eqb_tells}
use Rattle.bn_packed.specs.Stopping.{PassesBy, passes_by}
use Rattle.bn_board.specs.declared.first_rows.FirstRows.{FirstRows}
use Rattle.bn_board.specs.Moments.{AreFirstRows, enters_first, is_among}
use Rattle.bn_board.proofs.MomentLemmas.{IsCommandOf, no_tape, off_west, off_commands}
use Rattle.bn_board.specs.Flattened.{Flattened, IsSameBoard, IsBoardKept, IsLayoutKept}

-- So many steps were made from one configuration to another, and the test held after so many of them.
pub record HasTallied (test : Config → Bool) (k : Circuit) (c d : Config) (made count : ℕ)
    (old new : Option (List Place)) : Type 0 where
  pub walked : HasWalked k c d made old new
  pub tallied : count ≡ tally test k made c
  pub few : count ≤ made

module _ (test : Config → Bool) (k : Circuit) where
  -- the places of two runs, one after the other
  places-join : (m n : ℕ) (c d : Config) → Reaches (Goes k) m c d → places k (m + n) c ≡ places k m c ++ places k n d
  places-join zero n c d path = ap (λ x. places k x c) (let e : zero + n ≡ n = omega arith in e) ∙ ap (places k n) path
      ∙ ap (λ ps. ps ++ places k n d) (sym (places-zero k c))
  places-join (suc m) n c d path =
      let e : suc m + n ≡ suc (m + n) = omega arith in
      ap (λ x. places k x c) e ∙ places-Goes k c path.0 (m + n) path.1
      ∙ ap (λ ps. path.0.place ∷ ps) (places-join m n path.0 d path.2)
      ∙ ap (λ ps. ps ++ places k n d) (sym (places-Goes k c path.0 m path.1))

  pub tallied_none : (c : Config) (told : Option (List Place)) → IsConfig k c → HasTallied test k c c 0 0 told told
  tallied_none c told good = record {
    walked = walk_starts k c told good;
    tallied = sym (tally-zero k test c);
    few = omega arith;
  }

  -- no step more, of which a watch was told nothing
  pub tallied_still : (c d e : Config) (n made count : ℕ) (old mid new : Option (List Place))
      → HasTallied test k c d made count old mid → n ≡ 0
      → Reaches (Goes k) n d e → Hears mid (places k n d) new → HasTallied test k c e made count old new
  tallied_still c d e n made count old mid new before none path hears =
      let at_zero : d ≡ e = subst (λ x. Reaches (Goes k) x d e) none path in
      let silent : Hears mid [] new = subst (λ ts. Hears mid ts new) (ap (λ x. places k x d) none ∙ places-zero k d)
      hears in
      let heard = hears-joins old mid new (places k made c) [] before.walked.heard silent in
      let now : HasTallied test k c d made count old new = record {
        walked = record {
          reaches = before.walked.reaches;
          good = before.walked.good;
          heard = subst (λ ts. Hears old ts new) (append-nil (places k made c)) heard;
        };
        tallied = before.tallied;
        few = before.few;
      } in
      subst (λ x. HasTallied test k c x made count old new) at_zero now

  -- so many steps more, with the test false strictly between
  pub tallied_leap : (c d e : Config) (n made more count now : ℕ) (old mid new : Option (List Place))
      → HasTallied test k c d made count old mid → 0 < n
      → Passes (Goes k) (λ x. not (test x)) n d e → IsConfig k e → Hears mid (places k n d) new → more ≡ made + n
      → now ≡ count + one_if (test e)
      → HasTallied test k c e more now old new
  tallied_leap c d e n made more count now old mid new before some path good hears sum counted =
      let run = passes_run (Goes k) (λ x. not (test x)) n d e path in
      let whole = tallies-add.0 k test made n c d before.walked.reaches in
      let one = tallies-add.1 k test n d e some path in
      let low = at_most_one (test e) in
      let tallied = before.tallied in
      let few = before.few in
      let here : HasTallied test k c e (made + n) now old new = record {
        walked = record {
          reaches = runs_join (Goes k) (made + n) made n c d e refl before.walked.reaches run;
          good = good;
          heard = subst (λ ts. Hears old ts new) (sym (places-join made n c d before.walked.reaches))
              (hears-joins old mid new (places k made c) (places k n d) before.walked.heard hears);
        };
        tallied = omega arith;
        few = omega arith;
      } in
      subst (λ x. HasTallied test k c e x now old new) (sym sum) here

  tally-stuck : (r : ℕ) (d : Config) → (0 < r → IsStuck k d) → tally test k r d ≡ 0
  unfolding tally
  tally-stuck zero d stuck = refl
  tally-stuck (suc r) d stuck = rw (next-stuck k d (stuck (omega arith))) refl

  tally-all : (made e : ℕ) (c d : Config) → Reaches (Goes k) made c d → made ≤ e → (made < e → IsStuck k d)
      → tally test k e c ≡ tally test k made c
  tally-all made e c d path within ended =
      let sum : e ≡ made + (e - made) = omega arith in
      let whole = tallies-add.0 k test made (e - made) c d path in
      let none = tally-stuck (e - made) d (λ some. ended (omega arith)) in
      ap (λ n. tally test k n c) sum ∙ omega arith

  -- the whole run, where no more than these steps are asked for or can be made
  pub record IsTallied (c d : Config) (e count : ℕ) (old new : Option (List Place)) : Type 0 where
    pub counted : count ≡ tally test k e c
    pub ran : d ≡ run k c e
    pub told : Hears old (places k e c) new

  pub tallied_all : (c d : Config) (made count e : ℕ) (old new : Option (List Place))
      → HasTallied test k c d made count old new → made ≤ e
      → (made < e → IsStuck k d) → IsTallied c d e count old new
  tallied_all c d made count e old new before within ended = record {
    counted = before.tallied ∙ sym (tally-all made e c d before.walked.reaches within ended);
    ran = sym (run_stops k made e c d before.walked.reaches within ended);
    told = walk_ends k c d made e old new before.walked within ended;
  }

-- ---- places at which there is no moment

among : (first count e : ℕ) → is_among first count e ≡ false → first ≤ e → e < first + count → ⊥
among first count e none least most =
    let low : nat_lt e first ≡ false = not_below e first least in
    let high : nat_lt (e - first) count ≡ true = below (e - first) count (omega arith) in
    let h : (not false && true) ≡ false = rw (low, high) at none in
    cc

either_false : (x y : Bool) → (x || y) ≡ false → (x ≡ false) × (y ≡ false)
either_false false false h = (refl, refl)
either_false false true h = absurd (cc)
either_false true y h = absurd (cc)

both_false : (x y : Bool) → (x && y) ≡ false → x ≡ true → y ≡ false
both_false true y h is = h
both_false false y h is = absurd (cc)

not_true : (b : Bool) → not b ≡ true → b ≡ false
not_true false h = refl
not_true true h = absurd (cc)

-- no moment where the signal passes by the rows of first commands
pub quiet_between : (b : Layout) → IsLayoutKept b → (rows : FirstRows) → AreFirstRows b rows → (x : Config)
    → passes_by (enters_first rows) x.place ≡ true
    → not (is_moment b x) ≡ true
quiet_between b kept rows first x quiet = by_place x.place refl
  where
    no_moment : None ≡ moment_at b x → not (is_moment b x) ≡ true
    no_moment none = ap (λ o. not (is_some o)) (sym none)

    by_place : (p : Place) → x.place ≡ p → not (is_moment b x) ≡ true
    by_place (Left e l) at = absurd (let h : passes_by (enters_first rows) (Left e l)
        ≡ true = subst (λ p. passes_by (enters_first rows) p ≡ true) at quiet in cc)
    by_place (Enter e l) at = elim (eqb_tells l west) [
      | inr other ↦ no_moment (off_west b x e l at other.1)
      | inl same ↦
          (let off : enters_first rows (record { element = e; line = l })
          ≡ false = not_true _ (subst (λ p. passes_by (enters_first rows) p ≡ true) at quiet) in
          let none = both_false (l == west) _ off same.0 in
          let parts = either_false _ _ none in
          let early = either_false _ _ parts.0 in
          no_moment (off_commands b x e (at ∙ ap (Enter e) same.1) kept
          (no_tape b kept e 4 (omega arith) (λ o by. absurd (in_none early.0 early.1 parts.1 o by)))))
    ]
      where
        in_none : is_among rows.one.first rows.one.count e ≡ false → is_among rows.two.first rows.two.count e ≡ false
            → is_among rows.three.first rows.three.count e ≡ false
            → (o : ℕ) → IsCommandOf b e o → ⊥
        in_none one two three o by = by_tape by.tape refl
          where
            at_tape : (t : ℕ) → by.tape ≡ t → (begin count : ℕ) → begin ≡ first_element b t
                → count ≡ symbol_count_at b t + 3 → is_among begin count e ≡ false → ⊥
            at_tape t is begin count begins counted none =
                let element : e ≡ first_element b t + by.line = subst (λ u. e ≡ first_element b u + by.line) is
                by.element in
                let low : by.line < symbol_count_at b t + 3 = subst (λ u. by.line < symbol_count_at b u + 3) is
                by.within in
                among begin count e none (omega arith) (omega arith)

            by_tape : (t : ℕ) → by.tape ≡ t → ⊥
            by_tape zero is = let h = by.low in omega arith
            by_tape (suc zero) is = at_tape 1 is rows.one.first rows.one.count first.one first.one_count one
            by_tape (suc (suc zero)) is = at_tape 2 is rows.two.first rows.two.count first.two first.two_count two
            by_tape (suc (suc (suc zero))) is = at_tape 3 is rows.three.first rows.three.count first.three
                first.three_count three
            by_tape (suc (suc (suc (suc t)))) is = let h = by.high in omega arith

-- ---- boards

-- the board was the first, and after so many steps it is the second
pub record HasCounted (a b : Flattened) (made count : ℕ) (old new : Option (List Place)) : Type 0 where
  pub same : IsSameBoard a b
  pub tallied : HasTallied (is_moment a.layout) (rotary_circuit a.net) a.config b.config made count old new

pub same_again : (a b c : Flattened) → IsSameBoard a b → IsSameBoard b c → IsSameBoard a c
same_again a b c first second = record {
  net = second.net ∙ first.net;
  start = second.start ∙ first.start;
  end = second.end ∙ first.end;
  layout = second.layout ∙ first.layout;
  origin_is = second.origin_is ∙ first.origin_is;
}

pub counted_none : (a : Flattened) (told : Option (List Place)) → IsBoardKept a → HasCounted a a 0 0 told told
counted_none a told kept = record {
  same = record { net = refl; start = refl; end = refl; layout = refl; origin_is = refl };
  tallied = tallied_none (is_moment a.layout) (rotary_circuit a.net) a.config told kept.reached.good;
}

-- a leap past all lines of first commands
pub counted_leap : (a b c : Flattened) (rows : FirstRows) (n made more count now : ℕ)
    (old mid new : Option (List Place)) → IsBoardKept a → HasCounted a b made count old mid
    → IsSameBoard b c → IsBoardKept c → AreFirstRows a.layout rows → 0 < n
    → PassesBy (rotary_circuit b.net) (enters_first rows) n b.config c.config
    → Hears mid (places (rotary_circuit b.net) n b.config) new
    → more ≡ made + n → now ≡ count + one_if (is_moment c.layout c.config) → HasCounted a c more now old new
counted_leap a b c rows n made more count now old mid new kept before same kept' first some path hears sum counted =
    let here = same_again a b c before.same same in
    let k = rotary_circuit a.net in
    let test = is_moment a.layout in
    let by : PassesBy k (enters_first rows) n b.config c.config =
    subst (λ x. PassesBy (rotary_circuit x) (enters_first rows) n b.config c.config) before.same.net path in
    record {
      same = here;
      tallied = tallied_leap test k a.config b.config c.config n made more count now old mid new before.tallied some
          (passes_weaker (Goes k) (λ (x : Config). passes_by (enters_first rows) x.place) (λ x. not (test x))
          (λ x quiet. quiet_between a.layout kept.layout rows first x quiet) n b.config c.config by)
          (subst (λ x. IsConfig (rotary_circuit x) c.config) here.net kept'.reached.good)
          (subst (λ x. Hears mid (places (rotary_circuit x) n b.config) new) before.same.net hears) sum
          (counted ∙ ap (λ l. count + one_if (is_moment l c.config)) here.layout);
    }

pub counted_all : (a b : Flattened) (made count e : ℕ) (old new : Option (List Place))
    → HasCounted a b made count old new → made ≤ e
    → (made < e → IsStuck (rotary_circuit b.net) b.config) → IsTallied (is_moment a.layout) (rotary_circuit a.net)
    a.config b.config e count old new
counted_all a b made count e old new before within ended =
    tallied_all (is_moment a.layout) (rotary_circuit a.net) a.config b.config made count e old new before.tallied within
    (λ fewer. subst (λ n. IsStuck (rotary_circuit n) b.config) before.same.net (ended fewer))

-- the run has come to an end: a step that was asked for was not made
pub counted_still : (a b c : Flattened) (n made count e : ℕ) (old mid new : Option (List Place))
    → HasCounted a b made count old mid → IsSameBoard b c → n ≡ 0
    → Reaches (Goes (rotary_circuit b.net)) n b.config c.config
    → Hears mid (places (rotary_circuit b.net) n b.config) new → made ≤ e
    → IsStuck (rotary_circuit b.net) b.config → IsTallied (is_moment a.layout) (rotary_circuit a.net) a.config c.config
    e count old new
counted_still a b c n made count e old mid new before same none path hears within stuck =
    let k = rotary_circuit a.net in
    let run : Reaches (Goes k) n b.config c.config = subst (λ x. Reaches (Goes (rotary_circuit x)) n b.config c.config)
    before.same.net path in
    let told : Hears mid (places k n b.config) new = subst (λ x. Hears mid (places (rotary_circuit x) n b.config) new)
    before.same.net hears in
    let end : IsStuck k b.config = subst (λ x. IsStuck (rotary_circuit x) b.config) before.same.net stuck in
    let here : b.config ≡ c.config = subst (λ x. Reaches (Goes k) x b.config c.config) none run in
    tallied_all (is_moment a.layout) k a.config c.config made count e old new
    (tallied_still (is_moment a.layout) k a.config b.config c.config n made count old mid new before.tallied none run
    told) within
    (λ _. subst (IsStuck k) here end)
