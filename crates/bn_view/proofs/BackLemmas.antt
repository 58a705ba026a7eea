-- A board that goes back to its last moment.
use Rattle.std.specs.Prelude.{◌≡◌, ℕ, ◌<◌, ◌≤◌, ◌⊎◌, Bool, true, false, Option, Some, None, refl}
use Rattle.std.specs.Bool.{OnTrue, OnFalse}
use Rattle.std.proofs.Common.{zero, suc, arith, sym, subst, ◌∙◌, inl, inr}
use Rattle.std.proofs.lemmas.Bool.{cases_lt}
use Rattle.bn_lists.specs.Runs.{Reaches}
use Rattle.bn_circuits.specs.Circuits.{Circuit, Goes, IsFirst}
use Rattle.bn_circuits.specs.Stepping.{run}
use Rattle.bn_circuits.proofs.RunLemmas.{Reaches-run}
use Rattle.bn_circuits.specs.declared.config.Config.{Config}
use Rattle.bn_circuits.proofs.RunPartLemmas.{runs_split}
use Rattle.bn_circuits.specs.RotaryNets.{rotary_circuit}
use Rattle.bn_boards.specs.Layouts.{moment_at}
use Rattle.bn_board.specs.Flattened.{Flattened, IsBoardKept, IsSameBoard, origin}
use Rattle.bn_view.specs.Shown.{IsQuiet, IsShown, moment, start}
use Rattle.bn_view.specs.Viewed.{Finds}

-- what is found of a board at its steps
abbrev pub FindsOn : Flattened → ℕ → ℕ → Type 0
FindsOn a = Finds a.layout (rotary_circuit a.net) (origin a)

-- the board has gone back from a to b, and found no moment on the way
pub record HasGoneBack (a b : Flattened) : Type 0 where
  pub same : IsSameBoard a b
  pub low : b.config.steps ≤ a.config.steps
  pub quiet : (u : ℕ) → b.config.steps < u → u ≤ a.config.steps → IsQuiet (FindsOn a) u

-- a board is where the run from its origin comes to in its steps
pub board_ran : (a b : Flattened) → IsSameBoard a b → IsBoardKept b
    → run (rotary_circuit a.net) (origin a) b.config.steps ≡ b.config
board_ran a b same kept =
    (λ i. run (rotary_circuit (sym same.net i)) (sym same.origin_is i) b.config.steps)
    ∙ Reaches-run (rotary_circuit b.net) b.config.steps (origin b) b.config kept.reached.reaches

-- so what the layout answers is what is found there
pub found_here : (a b : Flattened) → IsSameBoard a b → IsBoardKept b → (o : Option ℕ) → o ≡ moment_at b.layout b.config
    → moment_at a.layout (run (rotary_circuit a.net) (origin a) b.config.steps) ≡ o
found_here a b same kept o is = (λ i. moment_at (sym same.layout i) (board_ran a b same kept i)) ∙ sym is

no_moment : (a b : Flattened) → HasGoneBack a b → IsBoardKept b → None ≡ moment_at b.layout b.config → (u : ℕ)
    → b.config.steps ≤ u → u ≤ a.config.steps → IsQuiet (FindsOn a) u
no_moment a b gone kept none u low high = by (cases_lt b.config.steps u)
  where
    by : (b.config.steps < u) ⊎ (u ≤ b.config.steps) → IsQuiet (FindsOn a) u
    by (inl more) = gone.quiet u more high
    by (inr last) = λ e there.
        let same : u ≡ b.config.steps = omega arith in
        let here : FindsOn a b.config.steps e = subst (λ x. FindsOn a x e) same there in
        let both : None ≡ Some e = sym (found_here a b gone.same kept None none) ∙ here in
        cc

-- one step further back, where there is no moment
pub gone_more : (a b c : Flattened) → HasGoneBack a b → IsBoardKept b → None ≡ moment_at b.layout b.config
    → IsSameBoard b c → Goes (rotary_circuit b.net) c.config b.config
    → HasGoneBack a c
gone_more a b c gone kept none same goes =
    let step = goes.steps in
    let before = gone.low in
    record {
      same = record {
        net = same.net ∙ gone.same.net;
        start = same.start ∙ gone.same.start;
        end = same.end ∙ gone.same.end;
        layout = same.layout ∙ gone.same.layout;
        origin_is = same.origin_is ∙ gone.same.origin_is;
      };
      low = omega arith;
      quiet = λ u more few. no_moment a b gone kept none u (omega arith) few;
    }

-- at a moment
pub gone_moment : (a b : Flattened) (initial e : ℕ) → HasGoneBack a b → IsBoardKept b
    → Some e ≡ moment_at b.layout b.config
    → IsShown (FindsOn a) initial a.config.steps b.config.steps e
gone_moment a b initial e gone kept some = moment gone.low (found_here a b gone.same kept (Some e) some) gone.quiet

-- no step leads to a board at its origin alone
at_origin : (k : Circuit) (n : ℕ) (c d : Config) → Reaches (Goes k) n c d → IsFirst k d → n ≡ 0
at_origin k zero c d path first = refl
at_origin k (suc n) c d path first =
    let cut = runs_split (Goes k) n 1 (suc n) c d (omega arith) path in
    absurd (first cut.0 (subst (λ x. Goes k cut.0 x) cut.2.2 cut.2.1))

-- at the start
pub gone_start : (a b : Flattened) (initial : ℕ) → HasGoneBack a b → IsBoardKept b → None ≡ moment_at b.layout b.config
    → IsFirst (rotary_circuit b.net) b.config
    → IsShown (FindsOn a) initial a.config.steps b.config.steps initial
gone_start a b initial gone kept none first =
    let zeroth : b.config.steps ≡ 0 = at_origin (rotary_circuit b.net) b.config.steps (origin b) b.config
    kept.reached.reaches first in
    start zeroth refl (λ u few. no_moment a b gone kept none u (omega arith) few)

-- where no step was taken back
pub gone_still : (a b c : Flattened) (initial : ℕ) (stepped : Bool) → HasGoneBack a b → IsBoardKept b
    → None ≡ moment_at b.layout b.config → stepped ≡ false
    → OnFalse stepped (IsFirst (rotary_circuit b.net) b.config) → OnFalse stepped (c ≡ b)
    → IsShown (FindsOn a) initial a.config.steps c.config.steps initial
gone_still a b c initial stepped gone kept none not first same =
    let there : c ≡ b = subst (λ r. OnFalse r (c ≡ b)) not same in
    let begins : IsFirst (rotary_circuit b.net) b.config = subst
    (λ r. OnFalse r (IsFirst (rotary_circuit b.net) b.config)) not first in
    subst (λ (x : Flattened). IsShown (FindsOn a) initial a.config.steps x.config.steps initial) (sym there)
    (gone_start a b initial gone kept none begins)

-- and where one was
pub gone_on : (a b c : Flattened) (stepped : Bool) → HasGoneBack a b → IsBoardKept b
    → None ≡ moment_at b.layout b.config → stepped ≡ true → IsSameBoard b c
    → OnTrue stepped (Goes (rotary_circuit b.net) c.config b.config) → HasGoneBack a c
gone_on a b c stepped gone kept none is same made =
    gone_more a b c gone kept none same (subst (λ r. OnTrue r (Goes (rotary_circuit b.net) c.config b.config)) is made)
