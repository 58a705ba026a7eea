-- From a start over the machine's own run to the network's end.
use Rattle.std.specs.Prelude.{◌≡◌, ◌≢◌, ℕ, ◌+◌, ◌*◌, ◌<◌, ◌≤◌, Bool, List, [], ◌∷◌, length, refl}
use Rattle.std.proofs.Common.{arith, sym, ap, subst, inl, inr}
use Rattle.bn_lists.specs.Lists.{nth}
use Rattle.bn_circuits.specs.Situations.{Situation}
use Rattle.bn_circuits.specs.declared.config.Config.{Config}
use Rattle.bn_quad.specs.Quadruples.{Rule, Configuration, initial_of, final_state_of}
use Rattle.bn_bennett_laws.specs.Stages.{rooms_of}
use Rattle.bn_bennett_laws.specs.Steps.{Exit, Stopped, EndsAt, finishes as ends_final, stops as ends_stuck}
use Rattle.bn_bennett_laws.specs.Steps.{leaves as ends_leaving}
use Rattle.bn_rsm.specs.RunCosts.{run_cost}
use Rattle.bn_rsm.proofs.CostLemmas.{costs-bounded}
use Rattle.bn_network.specs.Controls.{ControlMove, Begin, Outside, begins, IsEntry, finishes, leaves, waits, IsNotLeft}
use Rattle.bn_network.specs.Controls.{control_lines}
use Rattle.bn_network.specs.Networks.{bank_size}
use Rattle.bn_network.specs.Moments.{IsMomentOf, TellsMoments}
use Rattle.bn_network.proofs.ExistingLemmas.{have-entries}
use Rattle.bn_network_laws.specs.Commands.{tape_elements}
use Rattle.bn_network_laws.specs.Ends.{IsStoppedAt, IsEarlyStop}
use Rattle.bn_network_laws.proofs.ChainLemmas.{control_turns}
use Rattle.bn_network_laws.proofs.CommandLemmas.{commands-walk}
use Rattle.bn_network_laws.proofs.LastLemmas.{last-moment}
use Rattle.bn_network_laws.proofs.NextLemmas.{told}
use Rattle.bn_network_laws.proofs.OrderLemmas.{occurs_entry}
use Rattle.bn_network_laws.proofs.RangeLemmas.{rule_range}
use Rattle.bn_network_laws.proofs.ThereLemmas.{stops-there}
use Rattle.bn_network_laws.proofs.StoppedLemmas.{networks-stop}
use Rattle.bn_boards.specs.Builds.{Build, IsBuild, IsStart, build_elements}
use Rattle.bn_boards.specs.BuildRuns.{EndsInWindow}
use Rattle.bn_boards.proofs.StrideLemmas.{Begins, Closes, comes_over}
use Rattle.bn_boards.proofs.NetworkRuns.{EndsSo, early, at_read, NetworkComes}

module _ (f : Build) (is : IsBuild f) (test : Situation
    → Bool) (tells : TellsMoments f.machine f.names f.network test) where
  -- ---- the first moment

  -- the initial state is one of the states
  pub initial_low : (rs : List (Rule ℕ)) → f.machine.rules ≡ rs → 0 < length rs → initial_of rs < f.machine.states
  initial_low [] same some = absurd (omega arith)
  initial_low (r ∷ rs) same some =
      (rule_range f.machine is.is_network.machine 1 r (ap (λ (xs : List (Rule ℕ)). nth xs 1) same)).from

  -- one move of the control leads there
  pub first_moment : (c : Configuration ℕ) (s : Situation) → c.state ≡ initial_of f.machine.rules
      → (start : (d : Config) × IsStart f c s d) → Begins f is.is_network test tells s c
  first_moment c s initial start =
      let entries = have-entries f.machine is.is_network.machine is.is_network.uniform in
      let at = start.1 in
      let e = entries.some (initial_of f.machine.rules) (initial_low f.machine.rules refl is.is_network.machine.some) in
      let turned = control_turns costs-bounded f.machine f.limits f.names f.network is.is_network.numbering
      is.is_network.network test s Begin Outside e.0 c at.waits at.place at.shows (begins refl refl e.1)
      (occurs_entry f.machine (initial_of f.machine.rules) e.0 e.1) in
      let entry : IsEntry f.machine c.state e.0 = subst (λ a. IsEntry f.machine a e.0) (sym initial) e.1 in
      let moment : IsMomentOf f.machine f.limits f.names f.network turned.0 c =
      record {
        first = e.0;
        entry = entry;
        waits = turned.2.waits;
        place = turned.2.place;
        shows = turned.2.shows;
      } in (
        turned.0,
        record { path = turned.1.path; cost = few (run_cost f.network 1 s) turned.1.cost },
        moment,
        told f.machine f.limits f.names f.network test is.is_network.network entries tells turned.0 c moment,
      )
    where
      sums : (x a b d e : ℕ) → x ≤ 4 * d → x ≤ 4 * (d + a + b + e)
      sums x a b d e h = omega arith

      few : (x : ℕ) → x ≤ 4 * bank_size (length f.names) (control_lines f.machine) → x ≤ 4 * build_elements f
      few x h = sums x (tape_elements f.machine f.limits 1) (tape_elements f.machine f.limits 2)
          (bank_size (length f.names) (control_lines f.machine)) (tape_elements f.machine f.limits 3) h

  -- ---- the end

  -- what is owed of an end
  abbrev pub Ended : Situation → Configuration ℕ → Exit → Type 0
  Ended s c e = Closes f is.is_network test tells s (λ t. EndsSo f t c e)

  -- a state that no quadruple leaves waits at tape 1
  waiting : (c : Configuration ℕ) (k : ControlMove) → IsEntry f.machine c.state k
      → c.state ≢ final_state_of f.machine.rules → IsNotLeft f.machine c.state
      → IsStoppedAt f.machine c 1
  waiting c k (finishes final same) going none = absurd (going final)
  waiting c k (leaves n r stands from first) going none = absurd (none.none n r stands from)
  waiting c k (waits other low left same) going none = record {
    tape = record { low = omega arith; high = omega arith };
    entry = waits other low left refl;
    none = λ n r rest stands from cut. none.none n r stands from;
  }

  early_end : (s : Situation) (c : Configuration ℕ) (e : Exit) → IsMomentOf f.machine f.limits f.names f.network s c
      → EndsAt (rooms_of f.limits) f.machine.rules (final_state_of f.machine.rules) c e → IsEarlyStop f.machine c e
      → (e ≡ Stopped → IsNotLeft f.machine c.state) → Ended s c e
  early_end s c e now ends stop none =
      let last = last-moment costs-bounded (commands-walk costs-bounded) have-entries f.machine f.limits f.names
      f.network test is.is_network.machine is.is_network.uniform is.is_network.numbering is.is_network.network tells
      s c e now ends stop in
      (last.0, last.1, last.2, last.3, last.4, early none last.5, last.6)

  pub ended : (s : Situation) (c : Configuration ℕ) (e : Exit) → IsMomentOf f.machine f.limits f.names f.network s c
      → EndsAt (rooms_of f.limits) f.machine.rules (final_state_of f.machine.rules) c e → Ended s c e
  ended s c e now (ends_final final same) =
      early_end s c e now (ends_final final same) (subst (IsEarlyStop f.machine c) (sym same) tt) (λ other. cc)
  ended s c e now (ends_leaving t to d going follows out same) =
      early_end s c e now (ends_leaving t to d going follows out same) (subst (IsEarlyStop f.machine c) (sym same) tt)
      (λ other. cc)
  ended s c e now (ends_stuck going none same) = elim (stops-there f.machine c none) [
    | inl none_leaves ↦ early_end s c e now (ends_stuck going none same)
        (subst (IsEarlyStop f.machine c) (sym same) (1, waiting c now.first now.entry going none_leaves))
        (λ _. none_leaves)
    | inr stop ↦
        (let last = networks-stop costs-bounded (commands-walk costs-bounded) have-entries f.machine f.limits f.names
        f.network test is.is_network.machine is.is_network.uniform is.is_network.numbering is.is_network.network
        tells s c now stop.0 stop.1 in
        (last.0, last.1, last.2, last.3, last.4, at_read stop.0 stop.1 same last.5, inr last.6))
  ]

  -- ---- all of it

  pub comes : (c : Configuration ℕ) (s : Situation) (start : (d : Config) × IsStart f c s d) (n : ℕ)
      (d : Configuration ℕ) (e : Exit) → EndsInWindow f c n d e
      → NetworkComes f test s c n d e
  comes c s start n d e h =
      comes_over f is.is_network test tells s c (first_moment c s start.1.initial start) n d h.runs
      (λ t. EndsSo f t d e) (λ m now. ended m d e now h.ends)
