-- Wherever the layout of a board finds a moment, the machine's own run has come to it.
use Rattle.std.specs.Prelude.{◌≡◌, ℕ, ◌+◌, ◌-◌, ◌*◌, ◌<◌, ◌≤◌, Bool, true, false, [], Some, is_some, refl, ◌⊎◌}
use Rattle.std.proofs.Common.{zero, suc, arith, sym, ap, subst, ◌∙◌, inl, inr}
use Rattle.std.proofs.lemmas.Bool.{cases_lt}
use Rattle.bn_lists.specs.Runs.{Reaches}
use Rattle.bn_circuits.specs.Circuits.{Circuit, clock, Goes}
use Rattle.bn_circuits.specs.Counting.{tally, one_if}
use Rattle.bn_circuits.specs.Situations.{Situation}
use Rattle.bn_circuits.specs.declared.config.Config.{Config}
use Rattle.bn_circuits.proofs.CountingLemmas.{tallies-add, tally-more}
use Rattle.bn_quad.specs.Quadruples.{Configuration, final_state_of}
use Rattle.bn_bennett_laws.specs.Stages.{rooms_of}
use Rattle.bn_bennett_laws.specs.Steps.{Exit, EndsAt, Steps}
use Rattle.bn_bennett_laws.proofs.NumberLemmas.{steps_goes}
use Rattle.bn_rsm.specs.RunCosts.{run_cost}
use Rattle.bn_network.specs.Controls.{symbol_count}
use Rattle.bn_network.specs.Moments.{IsMomentOf, Travels}
use Rattle.bn_network_laws.proofs.PlaceLemmas.{taken_calm}
use Rattle.bn_network_laws.proofs.ShownLemmas.{all_cells}
use Rattle.bn_boards.specs.Boards.{StandsFor}
use Rattle.bn_boards.specs.Layouts.{is_moment, moment_at}
use Rattle.bn_boards.specs.NetworkReads.{NetworkReads}
use Rattle.bn_boards.proofs.NetworkReadLemmas.{networks-read}
use Rattle.bn_boards.specs.Builds.{Build, IsBuild, IsStart, build_elements}
use Rattle.bn_boards.specs.BuildRuns.{ShowsMoment}
use Rattle.bn_boards.specs.Laws.{BuildsShowTheirMachine}
use Rattle.bn_boards.proofs.ComingLemmas.{first_moment}
use Rattle.bn_boards.proofs.OnceLemmas.{start_spells}
use Rattle.bn_boards.proofs.PieceLemmas.{Strode, agree, begun, counted_as, sooner, stride, tail}
use Rattle.bn_boards.proofs.TravelLemmas.{Leg, leg}
use Rattle.bn_boards.proofs.TravelLemmas.{one_of}
use Rattle.bn_boards.proofs.StartingLemmas.{no_letters as none_low}
use Rattle.bn_boards.proofs.StopLemmas.{no_longer, rest_of}
use Rattle.bn_erase_laws.proofs.InverseDecidedLemmas.{goes_or_ends}

-- ---- counts

-- the end of a run counts among the configurations behind its beginning
end_counts : (k : Circuit) (test : Config → Bool) (t : ℕ) (c x : Config) → 0 < t → Reaches (Goes k) t c x
    → one_if (test x) ≤ tally test k t c
end_counts k test zero c x some path = absurd (omega arith)
end_counts k test (suc zero) c x some path =
    let more = tally-more k test 0 c path.0 path.1 in
    let same : one_if (test path.0) ≡ one_if (test x) = ap (λ y. one_if (test y)) path.2 in
    omega arith
end_counts k test (suc (suc t)) c x some path =
    let more = tally-more k test (suc t) c path.0 path.1 in
    let rest = end_counts k test (suc t) path.0 x (omega arith) path.2 in
    omega arith

none_if : (b : Bool) → one_if b ≤ 0 → b ≡ false
none_if true h = absurd (omega arith)
none_if false h = refl

-- where nothing passes the test behind the beginning of a run, no place on its way does
never_within : (k : Circuit) (test : Config → Bool) (t n : ℕ) (c x : Config) → 0 < t → t ≤ n → Reaches (Goes k) t c x
    → tally test k n c ≡ 0 → test x ≡ false
never_within k test t n c x some low there none =
    let sum : t + (n - t) ≡ n = omega arith in
    let joined = tallies-add.0 k test t (n - t) c x there in
    let same : tally test k (t + (n - t)) c ≡ tally test k n c = ap (λ m. tally test k m c) sum in
    let counts = end_counts k test t c x some there in
    none_if (test x) (omega arith)

-- where one place does, and the end, no place before the end does
only_at_end : (k : Circuit) (test : Config → Bool) (t n : ℕ) (c x y : Config) → 0 < t → t < n → Reaches (Goes k) t c x
    → Reaches (Goes k) n c y → tally test k n c ≡ 1 → one_if (test y) ≡ 1 → test x ≡ false
only_at_end k test t n c x y some low there whole once ends =
    let sum : t + (n - t) ≡ n = omega arith in
    let joined = tallies-add.0 k test t (n - t) c x there in
    let same : tally test k (t + (n - t)) c ≡ tally test k n c = ap (λ m. tally test k m c) sum in
    let counts = end_counts k test t c x some there in
    let rest = end_counts k test (n - t) x y (omega arith) (rest_of k t n c x y there whole (omega arith)) in
    none_if (test x) (omega arith)

-- ---- moments

module _ (f : Build) (is : IsBuild f) (test : Situation → Bool)
    (reads : NetworkReads f.machine f.limits [] f.names f.network f.layout test) (room : 48 * build_elements f ≤ clock)
  where
    -- where a moment is found, the test of moments holds
    found : (x : Config) (q : ℕ) → moment_at f.layout x ≡ Some q → is_moment f.layout x ≡ true
    found x q h = ap is_some h

    -- at a moment of the machine
    at_once : (s : Situation) (c : Configuration ℕ) (a : Config) → StandsFor f.network s a
        → IsMomentOf f.machine f.limits f.names f.network s c → (q : ℕ) → moment_at f.layout a ≡ Some q
        → ShowsMoment f c q a.states
    at_once s c a stands now q h = record {
      steps = 0;
      config = c;
      runs = refl;
      state = reads.state s q c ((reads.which s a q stands).0 h) now;
      spells = reads.spells s a c stands (all_cells f.machine f.limits s.states c now.shows);
    }

    -- behind the machine's last configuration there is none
    at_last : (t : ℕ) (s : Situation) (c : Configuration ℕ) (a x : Config) → StandsFor f.network s a
        → IsMomentOf f.machine f.limits f.names f.network s c → Reaches (Goes f.circuit) t a x → 0 < t → (e : Exit)
        → EndsAt (rooms_of f.limits) f.machine.rules (final_state_of f.machine.rules) c e
        → is_moment f.layout x ≡ false
    at_last t s c a x stands now run some e ends =
        let last = tail f is test reads room s c a stands now e ends in
        let there = sooner f.circuit t a x 0 (omega arith) run in
        never_within f.circuit (is_moment f.layout) t last.cost (begun f is test reads room a) (counted_as x (0 + t))
        some
        (no_longer f.circuit t last.cost (begun f is test reads room a) (counted_as x (0 + t)) last.out there last.run
        last.stuck) there last.none

    -- from moment to moment, up to that of x
    seek : (fuel t : ℕ) (s : Situation) (c : Configuration ℕ) (a x : Config) → t ≤ fuel → StandsFor f.network s a
        → IsMomentOf f.machine f.limits f.names f.network s c → Reaches (Goes f.circuit) t a x
        → (q : ℕ) → moment_at f.layout x ≡ Some q → ShowsMoment f c q x.states
    seek fuel zero s c a x low stands now run q h = at_once s c x (subst (StandsFor f.network s) run stands) now q h
    seek zero (suc t) s c a x low stands now run q h = absurd (omega arith)
    seek (suc fuel) (suc t) s c a x low stands now run q h =
        elim (goes_or_ends (rooms_of f.limits) f.machine.rules (final_state_of f.machine.rules) c) [
          | inr ends ↦
              (let none = at_last (suc t) s c a x stands now run (omega arith) ends.0 ends.1 in
              absurd (let both : true ≡ false = sym (found x q h) ∙ none in cc))
          | inl step ↦
              (let strode = stride f is test reads room s c a stands now step.0 step.1 in
              let some = strode.some in
              on step.0 step.1 strode (cases_lt (suc t) strode.cost)
              (λ later. seek fuel (suc t - strode.cost) strode.next step.0 strode.there (counted_as x (0 + suc t))
              (omega arith) strode.stands strode.shows
              (rest_of f.circuit strode.cost (suc t) (begun f is test reads room a) strode.there
              (counted_as x (0 + suc t)) strode.run there later) q h))
        ]
      where
        there : Reaches (Goes f.circuit) (suc t) (begun f is test reads room a) (counted_as x (0 + suc t))
        there = sooner f.circuit (suc t) a x 0 (omega arith) run

        on : (b : Configuration ℕ)
            → Steps (rooms_of f.limits) f.machine.rules (final_state_of f.machine.rules) c b
            → (strode : Strode f is test reads room b a) → (suc t < strode.cost) ⊎ (strode.cost ≤ suc t)
            → (strode.cost ≤ suc t → ShowsMoment f b q x.states) → ShowsMoment f c q x.states
        on b step strode (inl early) rest =
            let none = only_at_end f.circuit (is_moment f.layout) (suc t) strode.cost (begun f is test reads room a)
            (counted_as x (0 + suc t)) strode.there (omega arith) early there strode.run strode.once strode.told in
            absurd (let both : true ≡ false = sym (found x q h) ∙ none in cc)
        on b step strode (inr later) rest = record {
          steps = suc (rest later).steps;
          config = (rest later).config;
          runs = (
            b,
            steps_goes (rooms_of f.limits) f.machine is.is_network.uniform.deterministic c b step,
            (rest later).runs,
          );
          state = (rest later).state;
          spells = (rest later).spells;
        }

    -- from the start, where there is none, to the first one, and on
    pub shown_from : (c : Configuration ℕ) (s : Situation) (at_start : Config) → IsStart f c s at_start → (t : ℕ)
        (x : Config) → Reaches (Goes f.circuit) t at_start x → (q : ℕ) → moment_at f.layout x ≡ Some q
        → ShowsMoment f c q x.states
    shown_from c s at_start start zero x run q h =
        let quiet = reads.between s at_start start.stands
        ∙ taken_calm f.machine f.limits f.names f.network is.is_network.network test reads.tells s 0 start.place in
        let same : is_moment f.layout at_start ≡ is_moment f.layout x = ap (is_moment f.layout) run in
        absurd (let both : true ≡ false = sym (found x q h) ∙ sym same ∙ quiet in cc)
    shown_from c s at_start start (suc t) x run q h = by (cases_lt (suc t) (run_cost f.network 1 s))
      where
        none : at_start.steps ≡ 0
        none = start.fresh

        first : (u : Situation) × Travels f.network test 1 (4 * build_elements f) s u
            × IsMomentOf f.machine f.limits f.names f.network u c × (test u ≡ true)
        first = first_moment f is test reads.tells c s start.initial (at_start, start)

        cheap : run_cost f.network 1 s ≤ 4 * build_elements f
        cheap = first.1.cost

        one : (d : Config) × Leg f test reads.modules is.is_board (agree f is test reads room) 1 s first.0 at_start d
            (one_if (test first.0))
        one = leg f test reads.modules is.is_board (agree f is test reads room) 1 s first.0 at_start start.stands
            (omega arith) first.1.path (omega (arith, room, none, cheap))

        told : one_if (test first.0) ≡ 1
        told = one_of (test first.0) first.3

        by : (suc t < run_cost f.network 1 s) ⊎ (run_cost f.network 1 s ≤ suc t) → ShowsMoment f c q x.states
        by (inl early) =
            let quiet = only_at_end f.circuit (is_moment f.layout) (suc t) (run_cost f.network 1 s) at_start x one.0
            (omega arith) early run one.1.run (one.1.counted ∙ told)
            (ap one_if (reads.between first.0 one.0 one.1.stands) ∙ told) in
            absurd (let both : true ≡ false = sym (found x q h) ∙ quiet in cc)
        by (inr later) =
            seek (suc t - run_cost f.network 1 s) (suc t - run_cost f.network 1 s) first.0 c one.0 x (omega arith)
            one.1.stands first.2
            (rest_of f.circuit (run_cost f.network 1 s) (suc t) at_start one.0 x one.1.run run later) q h

pub builds-show : BuildsShowTheirMachine
builds-show f is room c s at_start start =
    let read = networks-read f.machine f.limits [] f.names f.network f.layout is.is_network is.is_layout
    (none_low (symbol_count f.machine 1)) in (
      λ t x run q h. shown_from f is read.0 read.1 room c s at_start start t x run q h,
      record {
        steps = 0;
        config = c;
        runs = refl;
        state = start.initial;
        spells = start_spells f is c s at_start start;
      },
    )
