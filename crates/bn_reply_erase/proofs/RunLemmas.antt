-- The run of the machine of numbers on tapes in windows is the erasing machine's run on tapes without ends.
use Rattle.std.specs.Prelude.{◌≡◌, ℕ, zero, suc, ◌+◌, ◌<◌, ◌≤◌, ◌⊎◌, ◌∷◌, List, [], length, max, Some, refl}
use Rattle.std.proofs.Common.{sym, subst, ap, ◌∙◌, arith, inl, inr}
use Rattle.std.proofs.lemmas.Bool.{cases_lt}
use Rattle.std.proofs.lemmas.Option.{get_or_from_slice_get, slice_get_within}
use Rattle.bn_lists.specs.Runs.{Reaches}
use Rattle.bn_machine.specs.Machine.{Program}
use Rattle.bn_lists.specs.Lists.{nth, IsIn}
use Rattle.bn_machine.specs.Run.{IsOutput}
use Rattle.bn_machine.specs.Window.{Windowed, new_window, within}
use Rattle.bn_quad.specs.Quadruples.{Configuration, QuadruplesRunTo, GoesBy, IsQuadMachine, IsRuleInRange, Quadruples}
use Rattle.bn_quad.specs.Quadruples.{Rooms, Rule, final_state_of, initial_of}
use Rattle.bn_quad.specs.Calls.{IsQuadTurn, configuration, rooms_of}
use Rattle.bn_quad.specs.declared.tapes.Tapes.{Tapes}
use Rattle.bn_quad.specs.declared.tapes.QuadTurn.{QuadTurn}
use Rattle.bn_quad.specs.declared.tapes.QuadTurn.TheVariants as turns
use Rattle.bn_bennett_laws.specs.Names.{states_in}
use Rattle.bn_bennett_laws.specs.Renamed.{in_state}
use Rattle.bn_bennett_laws.specs.Stages.{IsStandardMachine}
use Rattle.bn_bennett_laws.specs.Steps.{EndsAt, Exit, Leaving, Steps, Stopped, finishes, leaves, stops}
use Rattle.bn_bennett_laws.proofs.MembershipLemmas.{each_of_two, from_flat_map, in_head}
use Rattle.bn_bennett_laws.proofs.NumberLemmas.{leaving_ends, stuck_ends}
use Rattle.bn_bennett.proofs.Alike.{run_inside}
use Rattle.bn_bennett.proofs.CallByCall.{rooms_same}
use Rattle.bn_erase_laws.specs.Erasing.{ErasingSteps, erasing, erasing_final, erasing_start}
use Rattle.bn_erase_laws.specs.ErasingLaws.{ErasingNumbersRunAlike, NoHeadLeaves, ReachesFar}
use Rattle.bn_erase_laws.specs.Outcome as free
use Rattle.bn_erase_laws.specs.Outcome.{ErasingComesOut, HasErasingOutcome, rewound}
use Rattle.bn_erase_laws.specs.declared.name.ErasingName.{ErasingName}
use Rattle.bn_erase.specs.Laws.{ErasingsAreUniform}
use Rattle.bn_erase.specs.Made.{Erasure, IsErasing, name_of}
use Rattle.bn_reply_erase.specs.EraseRun.{ComesOutOf, HasEnded, IsEndingOf, IsErasingOfSome, IsRun, IsStep, Reached}
use Rattle.bn_reply_erase.specs.EraseRun.{StaysInside, outcome_of}
use Rattle.bn_reply_erase.proofs.StepLemmas.{one_step_more}
use Rattle.bn_reply_erase.specs.declared.run.Ending.{Ending}
use Rattle.bn_reply_erase.specs.declared.run.Ending.TheVariants.{Halted, Stuck, Running}

-- ---- what the program starts from

-- tapes that reach to both sides further than n steps lead, the first with the word
pub record Starts (p : Quadruples) (word : List ℕ) (n state : ℕ) (w : Tapes) : Type 0 where
  pub state_is : state ≡ initial_of p.rules
  pub one : w.one ≡ new_window (n + 1) (max (n + 1) (length word)) word
  pub two : w.two ≡ new_window (n + 1) (max (n + 1) 0) []
  pub three : w.three ≡ new_window (n + 1) (max (n + 1) 0) []

room_far : (n right : ℕ) (word : List ℕ) (w : Windowed) → w ≡ new_window (n + 1) (max (n + 1) right) word
    → ReachesFar (n + 1) (within w.left w.right)
room_far n right word w e =
    let left : w.left ≡ n + 1 = ap (λ (x : Windowed). x.left) e in
    let side : w.right ≡ max (n + 1) right = ap (λ (x : Windowed). x.right) e in
    (omega (arith, left), omega (arith, side))

some_rule : (rs : List (Rule ℕ)) → 0 < length rs → IsIn (states_in rs) (initial_of rs)
some_rule [] low = absurd (omega arith)
some_rule (r ∷ rs) low = in_head r.from (r.to ∷ states_in rs)

-- a state of the quadruples is one of the machine's
in_range : (e : Erasure) → IsQuadMachine e.machine → (state : ℕ) → IsIn (states_in e.machine.rules) state
    → state < e.machine.states
in_range e machine state h =
    let found = from_flat_map (λ (r : Rule ℕ). r.from ∷ r.to ∷ []) e.machine.rules state h in
    each_of_two (λ s. s < e.machine.states) found.0.from found.0.to (rule found.0 found.1).from
    (rule found.0 found.1).to state found.2
  where
    rule : (r : Rule ℕ) → IsIn e.machine.rules r → IsRuleInRange e.machine.states e.machine.symbols r
    rule r there = by_place there.place there.stands
      where
        by_place : (k : ℕ) → nth e.machine.rules k ≡ Some r → IsRuleInRange e.machine.states e.machine.symbols r
        by_place zero at = absurd (cc)
        by_place (suc k) at =
            let P : Rule ℕ → Type 0 = IsRuleInRange e.machine.states e.machine.symbols in
            subst P (get_or_from_slice_get e.machine.rules k r r at)
            (machine.in_range k r (slice_get_within e.machine.rules k r at))

module _ (p q : Program) (e : Erasure) (made_of : IsErasing p q e) (first : IsStandardMachine p)
    (second : IsStandardMachine q) (uniform : ErasingsAreUniform)
    (alike : ErasingNumbersRunAlike) (word : List ℕ) (n : ℕ) (w : Tapes)
    (starts : Starts e.machine word n (initial_of e.machine.rules) w) where
  abbrev begin : Configuration ℕ
  begin = configuration (initial_of e.machine.rules) w

  begin_in : IsIn (states_in e.machine.rules) (initial_of e.machine.rules)
  begin_in = some_rule e.machine.rules made_of.machine.some

  begin_is : in_state (name_of e) begin ≡ erasing_start p word
  begin_is =
      let name = (uniform p q e first second made_of).1 in
      λ i. record {
        state = name i;
        one = (starts.one i).tape;
        two = (starts.two i).tape;
        three = (starts.three i).tape;
      }

  both : ((m : ℕ) (d : Configuration ℕ) → Reaches (QuadruplesRunTo (rooms_of w) e.machine) m begin d
      → Reaches (Steps (rooms_of w) (erasing p q) (erasing_final q)) m (in_state (name_of e) begin)
      (in_state (name_of e) d))
      × ((m : ℕ) (c : Configuration ErasingName) → Reaches (Steps (rooms_of w) (erasing p q) (erasing_final q)) m
      (in_state (name_of e) begin) c → (d : Configuration ℕ) × Reaches (QuadruplesRunTo (rooms_of w) e.machine) m
      begin d × (c ≡ in_state (name_of e) d) × IsIn (states_in e.machine.rules) d.state)
  both =
      let all = alike p q first second (name_of e) e.machine made_of.rules (uniform p q e first second made_of).3
      (rooms_of w) begin begin_in in
      (all.0, all.1)

  -- the run over names, in the windows and without ends
  named_run : (m at : ℕ) (v : Tapes) → Reached e.machine m (initial_of e.machine.rules) w at v
      → Reaches (Steps (rooms_of w) (erasing p q) (erasing_final q)) m (erasing_start p word)
      (in_state (name_of e) (configuration at v))
  named_run m at v r =
      subst (λ c. Reaches (Steps (rooms_of w) (erasing p q) (erasing_final q)) m c
      (in_state (name_of e) (configuration at v))) begin_is (both.0 m (configuration at v) r.run)

  wide : (c d : Configuration ErasingName) → Steps (rooms_of w) (erasing p q) (erasing_final q) c d
      → ErasingSteps p q c d
  wide c d s = record { going = s.going; follows = s.follows; stays = record { one = tt; two = tt; three = tt } }

  wide_run : (m : ℕ) (c d : Configuration ErasingName) → Reaches (Steps (rooms_of w) (erasing p q) (erasing_final q)) m
      c d → Reaches (ErasingSteps p q) m c d
  wide_run zero c d run = run
  wide_run (suc m) c d run = (run.0, wide c run.0 run.1, wide_run m run.0 d run.2)

  free_run : (m at : ℕ) (v : Tapes) → Reached e.machine m (initial_of e.machine.rules) w at v
      → Reaches (ErasingSteps p q) m (erasing_start p word) (in_state (name_of e) (configuration at v))
  free_run m at v r = wide_run m (erasing_start p word) (in_state (name_of e) (configuration at v)) (named_run m at v r)

  state_in : (m at : ℕ) (v : Tapes) → Reached e.machine m (initial_of e.machine.rules) w at v
      → IsIn (states_in e.machine.rules) at
  state_in m at v r = run_inside e.machine (rooms_of w) m begin (configuration at v) begin_in r.run

  -- the ends are the same at a configuration that is reached
  ends_alike : (at : ℕ) (v : Tapes) (x : Exit) → IsIn (states_in e.machine.rules) at
      → EndsAt (rooms_of w) e.machine.rules (final_state_of e.machine.rules) (configuration at v) x →
      EndsAt (rooms_of w) (erasing p q) (erasing_final q) (in_state (name_of e) (configuration at v)) x
  ends_alike at v x there ends =
      let all = alike p q first second (name_of e) e.machine made_of.rules (uniform p q e first second made_of).3
      (rooms_of w) (configuration at v) there in
      let same = all.2 x in
      same.0 ends

  -- no head leaves its window
  pub turn_inside : NoHeadLeaves → (m at : ℕ) (v : Tapes) (turn : QuadTurn) (after : ℕ) (u : Tapes) → m ≤ n
      → Reached e.machine m (initial_of e.machine.rules) w at v →
      IsQuadTurn e.machine turn at v after u → StaysInside turn
  turn_inside near m at v turns.Final after u low r turn = tt
  turn_inside near m at v turns.Stuck after u low r turn = tt
  turn_inside near m at v (turns.Moved quad) after u low r turn = tt
  turn_inside near m at v (turns.Left tape side) after u low r turn =
      let leaving : EndsAt (rooms_of w) e.machine.rules (final_state_of e.machine.rules) (configuration at v)
      (Leaving tape side) = subst
      (λ (rooms : Rooms). EndsAt rooms e.machine.rules (final_state_of e.machine.rules) (configuration at v)
      (Leaving tape side)) (rooms_same w v r.same) (leaving_ends e.machine at v tape side turn.0) in
      near p q first second word (n + 1) m (rooms_of w) (in_state (name_of e) (configuration at v))
      (room_far n (length word) word w.one starts.one) (room_far n 0 [] w.two starts.two)
      (room_far n 0 [] w.three starts.three) (omega arith)
      (named_run m at v r) tape side (ends_alike at v (Leaving tape side) (state_in m at v r) leaving)

  -- how the run comes out
  pub comes_out : (m at : ℕ) (v : Tapes) (turn : QuadTurn) (after : ℕ) (u : Tapes) (ending : Ending) → m ≤ n
      → (m < n → IsStep turn → ⊥) →
      Reached e.machine m (initial_of e.machine.rules) w at v → IsQuadTurn e.machine turn at v after u
      → ComesOutOf turn after u ending →
      HasErasingOutcome p q word n m (outcome_of e ending) × IsEndingOf e ending
  comes_out m at v turns.Final after u (Halted work output) low early r turn out = (
    record {
      moment = in_state (name_of e) (configuration at v);
      run = free_run m at v r;
      in_time = low;
      ends = free.halts work.items output.items (ap (name_of e) turn.0 ∙ (uniform p q e first second made_of).2)
          (subst (λ (x : Tapes). IsOutput (rewound x.one.tape) work.items) turn.2 out.0)
          (subst (λ (x : Tapes). IsOutput (rewound x.three.tape) output.items) turn.2 out.1) refl;
    },
    tt,
  )
  comes_out m at v turns.Stuck after u (Stuck state) low early r turn out =
      let same : state ≡ at = out ∙ turn.1 in
      let ends = ends_alike at v Stopped (state_in m at v r) (stuck_ends (rooms_of w) e.machine (configuration at v)
      turn.0) in (
        record {
          moment = in_state (name_of e) (configuration at v);
          run = free_run m at v r;
          in_time = low;
          ends = stopped ends (ap (λ s. free.Stuck (name_of e s)) same);
        },
        subst (λ s. s < e.machine.states) (sym same) (in_range e made_of.machine at (state_in m at v r)),
      )
    where
      stopped : EndsAt (rooms_of w) (erasing p q) (erasing_final q) (in_state (name_of e) (configuration at v)) Stopped
          → outcome_of e (Stuck state) ≡ free.Stuck (name_of e at) →
          ErasingComesOut p q n m (in_state (name_of e) (configuration at v)) (outcome_of e (Stuck state))
      stopped (finishes final why) is = absurd (cc)
      stopped (stops going none why) is = free.sticks going none is
      stopped (leaves tape side d going follows outside why) is = absurd (cc)
  comes_out m at v (turns.Moved quad) after u Running low early r turn out =
      let next : Reached e.machine (m + 1) (initial_of e.machine.rules) w after u =
      one_step_more e.machine m (initial_of e.machine.rules) w at v quad after u r turn in
      let step = one_named at v quad after u (state_in m at v r)
      (subst (λ (rooms : Rooms). GoesBy rooms e.machine quad (configuration at v) (configuration after u))
      (rooms_same w v r.same) turn.0) in (
        record {
          moment = in_state (name_of e) (configuration at v);
          run = free_run m at v r;
          in_time = low;
          ends = free.runs (in_state (name_of e) (configuration after u)) step (by_count (cases_lt m n)) refl;
        },
        tt,
      )
    where
      by_count : (m < n) ⊎ (n ≤ m) → m ≡ n
      by_count (inl less) = absurd (early less tt)
      by_count (inr more) = omega arith

      one_named : (at : ℕ) (v : Tapes) (quad after : ℕ) (u : Tapes) → IsIn (states_in e.machine.rules) at
          → GoesBy (rooms_of w) e.machine quad (configuration at v) (configuration after u) →
          ErasingSteps p q (in_state (name_of e) (configuration at v)) (in_state (name_of e) (configuration after u))
      one_named at v quad after u there goes =
          let all = alike p q first second (name_of e) e.machine made_of.rules (uniform p q e first second made_of).3
          (rooms_of w) (configuration at v) there in
          let run = all.0 1 (configuration after u) (configuration after u, (quad, goes), refl) in
          wide (in_state (name_of e) (configuration at v)) (in_state (name_of e) (configuration after u))
          (subst (λ c. Steps (rooms_of w) (erasing p q) (erasing_final q)
          (in_state (name_of e) (configuration at v)) c) run.2 run.1)
  comes_out m at v turn after u ending low early r turn_is out = absurd out

-- ---- the program's run

starts_at : (p : Quadruples) (word : List ℕ) (n state : ℕ) (w : Tapes) → Starts p word n state w
    → Starts p word n (initial_of p.rules) w
starts_at p word n state w s = record { state_is = refl; one = s.one; two = s.two; three = s.three }

reached_at : (p : Quadruples) (word : List ℕ) (n state : ℕ) (w : Tapes) (made at : ℕ) (v : Tapes)
    → Starts p word n state w → Reached p made state w at v →
    Reached p made (initial_of p.rules) w at v
reached_at p word n state w made at v s r = subst (λ (k : ℕ). Reached p made k w at v) s.state_is r

pub ran_inside : (e : Erasure) (m : Quadruples) (word : List ℕ) (n state : ℕ) (w : Tapes) (made : ℕ) (turn : QuadTurn)
    (after : ℕ) (u : Tapes) → m ≡ e.machine →
    IsErasingOfSome e → ErasingsAreUniform → ErasingNumbersRunAlike → NoHeadLeaves → Starts m word n state w
    → IsRun m n state w made turn after u → StaysInside turn
ran_inside e m word n state w made turn after u same some uniform alike near starts run =
    let s : Starts e.machine word n state w = subst (λ (x : Quadruples). Starts x word n state w) same starts in
    let r : IsRun e.machine n state w made turn after u = subst
    (λ (x : Quadruples). IsRun x n state w made turn after u) same run in
    turn_inside some.first some.second e some.erasing some.first_standard some.second_standard uniform alike word n w
    (starts_at e.machine word n state w s) near made
    r.at r.tapes turn after u r.in_time (reached_at e.machine word n state w made r.at r.tapes s r.reached) r.last

pub ran_whole : (e : Erasure) (m : Quadruples) (word : List ℕ) (n state : ℕ) (w : Tapes) (made : ℕ) (turn : QuadTurn)
    (after : ℕ) (u : Tapes) (ending : Ending) →
    m ≡ e.machine → ErasingsAreUniform → ErasingNumbersRunAlike → Starts m word n state w
    → IsRun m n state w made turn after u → ComesOutOf turn after u ending →
    HasEnded e word n made ending
ran_whole e m word n state w made turn after u ending same uniform alike starts run out = record {
  state = λ p q made_of first second. (both p q made_of first second).1;
  comes_out = λ p q made_of first second. (both p q made_of first second).0;
}
  where
    s : Starts e.machine word n state w
    s = subst (λ (x : Quadruples). Starts x word n state w) same starts

    r : IsRun e.machine n state w made turn after u
    r = subst (λ (x : Quadruples). IsRun x n state w made turn after u) same run

    both : (p q : Program) → IsErasing p q e → IsStandardMachine p → IsStandardMachine q
        → HasErasingOutcome p q word n made (outcome_of e ending) × IsEndingOf e ending
    both p q made_of first second =
        comes_out p q e made_of first second uniform alike word n w (starts_at e.machine word n state w s) made r.at
        r.tapes turn after u ending r.in_time r.early
        (reached_at e.machine word n state w made r.at r.tapes s r.reached) r.last out
