-- `drive` has one answer to all words, windows, numbers of steps and bytes.
use Rattle.std.specs.Prelude.{◌≡◌, ℕ, ◌+◌, ◌-◌, ◌*◌, ◌≤◌, Bool, List, ◌++◌, Option, Some, None, length, refl}
use Rattle.std.proofs.Common.{zero, suc, arith, sym, ap, subst, ◌∙◌}
use Rattle.bn_lists.specs.Runs.{Reaches}
use Rattle.bn_circuits.specs.Alike.{AreAlike}
use Rattle.bn_circuits.specs.Circuits.{Circuit, Goes, clock}
use Rattle.bn_circuits.specs.Counting.{one_if, tally}
use Rattle.bn_circuits.specs.Stepping.{places, run}
use Rattle.bn_circuits.specs.declared.config.Config.{Config}
use Rattle.bn_circuits.specs.declared.place.Place.TheVariants.{Enter}
use Rattle.bn_circuits.proofs.AlikeLemmas.{places-alike, run-alike}
use Rattle.bn_circuits.proofs.CountingLemmas.{tally-more, tally-zero}
use Rattle.bn_circuits.proofs.RunLemmas.{Reaches-run, run_stops}
use Rattle.bn_machine.specs.Outcome.{Limits}
use Rattle.bn_quad.specs.Quadruples.{Configuration}
use Rattle.bn_qtable.specs.Rows.{QuadTable}
use Rattle.bn_bennett_laws.specs.Steps.{Exit, Finished, Stopped, Leaving}
use Rattle.bn_network.specs.Networks.{elements_by}
use Rattle.bn_network.specs.Starts.{AreInputs, start_from, words_on}
use Rattle.bn_boards.specs.Layouts.{is_moment, moments, spelled_tape}
use Rattle.bn_boards.specs.Builds.{Build, build_elements, start_of}
use Rattle.bn_boards.specs.BuildRuns.{BuildRunsTo}
use Rattle.bn_boards.proofs.ConverseLemmas.{builds-once}
use Rattle.bn_reply.specs.Answering.{HasAnswer}
use Rattle.bn_reply.specs.Codes.{IsReplyStatus}
use Rattle.bn_reply_relations.specs.RunText.{elements_line, quadruple_line, steps_line}
use Rattle.bn_reply_builds.specs.DriveText.{drive_exit_line, drive_tape_line, drive_text, inside_line}
use Rattle.bn_reply_builds.specs.Drives.{Drives, leaves, stays}
use Rattle.bn_reply_builds.proofs.DriveLemmas.{drives-once}
use Rattle.bn_reply_builds.specs.BuildReply.{IsBuiltFor}
use Rattle.bn_reply_builds.proofs.AlikeLemmas.{circuits, ends_as, layouts, limits, machines, names, starts}
use Rattle.bn_reply_builds.proofs.BuiltLemmas.{build_begins}
use Rattle.bn_reply_builds.proofs.SettledLemmas.{AreToldOnce, built_settled}
use Rattle.bn_reply_builds.specs.Driven.{TellsDrive, drive_status}
use Rattle.bn_reply_builds.specs.DriveReply.{DriveIsSettled}
use Rattle.bn_reply_builds.proofs.OutcomeLemmas.{not_inside}

-- ---- counts of circuits that are alike

tally_alike : (k j : Circuit) (test : Config → Bool) → AreAlike k j → (n : ℕ) (c x y : Config)
    → Reaches (Goes k) n c x → Reaches (Goes j) n c y
    → tally test k n c ≡ tally test j n c
tally_alike k j test alike zero c x y path other = tally-zero k test c ∙ sym (tally-zero j test c)
tally_alike k j test alike (suc n) c x y path other =
    let same : path.0 ≡ other.0 =
    sym (Reaches-run k 1 c path.0 (path.0, path.1, refl)) ∙ run-alike k j alike c 1
    ∙ Reaches-run j 1 c other.0 (other.0, other.1, refl) in
    tally-more k test n c path.0 path.1
    ∙ ap (λ r. one_if (test path.0) + r)
    (tally_alike k j test alike n path.0 x y path.2 (subst (λ z. Reaches (Goes j) n z y) (sym same) other.2))
    ∙ (λ i. one_if (test (same i)) + tally test j n (same i)) ∙ sym (tally-more j test n c other.0 other.1)

-- ---- the answers of two builds

module _ (most : ℕ) (low : most ≤ 2305843009213693952) (t : QuadTable) (l : Limits) (one two three : List ℕ)
    (inputs : AreInputs t.machine l one two three) where
  abbrev c : Configuration ℕ
  c = words_on t.machine one two three

  room : (f : Build) → IsBuiltFor t.machine l f → most + 48 * build_elements f ≤ clock
  room f h = let few : build_elements f ≤ 4194304 = h.few in omega (arith, few)

  pub drive_some : (f : Build) → IsBuiltFor t.machine l f → HasAnswer (TellsDrive most t c f)
  drive_some f h =
      let found = (drives-once t f h.build c (start_from f.machine f.limits c) (start_of f c)
      (build_begins t.machine l one two three inputs f h) most (room f h)).0 in (
        drive_status found.0,
        found.1,
        places f.circuit most (start_of f c),
        record { exit = found.0; drives = found.2; status_is = refl; told_is = refl },
      )

  module _ (f g : Build) (h : IsBuiltFor t.machine l f) (k : IsBuiltFor t.machine l g) where
    abbrev alike : AreAlike f.circuit g.circuit
    alike = circuits t.machine l f g h k

    abbrev begin : start_of f c ≡ start_of g c
    begin = starts t.machine l f g h k c

    runs : run f.circuit (start_of f c) most ≡ run g.circuit (start_of g c) most
    runs = run-alike f.circuit g.circuit alike (start_of f c) most ∙ ap (λ x. run g.circuit x most) begin

    heard : places f.circuit most (start_of f c) ≡ places g.circuit most (start_of g c)
    heard = places-alike f.circuit g.circuit alike most (start_of f c) ∙ ap (places g.circuit most) begin

    abbrev laid : f.layout ≡ g.layout
    laid = layouts t.machine l f g h k

    elements : build_elements f ≡ build_elements g
    elements = λ i. elements_by (sym (machines t.machine l f g h k) i) (sym (limits t.machine l f g h k) i)
        (length (sym (names t.machine l f g h k) i))

    text_as : (line other : List ℕ) → line ≡ other → (n m : ℕ) → n ≡ m → (x y : Config) → x ≡ y
        → drive_text t f line n x ≡ drive_text t g other m y
    text_as line other lines n m steps x y there =
        λ i. elements_line (elements i) ++ (lines i ++ (steps_line (there i).steps ++ (quadruple_line (steps i)
        ++ (drive_tape_line t.names.one 1 (spelled_tape (laid i) (there i).states 1)
        ++ (drive_tape_line t.names.two 2 (spelled_tape (laid i) (there i).states 2)
        ++ drive_tape_line t.names.three 3 (spelled_tape (laid i) (there i).states 3))))))

    -- where the board has left within the steps it is there after all of them
    stopped : (b : Build) (n : ℕ) (d : Configuration ℕ) (e : Exit)
        (by : BuildRunsTo b (start_from b.machine b.limits c) (start_of b c) n d e) → by.cost ≤ most
        → run b.circuit (start_of b c) most ≡ run b.circuit (start_of b c) by.cost
    stopped b n d e by within =
        run_stops b.circuit by.cost most (start_of b c) (run b.circuit (start_of b c) by.cost) by.run_to within
        (λ fewer. by.ended)

    counts : (x y : Config) → Reaches (Goes f.circuit) most (start_of f c) x → Reaches (Goes g.circuit) most
        (start_of g c) y
        → moments f.layout f.circuit most (start_of f c) - 1 ≡ moments g.layout g.circuit most (start_of g c) - 1
    counts x y path other =
        ap (λ r. one_if (is_moment f.layout (start_of f c)) + r - 1)
        (tally_alike f.circuit g.circuit (is_moment f.layout) alike most (start_of f c) x y path
        (subst (λ z. Reaches (Goes g.circuit) most z y) (sym begin) other))
        ∙ (λ i. one_if (is_moment (laid i) (begin i)) + tally (is_moment (laid i)) g.circuit most (begin i) - 1)

    apart : (b : Build) (n : ℕ) (d : Configuration ℕ) (e : Exit)
        (by : BuildRunsTo b (start_from b.machine b.limits c) (start_of b c) n d e) → by.cost ≤ most
        → (m i : ℕ) → (run b.circuit (start_of b c) most).place ≡ Enter m i → ⊥
    apart b n d e by within m i at =
        not_inside b (run b.circuit (start_of b c) by.cost).place (run b.circuit (start_of b c) by.cost).states d e
        by.leaves m i
        (ap (λ (x : Config). x.place) (sym (stopped b n d e by within)) ∙ at)

    abbrev DrivesBy : Build → Option Exit → List ℕ → Type 0
    DrivesBy b = Drives t b c (start_from b.machine b.limits c) (start_of b c) most

    drive_same : (x y : Option Exit) (a b : List ℕ) → DrivesBy f x a → DrivesBy g y b → (x ≡ y) × (a ≡ b)
    drive_same x y a b (leaves n d e ends by within why text) (leaves m v w again other near also words) =
        let same = builds-once.0 g k.build c n m d v e w (ends_as t.machine l f g h k c n d e ends) again in
        let there = sym (stopped f n d e by within) ∙ runs ∙ stopped g m v w other near in (
          why ∙ ap (λ z. Some z) same.2 ∙ sym also,
          text
              ∙ text_as (drive_exit_line t d e) (drive_exit_line t v w) (λ i. drive_exit_line t (same.1 i) (same.2 i))
              n m same.0
              (run f.circuit (start_of f c) by.cost) (run g.circuit (start_of g c) other.cost) there
              ∙ sym words,
        )
    drive_same x y a b (leaves n d e ends by within why text) (stays m i path at also words) =
        absurd (apart f n d e by within m i (ap (λ (z : Config). z.place) runs ∙ at))
    drive_same x y a b (stays m i path at why text) (leaves n d e ends by within also words) =
        absurd (apart g n d e by within m i (ap (λ (z : Config). z.place) (sym runs) ∙ at))
    drive_same x y a b (stays m i path at why text) (stays v w other there also words) =
        let both : Enter m i ≡ Enter v w = sym at ∙ ap (λ (z : Config). z.place) runs ∙ there in (
          why ∙ sym also,
          text
              ∙ text_as (inside_line (Enter m i)) (inside_line (Enter v w)) (ap inside_line both) _ _
              (counts _ _ path other)
              (run f.circuit (start_of f c) most) (run g.circuit (start_of g c) most) runs
              ∙ sym words,
        )

  reply_status : (x : Option Exit) → IsReplyStatus (drive_status x)
  reply_status None = tt
  reply_status (Some Finished) = tt
  reply_status (Some Stopped) = tt
  reply_status (Some (Leaving tape s)) = tt

  told_once : AreToldOnce (TellsDrive most t c) t.machine l
  told_once = record {
    some = drive_some;
    one = λ f g h k s u a b x y told also.
        let same = drive_same f g h k told.exit also.exit a b told.drives also.drives in
        record {
          statuses = told.status_is ∙ ap drive_status same.0 ∙ sym also.status_is;
          texts = same.1;
          places = told.told_is ∙ heard f g h k ∙ sym also.told_is;
        };
    status = λ f h s text told tells. subst IsReplyStatus (sym tells.status_is) (reply_status tells.exit);
  }

pub drive_is_settled : DriveIsSettled
drive_is_settled words l most bytes low =
    built_settled (λ t one two three. TellsDrive most t (words_on t.machine one two three)) words l bytes
    (λ t reads even one two three named inputs. told_once most low t l one two three inputs)
