-- What the headline leaves open: the number of element steps.
use Rattle.std.specs.Prelude.{◌≡◌, ◌⊎◌, ℕ, ◌<◌, ◌≤◌, List, [], ◌∷◌, ◌++◌, length, take, Some, refl}
use Rattle.std.proofs.Common.{arith, subst, inl, inr, sym, ap, ◌∙◌, append_assoc}
use Rattle.std.proofs.lemmas.Bool.{cases_lt}
use Rattle.std.proofs.lemmas.Int.{ints}
use Rattle.bn_bennett_laws.specs.Stages.{history}
use Rattle.bn_boards.specs.BoardRuns.{AreEndTapes, HasEndTapes, at_stop, for_number, for_shift, to_read, to_write}
use Rattle.bn_machine.specs.Machine.{GoesBy, IsFinal, MachineRunsTo, Moment, Program, start}
use Rattle.bn_machine.specs.declared.quint.Shift.TheVariants.{Right}
use Rattle.bn_machine.specs.declared.quint.Side.{Side}
use Rattle.bn_machine.specs.Outcome.{Limits, Outcome, Halted, Stuck, Outside}
use Rattle.bn_machine.specs.Run.{Follows}
use Rattle.bn_machine.specs.Tape.{Tape, ahead, blank_tape, shift, word_tape}
use Rattle.bn_machine.proofs.OutputLemmas.{output_once}
use Rattle.bn_machine.specs.Window.{anywhere}
use Rattle.bn_machine.proofs.MachineStepLemmas.{goes_by_once, steps_are_functions}
use Rattle.bn_circuits.specs.declared.net.TheConstants.{MOST_ELEMENTS}
use Rattle.bn_table.specs.Rows.{Named}
use Rattle.bn_reply.specs.declared.status.Status.{Status}
use Rattle.bn_reply_relations.specs.ToldRuns.{outcome_line}
use Rattle.bn_reply_relations.specs.RunText.{elements_line, steps_line, tapes_text}
use Rattle.bn_headline.specs.Elements.{elements, most_steps}
use Rattle.bn_headline.specs.MachineHeadline.{AreLastLines, MachineHeadline, TellsExit, TookAnswer, TookRun}
use Rattle.bn_headline.specs.MachineHeadline.{least_steps}
use Rattle.bn_headline.specs.HeadlineLaws.{AgreeAs, DifferInSteps, HeadlinesAgree}

-- runs of as many steps are one, and by the same quintuples
follows_once : (p : Program) (ns ms : List ℕ) (x c d : Moment) → length ns ≡ length ms → Follows anywhere p ns x c
    → Follows anywhere p ms x d
    → (ns ≡ ms) × (c ≡ d)
follows_once p [] [] x c d count h k = (refl, sym h ∙ k)
follows_once p [] (m ∷ ms) x c d count h k = absurd (cc)
follows_once p (n ∷ ns) [] x c d count h k = absurd (cc)
follows_once p (n ∷ ns) (m ∷ ms) x c d count h k =
    let before = follows_once p ns ms x h.0 k.0 (omega (arith, count)) h.1 k.1 in
    let step : GoesBy anywhere p m h.0 d = subst (λ z. GoesBy anywhere p m z d) (sym before.1) k.2 in
    let last = goes_by_once anywhere anywhere p n m h.0 c d h.2 step in
    (λ j. last.0 j ∷ before.0 j, last.1)

-- the tapes at the end of a run are one
module _ (p : Program) (l : Limits) (ns : List ℕ) (c : Moment) where
  stop_apart : (n state symbol : ℕ) (s : Side) (o : Outcome) → o ≡ Stuck state symbol → o ≡ Outside n s → ⊥
  stop_apart n state symbol s o a b = let both : Stuck state symbol ≡ Outside n s = sym a ∙ b in cc

  tapes_apart : (n m : ℕ) (s u : Side) (o : Outcome) → o ≡ Outside n s → o ≡ Outside m u → n ≡ m
  tapes_apart n m s u o a b = let both : Outside n s ≡ Outside m u = sym a ∙ b in cc

  no_step : (d : Moment) → MachineRunsTo anywhere p c d → IsFinal p c → ⊥
  no_step d goes final = goes.1.going final

  tapes_one : (o : Outcome) (x y : Tape × Tape × Tape) → AreEndTapes p l ns c o x → AreEndTapes p l ns c o y → x ≡ y
  tapes_one o x y (at_stop a b) (at_stop e f) = b ∙ sym f
  tapes_one o x y (at_stop a b) (for_number d goes e f) = absurd (stop_apart 2 _ _ _ o a e)
  tapes_one o x y (at_stop a b) (for_shift d end goes e f) = absurd (stop_apart 1 _ _ _ o a e)
  tapes_one o x y (at_stop a b) (to_read z k final out e last f) = absurd (stop_apart 1 _ _ _ o a e)
  tapes_one o x y (at_stop a b) (to_write z k final out e last f) = absurd (stop_apart 3 _ _ _ o a e)
  tapes_one o x y (for_number d goes a b) (at_stop e f) = absurd (stop_apart 2 _ _ _ o e a)
  tapes_one o x y (for_number d goes a b) (for_number g goes_too e f) = b ∙ sym f
  tapes_one o x y (for_number d goes a b) (for_shift g end goes_too e f) =
      absurd (let same = tapes_apart 2 1 _ _ o a e in omega arith)
  tapes_one o x y (for_number d goes a b) (to_read z k final out e last f) = absurd (no_step d goes final)
  tapes_one o x y (for_number d goes a b) (to_write z k final out e last f) = absurd (no_step d goes final)
  tapes_one o x y (for_shift d end goes a b) (at_stop e f) = absurd (stop_apart 1 _ _ _ o e a)
  tapes_one o x y (for_shift d end goes a b) (for_number g goes_too e f) =
      absurd (let same = tapes_apart 1 2 _ _ o a e in omega arith)
  tapes_one o x y (for_shift d end goes a b) (for_shift g other goes_too e f) =
      let same : d ≡ g = steps_are_functions anywhere p c d g goes goes_too in
      b ∙ (λ j. ((same j).tape, shift (history ns) Right, blank_tape)) ∙ sym f
  tapes_one o x y (for_shift d end goes a b) (to_read z k final out e last f) = absurd (no_step d goes final)
  tapes_one o x y (for_shift d end goes a b) (to_write z k final out e last f) = absurd (no_step d goes final)
  tapes_one o x y (to_read z k final out a last b) (at_stop e f) = absurd (stop_apart 1 _ _ _ o e a)
  tapes_one o x y (to_read z k final out a last b) (for_number g goes e f) = absurd (no_step g goes final)
  tapes_one o x y (to_read z k final out a last b) (for_shift g end goes e f) = absurd (no_step g goes final)
  tapes_one o x y (to_read z k final out a last b) (to_read w n also out_too e last_too f) =
      let words : z ≡ w = output_once c.tape z w out out_too in
      let counts : k ≡ n = omega (arith, ints, last, last_too) in
      b ∙ (λ j. (
        shift (ahead (counts j) c.tape) Right,
        history ns,
        ahead (counts j) (word_tape (take (counts j) (words j))),
      )) ∙ sym f
  tapes_one o x y (to_read z k final out a last b) (to_write w n also out_too e last_too f) =
      absurd (let same = tapes_apart 1 3 _ _ o a e in omega arith)
  tapes_one o x y (to_write z k final out a last b) (at_stop e f) = absurd (stop_apart 3 _ _ _ o e a)
  tapes_one o x y (to_write z k final out a last b) (for_number g goes e f) = absurd (no_step g goes final)
  tapes_one o x y (to_write z k final out a last b) (for_shift g end goes e f) = absurd (no_step g goes final)
  tapes_one o x y (to_write z k final out a last b) (to_read w n also out_too e last_too f) =
      absurd (let same = tapes_apart 3 1 _ _ o a e in omega arith)
  tapes_one o x y (to_write z k final out a last b) (to_write w n also out_too e last_too f) =
      let words : z ≡ w = output_once c.tape z w out out_too in
      let counts : k ≡ n = omega arith in
      b ∙ (λ j. (
        shift (ahead (counts j) c.tape) Right,
        history ns,
        shift (ahead (counts j) (word_tape (take (counts j) (words j)))) Right,
      )) ∙ sym f

module _ (t : Named) (l : Limits) (symbols : List ℕ) (i : ℕ) where
  -- and so are the lines of them
  end_one : (o : Outcome) (a b : List ℕ) (x y : Tape × Tape × Tape) → HasEndTapes t.machine symbols l i o x
      → HasEndTapes t.machine symbols l i o y
      → a ≡ tapes_text t l x → b ≡ tapes_text t l y → a ≡ b
  end_one o a b x y one two first second =
      let same = follows_once t.machine one.numbers two.numbers (start t.machine symbols) one.moment two.moment
      (one.steps ∙ sym two.steps) one.run two.run in
      let moved = subst (λ m. AreEndTapes t.machine l two.numbers m o x) same.1
      (subst (λ ns. AreEndTapes t.machine l ns one.moment o x) same.0 one.tapes) in
      first ∙ ap (tapes_text t l) (tapes_one t.machine l two.numbers two.moment o x y moved two.tapes) ∙ sym second

  -- the last lines of a run are one
  last_one : (o : Outcome) (a b : List ℕ) → AreLastLines t l symbols i o a → AreLastLines t l symbols i o b → a ≡ b
  last_one (Halted y) a b h k = h ∙ sym k
  last_one (Stuck state symbol) a b h k = end_one (Stuck state symbol) a b h.0 k.0 h.1 k.1 h.2 k.2
  last_one (Outside n s) a b h k = end_one (Outside n s) a b h.0 k.0 h.1 k.1 h.2 k.2

  abbrev Took : Outcome → Status → List ℕ → List ℕ → Type 0
  Took o status taken took = TookRun (TellsExit t l symbols i o) (least_steps i o) (most_steps t.machine l) status
      (Some taken) (Some took)

  -- what the sink has then
  text_of : (o : Outcome) (status : Status) (taken took : List ℕ) (h : Took o status taken took) →
      took ≡ (taken ++ elements_line (elements t.machine l)) ++ (outcome_line t o ++ (steps_line h.cost ++ h.told.last))
  text_of o status taken took h =
      let is : took ≡ taken ++ h.text = cc in
      is ∙ ap (λ x. taken ++ x) h.told.text_is
      ∙ sym (append_assoc taken (elements_line (elements t.machine l))
      (outcome_line t o ++ (steps_line h.cost ++ h.told.last)))

  joined : (taken : List ℕ) (o : Outcome) (behind : List ℕ) →
      (taken ++ elements_line (elements t.machine l)) ++ (outcome_line t o ++ behind)
      ≡ ((taken ++ elements_line (elements t.machine l)) ++ outcome_line t o) ++ behind
  joined taken o behind = sym (append_assoc (taken ++ elements_line (elements t.machine l)) (outcome_line t o) behind)

  -- where the last lines are one, the texts differ in the steps alone
  differ : (o : Outcome) (status other : Status) (taken took second : List ℕ) (h : Took o status taken took)
      (k : Took o other taken second) →
      k.told.last ≡ h.told.last → DifferInSteps took second
  differ o status other taken took second h k same = record {
    front = (taken ++ elements_line (elements t.machine l)) ++ outcome_line t o;
    behind = h.told.last;
    cost = h.cost;
    second = k.cost;
    one = text_of o status taken took h ∙ joined taken o (steps_line h.cost ++ h.told.last);
    two = text_of o other taken second k ∙ joined taken o (steps_line k.cost ++ k.told.last)
        ∙ ap (λ x. ((taken ++ elements_line (elements t.machine l)) ++ outcome_line t o) ++ (steps_line k.cost ++ x))
        same;
  }

  runs_agree : (o : Outcome) (status other : Status) (taken took second : List ℕ) → Took o status taken took
      → Took o other taken second →
      (status ≡ other) × AgreeAs took second
  runs_agree o status other taken took second h k =
      let same = last_one o k.told.last h.told.last k.told.last_lines h.told.last_lines in
      (h.told.status_is ∙ sym k.told.status_is, inr (differ o status other taken took second h k same))

  abbrev Answer : Outcome → Status → List ℕ → List ℕ → Type 0
  Answer o status taken took = TookAnswer (TellsExit t l symbols i o) t.machine l i o status (Some taken) (Some took)

  answers_agree : (o : Outcome) (status other : Status) (taken took second : List ℕ) → Answer o status taken took
      → Answer o other taken second →
      (status ≡ other) × AgreeAs took second
  answers_agree o status other taken took second h k = by (cases_lt MOST_ELEMENTS (elements t.machine l))
    where
      by : (MOST_ELEMENTS < elements t.machine l) ⊎ (elements t.machine l ≤ MOST_ELEMENTS)
          → (status ≡ other) × AgreeAs took second
      by (inl many) =
          let a = h.large many in
          let b = k.large many in
          let first = a.1 in
          let then = b.1 in
          let same : took ≡ second = cc in
          (a.0 ∙ sym b.0, inl same)
      by (inr few) = runs_agree o status other taken took second (h.runs few) (k.runs few)

pub headlines-agree : HeadlinesAgree
unfolding MachineHeadline
headlines-agree words bytes word l asks short t symbols i o own status other taken took second h k =
    answers_agree t l symbols i o status other taken took second (h word l asks short t symbols i o own)
    (k word l asks short t symbols i o own)
