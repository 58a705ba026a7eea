-- The line of a configuration is there, and is one.
use Rattle.std.specs.Prelude.{◌≡◌, ◌≢◌, ℕ, zero, suc, ◌⊎◌, pos, List, [], ◌∷◌, ◌++◌, All, Option, Some, None}
use Rattle.std.specs.Prelude.{codes, decimal, refl}
use Rattle.std.proofs.Common.{inl, inr, sym, subst, ap, ◌∙◌}
use Rattle.std.proofs.lemmas.Bool.Decides.{eqb_tells}
use Rattle.bn_lists.specs.Runs.{Reaches}
use Rattle.bn_lists.proofs.RunsLemmas.{runs_end_once}
use Rattle.bn_machine.specs.Tape.{Tape, cell, word_tape}
use Rattle.bn_quad.specs.Overlap.{IsDeterministic}
use Rattle.bn_quad.specs.Quadruples.{Configuration, Deed, GoesBy, HasNoRule, Quadruples, QuadruplesRunTo, done}
use Rattle.bn_quad.specs.Quadruples.{everywhere, final_state_of}
use Rattle.bn_quad.proofs.QuadStepLemmas.{goes_by_once, goes_function, leads_goes}
use Rattle.bn_bennett_laws.specs.Steps.{Steps}
use Rattle.bn_erase_laws.proofs.DecidedLemmas.{Next, has_none, is_final, next_of, steps_on}
use Rattle.bn_qtable.specs.Rows.{QuadTable}
use Rattle.bn_reply.specs.Lines.{line}
use Rattle.bn_reply_traces.specs.ConfigurationText.{IsConfigurationLine, IsConfigurationLineAfter, IsConfigurationText}
use Rattle.bn_reply_traces.specs.ConfigurationText.{IsNextQuadruple, name_in}
use Rattle.bn_reply_traces.specs.Extents.{symbols_from}
use Rattle.bn_reply_traces.specs.MomentText.{AreLines, IsTapeText, rule_text, tape_text}
use Rattle.bn_reply_traces.specs.Stages.{IsMoved}
use Rattle.bn_reply_traces.proofs.ExtentLemmas.{first_of_word, last_of_word}
use Rattle.bn_reply_traces.proofs.LinesLemmas.{last_step}
use Rattle.bn_reply_traces.proofs.MomentLemmas.{counted}
use Rattle.bn_reply_traces.proofs.TapeStageLemmas.{deed_steps}
use Rattle.bn_reply_traces.proofs.TraceLemmas.{Shown, blank_or_not, first_again, last_again, one_tape_text}

-- ---- each tape has a first and a last cell that is shown

shown_word : (word : List ℕ) → All (λ s. s ≢ 0) word → Shown (word_tape word)
shown_word word letters = record {
  first = pos 0;
  last = _;
  begins = first_of_word word;
  ends = last_of_word word letters;
}

shown_deed : (d : Deed) (t : Tape) → Shown t → Shown (done d t)
shown_deed d t s =
    let b = blank_or_not (cell (done d t) t.head) in
    let steps = deed_steps d t t.head refl in
    let m : IsMoved t (done d t) t.head b.0 (done d t).head =
    record { from = refl; to = refl; near = steps.near; beside = steps.beside; blank = b.1 }
    in
    let f = first_again t (done d t) s.first t.head (done d t).head b.0 m s.begins in
    let l = last_again t (done d t) s.last t.head (done d t).head b.0 m s.ends in
    record { first = f.0; last = l.0; begins = f.1; ends = l.1 }

pub record AreShown (c : Configuration ℕ) : Type 0 where
  pub one : Shown c.one
  pub two : Shown c.two
  pub three : Shown c.three

pub words_shown : (c : Configuration ℕ) (one two three : List ℕ) → c.one ≡ word_tape one → c.two ≡ word_tape two →
    c.three ≡ word_tape three → All (λ s. s ≢ 0) one → All (λ s. s ≢ 0) two → All (λ s. s ≢ 0) three → AreShown c
words_shown c one two three e1 e2 e3 l1 l2 l3 = record {
  one = subst Shown (sym e1) (shown_word one l1);
  two = subst Shown (sym e2) (shown_word two l2);
  three = subst Shown (sym e3) (shown_word three l3);
}

shown_more : (p : Quadruples) (c d : Configuration ℕ) → QuadruplesRunTo everywhere p c d → AreShown c → AreShown d
shown_more p c d goes s =
    let r = goes.1.rule in
    subst AreShown (sym goes.1.gives) (record {
      one = shown_deed r.one c.one s.one;
      two = shown_deed r.two c.two s.two;
      three = shown_deed r.three c.three s.three;
    })

pub shown_run : (p : Quadruples) (i : ℕ) (c d : Configuration ℕ) → Reaches (QuadruplesRunTo everywhere p) i c d →
    AreShown c → AreShown d
shown_run p zero c d run s = subst AreShown run s
shown_run p (suc i) c d run s = shown_run p i run.0 d run.2 (shown_more p c run.0 run.1 s)

-- ---- a configuration has a text

tape_said : (name : ℕ → List ℕ) (t : Tape) → Shown t → (text : List ℕ) × IsTapeText name t text
tape_said name t s =
    let many = counted s.first s.last (s.begins.least s.last s.ends.stands) in (
      tape_text name s.first t.head (symbols_from (cell t) s.first many.0) many.0,
      record {
        first = s.first;
        last = s.last;
        count = many.0;
        begins = s.begins;
        ends = s.ends;
        counted = many.1;
        is = refl;
      },
    )

pub text_some : (t : QuadTable) (i : ℕ) (c : Configuration ℕ) → AreShown c
    → (text : List ℕ) × IsConfigurationText t i c text
text_some t i c s =
    let one = tape_said (name_in t.names.one) c.one s.one in
    let two = tape_said (name_in t.names.two) c.two s.two in
    let three = tape_said (name_in t.names.three) c.three s.three in (
      _,
      record {
        one = one.0;
        two = two.0;
        three = three.0;
        one_is = one.1;
        two_is = two.1;
        three_is = three.1;
        is = refl;
      },
    )

pub number_or : (a b : ℕ) → (a ≡ b) ⊎ (a ≢ b)
number_or a b = elim (eqb_tells a b) [ inl same ↦ inl same.1 | inr other ↦ inr other.1 ]

-- what comes next
pub next_at : (p : Quadruples) (c : Configuration ℕ) → Next number_or p.rules (final_state_of p.rules) c
next_at p c = next_of number_or p.rules (final_state_of p.rules) c

pub steps_go : (p : Quadruples) (c d : Configuration ℕ) → IsDeterministic p.rules →
    Steps everywhere p.rules (final_state_of p.rules) c d → QuadruplesRunTo everywhere p c d
steps_go p c d apart s =
    (s.follows.number, leads_goes everywhere p s.follows.number c d apart s.going s.stays s.follows.leads)

pub next_some : (p : Quadruples) (c : Configuration ℕ) → IsDeterministic p.rules
    → (rule : Option ℕ) × IsNextQuadruple p c rule
next_some p c apart = by (next_at p c)
  where
    by : Next number_or p.rules (final_state_of p.rules) c → (rule : Option ℕ) × IsNextQuadruple p c rule
    by (is_final is) = (None, inl is)
    by (has_none going none) = (None, inr (record { going = going; none = none }))
    by (steps_on d s) = let g = steps_go p c d apart s in (Some g.0, (d, g.1))

pub line_some : (t : QuadTable) (first : Configuration ℕ) (i : ℕ) (c : Configuration ℕ)
    → IsDeterministic t.machine.rules →
    AreShown c → Reaches (QuadruplesRunTo everywhere t.machine) i first c →
    (text : List ℕ) × IsConfigurationLineAfter t first i text
line_some t first i c apart s run =
    let shown = text_some t i c s in
    let rule = next_some t.machine c apart in
    (_, (c, run, record { shown = shown.0; shown_is = shown.1; rule = rule.0; next = rule.1; is = refl }))

pub lines_some : (t : QuadTable) (first : Configuration ℕ) (i : ℕ) (c : Configuration ℕ)
    → IsDeterministic t.machine.rules →
    AreShown first → Reaches (QuadruplesRunTo everywhere t.machine) i first c →
    (text : List ℕ) × AreLines (IsConfigurationLineAfter t first) (suc i) text
lines_some t first zero c apart s run =
    let last = line_some t first zero c apart (shown_run t.machine zero first c run s) run in
    (last.0, ([], last.0, refl, last.1, refl))
lines_some t first (suc i) c apart s run =
    let before = last_step (QuadruplesRunTo everywhere t.machine) i first c run in
    let front = lines_some t first i before.0 apart s before.1 in
    let last = line_some t first (suc i) c apart (shown_run t.machine (suc i) first c run s) run in
    (front.0 ++ last.0, (front.0, last.0, front.1, last.1, refl))

-- ---- and one only

one_text : (t : QuadTable) (i : ℕ) (c : Configuration ℕ) (a b : List ℕ) → IsConfigurationText t i c a →
    IsConfigurationText t i c b → a ≡ b
one_text t i c a b x y =
    let one = one_tape_text (name_in t.names.one) c.one x.one y.one x.one_is y.one_is in
    let two = one_tape_text (name_in t.names.two) c.two x.two y.two x.two_is y.two_is in
    let three = one_tape_text (name_in t.names.three) c.three x.three y.three x.three_is y.three_is in
    x.is
    ∙ (λ k. decimal i ++ (codes " " ++ (name_in t.names.states c.state ++ (codes " tape 1" ++ (one k
    ++ (codes " tape 2" ++ (two k ++ (codes " tape 3" ++ three k))))))))
    ∙ sym y.is

-- where no step is made none is
pub final_not_going : (p : Quadruples) (c d : Configuration ℕ) → c.state ≡ final_state_of p.rules →
    QuadruplesRunTo everywhere p c d → ⊥
final_not_going p c d final goes = goes.1.going final

pub none_not_going : (p : Quadruples) (c d : Configuration ℕ) → HasNoRule p.rules c → QuadruplesRunTo everywhere p c d
    → ⊥
none_not_going p c d none goes = none.none goes.0 goes.1.rule goes.1.first.stands goes.1.first.holds

ends_not_going : (p : Quadruples) (c d : Configuration ℕ) (n : ℕ) → IsNextQuadruple p c None → GoesBy everywhere p n c d
    → ⊥
ends_not_going p c d n (inl final) goes = final_not_going p c d final (n, goes)
ends_not_going p c d n (inr stuck) goes = none_not_going p c d stuck.none (n, goes)

pub one_next : (p : Quadruples) (c : Configuration ℕ) (a b : Option ℕ) → IsNextQuadruple p c a → IsNextQuadruple p c b
    → a ≡ b
one_next p c None None x y = refl
one_next p c None (Some m) x y = absurd (ends_not_going p c y.0 m x y.1)
one_next p c (Some n) None x y = absurd (ends_not_going p c x.0 n y x.1)
one_next p c (Some n) (Some m) x y =
    ap (λ (k : ℕ). Some k) (goes_by_once everywhere everywhere p n m c x.0 y.0 x.1 y.1).0

pub one_line : (t : QuadTable) (first : Configuration ℕ) (i : ℕ) (a b : List ℕ) → IsConfigurationLineAfter t first i a →
    IsConfigurationLineAfter t first i b → a ≡ b
one_line t first i a b x y =
    let p = t.machine in
    let same : x.0 ≡ y.0 = runs_end_once (QuadruplesRunTo everywhere p) (goes_function everywhere p) i first x.0 y.0 x.1
    y.1 in
    let moved : IsConfigurationLine t i y.0 a = subst (λ (c : Configuration ℕ). IsConfigurationLine t i c a) same x.2 in
    let k : IsConfigurationLine t i y.0 b = y.2 in
    let shown = one_text t i y.0 moved.shown k.shown moved.shown_is k.shown_is in
    let rule = one_next p y.0 moved.rule k.rule moved.next k.next in
    moved.is ∙ (λ j. line (shown j ∷ rule_text (rule j) ∷ [])) ∙ sym k.is
