-- Tries of the clause: what it says of one command, word for word, and answers that it refuses.
use Rattle.std.specs.Prelude.{◌≡◌, ◌≢◌, ℕ, ◌+◌, ◌-◌, ◌<◌, ◌≤◌, pos, ◌-ℤ◌, List, [], ◌∷◌, ◌++◌, length, map, replicate}
use Rattle.std.specs.Prelude.{Some, codes, decimal, slice_index, refl}
use Rattle.std.specs.Fmt.{digits}
use Rattle.std.proofs.Common.{arith, lit<, lit≤, sym, ap, ◌∙◌}
use Rattle.std.proofs.lemmas.Int.{ints}
use Rattle.bn_machine.specs.Tape.{word_tape}
use Rattle.bn_boards.specs.Layouts.{tape_in}
use Rattle.bn_boards.proofs.ShownHeadLemmas.{shown_inside}
use Rattle.bn_machine.specs.Outcome.{Halted}
use Rattle.bn_csv.specs.Lines.{line_of, lines_of}
use Rattle.bn_gen.specs.Text.{increments_table, increments_text}
use Rattle.bn_reply_boards.specs.GenerateReply.{number, window}
use Rattle.bn_reply.specs.Lines.{line}
use Rattle.bn_reply.specs.declared.status.Status.{Status}
use Rattle.bn_reply.specs.declared.status.Status.TheVariants.{Done, Size, Stuck}
use Rattle.bn_reply_relations.specs.ToldRuns.{run_words}
use Rattle.bn_reply_relations.specs.RunText.{output_line, quadruple_line, tape_lines}
use Rattle.bn_headline.specs.Generated.{binary}
use Rattle.bn_headline.specs.MachineHeadline.{MachineHeadline, AreLastLines}
use Rattle.bn_headline.specs.HeadlineLaws.{IncrementsRun}
use Rattle.bn_headline.proofs.CellLemmas.{cells-word}

-- the words `run =1011 0 5 11 5`
words_are : run_words number (window 1) [] ≡ codes "run" ∷ codes "=1011" ∷ codes "0" ∷ codes "5" ∷ codes "11"
    ∷ codes "5" ∷ []
unfolding digits
words_are = refl

-- what they print, with so many element steps
abbrev front : List ℕ
front = line (codes "elements 14136" ∷ []) ++ (line (codes "exit end" ∷ []))

abbrev behind : List ℕ
behind =
    line (codes "quadruple steps 65" ∷ []) ++ (line (codes "tape 1 from 0 head 0: _ 1 0 1 1 _" ∷ [])
    ++ line (codes "tape 2 from 0 head 0: _ _ _ _ _ _ _ _ _ _ _ _" ∷ [])
    ++ line (codes "tape 3 from 0 head 0: _ 1 1 0 0 _" ∷ [])
    ++ line (codes "output =1100" ∷ []))

abbrev printed : ℕ → List ℕ
printed cost = front ++ (line (codes "steps " ∷ decimal cost ∷ []) ++ behind)

-- the clause says that and nothing else
pub record IsPrinted (status : Status) (text : List ℕ) : Type 0 where
  pub cost : ℕ
  pub above : 65 ≤ cost
  pub done : status ≡ Done
  pub text_is : text ≡ printed cost

-- what the cells of a window spell of a word: blanks, the word, blanks, and the head at 0
word_in : (below right : ℕ) (word : List ℕ) → length word ≤ right
    → tape_in below (below + right + 1) (word_tape word) ≡ record {
      first = pos 0 -ℤ pos below;
      head = Some (pos 0);
      cells = map Some (replicate (below + 1) 0 ++ (word ++ replicate (right - length word) 0));
    }
word_in below right word fits = λ i. record {
  first = pos 0 -ℤ pos below;
  head = shown_inside below right (below + right + 1) (word_tape word) refl
      (record { above = omega (arith, ints); below = omega (arith, ints) }) i;
  cells = cells-word below right word fits i;
}

last_is : (last : List ℕ) → AreLastLines (increments_table 1) (window 1) (binary 11) 11 (Halted (binary 12)) last
    → last ≡ behind
unfolding digits
last_is last h =
    h ∙ (λ i. quadruple_line 65
    ++ (tape_lines (increments_table 1) (word_in 0 5 (binary 11) (lit≤ tt) i) (word_in 0 11 [] (lit≤ tt) i)
    (word_in 0 5 (binary 12) (lit≤ tt) i)
    ++ output_line (increments_table 1) (binary 12)))

pub says : IncrementsRun → (status : Status) (text : List ℕ) →
    MachineHeadline (run_words number (window 1) []) (increments_text 1) status (Some []) (Some text)
    → IsPrinted status text
unfolding MachineHeadline lines_of line_of digits
says runs status text h =
    let k = runs 1 (record { some = omega arith; few = omega arith }) in
    let took = (h number (window 1) refl (lit≤ tt) (increments_table 1) (binary 11) 11 (Halted (binary 12)) k.own).runs
    k.few in
    let same : took.text ≡ text = cc in
    record {
      cost = took.cost;
      above = took.above;
      done = took.told.status_is;
      text_is = sym same ∙ took.told.text_is ∙ ap (λ z. front ++ (line (codes "steps " ∷ decimal took.cost ∷ []) ++ z))
          (last_is took.told.last took.told.last_lines);
    }

-- ---- answers that it refuses

differ : (a b : ℕ) → a ≡ b → a < b → ⊥
differ a b same low = absurd (omega arith)

-- another status
another_status : (text : List ℕ) → IsPrinted Stuck text → ⊥
another_status text h = let is = h.done in absurd (cc)

-- a refusal of a circuit that isn't too large
refused : (text : List ℕ) → IsPrinted Size text → ⊥
refused text h = let is = h.done in absurd (cc)

-- nothing
nothing : (status : Status) → IsPrinted status [] → ⊥
nothing status h = let is = h.text_is in absurd (cc)

-- another number of elements
another_count : (status : Status) (rest : List ℕ) → IsPrinted status (line (codes "elements 14135" ∷ []) ++ rest) → ⊥
another_count status rest h = differ 53 54 (ap (λ t. slice_index t 13) h.text_is) (lit< tt)

-- another exit
another_exit : (status : Status) (rest : List ℕ) →
    IsPrinted status (line (codes "elements 14136" ∷ []) ++ (line (codes "exit window 2 right" ∷ []) ++ rest)) → ⊥
another_exit status rest h = differ 101 119 (sym (ap (λ t. slice_index t 20) h.text_is)) (lit< tt)

-- another number of steps of the reversible machine, another word on a tape, another output, or more behind: where the
-- element steps are these, no other text is printed
another_text : (status : Status) (text : List ℕ) (h : IsPrinted status text) → text ≢ printed h.cost → ⊥
another_text status text h other = other h.text_is

-- no element steps
no_steps : (status : Status) (text : List ℕ) (h : IsPrinted status text) → h.cost ≡ 0 → ⊥
no_steps status text h none = let low = h.above in absurd (omega arith)
