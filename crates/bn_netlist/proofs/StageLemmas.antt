-- Lines of a text that are taken one after another.
use Rattle.std.specs.Prelude.{◌≡◌, ◌≢◌, ℕ, ◌+◌, ◌<◌, ◌≤◌, List, [], ◌∷◌, ◌++◌, length, refl}
use Rattle.std.proofs.Common.{arith, sym, ap, subst, ◌∙◌, inl, inr}
use Rattle.std.proofs.lemmas.Bool.{cases_lt}
use Rattle.std.proofs.lemmas.List.{append_assoc, append-nil}
use Rattle.bn_base.specs.Line.{IsInLine}
use Rattle.bn_circuits.specs.declared.line.Line.{Line}
use Rattle.bn_circuits.specs.declared.place.Place.{Place}
use Rattle.bn_netlist_laws.specs.Sentences.{Sentence, Title, Count, Start, End, Steps, At, sentence_text, lines_text}
use Rattle.bn_netlist_laws.specs.Spelling.{header_then}
use Rattle.bn_netlist_laws.specs.Faults.{header_lines, count_in, malformed, IsFirstBadLine, AreFaultless}
use Rattle.bn_netlist_laws.specs.declared.header.Header.{Header}
use Rattle.bn_netlist_laws.specs.declared.version.Version.{Version}
use Rattle.bn_netlist_laws.proofs.LineLemmas.{length_more}
use Rattle.bn_netlist_laws.proofs.TextLemmas.{lines_text-append}
use Rattle.bn_netlist.specs.Drafting.{Holds}
use Rattle.bn_netlist.specs.LineReading.{TakesLine, RefusesLine, no_memory, no_form, has_fault}
use Rattle.bn_netlist.specs.NetText.{IsTextRefusal}
use Rattle.bn_netlist.specs.Stages.{Say, AreTaken, TakesTo}
use Rattle.bn_netlist.specs.declared.entries.Entries as behind
use Rattle.bn_netlist.specs.declared.stage.Stage.{Stage}
use Rattle.bn_netlist.specs.declared.stage.Stage.TheVariants as stage
use Rattle.bn_netlist.specs.declared.line_refusal.NetlistRefusal.{NetlistRefusal}
use Rattle.bn_netlist.specs.declared.line_refusal.NetlistRefusal.TheVariants.{Syntax}
use Rattle.bn_netlist.proofs.TakenLineLemmas.{refused-lines-refuse, rests-are-malformed, lines-behind-are-malformed}
use Rattle.bn_netlist_laws.proofs.DecideLemmas.{faultless_more}

count_rises : (xs ys : List Sentence) → count_in xs ≤ count_in (xs ++ ys)
count_rises [] ys = omega arith
count_rises (Count c ∷ xs) ys = omega arith
count_rises (x ∷ xs) ys = count_rises xs ys

-- a line more has been taken
pub taken_more : (s next : Stage) (lines : List Sentence) (line : List ℕ) (x : Sentence) → AreTaken lines s
    → TakesLine lines line x → Say next (lines ++ x ∷ []) → TakesTo lines line next
taken_more s next lines line x taken takes say =
    let room : length lines < header_lines + count_in lines = takes.next.room in
    let rises = count_rises lines (x ∷ []) in
    let more = length_more lines x in
    record {
      says = x;
      takes = takes;
      are = record {
        faultless = faultless_more [] lines x taken.faultless takes.next takes.faultless;
        within = omega arith;
        say = say;
      };
    }

-- behind known lines
pub taken_behind : (s next : Stage) (lines b : List Sentence) (line : List ℕ) (x : Sentence) → lines ≡ b
    → AreTaken lines s → TakesLine b line x → Say next (b ++ x ∷ []) → TakesTo lines line next
taken_behind s next lines b line x same taken takes say =
    taken_more s next lines line x taken (subst (λ (zs : List Sentence). TakesLine zs line x) (sym same) takes)
    (subst (λ (zs : List Sentence). Say next (zs ++ x ∷ [])) (sym same) say)

pub refused_behind : (lines b : List Sentence) (line : List ℕ) (r : NetlistRefusal) → lines ≡ b → RefusesLine b line r
    → RefusesLine lines line r
refused_behind lines b line r same refuses = subst (λ (zs : List Sentence). RefusesLine zs line r) (sym same) refuses

-- ---- behind the header

module _ (h : Header) (e : behind.Entries) (lines : List Sentence) (taken : AreTaken lines (stage.Entries h e)) where
  counted : length lines ≡ 6 + e.lines
  counted =
      let are = ap length taken.say.are in
      let lines_are : e.lines ≡ length taken.say.rows = taken.say.holds.lines_are in
      omega arith

  pub numbered : (n : ℕ) → n ≡ e.lines → n + 7 ≡ length lines + 1
  numbered n same = let count = counted in omega arith

  count_is : count_in lines ≡ h.count
  count_is = ap count_in taken.say.are

  pub entry_taken : (new : behind.Entries) (line : List ℕ) → ((rows : List Sentence)
      → Holds h rows e.lines e.rows e.states.items e.own.items e.ends.drawn e.ends.fed.items
      → (x : Sentence) × TakesLine (header_then h rows) line x × Holds h (rows ++ x ∷ []) new.lines new.rows
      new.states.items new.own.items new.ends.drawn new.ends.fed.items) → TakesTo lines line (stage.Entries h new)
  entry_taken new line read =
      let made = read taken.say.rows taken.say.holds in
      taken_behind (stage.Entries h e) (stage.Entries h new) lines (header_then h taken.say.rows) line made.0
      taken.say.are taken made.1
      (record { rows = taken.say.rows ++ made.0 ∷ []; are = refl; holds = made.2 })

  pub entry_refused : (line : List ℕ) (r : NetlistRefusal) → ((rows : List Sentence)
      → Holds h rows e.lines e.rows e.states.items e.own.items e.ends.drawn e.ends.fed.items
      → RefusesLine (header_then h rows) line r) → RefusesLine lines line r
  entry_refused line r refused = refused_behind lines (header_then h taken.say.rows) line r taken.say.are
      (refused taken.say.rows taken.say.holds)

pub same_stage : (s t : Stage) (lines : List Sentence) → s ≡ t → AreTaken lines s → AreTaken lines t
same_stage s t lines same taken = subst (λ (u : Stage). AreTaken lines u) same taken

-- the header is whole
pub header_whole : (s : Stage) (lines : List Sentence) (line : List ℕ) (v : Version) (c : ℕ) (start end : Line) (t : ℕ)
    (p : Place) (e : behind.Entries) → s ≡ stage.Place v c start end t
    → TakesLine (Title v ∷ Count c ∷ Start start ∷ End end ∷ Steps t ∷ []) line (At p)
    → ((h : Header) → h.count ≡ c → Holds h [] e.lines e.rows e.states.items e.own.items e.ends.drawn
    e.ends.fed.items) → AreTaken lines s → TakesTo lines line (stage.Entries
    (record { version = v; count = c; start = start; end = end; steps = t; place = p }) e)
header_whole s lines line v c start end t p e same takes none taken =
    let h : Header = record { version = v; count = c; start = start; end = end; steps = t; place = p } in
    let at = same_stage s (stage.Place v c start end t) lines same taken in
    taken_behind (stage.Place v c start end t) (stage.Entries h e) lines
    (Title v ∷ Count c ∷ Start start ∷ End end ∷ Steps t ∷ []) line (At p) at.say at takes
    (record { rows = []; are = refl; holds = none h refl })

-- ---- the end of a text

pub nothing_in_line : IsInLine []
nothing_in_line k d l = absurd (let low : k < 0 = l in omega arith)

pub missing : (lines : List Sentence) (n : ℕ) → AreFaultless lines → length lines < header_lines + count_in lines
    → n ≡ length lines + 1 → IsFirstBadLine (lines_text lines) n malformed
missing lines n faultless short same =
    let here : IsFirstBadLine (lines_text lines ++ []) (length lines + 1) malformed =
    rests-are-malformed lines [] faultless nothing_in_line (λ whole. absurd (omega arith)) in
    subst (λ (m : ℕ). IsFirstBadLine (lines_text lines) m malformed) (sym same)
    (subst (λ (t : List ℕ). IsFirstBadLine t (length lines + 1) malformed) (append-nil (lines_text lines)) here)

pub cut_short : (lines : List Sentence) (left : List ℕ) (n : ℕ) → AreFaultless lines → IsInLine left → left ≢ []
    → n ≡ length lines + 1 → IsTextRefusal (lines_text lines ++ left) (Syntax n)
cut_short lines left n faultless in_line some same =
    subst (λ (m : ℕ). IsFirstBadLine (lines_text lines ++ left) m malformed) (sym same)
    (rests-are-malformed lines left faultless in_line (λ _. some))

-- before the header is whole, a line is missing
pub short_header : (s : Stage) (lines : List Sentence) → ((h : Header) (e : behind.Entries) → s ≢ stage.Entries h e)
    → AreTaken lines s → length lines < header_lines + count_in lines
short_header stage.Title lines other taken = let n = ap length taken.say in omega arith
short_header (stage.Count v) lines other taken = let n = ap length taken.say in omega arith
short_header (stage.Start v c) lines other taken = let n = ap length taken.say in omega arith
short_header (stage.End v c s) lines other taken = let n = ap length taken.say in omega arith
short_header (stage.Steps v c s e) lines other taken = let n = ap length taken.say in omega arith
short_header (stage.Place v c s e t) lines other taken = let n = ap length taken.say in omega arith
short_header (stage.Entries h e) lines other taken = absurd (other h e refl)

pub header_missing : (s : Stage) (n : ℕ) (lines : List Sentence)
    → ((h : Header) (e : behind.Entries) → s ≢ stage.Entries h e)
    → ((xs : List Sentence) → AreTaken xs s → n ≡ length xs + 1) → AreTaken lines s
    → IsFirstBadLine (lines_text lines) n malformed
header_missing s n lines other numbers taken = missing lines n taken.faultless (short_header s lines other taken)
    (numbers lines taken)

pub entries_missing : (h : Header) (e : behind.Entries) (n : ℕ) (lines : List Sentence) → n ≡ e.lines
    → e.lines < h.count → AreTaken lines (stage.Entries h e) → IsFirstBadLine (lines_text lines) (n + 7) malformed
entries_missing h e n lines same short taken =
    let count = counted h e lines taken in
    let has = count_is h e lines taken in
    missing lines (n + 7) taken.faultless (omega arith) (numbered h e lines taken n same)

-- a line that was refused refuses the text
pub text_refused : (s : Stage) (lines : List Sentence) (line rest : List ℕ) (r : NetlistRefusal) → AreTaken lines s
    → IsInLine line → RefusesLine lines line r → IsTextRefusal (lines_text lines ++ (line ++ 10 ∷ rest)) r
text_refused s lines line rest r taken in_line refuses =
    elim (cases_lt (length lines) (header_lines + count_in lines)) [
      | inl room ↦ refused-lines-refuse lines line rest r taken.faultless in_line room refuses
      | inr full ↦ behind_all refuses (let most : length lines ≤ header_lines
          + count_in lines = taken.within in omega (arith, full))
    ]
  where
    some_left : (line rest : List ℕ) → line ++ 10 ∷ rest ≢ []
    some_left [] rest e = cc
    some_left (x ∷ line) rest e = cc

    behind_all : RefusesLine lines line r → length lines ≡ header_lines + count_in lines
        → IsTextRefusal (lines_text lines ++ (line ++ 10 ∷ rest)) r
    behind_all (no_memory is) full = subst (IsTextRefusal (lines_text lines ++ (line ++ 10 ∷ rest))) (sym is) tt
    behind_all (no_form is unsaid) full = subst (IsTextRefusal (lines_text lines ++ (line ++ 10 ∷ rest))) (sym is)
        (lines-behind-are-malformed lines (line ++ 10 ∷ rest) taken.faultless full (some_left line rest))
    behind_all (has_fault x fault next written has is) full = absurd
        (let room : length lines < header_lines + count_in lines = next.room in omega arith)

-- the bytes behind a line that was taken
pub text_taken : (text : List ℕ) (lines : List Sentence) (line rest : List ℕ) (x : Sentence)
    → text ≡ lines_text lines ++ (line ++ 10 ∷ rest) → line ≡ sentence_text x
    → text ≡ lines_text (lines ++ x ∷ []) ++ rest
text_taken text lines line rest x begins written =
    begins
    ∙ ap (λ (t : List ℕ). lines_text lines ++ (t ++ 10 ∷ rest)) written
    ∙ ap (λ (t : List ℕ). lines_text lines ++ t) (sym (append_assoc (sentence_text x) (10 ∷ []) rest))
    ∙ sym (append_assoc (lines_text lines) (lines_text (x ∷ [])) rest)
    ∙ ap (λ (t : List ℕ). t ++ rest) (sym (lines_text-append lines (x ∷ [])))
