-- A text that comes in pieces.
use Rattle.std.specs.Prelude.{◌≡◌, ◌≢◌, ℕ, ◌+◌, ◌<◌, ◌==◌, true, false, List, [], ◌∷◌, ◌++◌, length, refl}
use Rattle.std.proofs.Common.{arith, sym, ap, subst, ◌∙◌, get_or, inl, inr}
use Rattle.std.proofs.lemmas.Bool.Decides.{eqb_tells, nat_tests}
use Rattle.std.proofs.Math.ListN.{get_or-append}
use Rattle.std.proofs.Math.Seq.{get_or-append_seam}
use Rattle.std.proofs.lemmas.List.{append_assoc, append-nil, length-append}
use Rattle.std.proofs.lemmas.List.Elements.{All-append}
use Rattle.bn_base.specs.Line.{IsInLine}
use Rattle.bn_netlist_laws.specs.Sentences.{Sentence, sentence_text, lines_text}
use Rattle.bn_netlist_laws.specs.Faults.{malformed, IsMalformed, IsFirstBadLine}
use Rattle.bn_netlist_laws.proofs.SentenceLemmas.{lines-are-short}
use Rattle.bn_netlist.specs.LineReading.{RefusesLine}
use Rattle.bn_netlist.specs.NetText.{IsTextRefusal}
use Rattle.bn_netlist.specs.Stages.{AreTaken, TakesTo}
use Rattle.bn_netlist.specs.Pieces.{HasCome, RefusesOn}
use Rattle.bn_netlist.specs.declared.stage.Stage.{Stage}
use Rattle.bn_netlist.specs.declared.stage.Stage.TheVariants as stage
use Rattle.bn_netlist.specs.declared.line_refusal.NetlistRefusal.{NetlistRefusal}
use Rattle.bn_netlist.specs.declared.line_refusal.NetlistRefusal.TheVariants.{Syntax}
use Rattle.bn_netlist.proofs.StageLemmas.{nothing_in_line, text_refused, text_taken, cut_short}

-- a part of a piece has been read: whatever had come, with that part it is what is kept
pub record IsPieceRead (piece left line : List ℕ) (s : Stage) (now : List ℕ) (t : Stage) : Type 0 where
  pub read : List ℕ
  pub split : piece ≡ read ++ left
  pub come : (text : List ℕ) → HasCome text line s → HasCome (text ++ read) now t

pub none_read : (piece line : List ℕ) (s : Stage) → IsPieceRead piece piece line s line s
none_read piece line s = record {
  read = [];
  split = refl;
  come = λ text come. subst (λ (t : List ℕ). HasCome t line s) (sym (append-nil text)) come;
}

-- a line that grows too long
longer_unsaid : (left rest behind : List ℕ) (x : List ℕ) → IsInLine left → length x < length left
    → left ++ rest ≢ x ++ 10 ∷ behind
longer_unsaid left rest behind x in_line longer e =
    in_line (length x) 0 longer (sym (get_or-append left rest 0 (length x) longer)
    ∙ ap (λ (t : List ℕ). get_or t (length x) 0) e ∙ get_or-append_seam x 10 behind 0)

pub too_long : (s : Stage) (lines : List Sentence) (left rest : List ℕ) (n : ℕ) → AreTaken lines s → IsInLine left
    → 111 < length left → n ≡ length lines + 1 → IsTextRefusal (lines_text lines ++ (left ++ rest)) (Syntax n)
too_long s lines left rest n taken in_line long same =
    let here : IsMalformed lines (left ++ rest) =
    record {
      unsaid = λ x behind next. longer_unsaid left rest behind (sentence_text x) in_line
          (let short = lines-are-short x next.sayable in omega arith);
      unfinished = λ _ none. absurd (let all = ap length none in let both = length-append left rest in omega arith);
    }
    in
    let bad : IsFirstBadLine (lines_text lines ++ (left ++ rest)) (length lines + 1) malformed =
    record {
      before = lines;
      left = left ++ rest;
      counted = refl;
      begins = refl;
      faultless = taken.faultless;
      here = here;
    }
    in
    subst (λ (m : ℕ). IsFirstBadLine (lines_text lines ++ (left ++ rest)) m malformed) (sym same) bad

-- ---- a piece of a line, and a whole line

come_on : (text line more : List ℕ) (s : Stage) → HasCome text line s → IsInLine more
    → HasCome (text ++ more) (line ++ more) s
come_on text line more s come in_line =
    record {
      lines = come.lines;
      begins = ap (λ (t : List ℕ). t ++ more) come.begins ∙ append_assoc (lines_text come.lines) line more;
      in_line = All-append (λ byte. byte ≢ 10) line more come.in_line in_line;
      are = come.are;
    }

come_line : (text line end : List ℕ) (s t : Stage) → HasCome text line s
    → ((lines : List Sentence) → AreTaken lines s → TakesTo lines (line ++ end) t)
    → HasCome (text ++ (end ++ 10 ∷ [])) [] t
come_line text line end s t come takes =
    let more = takes come.lines come.are in
    let begins : text ++ (end ++ 10 ∷ []) ≡ lines_text come.lines ++ ((line ++ end) ++ 10 ∷ []) =
    ap (λ (z : List ℕ). z ++ (end ++ 10 ∷ [])) come.begins ∙ append_assoc (lines_text come.lines) line (end ++ 10 ∷ [])
    ∙ ap (λ (z : List ℕ). lines_text come.lines ++ z) (sym (append_assoc line end (10 ∷ [])))
    in
    record {
      lines = come.lines ++ more.says ∷ [];
      begins = text_taken (text ++ (end ++ 10 ∷ [])) come.lines (line ++ end) [] more.says begins more.takes.written;
      in_line = nothing_in_line;
      are = more.are;
    }

pub piece_kept : (piece left line : List ℕ) (s : Stage) (now : List ℕ) (t : Stage) (more rest kept : List ℕ)
    → IsPieceRead piece left line s now t → IsInLine more × (left ≡ more) × (left ≢ []) × (rest ≡ [])
    → kept ≡ now ++ more → IsPieceRead piece rest line s kept t
piece_kept piece left line s now t more rest kept is given kept_is =
    record {
      read = is.read ++ more;
      split = is.split ∙ ap (λ (z : List ℕ). is.read ++ z) given.1 ∙ sym (append-nil (is.read ++ more))
          ∙ ap (λ (z : List ℕ). (is.read ++ more) ++ z) (sym given.3);
      come = λ text come. subst (λ (z : List ℕ). HasCome (text ++ (is.read ++ more)) z t) (sym kept_is)
          (subst (λ (z : List ℕ). HasCome z (now ++ more) t) (append_assoc text is.read more)
          (come_on (text ++ is.read) now more t (is.come text come) given.0));
    }

pub piece_line : (piece left line : List ℕ) (s : Stage) (now : List ℕ) (t u : Stage) (end rest kept : List ℕ)
    → IsPieceRead piece left line s now t → left ≡ end ++ 10 ∷ rest → kept ≡ []
    → ((lines : List Sentence) → AreTaken lines t → TakesTo lines (now ++ end) u) → IsPieceRead piece rest line s kept u
piece_line piece left line s now t u end rest kept is given kept_is takes =
    record {
      read = is.read ++ (end ++ 10 ∷ []);
      split = is.split ∙ ap (λ (z : List ℕ). is.read ++ z) (given ∙ sym (append_assoc end (10 ∷ []) rest))
          ∙ sym (append_assoc is.read (end ++ 10 ∷ []) rest);
      come = λ text come. subst (λ (z : List ℕ). HasCome (text ++ (is.read ++ (end ++ 10 ∷ []))) z u) (sym kept_is)
          (subst (λ (z : List ℕ). HasCome z [] u) (append_assoc text is.read (end ++ 10 ∷ []))
          (come_line (text ++ is.read) now end t u (is.come text come) takes));
    }

-- ---- what is refused

pub come_refused : (text line end rest : List ℕ) (s : Stage) (r : NetlistRefusal) → HasCome text line s → IsInLine end
    → ((lines : List Sentence) → AreTaken lines s → IsInLine (line ++ end) → (behind : List ℕ)
    → IsTextRefusal (lines_text lines ++ ((line ++ end) ++ 10 ∷ behind)) r)
    → IsTextRefusal (text ++ (end ++ 10 ∷ rest)) r
come_refused text line end rest s r come in_line refused =
    let whole = refused come.lines come.are (All-append (λ byte. byte ≢ 10) line end come.in_line in_line) rest in
    let same : text ++ (end ++ 10 ∷ rest) ≡ lines_text come.lines ++ ((line ++ end) ++ 10 ∷ rest) =
    ap (λ (z : List ℕ). z ++ (end ++ 10 ∷ rest)) come.begins ∙ append_assoc (lines_text come.lines) line
    (end ++ 10 ∷ rest) ∙ ap (λ (z : List ℕ). lines_text come.lines ++ z) (sym (append_assoc line end (10 ∷ rest)))
    in
    subst (λ (z : List ℕ). IsTextRefusal z r) (sym same) whole

pub piece_refused : (piece left line : List ℕ) (s : Stage) (now : List ℕ) (t : Stage) (end rest : List ℕ)
    (r : NetlistRefusal) → IsPieceRead piece left line s now t → IsInLine end × (left ≡ end ++ 10 ∷ rest)
    → ((lines : List Sentence) → AreTaken lines t → IsInLine (now ++ end) → (behind : List ℕ)
    → IsTextRefusal (lines_text lines ++ ((now ++ end) ++ 10 ∷ behind)) r) → (text : List ℕ) → HasCome text line s
    → RefusesOn (text ++ piece) r
piece_refused piece left line s now t end rest r is given refused text come behind =
    let whole = come_refused (text ++ is.read) now end (rest ++ behind) t r (is.come text come) given.0 refused in
    let same : (text ++ piece) ++ behind ≡ (text ++ is.read) ++ (end ++ 10 ∷ (rest ++ behind)) =
    ap (λ (z : List ℕ). (text ++ z) ++ behind) (is.split ∙ ap (λ (z : List ℕ). is.read ++ z) given.1)
    ∙ ap (λ (z : List ℕ). z ++ behind) (sym (append_assoc text is.read (end ++ 10 ∷ rest)))
    ∙ append_assoc (text ++ is.read) (end ++ 10 ∷ rest) behind
    ∙ ap (λ (z : List ℕ). (text ++ is.read) ++ z) (append_assoc end (10 ∷ rest) behind)
    in
    subst (λ (z : List ℕ). IsTextRefusal z r) (sym same) whole

pub piece_cut_refused : (piece left line : List ℕ) (s : Stage) (now : List ℕ) (t : Stage) (begin rest : List ℕ) (n : ℕ)
    (r : NetlistRefusal) → IsPieceRead piece left line s now t
    → IsInLine begin × (left ≡ begin) × (left ≢ []) × (rest ≡ [])
    → ((lines : List Sentence) → AreTaken lines t → n ≡ length lines + 1)
    → ((lines : List Sentence) (stage : Stage) → AreTaken lines stage → n ≡ length lines + 1 → IsInLine (now ++ begin)
    → (behind : List ℕ) → IsTextRefusal (lines_text lines ++ ((now ++ begin) ++ behind)) r) → (text : List ℕ)
    → HasCome text line s → RefusesOn (text ++ piece) r
piece_cut_refused piece left line s now t begin rest n r is given numbers refused text come behind =
    let here = is.come text come in
    let whole = refused here.lines t here.are (numbers here.lines here.are)
    (All-append (λ byte. byte ≢ 10) now begin here.in_line given.0) behind in
    let same : (text ++ piece) ++ behind ≡ lines_text here.lines ++ ((now ++ begin) ++ behind) =
    ap (λ (z : List ℕ). (text ++ z) ++ behind) (is.split ∙ ap (λ (z : List ℕ). is.read ++ z) given.1)
    ∙ ap (λ (z : List ℕ). z ++ behind) (sym (append_assoc text is.read begin)
    ∙ ap (λ (z : List ℕ). z ++ begin) here.begins ∙ append_assoc (lines_text here.lines) now begin)
    ∙ append_assoc (lines_text here.lines) (now ++ begin) behind
    in
    subst (λ (z : List ℕ). IsTextRefusal z r) (sym same) whole

pub come_cut : (text line : List ℕ) (s : Stage) (n : ℕ) → HasCome text line s → line ≢ []
    → ((lines : List Sentence) → AreTaken lines s → n ≡ length lines + 1) → IsTextRefusal text (Syntax n)
come_cut text line s n come some numbers =
    subst (λ (z : List ℕ). IsTextRefusal z (Syntax n)) (sym come.begins)
    (cut_short come.lines line n come.are.faultless come.in_line some (numbers come.lines come.are))

pub some_bytes : (n : ℕ) (xs : List ℕ) → n ≡ length xs → false ≡ (n == 0) → xs ≢ []
some_bytes n xs count test none =
    let len = ap length none in
    elim (eqb_tells n 0) [
      | inl same ↦ absurd (false_is_not_true (test ∙ same.0))
      | inr other ↦ other.1 (omega arith)
    ]
  where
    false_is_not_true : false ≡ true → ⊥
    false_is_not_true e = cc

-- and none
pub no_bytes : (n : ℕ) (xs : List ℕ) → n ≡ length xs → true ≡ (n == 0) → xs ≡ []
no_bytes n [] count test = refl
no_bytes n (x ∷ xs) count test = absurd (grind (arith, nat_tests))

-- a line that has come whole is refused where it stands
pub whole_refused : (s : Stage) (line end : List ℕ) (r : NetlistRefusal) → line ≡ [] →
    ((lines : List Sentence) → AreTaken lines s → RefusesLine lines end r) →
    (lines : List Sentence) → AreTaken lines s → IsInLine (line ++ end) → (rest : List ℕ) →
    IsTextRefusal (lines_text lines ++ ((line ++ end) ++ 10 ∷ rest)) r
whole_refused s [] end r none refuses lines taken in_line rest =
    text_refused s lines end rest r taken in_line (refuses lines taken)
whole_refused s (x ∷ xs) end r none refuses lines taken in_line rest = absurd (cc)
