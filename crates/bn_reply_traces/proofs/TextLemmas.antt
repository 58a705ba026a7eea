-- What is said of a tape, cell by cell; and the last line.
use Rattle.std.specs.Prelude.{◌≡◌, ◌≢◌, ℕ, zero, suc, ◌⊎◌, ℤ, pos, ◌+ℤ◌, List, ◌++◌, Option, Some, None, false, codes}
use Rattle.std.specs.Option.{is_some}
use Rattle.std.proofs.Common.{arith, inl, inr, sym, ap, ◌∙◌, append_assoc, append-nil}
use Rattle.std.proofs.lemmas.Int.{ints}
use Rattle.bn_machine.specs.Machine.{final_of}
use Rattle.bn_machine.specs.Run.{Ending, Halted}
use Rattle.bn_machine.specs.Run as run
use Rattle.bn_table.specs.Rows.{Named}
use Rattle.bn_reply.specs.declared.status.Status.TheVariants.{Stuck}
use Rattle.bn_reply_machines.specs.MachineReply.{ending_status, machine_stuck_line}
use Rattle.bn_reply_traces.specs.Extents.{symbols_from}
use Rattle.bn_reply_traces.specs.MomentText.{names_text}
use Rattle.bn_reply_traces.specs.Stages.{IsOutcome}
use Rattle.bn_reply_traces.specs.TraceReply.{outcome_line}

-- one cell more
pub one_cell_more : (name : ℕ → List ℕ) (f : ℤ → ℕ) (p : ℤ) (k : ℕ) →
    names_text name (symbols_from f p (suc k)) ≡ names_text name (symbols_from f p k)
    ++ (codes " " ++ name (f (p +ℤ pos k)))
one_cell_more name f p zero =
    let here : p +ℤ pos 0 ≡ p = omega (arith, ints) in
    rw here (ap (λ (z : List ℕ). codes " " ++ z) (append-nil (name (f p))))
one_cell_more name f p (suc k) =
    let there : (p +ℤ pos 1) +ℤ pos k ≡ p +ℤ pos (suc k) = omega (arith, ints) in
    ap (λ (z : List ℕ). codes " " ++ (name (f p) ++ z)) (one_cell_more name f (p +ℤ pos 1) k
    ∙ ap (λ (q : ℤ). names_text name (symbols_from f (p +ℤ pos 1) k) ++ (codes " " ++ name (f q))) there)
    ∙ ap (λ (z : List ℕ). codes " " ++ z) (sym (append_assoc (name (f p))
    (names_text name (symbols_from f (p +ℤ pos 1) k)) _))

-- the text with one cell more
pub cell_pushed : (name : ℕ → List ℕ) (f : ℤ → ℕ) (p q : ℤ) (k symbol : ℕ) (old now first second : List ℕ) →
    now ≡ old ++ names_text name (symbols_from f p k) → first ≡ now ++ codes " " → second ≡ first ++ name symbol →
    symbol ≡ f q → q ≡ p +ℤ pos k → second ≡ old ++ names_text name (symbols_from f p (suc k))
cell_pushed name f p q k symbol old now first second so_far space named is at =
    let cell : name symbol ≡ name (f (p +ℤ pos k)) = ap name (is ∙ ap f at) in
    named
    ∙ ap (λ (z : List ℕ). z ++ name symbol) (space ∙ ap (λ (z : List ℕ). z ++ codes " ") so_far)
    ∙ ap (λ (z : List ℕ). ((old ++ names_text name (symbols_from f p k)) ++ codes " ") ++ z) cell
    ∙ append_assoc (old ++ names_text name (symbols_from f p k)) (codes " ") (name (f (p +ℤ pos k)))
    ∙ append_assoc old (names_text name (symbols_from f p k)) (codes " " ++ name (f (p +ℤ pos k)))
    ∙ ap (λ (z : List ℕ). old ++ z) (sym (one_cell_more name f p k))

-- five pieces, one behind the other
pub five_pieces : (old a b c d e one two three four five : List ℕ) → one ≡ old ++ a → two ≡ one ++ b →
    three ≡ two ++ c → four ≡ three ++ d → five ≡ four ++ e → five ≡ old ++ (a ++ (b ++ (c ++ (d ++ e))))
five_pieces old a b c d e one two three four five h1 h2 h3 h4 h5 =
    h5
    ∙ ap (λ z. z ++ e) (h4 ∙ ap (λ z. z ++ d) (h3 ∙ ap (λ z. z ++ c) (h2 ∙ ap (λ z. z ++ b) h1)))
    ∙ append_assoc (((old ++ a) ++ b) ++ c) d e
    ∙ append_assoc ((old ++ a) ++ b) c (d ++ e)
    ∙ append_assoc (old ++ a) b (c ++ (d ++ e))
    ∙ append_assoc old a (b ++ (c ++ (d ++ e)))

-- six pieces, and eight
joined_six : (old a b c d e f : List ℕ) →
    (((((old ++ a) ++ b) ++ c) ++ d) ++ e) ++ f ≡ old ++ (a ++ (b ++ (c ++ (d ++ (e ++ f)))))
joined_six old a b c d e f = simp append_assoc

pub six_pieces : (old a b c d e f one two three four five six : List ℕ) → one ≡ old ++ a → two ≡ one ++ b →
    three ≡ two ++ c → four ≡ three ++ d → five ≡ four ++ e → six ≡ five ++ f →
    six ≡ old ++ (a ++ (b ++ (c ++ (d ++ (e ++ f)))))
six_pieces old a b c d e f one two three four five six h1 h2 h3 h4 h5 h6 =
    h6
    ∙ ap (λ z. z ++ f) (h5 ∙ ap (λ z. z ++ e) (h4 ∙ ap (λ z. z ++ d) (h3 ∙ ap (λ z. z ++ c)
    (h2 ∙ ap (λ z. z ++ b) h1))))
    ∙ joined_six old a b c d e f

joined_eight : (old a b c d e f g h : List ℕ) →
    (((((((old ++ a) ++ b) ++ c) ++ d) ++ e) ++ f) ++ g) ++ h
    ≡ old ++ (a ++ (b ++ (c ++ (d ++ (e ++ (f ++ (g ++ h)))))))
joined_eight old a b c d e f g h = simp append_assoc

pub eight_pieces : (old a b c d e f g h one two three four five six seven eight : List ℕ) → one ≡ old ++ a →
    two ≡ one ++ b → three ≡ two ++ c → four ≡ three ++ d → five ≡ four ++ e → six ≡ five ++ f →
    seven ≡ six ++ g → eight ≡ seven ++ h → eight ≡ old ++ (a ++ (b ++ (c ++ (d ++ (e ++ (f ++ (g ++ h)))))))
eight_pieces old a b c d e f g h one two three four five six seven eight h1 h2 h3 h4 h5 h6 h7 h8 =
    h8
    ∙ ap (λ z. z ++ h) (h7 ∙ ap (λ z. z ++ g) (h6 ∙ ap (λ z. z ++ f) (h5 ∙ ap (λ z. z ++ e) (h4
    ∙ ap (λ z. z ++ d) (h3 ∙ ap (λ z. z ++ c) (h2 ∙ ap (λ z. z ++ b) h1))))))
    ∙ joined_eight old a b c d e f g h

-- a run that is stuck
stuck_by : (t : Named) (i state symbol : ℕ) (e : Ending) (new old : List ℕ) → state ≢ final_of t.machine.quints →
    new ≡ old ++ machine_stuck_line t i state symbol →
    ((state ≡ final_of t.machine.quints) × ((y : List ℕ) × (e ≡ Halted y)))
    ⊎ ((state ≢ final_of t.machine.quints) × (e ≡ run.Stuck state symbol)) →
    (Stuck ≡ ending_status e) × (new ≡ old ++ outcome_line t i e)
stuck_by t i state symbol e new old going is (inl halted) = absurd (going halted.0)
stuck_by t i state symbol e new old going is (inr stuck) =
    (sym (ap ending_status stuck.1), is ∙ ap (λ (x : Ending). old ++ outcome_line t i x) (sym stuck.1))

pub stuck_outcome : (t : Named) (i state symbol : ℕ) (rule : Option ℕ) (e : Ending) (new old : List ℕ) →
    is_some rule ≡ false → state ≢ final_of t.machine.quints → new ≡ old ++ machine_stuck_line t i state symbol →
    IsOutcome t.machine state symbol rule e → (Stuck ≡ ending_status e) × (new ≡ old ++ outcome_line t i e)
stuck_outcome t i state symbol None e new old none going is out = stuck_by t i state symbol e new old going is out
stuck_outcome t i state symbol (Some n) e new old none going is out = absurd (cc)
