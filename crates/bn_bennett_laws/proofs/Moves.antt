-- Where each quadruple leads from what stands on the tapes.
use Rattle.std.specs.Prelude.{◌≡◌, ℕ, suc, ◌<◌, List, [], ◌∷◌, length, take}
use Rattle.std.proofs.Common.{refl, sym, ap, ◌∙◌, subst, arith, get_or}
use Rattle.std.proofs.lemmas.List.{take_all, length-take-le}
use Rattle.std.proofs.Math.Seq.{take-suc}
use Rattle.bn_machine.specs.Tape.{Tape, scanned, write, shift, ahead, word_tape, blank_tape}
use Rattle.bn_machine.proofs.TapeLemmas.{write-scanned, scanned-ahead}
use Rattle.bn_machine.specs.Machine.{Moment}
use Rattle.bn_machine.specs.Run.{IsOutput}
use Rattle.bn_machine.specs.declared.quint.Quint.{Quint}
use Rattle.bn_machine.specs.declared.quint.Shift.TheVariants.{Right}
use Rattle.bn_quad.specs.Quadruples.{Rewrite, Move, Rule, Leads}
use Rattle.bn_quad.proofs.ReversibleLemmas.{same_configuration, turned_leads}
use Rattle.bn_bennett_laws.specs.List.{tape_rule, keep, rest, writes_ahead, shifts_ahead, begins_copy, goes_right}
use Rattle.bn_bennett_laws.specs.List.{copies_letter, turns_left, goes_left, passes_letter, ends_copy, shifts_back}
use Rattle.bn_bennett_laws.specs.List.{writes_back}
use Rattle.bn_bennett_laws.specs.Stages.{configuration, history, computing, computing_within, retracing}
use Rattle.bn_bennett_laws.specs.Stages.{retracing_within, copying}
use Rattle.bn_bennett_laws.proofs.Tapes.{ahead_none, shift-ahead, shift-ahead_back, scanned-word, word_more}
use Rattle.bn_bennett_laws.proofs.Tapes.{scanned-past, history-blank, history-more}
use Rattle.bn_bennett_laws.specs.declared.name.Name.{Name}
use Rattle.bn_bennett_laws.specs.declared.name.Name.TheVariants.{Compute, ComputeWithin, GoRight, CopyLetter, GoLeft}
use Rattle.bn_bennett_laws.specs.declared.name.Name.TheVariants.{PassLetter, Retrace, RetraceWithin}

-- ---- a step of the machine, forward and turned round

-- the two quadruples of a quintuple, between any states
abbrev writing : Name → Name → Quint → Rule Name
writing a b q = tape_rule a (Rewrite q.read q.write) (Move Right) (keep 0) b

abbrev shifting : Name → Name → ℕ → Quint → Rule Name
shifting a b m q = tape_rule a (Move q.shift) (Rewrite 0 m) rest b

-- the first writes, and takes the history's head on
writing_leads : (a b : Name) (q : Quint) (t h o : Tape) → scanned t ≡ q.read → scanned o ≡ 0
    → Leads (writing a b q) (configuration a t h o) (configuration b (write t q.write) (shift h Right) o)
writing_leads a b q t h o reads blank = record {
  applies = record { from = refl; one = reads; two = tt; three = blank };
  gives = same_configuration _ _ refl refl refl (sym (write-scanned o 0 blank));
}

-- the second shifts, and writes the number into the history
shifting_leads : (a b : Name) (m : ℕ) (q : Quint) (t : Tape) (ns : List ℕ) (o : Tape)
    → Leads (shifting a b m q) (configuration a t (shift (history ns) Right) o)
    (configuration b (shift t q.shift) (history (m ∷ ns)) o)
shifting_leads a b m q t ns o = record {
  applies = record { from = refl; one = tt; two = history-blank ns; three = tt };
  gives = same_configuration _ _ refl refl (sym (history-more m ns)) refl;
}

pub computes_leads : (m : ℕ) (q : Quint) (c : Moment) (ns : List ℕ) (o : Tape) → c.state ≡ q.state
    → scanned c.tape ≡ q.read → scanned o ≡ 0 → Leads (writes_ahead m q) (computing c ns o)
    (computing_within c ns m q o)
computes_leads m q c ns o from reads blank =
    subst (λ s. Leads (writes_ahead m q) (configuration (Compute s) c.tape (history ns) o)
    (computing_within c ns m q o)) (sym from) (writing_leads (Compute q.state) (ComputeWithin m) q c.tape
    (history ns) o reads blank)

pub computes_on_leads : (m : ℕ) (q : Quint) (c d : Moment) (ns : List ℕ) (o : Tape)
    → d.tape ≡ shift (write c.tape q.write) q.shift → d.state ≡ q.next
    → Leads (shifts_ahead m q) (computing_within c ns m q o) (computing d (m ∷ ns) o)
computes_on_leads m q c d ns o writes to =
    subst (λ t. Leads (shifts_ahead m q) (computing_within c ns m q o)
    (configuration (Compute d.state) t (history (m ∷ ns)) o)) (sym writes)
    (subst (λ s. Leads (shifts_ahead m q) (computing_within c ns m q o)
    (configuration (Compute s) (shift (write c.tape q.write) q.shift) (history (m ∷ ns)) o)) (sym to)
    (shifting_leads (ComputeWithin m) (Compute q.next) m q (write c.tape q.write) ns o))

pub retraces_leads : (m : ℕ) (q : Quint) (c d : Moment) (ns : List ℕ) (o : Tape)
    → d.tape ≡ shift (write c.tape q.write) q.shift → d.state ≡ q.next
    → Leads (shifts_back m q) (retracing d (m ∷ ns) o) (retracing_within c ns m q o)
retraces_leads m q c d ns o writes to =
    subst (λ t. Leads (shifts_back m q) (configuration (Retrace d.state) t (history (m ∷ ns)) o)
    (retracing_within c ns m q o)) (sym writes)
    (subst (λ s. Leads (shifts_back m q) (configuration (Retrace s) (shift (write c.tape q.write) q.shift)
    (history (m ∷ ns)) o) (retracing_within c ns m q o)) (sym to)
    (turned_leads (shifting (RetraceWithin m) (Retrace q.next) m q) _ _
    (shifting_leads (RetraceWithin m) (Retrace q.next) m q (write c.tape q.write) ns o)))

pub retraces_on_leads : (m : ℕ) (q : Quint) (c : Moment) (ns : List ℕ) (o : Tape) → c.state ≡ q.state
    → scanned c.tape ≡ q.read → scanned o ≡ 0 → Leads (writes_back m q) (retracing_within c ns m q o) (retracing c ns o)
retraces_on_leads m q c ns o from reads blank =
    subst (λ s. Leads (writes_back m q) (retracing_within c ns m q o) (configuration (Retrace s) c.tape (history ns) o))
    (sym from)
    (turned_leads (writing (Retrace q.state) (RetraceWithin m) q) _ _
    (writing_leads (Retrace q.state) (RetraceWithin m) q c.tape (history ns) o reads blank))

-- ---- copying

-- a tape that scans the symbol which is kept
kept : (t : Tape) (s : ℕ) → scanned t ≡ s → t ≡ write t s
kept t s e = sym (write-scanned t s e)

module _ (c : Moment) (ns : List ℕ) (n : ℕ) (last : scanned (history ns) ≡ n) where
  pub begins_leads : (final : ℕ) → c.state ≡ final → scanned c.tape ≡ 0
      → Leads (begins_copy final n) (computing c ns blank_tape) (copying GoRight c ns [] 0)
  begins_leads final is blank = record {
    applies = record { from = ap Compute is; one = blank; two = last; three = scanned-word [] };
    gives = same_configuration _ _ refl (ahead_none c.tape ∙ kept c.tape 0 blank) (kept (history ns) n last)
        (ahead_none blank_tape ∙ kept blank_tape 0 (scanned-word []));
  }

  pub right_leads : (ys : List ℕ) (k : ℕ) → Leads goes_right (copying GoRight c ns ys k)
      (copying CopyLetter c ns ys (suc k))
  right_leads ys k = record {
    applies = record { from = refl; one = tt; two = tt; three = tt };
    gives = same_configuration _ _ refl (sym (shift-ahead k c.tape)) refl (sym (shift-ahead k (word_tape ys)));
  }

  pub left_leads : (ys : List ℕ) (k : ℕ) → Leads goes_left (copying GoLeft c ns ys (suc k))
      (copying PassLetter c ns ys k)
  left_leads ys k = record {
    applies = record { from = refl; one = tt; two = tt; three = tt };
    gives = same_configuration _ _ refl (sym (shift-ahead_back k c.tape)) refl
        (sym (shift-ahead_back k (word_tape ys)));
  }

  pub ends_leads : (final : ℕ) (ys : List ℕ) → c.state ≡ final → scanned c.tape ≡ 0
      → Leads (ends_copy final n) (copying PassLetter c ns ys 0) (retracing c ns (word_tape ys))
  ends_leads final ys is blank = record {
    applies = record { from = refl; one = ap scanned (ahead_none c.tape) ∙ blank; two = last; three = scanned-word ys };
    gives = same_configuration _ _ (ap Retrace is) (sym (ahead_none c.tape)
        ∙ kept (ahead 0 c.tape) 0 (ap scanned (ahead_none c.tape) ∙ blank)) (kept (history ns) n last)
        (kept (word_tape ys) 0 (scanned-word ys));
  }

  module _ (y : List ℕ) (out : IsOutput c.tape y) where
    -- at the k-th letter, counted from 0, and at the blank behind the last
    spelled : (k : ℕ) → k < length y → scanned (ahead (suc k) c.tape) ≡ get_or y k 0
    spelled k low = out.spelled k low

    pub copies_leads : (k : ℕ) → k < length y → Leads (copies_letter n (get_or y k 0))
        (copying CopyLetter c ns (take k y) (suc k)) (copying GoRight c ns (take (suc k) y) (suc k))
    copies_leads k low =
        let long : length (take k y) ≡ k = length-take-le k y (omega arith) in
        let more : write (ahead (suc k) (word_tape (take k y))) (get_or y k 0)
        ≡ ahead (suc k) (word_tape (take (suc k) y)) = word_more (take k y) k (get_or y k 0) long
        ∙ ap (λ xs. ahead (suc k) (word_tape xs)) (sym (take-suc y k 0 low)) in
        record {
          applies = record { from = refl; one = spelled k low; two = last; three = scanned-past (take k y) k long };
          gives = same_configuration _ _ refl (kept (ahead (suc k) c.tape) (get_or y k 0) (spelled k low))
              (kept (history ns) n last) (sym more);
        }

    pub turns_leads : Leads (turns_left n) (copying CopyLetter c ns (take (length y) y) (suc (length y)))
        (copying GoLeft c ns y (suc (length y)))
    turns_leads =
        let all : take (length y) y ≡ y = take_all (length y) y (omega arith) in
        let blank : scanned (ahead (suc (length y)) (word_tape y)) ≡ 0 = scanned-past y (length y) refl in
        subst (λ xs. Leads (turns_left n) (copying CopyLetter c ns xs (suc (length y)))
        (copying GoLeft c ns y (suc (length y)))) (sym all) (record {
          applies = record { from = refl; one = out.ended; two = last; three = blank };
          gives = same_configuration _ _ refl (kept (ahead (suc (length y)) c.tape) 0 out.ended)
              (kept (history ns) n last) (kept (ahead (suc (length y)) (word_tape y)) 0 blank);
        })

    pub passes_leads : (k : ℕ) → k < length y → Leads (passes_letter n (get_or y k 0))
        (copying PassLetter c ns y (suc k)) (copying GoLeft c ns y (suc k))
    passes_leads k low =
        let there : scanned (ahead (suc k) (word_tape y)) ≡ get_or y k 0 = scanned-ahead y k in
        record {
          applies = record { from = refl; one = spelled k low; two = last; three = there };
          gives = same_configuration _ _ refl (kept (ahead (suc k) c.tape) (get_or y k 0) (spelled k low))
              (kept (history ns) n last) (kept (ahead (suc k) (word_tape y)) (get_or y k 0) there);
        }
