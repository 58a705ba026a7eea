-- What stands on the history tape and on the output tape.
use Rattle.std.specs.Prelude.{◌≡◌, ◌≢◌, ℕ, zero, suc, ℤ, pos, negsuc, ◌+ℤ◌, ◌-ℤ◌, List, [], ◌∷◌, ◌++◌, length, reverse}
use Rattle.std.proofs.Common.{refl, sym, ap, ◌∙◌, arith, inl, inr, length-append}
use Rattle.std.proofs.lemmas.Int.{ints}
use Rattle.std.proofs.lemmas.Bool.{cases_lt}
use Rattle.std.proofs.lemmas.List.{get_or_at, get_or_append_left, get_or_past, length-reverse, reverse-append}
use Rattle.bn_machine.specs.Tape.{Tape, scanned, write, shift, ahead, word_tape, letter_at, symbol_at, set_cell}
use Rattle.bn_machine.proofs.TapeLemmas.{at_set_cell, beside_set_cell, same_beside, cell-word, scanned-ahead}
use Rattle.bn_machine.proofs.TapeLemmas.{scanned-write}
use Rattle.bn_machine.specs.declared.quint.Shift.TheVariants.{Left, Right}
use Rattle.bn_bennett_laws.specs.Stages.{history}

pub ahead_none : (t : Tape) → ahead 0 t ≡ t
ahead_none t = let same : t.head +ℤ pos 0 ≡ t.head = omega (arith, ints) in λ i. record
    { cells = t.cells; head = same i }

pub shift-ahead : (k : ℕ) (t : Tape) → shift (ahead k t) Right ≡ ahead (suc k) t
shift-ahead k t = let same : (t.head +ℤ pos k) +ℤ pos 1 ≡ t.head +ℤ pos (suc k) =
    omega (arith, ints) in λ i. record { cells = t.cells; head = same i }

pub shift-ahead_back : (k : ℕ) (t : Tape) → shift (ahead (suc k) t) Left ≡ ahead k t
shift-ahead_back k t = let same : (t.head +ℤ pos (suc k)) -ℤ pos 1 ≡ t.head +ℤ pos k =
    omega (arith, ints) in λ i. record { cells = t.cells; head = same i }

-- a word has no letter at 0
pub scanned-word : (xs : List ℕ) → scanned (word_tape xs) ≡ 0
scanned-word xs = cell-word xs (pos 0)

-- one letter more changes a word tape just there
letter_beside : (xs : List ℕ) (k m : ℕ) (q : ℤ) → length xs ≡ k → q ≢ pos (suc k)
    → letter_at xs q ≡ letter_at (xs ++ m ∷ []) q
letter_beside xs k m (pos zero) long apart = refl
letter_beside xs k m (negsuc j) long apart = refl
letter_beside xs k m (pos (suc j)) long apart =
    elim (cases_lt j k) [
      | inl low ↦ sym (get_or_append_left xs (m ∷ []) 0 j (omega arith))
      | inr high ↦ elim (cases_lt k j) [
        | inl beyond ↦ get_or_past xs j 0 (omega arith) ∙ sym (get_or_past (xs ++ m ∷ []) j 0
            (omega (arith, length-append xs (m ∷ []))))
        | inr low ↦ let same : j ≡ k = omega arith in absurd (apart (ap (λ i. pos (suc i)) same))
      ]
    ]

-- the letter after a word's last, written
pub word_more : (xs : List ℕ) (k m : ℕ) → length xs ≡ k → write (ahead (suc k) (word_tape xs)) m
    ≡ ahead (suc k) (word_tape (xs ++ m ∷ []))
word_more xs k m long = λ i. record { cells = same i; head = pos 0 +ℤ pos (suc k) }
  where
    place : pos 0 +ℤ pos (suc k) ≡ pos (suc k)
    place = omega (arith, ints)

    here : symbol_at (word_tape (xs ++ m ∷ [])).cells (pos 0 +ℤ pos (suc k)) ≡ m
    here = scanned-ahead (xs ++ m ∷ []) k ∙ get_or_at xs m [] 0 k long

    there : (q : ℤ) → q ≢ (pos 0 +ℤ pos (suc k)) → symbol_at (word_tape xs).cells q
        ≡ symbol_at (word_tape (xs ++ m ∷ [])).cells q
    there q apart = cell-word xs q ∙ letter_beside xs k m q long (λ e. apart (e ∙ sym place))
        ∙ sym (cell-word (xs ++ m ∷ []) q)

    same : set_cell (word_tape xs).cells (pos 0 +ℤ pos (suc k)) m ≡ (word_tape (xs ++ m ∷ [])).cells
    same = same_beside _ _ (pos 0 +ℤ pos (suc k))
        (at_set_cell (word_tape xs).cells (pos 0 +ℤ pos (suc k)) m ∙ sym here)
        (λ q apart. beside_set_cell (word_tape xs).cells (pos 0 +ℤ pos (suc k)) m q apart ∙ there q apart)

-- behind the last letter of a word stands a blank
pub scanned-past : (xs : List ℕ) (k : ℕ) → length xs ≡ k → scanned (ahead (suc k) (word_tape xs)) ≡ 0
scanned-past xs k long = scanned-ahead xs k ∙ get_or_past xs k 0 (omega arith)

-- ---- the history

reverse_cons : (m : ℕ) (ns : List ℕ) → reverse (m ∷ ns) ≡ reverse ns ++ m ∷ []
reverse_cons m ns = reverse-append (m ∷ []) ns

pub history-blank : (ns : List ℕ) → scanned (shift (history ns) Right) ≡ 0
history-blank ns = ap scanned (shift-ahead (length ns) (word_tape (reverse ns)))
    ∙ scanned-past (reverse ns) (length ns) (length-reverse ns)

pub history-more : (m : ℕ) (ns : List ℕ) → write (shift (history ns) Right) m ≡ history (m ∷ ns)
history-more m ns =
    ap (λ t. write t m) (shift-ahead (length ns) (word_tape (reverse ns)))
    ∙ word_more (reverse ns) (length ns) m (length-reverse ns)
    ∙ ap (λ xs. ahead (suc (length ns)) (word_tape xs)) (sym (reverse_cons m ns))

-- the head of the history scans the number of the last step
pub scanned-history : (m : ℕ) (ns : List ℕ) → scanned (history (m ∷ ns)) ≡ m
scanned-history m ns = ap scanned (sym (history-more m ns)) ∙ scanned-write (shift (history ns) Right) m
