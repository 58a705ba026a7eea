-- The table of the machine of k increments is a table, and its names stand by number.
use Rattle.std.specs.Prelude.{length, nat_eq, slice_index, slice_index_or, take, All}
use Rattle.std.specs.List.{list_all}
use Rattle.std.proofs.lemmas.Option.{slice_get-get_or}
use Rattle.std.proofs.Common.{◌≡◌, ◌≤◌, ◌<◌, ◌+◌, ◌*◌, ◌∷◌, [], ℕ, zero, suc, ap, List, true, ◌∙◌, refl, sym, subst}
use Rattle.std.proofs.Common.{arith}
use Rattle.bn_csv.specs.Forms.{is_state_name, is_symbol_byte}
use Rattle.bn_csv.specs.Lines.{lines_of}
use Rattle.bn_csv.proofs.FormsLemmas.{all-at}
use Rattle.bn_csv.specs.Numbering.{firsts, firsts_by}
use Rattle.bn_machine.specs.Machine.{IsInRange}
use Rattle.bn_machine.specs.declared.quint.Quint.{Quint}
use Rattle.bn_table.specs.Entry.{HasForms, said}
use Rattle.bn_table.specs.Reading.{Reads}
use Rattle.bn_table.specs.Rows.{IsTable, blank, letters_in, names_in, rows_by, rows_of}
use Rattle.bn_table.proofs.Writing.{lines-all, reads-back}
use Rattle.bn_gen.specs.Increments.{IsRoundCount, quints_of}
use Rattle.bn_gen.specs.Text.{increments_table, increments_text, increment_letters, increment_names}
use Rattle.bn_gen.proofs.Cases.{by_cases}
use Rattle.bn_gen.proofs.MachineLemmas.{in_range}

-- ---- it is a table

named : (k : ℕ) → IsRoundCount k → length (increment_names k) ≡ 3 * k + 2
named = by_cases (λ k. length (increment_names k) ≡ 3 * k + 2) refl refl refl refl

names_first : (k : ℕ) → IsRoundCount k → increment_names k ≡ firsts (names_in (rows_of (increments_table k)))
unfolding firsts_by
names_first = by_cases (λ k. increment_names k ≡ firsts (names_in (rows_of (increments_table k)))) refl refl refl refl

letters_first : (k : ℕ) → IsRoundCount k → increment_letters
    ≡ firsts_by nat_eq (blank ∷ letters_in (rows_of (increments_table k)))
unfolding firsts_by
letters_first = by_cases (λ k. increment_letters ≡ firsts_by nat_eq (blank ∷ letters_in (rows_of (increments_table k))))
    refl refl refl refl

names_form : (k : ℕ) → IsRoundCount k → list_all is_state_name (increment_names k) ≡ true
names_form = by_cases (λ k. list_all is_state_name (increment_names k) ≡ true) refl refl refl refl

rows_counted : (k : ℕ) → IsRoundCount k → length (rows_of (increments_table k)) ≡ 9 * k + 1
rows_counted = by_cases (λ k. length (rows_of (increments_table k)) ≡ 9 * k + 1) refl refl refl refl

pub is_table : (k : ℕ) → IsRoundCount k → IsTable (increments_table k)
is_table k h = record {
  spelled = record {
    rows = refl;
    in_range = subst (λ (n : ℕ). All (IsInRange n 3) (quints_of k)) (sym (named k h)) (in_range k h);
    names_by_first = names_first k h;
    letters_by_first = letters_first k h;
    names_form = names_form k h;
    letters_form = refl;
  };
  some = let count : length (rows_of (increments_table k)) ≡ 9 * k + 1 = rows_counted k h in omega (arith, count);
  few = let count : length (rows_of (increments_table k)) ≡ 9 * k + 1 = rows_counted k h in omega (arith, count, h.few);
  states = sym (named k h);
  symbols = refl;
}

-- ---- its names

-- the names and letters of a quintuple in range have their forms
name_form : (k s : ℕ) → IsRoundCount k → s < 3 * k + 2 → is_state_name (slice_index_or (increment_names k) s []) ≡ true
name_form k s h low =
    let counted : length (increment_names k) ≡ 3 * k + 2 = named k h in
    let inside : s < length (increment_names k) = omega (arith, counted, low) in
    all-at is_state_name (increment_names k) s (slice_index_or (increment_names k) s []) (names_form k h)
    (slice_get-get_or (increment_names k) s [] inside)

letter_form : (a : ℕ) → a < 3 → is_symbol_byte (slice_index increment_letters a) ≡ true
letter_form zero low = refl
letter_form (suc zero) low = refl
letter_form (suc (suc zero)) low = refl
letter_form (suc (suc (suc a))) low = absurd (omega (arith, low))

pub forms : (k : ℕ) (q : Quint) (state next : List ℕ) → IsRoundCount k → IsInRange (3 * k + 2) 3 q →
    state ≡ slice_index_or (increment_names k) q.state [] → next ≡ slice_index_or (increment_names k) q.next [] →
    HasForms (said state (slice_index increment_letters q.read) (slice_index increment_letters q.write) q.shift next)
forms k q state next h r state_is next_is = record {
  state = ap is_state_name state_is ∙ name_form k q.state h r.state;
  read = letter_form q.read r.read;
  write = letter_form q.write r.write;
  next = ap is_state_name next_is ∙ name_form k q.next h r.next;
}

-- ---- its text

-- the text of the lines of all quintuples is the table's, and is read as the table
pub text_is : (k : ℕ) (quints : List Quint) (i : ℕ) (text : List ℕ) → quints ≡ quints_of k → length quints ≤ i →
    text ≡ lines_of (rows_by (increment_names k) increment_letters (take i quints)) → text ≡ increments_text k
text_is k quints i text same all e =
    lines-all (increment_names k) increment_letters quints i text all e
    ∙ ap (λ (qs : List Quint). lines_of (rows_by (increment_names k) increment_letters qs)) same

pub text_reads : (k : ℕ) (text : List ℕ) → IsRoundCount k → text ≡ increments_text k → Reads text (increments_table k)
text_reads k text h e = reads-back (increments_table k) text (is_table k h) e
