-- The machines of two tables over one alphabet.
use Rattle.std.specs.Prelude.{◌≡◌, ℕ, suc, ◌<◌, ◌≤◌, ◌==◌, List, not, length, map, slice_get, slice_index, Some}
use Rattle.std.specs.List.{list_all, list_any}
use Rattle.std.proofs.Common.{sym, ap, ◌∙◌, subst, arith, get_or, true, refl, filter, length-append}
use Rattle.std.proofs.lemmas.Option.{get_or_from_slice_get, slice_get_within, slice_get-get_or}
use Rattle.bn_csv.specs.Forms.{is_symbol_byte}
use Rattle.bn_machine.specs.Machine.{IsMachine, Program, program_of}
use Rattle.bn_machine.specs.MachineCalls.{IsMachineRefusal}
use Rattle.bn_machine.specs.declared.quint.Quint.{Quint}
use Rattle.bn_machine.specs.declared.machine.MachineRefusal.{MachineRefusal}
use Rattle.bn_machine.specs.declared.machine.MachineRefusal.TheVariants.{Empty, Range}
use Rattle.bn_lists.specs.Lists.{IsIn}
use Rattle.bn_bennett_laws.proofs.Halted.{quint_in_range}
use Rattle.bn_table.specs.Rows.{IsTable, Named, blank}
use Rattle.bn_table.proofs.Bounds.{fits_table}
use Rattle.bn_table.proofs.MachineLemmas.{table_machine}
use Rattle.bn_table.proofs.RowsLemmas.{blank_first, one_symbol}
use Rattle.bn_erase.specs.Joint.{IsAlphabet, IsCode, IsJoint, joined, joint_letters, joint_of, number_in}
use Rattle.bn_erase.specs.Laws.{JoinedAreJudgedAlike}
use Rattle.bn_erase.specs.Recoded.{KeepsSymbols, recoded, recoded_quint, with_symbols}
use Rattle.bn_erase.proofs.VerdictLemmas.{alike_refused, alike_standard}
use Rattle.bn_erase.proofs.JointLemmas.{codes_keep_symbols, joint_alphabet, letters_apart, second_in}
use Rattle.bn_erase.proofs.LetterLemmas.{all_joined, few_letters, number_stands}
use Rattle.bn_erase.proofs.RecodedLemmas.{recoded_alike, recoded_fits, recoded_machine, widened_fits}

-- the letters of a table are an alphabet
table_alphabet : (t : Named) → IsTable t → IsAlphabet blank t.letters
table_alphabet t h = record { begins = blank_first t h; apart = one_symbol t h }

-- the number of a symbol by its letter among others
abbrev pub code_among : List ℕ → List ℕ → ℕ → ℕ
code_among letters own symbol = number_in letters (slice_index own symbol)

-- letters that stand among others have numbers there
is_code : (letters own : List ℕ) → ((l : ℕ) → IsIn own l → IsIn letters l) → IsCode own letters (code_among letters own)
is_code letters own known = record {
  each = λ symbol letter e.
      let is : get_or own symbol 0 ≡ letter = get_or_from_slice_get own symbol letter 0 e in
      subst (λ l. slice_get letters (number_in letters l) ≡ Some letter) (sym is)
      (number_stands letters letter (known letter (record { place = suc symbol; stands = e })));
}

code_within : (letters own : List ℕ) → ((l : ℕ) → IsIn own l → IsIn letters l) → (s : ℕ) → s < length own
    → code_among letters own s < length letters
code_within letters own known s low =
    slice_get_within letters (code_among letters own s) (get_or own s 0)
    ((is_code letters own known).each s (get_or own s 0) (slice_get-get_or own s 0 low))

-- a machine with more symbols is one
widened_machine : (n : ℕ) (p : Program) → IsMachine p → p.symbols ≤ n → IsMachine (with_symbols n p)
widened_machine n p m low = record {
  some = m.some;
  few = m.few;
  in_range = λ i d inside.
      let r = m.in_range i d inside in
      record { state = r.state; read = omega (arith, r.read); write = omega (arith, r.write); next = r.next };
}

module _ (t u : Named) (h : IsTable t) (k : IsTable u) where
  abbrev both : List ℕ
  both = joint_letters t.letters u.letters

  joint_is_alphabet : IsAlphabet blank both
  joint_is_alphabet = (joint_alphabet blank t.letters u.letters (table_alphabet t h) (table_alphabet u k)).0

  joint_form : list_all is_symbol_byte both ≡ true
  joint_form = all_joined is_symbol_byte (λ letter. not (list_any (λ known. known == letter) t.letters)) t.letters
      u.letters h.spelled.letters_form k.spelled.letters_form

  -- the joint letters are few
  pub joint_few : length (joint_letters t.letters u.letters) ≤ 91
  joint_few = few_letters both (letters_apart blank both joint_is_alphabet) joint_form

  second_keeps : KeepsSymbols (code_among both u.letters) u.machine.symbols (length both)
  second_keeps =
      subst (λ n. KeepsSymbols (code_among both u.letters) n (length both)) (sym k.symbols)
      (codes_keep_symbols blank u.letters both (code_among both u.letters) (table_alphabet u k) joint_is_alphabet
      (is_code both u.letters (second_in t.letters u.letters)))

  pub tables_joined : IsJoint (joined t u)
  tables_joined = record {
    alphabet = joint_is_alphabet;
    letters_form = joint_form;
    first_symbols = refl;
    second_symbols = refl;
    first_machine =
        let more = length-append t.letters (filter (λ letter. not (list_any (λ known. known == letter) t.letters))
        u.letters) in
        widened_machine (length both) t.machine (table_machine t h) (omega (arith, h.symbols));
    second_machine = recoded_machine (code_among both u.letters) (length both) u.machine (table_machine u k)
        (λ s low. code_within both u.letters (second_in t.letters u.letters) s (subst (λ n. s < n) k.symbols low));
    first_fits = widened_fits (length both) t.machine (fits_table t h) joint_few;
    second_fits = recoded_fits (code_among both u.letters) (length both) u.machine (fits_table u k) joint_few;
  }

-- ---- the law

pub joined_are_judged_alike : JoinedAreJudgedAlike
joined_are_judged_alike t u h k =
    let code : ℕ → ℕ = code_among (joint_letters t.letters u.letters) u.letters in
    let alike = recoded_alike code (length (joint_letters t.letters u.letters)) u.machine (second_keeps t u h k)
    (table_machine u k) in
    let standard = alike_standard u.machine.quints (joined t u).second.quints alike in (
      tables_joined t u h k,
      (λ s. s, λ s. s),
      (standard.1, standard.0),
      λ why. (λ r. r, λ r. r),
      λ why. let refused = alike_refused u.machine.quints (joined t u).second.quints alike why in
          (refused.1, refused.0),
    )

-- ---- what the calls make

-- a machine isn't refused
no_refusal : (p : Program) (why : MachineRefusal) → IsMachine p → IsMachineRefusal p.quints p.states p.symbols why → ⊥
no_refusal p Empty m e = let none : length p.quints ≡ 0 = ap length e in omega (arith, m.some)
no_refusal p (Range i) m fault = fault.faulty.2 (quint_in_range p i fault.faulty.0 m fault.faulty.1)

-- nor is the table's recoded one, where the letters have all of the table's
pub recoded_not_refused : (t : Named) (letters : List ℕ) (quints : List Quint) (states : ℕ) (why : MachineRefusal)
    → IsTable t → ((l : ℕ) → IsIn t.letters l → IsIn letters l) →
    quints ≡ map (recoded_quint (code_among letters t.letters)) t.machine.quints → states ≡ t.machine.states
    → IsMachineRefusal quints states (length letters) why → ⊥
recoded_not_refused t letters quints states why h known quints_are states_are refused =
    let code : ℕ → ℕ = code_among letters t.letters in
    let machine : IsMachine (recoded code (length letters) t.machine) =
    recoded_machine code (length letters) t.machine (table_machine t h)
    (λ s low. code_within letters t.letters known s (subst (λ n. s < n) h.symbols low)) in
    no_refusal (program_of quints states (length letters)) why
    (subst IsMachine (sym (λ i. program_of (quints_are i) (states_are i) (length letters))) machine) refused

-- the parts that are the joined machines' are the joined machines
pub joined_is : (t u : Named) (first second : Program) (letters : List ℕ) (n : ℕ)
    → letters ≡ joint_letters t.letters u.letters → n ≡ length letters → first ≡ with_symbols n t.machine →
    second ≡ recoded (code_among letters u.letters) (length letters) u.machine
    → joint_of first second letters ≡ joined t u
joined_is t u first second letters n letters_are counted first_is second_is =
    let one : first ≡ (joined t u).first = first_is ∙ ap (λ m. with_symbols m t.machine)
    (counted ∙ ap length letters_are) in
    let two : second ≡ (joined t u).second = second_is ∙ ap (λ ls. recoded (code_among ls u.letters) (length ls)
    u.machine) letters_are in
    λ i. joint_of (one i) (two i) (letters_are i)
