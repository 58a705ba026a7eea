-- Other numbers for the symbols keep a machine in standard form, and keep what speaks against it.
use Rattle.std.specs.Prelude.{◌≡◌, ℕ, ◌<◌, ◌≤◌, List, [], ◌∷◌, length, map, Some}
use Rattle.std.proofs.Common.{refl, sym, ap, ◌∙◌, subst, arith, get_or}
use Rattle.std.proofs.lemmas.List.{length-map}
use Rattle.std.proofs.lemmas.List.Elements.{All-map}
use Rattle.std.proofs.lemmas.List.Folds.{flat_map-map}
use Rattle.bn_csv.specs.Numbering.{AreNumberedByFirst}
use Rattle.bn_machine.specs.Machine.{Program, IsMachine, IsInRange, start_of, final_of}
use Rattle.bn_lists.specs.Lists.{nth}
use Rattle.bn_machine.specs.declared.quint.Quint.{Quint}
use Rattle.bn_erase_laws.proofs.MappedLemmas.{mapped_before, nth_mapped}
use Rattle.bn_bennett_laws.proofs.Halted.{quint_in_range, some_symbol}
use Rattle.bn_machine.specs.Standard.{Repeats, BeginsWell, UsesStart, EndsWell, UsesFinal, NamesStart, NamesFinal}
use Rattle.bn_table.specs.Rows.{FitsTable, states_in}
use Rattle.bn_erase.specs.Recoded.{recoded_quint, recoded, with_symbols, KeepsSymbols}
use Rattle.bn_erase.specs.Laws.{RecodedIsStandard}
use Rattle.bn_erase.proofs.VerdictLemmas.{AreAlike, alike_standard}

-- ---- the same states

module _ (code : ℕ → ℕ) where
  same_start : (qs : List Quint) → start_of (map (recoded_quint code) qs) ≡ start_of qs
  same_start [] = refl
  same_start (q ∷ qs) = refl

  same_final : (qs : List Quint) → final_of (map (recoded_quint code) qs) ≡ final_of qs
  same_final [] = refl
  same_final (q ∷ []) = refl
  same_final (q ∷ r ∷ qs) = same_final (r ∷ qs)

  same_length : (qs : List Quint) → length (map (recoded_quint code) qs) ≡ length qs
  same_length qs = length-map qs (recoded_quint code)

  same_states : (qs : List Quint) → states_in (map (recoded_quint code) qs) ≡ states_in qs
  same_states qs = flat_map-map (λ (q : Quint). q.state ∷ q.next ∷ []) (recoded_quint code) qs

module _ (code : ℕ → ℕ) (symbols : ℕ) (p : Program) (keeps : KeepsSymbols code p.symbols symbols)
    (machine : IsMachine p) where
  abbrev after : List Quint
  after = map (recoded_quint code) p.quints

  -- what has the blank's number is the blank
  blank_before : (s : ℕ) → s < p.symbols → code s ≡ 0 → s ≡ 0
  blank_before s low e = keeps.apart s 0 low (some_symbol p machine) (e ∙ sym keeps.blank)

  -- ---- the demands, from the machine to the recoded one

  repeats_after : (i j : ℕ) → Repeats p.quints i j → Repeats after i j
  repeats_after i j h = record {
    first = recoded_quint code h.first;
    second = recoded_quint code h.second;
    first_stands = nth_mapped (recoded_quint code) p.quints i h.first h.first_stands;
    second_stands = nth_mapped (recoded_quint code) p.quints j h.second h.second_stands;
    clashes = record { before = h.clashes.before; state = h.clashes.state; read = ap code h.clashes.read };
  }

  begins_after : BeginsWell p.quints → BeginsWell after
  begins_after h = record {
    quint = recoded_quint code h.quint;
    stands = nth_mapped (recoded_quint code) p.quints 1 h.quint h.stands;
    begins = record {
      reads = ap code h.begins.reads ∙ keeps.blank;
      writes = ap code h.begins.writes ∙ keeps.blank;
      shifts = h.begins.shifts;
    };
  }

  uses_start_after : (i : ℕ) → UsesStart p.quints i → UsesStart after i
  uses_start_after i h = record {
    quint = recoded_quint code h.quint;
    stands = nth_mapped (recoded_quint code) p.quints i h.quint h.stands;
    names = subst (λ s. NamesStart s i (recoded_quint code h.quint)) (sym (same_start code p.quints)) h.names;
  }

  ends_after : EndsWell p.quints → EndsWell after
  ends_after h = record {
    quint = recoded_quint code h.quint;
    stands = subst (λ n. nth after n ≡ Some (recoded_quint code h.quint)) (sym (same_length code p.quints))
        (nth_mapped (recoded_quint code) p.quints (length p.quints) h.quint h.stands);
    ends = record {
      reads = ap code h.ends.reads ∙ keeps.blank;
      writes = ap code h.ends.writes ∙ keeps.blank;
      shifts = h.ends.shifts;
      apart = λ e. h.ends.apart (e ∙ same_start code p.quints);
    };
  }

  uses_final_after : (i : ℕ) → UsesFinal p.quints i → UsesFinal after i
  uses_final_after i h = record {
    quint = recoded_quint code h.quint;
    stands = nth_mapped (recoded_quint code) p.quints i h.quint h.stands;
    names = subst (λ n. NamesFinal (final_of after) n i (recoded_quint code h.quint)) (sym (same_length code p.quints))
        (subst (λ s. NamesFinal s (length p.quints) i (recoded_quint code h.quint)) (sym (same_final code p.quints))
        h.names);
  }

  -- ---- and back

  repeats_before : (i j : ℕ) → Repeats after i j → Repeats p.quints i j
  repeats_before i j h =
      let a = mapped_before (recoded_quint code) p.quints i h.first h.first_stands in
      let b = mapped_before (recoded_quint code) p.quints j h.second h.second_stands in
      let reads : code a.0.read ≡ code b.0.read = ap (λ (q : Quint). q.read) a.2 ∙ h.clashes.read
      ∙ sym (ap (λ (q : Quint). q.read) b.2) in
      record {
        first = a.0;
        second = b.0;
        first_stands = a.1;
        second_stands = b.1;
        clashes = record {
          before = h.clashes.before;
          state = ap (λ (q : Quint). q.state) a.2 ∙ h.clashes.state ∙ sym (ap (λ (q : Quint). q.state) b.2);
          read = keeps.apart a.0.read b.0.read (quint_in_range p i a.0 machine a.1).read
              (quint_in_range p j b.0 machine b.1).read reads;
        };
      }

  begins_before : BeginsWell after → BeginsWell p.quints
  begins_before h =
      let a = mapped_before (recoded_quint code) p.quints 1 h.quint h.stands in
      let range = quint_in_range p 1 a.0 machine a.1 in
      record {
        quint = a.0;
        stands = a.1;
        begins = record {
          reads = blank_before a.0.read range.read (ap (λ (q : Quint). q.read) a.2 ∙ h.begins.reads);
          writes = blank_before a.0.write range.write (ap (λ (q : Quint). q.write) a.2 ∙ h.begins.writes);
          shifts = ap (λ (q : Quint). q.shift) a.2 ∙ h.begins.shifts;
        };
      }

  uses_start_before : (i : ℕ) → UsesStart after i → UsesStart p.quints i
  uses_start_before i h =
      let a = mapped_before (recoded_quint code) p.quints i h.quint h.stands in
      record {
        quint = a.0;
        stands = a.1;
        names = subst (λ s. NamesStart s i (recoded_quint code a.0)) (same_start code p.quints)
            (subst (λ q. NamesStart (start_of after) i q) (sym a.2) h.names);
      }

  ends_before : EndsWell after → EndsWell p.quints
  ends_before h =
      let a = mapped_before (recoded_quint code) p.quints (length p.quints) h.quint
      (subst (λ n. nth after n ≡ Some h.quint) (same_length code p.quints) h.stands) in
      let range = quint_in_range p (length p.quints) a.0 machine a.1 in
      record {
        quint = a.0;
        stands = a.1;
        ends = record {
          reads = blank_before a.0.read range.read (ap (λ (q : Quint). q.read) a.2 ∙ h.ends.reads);
          writes = blank_before a.0.write range.write (ap (λ (q : Quint). q.write) a.2 ∙ h.ends.writes);
          shifts = ap (λ (q : Quint). q.shift) a.2 ∙ h.ends.shifts;
          apart = λ e. h.ends.apart (sym (ap (λ (q : Quint). q.state) a.2) ∙ e ∙ sym (same_start code p.quints));
        };
      }

  uses_final_before : (i : ℕ) → UsesFinal after i → UsesFinal p.quints i
  uses_final_before i h =
      let a = mapped_before (recoded_quint code) p.quints i h.quint h.stands in
      record {
        quint = a.0;
        stands = a.1;
        names = subst (λ n. NamesFinal (final_of p.quints) n i (recoded_quint code a.0)) (same_length code p.quints)
            (subst (λ s. NamesFinal s (length after) i (recoded_quint code a.0)) (same_final code p.quints)
            (subst (λ q. NamesFinal (final_of after) (length after) i q) (sym a.2) h.names));
      }

  pub recoded_alike : AreAlike p.quints (map (recoded_quint code) p.quints)
  recoded_alike = record {
    repeats = λ i j. (repeats_after i j, repeats_before i j);
    begins = (begins_after, begins_before);
    starts = λ i. (uses_start_after i, uses_start_before i);
    ends = (ends_after, ends_before);
    finals = λ i. (uses_final_after i, uses_final_before i);
  }

-- ---- machines

recoded_in_range : (code : ℕ → ℕ) (states before symbols : ℕ) → ((s : ℕ) → s < before → code s < symbols) → (q : Quint)
    → IsInRange states before q → IsInRange states symbols (recoded_quint code q)
recoded_in_range code states before symbols within q h = record
    { state = h.state; read = within q.read h.read; write = within q.write h.write; next = h.next }

pub recoded_machine : (code : ℕ → ℕ) (symbols : ℕ) (p : Program) → IsMachine p
    → ((s : ℕ) → s < p.symbols → code s < symbols) → IsMachine (recoded code symbols p)
recoded_machine code symbols p m within = record {
  some = omega (arith, m.some, same_length code p.quints);
  few = omega (arith, m.few, same_length code p.quints);
  in_range = All-map (IsInRange p.states symbols) (recoded_quint code) p.quints
      (λ k d low. recoded_in_range code p.states p.symbols symbols within (get_or p.quints k d) (m.in_range k d low));
}

-- as tables have them, where there aren't too many symbols
pub recoded_fits : (code : ℕ → ℕ) (symbols : ℕ) (p : Program) → FitsTable p → symbols ≤ 91
    → FitsTable (recoded code symbols p)
recoded_fits code symbols p f few = record {
  numbered = subst (λ ns. AreNumberedByFirst ns p.states) (sym (same_states code p.quints)) f.numbered;
  quints = omega (arith, f.quints, same_length code p.quints);
  states = f.states;
  symbols = few;
}

pub widened_fits : (symbols : ℕ) (p : Program) → FitsTable p → symbols ≤ 91 → FitsTable (with_symbols symbols p)
widened_fits symbols p f few = record { numbered = f.numbered; quints = f.quints; states = f.states; symbols = few }

-- ---- the law

pub recoded_is_standard : RecodedIsStandard
recoded_is_standard p code symbols keeps standard = record {
  machine = recoded_machine code symbols p standard.machine keeps.within;
  standard = (alike_standard p.quints (map (recoded_quint code) p.quints)
      (recoded_alike code symbols p keeps standard.machine)).0 standard.standard;
}
