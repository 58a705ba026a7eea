-- The numbers of symbols of a translated machine, and of its layout.
use Rattle.bn_network.specs.Networks.{IsTape}
use Rattle.bn_quad.specs.Quadruples.{Quadruples}
use Rattle.std.specs.Prelude.{◌≡◌, ℕ, ◌<◌, ◌≤◌, List, [], ◌∷◌, length, All, slice_index, refl}
use Rattle.std.proofs.Common.{zero, suc, arith, sym, ap, subst, ◌∙◌}
use Rattle.bn_machine.specs.Machine.{Program, IsInRange}
use Rattle.bn_machine.specs.declared.quint.Quint.{Quint}
use Rattle.bn_machine.specs.Outcome.{Limits}
use Rattle.bn_bennett_laws.specs.List.{symbols_of}
use Rattle.bn_network.specs.Controls.{symbol_count}
use Rattle.bn_boards.specs.Layouts.{symbol_count_at}
use Rattle.bn_boards.specs.Flats.{Flat, machine_of, IsFlatOf, IsAccepted}

-- a tape's number of symbols, in a list of them
abbrev pub letters_by : List ℕ → ℕ → ℕ
letters_by zs zero = 0
letters_by zs (suc t) = slice_index zs t

-- a machine has a symbol
some_symbol : (states symbols : ℕ) (qs : List Quint) → 0 < length qs → All (IsInRange states symbols) qs → 0 < symbols
some_symbol states symbols [] some all = absurd (omega arith)
some_symbol states symbols (q ∷ qs) some all = let h = (all 0 q (omega arith)).read in omega arith

module _ (p : Program) (word : List ℕ) (l : Limits) (f : Flat) (flat : IsFlatOf p word l f) where
  -- the layout's symbols are the program's
  pub symbols_are : f.layout.symbols ≡ symbols_of p
  symbols_are = flat.is_layout.symbols ∙ flat.translation.symbols

  -- the layout has the machine's numbers of symbols
  pub letters_are : (t : ℕ) → symbol_count_at f.layout t ≡ symbol_count (machine_of f) t
  letters_are zero = refl
  letters_are (suc t) = ap (λ zs. slice_index zs t) flat.is_layout.symbols

  -- each tape has a symbol
  pub some_letters : IsAccepted p word l f → (t : ℕ) → 0 < t → t ≤ 3 → 0 < symbol_count_at f.layout t
  some_letters accepted t low high = subst (λ zs. 0 < letters_by zs t) (sym symbols_are) (by_tape t low high)
    where
      by_tape : (t : ℕ) → 0 < t → t ≤ 3 → 0 < letters_by (symbols_of p) t
      by_tape zero low high = absurd (omega arith)
      by_tape (suc zero) low high = some_symbol p.states p.symbols p.quints accepted.standard.machine.some
          accepted.standard.machine.in_range
      by_tape (suc (suc zero)) low high = omega arith
      by_tape (suc (suc (suc zero))) low high = some_symbol p.states p.symbols p.quints accepted.standard.machine.some
          accepted.standard.machine.in_range
      by_tape (suc (suc (suc (suc t)))) low high = absurd (omega arith)

pub tape_letters : (p : Program) (m : Quadruples) → 0 < p.symbols → (t : ℕ) → IsTape t
    → 0 < symbol_count (record { rules = m.rules; states = m.states; symbols = symbols_of p }) t
tape_letters p m h zero tape = absurd (let low = tape.low in omega arith)
tape_letters p m h (suc zero) tape = h
tape_letters p m h (suc (suc zero)) tape = omega arith
tape_letters p m h (suc (suc (suc zero))) tape = h
tape_letters p m h (suc (suc (suc (suc t)))) tape = absurd (let high = tape.high in omega arith)
