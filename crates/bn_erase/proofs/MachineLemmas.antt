-- The machine of quadruples that are the erasing machine's list: they are sound, and they are deterministic, reversible
-- and uniform.
use Rattle.std.specs.Prelude.{◌≡◌, ℕ, ◌+◌, ◌*◌, ◌<◌, ◌^◌, List, length, All}
use Rattle.std.proofs.Common.{sym, ap, ◌∙◌, subst, arith}
use Rattle.std.proofs.lemmas.List.{length-map}
use Rattle.bn_machine.specs.Machine.{IsMachine, Program}
use Rattle.bn_quad.specs.Calls.{IsMadeOf, IsQuadRefusal, IsUniformMachine}
use Rattle.bn_quad.specs.Kept.{IsSound, rule_of, rules_of}
use Rattle.bn_quad.specs.Quadruples.{IsQuadMachine, Quadruples}
use Rattle.bn_quad.proofs.KeptLemmas.{quads-apart}
use Rattle.bn_quad.proofs.SoundLemmas.{no_quad_refusal}
use Rattle.bn_quad.specs.declared.quad.Quad.{Quad}
use Rattle.bn_quad.specs.declared.refusal.QuadRefusal.{QuadRefusal}
use Rattle.bn_bennett_laws.specs.Renamed.{rename, renamed, name_at}
use Rattle.bn_bennett_laws.specs.Stages.{IsStandardMachine}
use Rattle.bn_bennett_laws.specs.declared.name.Name.TheVariants.{GoRight}
use Rattle.bn_table.specs.Rows.{FitsTable}
use Rattle.bn_bennett.proofs.Machines.{some_symbols, sound_listed}
use Rattle.bn_erase_laws.specs.Erasing.{erasing, erasing_symbols}
use Rattle.bn_erase_laws.specs.ErasingLaws.{ErasingHasLength, ErasingIsInRange, ErasingNumbersPassTests}
use Rattle.bn_erase_laws.specs.declared.name.ErasingName.{ErasingName}
use Rattle.bn_erase_laws.specs.declared.name.ErasingName.TheVariants.{First}
use Rattle.bn_erase.specs.Made.{IsErasing, erasure_of}
use Rattle.bn_erase.specs.Numbered.{AreErasing}

-- ---- how many quadruples

-- a table's machine makes few
pub few_quadruples : (p q : Program) → IsMachine p → IsMachine q → ErasingHasLength
    → length (erasing p q) ≡ (4 * length p.quints + 2 * p.symbols + 3) + (4 * length q.quints + 2 * q.symbols + 3)
few_quadruples p q left right has_length =
    let long : length (erasing p q) ≡ 4 * (length p.quints + length q.quints) + 2 * (p.symbols + q.symbols) + 6 =
    has_length p q (some_symbols p left) (some_symbols q right) in
    omega (arith, long)

module _ (p q : Program) (names : List ErasingName) (quads : List Quad) (left : IsMachine p) (right : IsMachine q)
    (d : AreErasing p q names quads) where
  length-quads : length quads ≡ length (erasing p q)
  length-quads = sym (length-map quads rule_of) ∙ sym (length-map (rules_of quads)
      (renamed (name_at (First GoRight) names))) ∙ ap length d.list

  pub some_quads : ErasingHasLength → 0 < length quads
  some_quads has_length = omega (arith, length-quads, few_quadruples p q left right has_length)

  pub few_quads : ErasingHasLength → FitsTable p → FitsTable q → length quads < 2 ^ 32
  few_quads has_length fits also = omega (
    arith,
    length-quads,
    few_quadruples p q left right has_length,
    fits.quints,
    fits.symbols,
    also.quints,
    also.symbols,
  )

  -- the rules of the machine that is made of them
  pub made_list : (m : Quadruples) (states : ℕ) (symbols : List ℕ) → IsMadeOf m quads states symbols
      → rename (name_at (First GoRight) names) m.rules ≡ erasing p q
  made_list m states symbols made = ap (rename (name_at (First GoRight) names))
      (quads-apart m.rules (rules_of quads) (made.listed ∙ sym d.kept)) ∙ d.list

  pub made_erasing : (m : Quadruples) → IsMadeOf m quads (length names) (erasing_symbols p q) → IsQuadMachine m
      → IsErasing p q (erasure_of names m)
  made_erasing m made valid = record {
    rules = made_list m (length names) (erasing_symbols p q) made;
    numbered = d.numbered;
    machine = valid;
    states = made.counted;
    symbols = made.lettered;
  }

  pub passes : ErasingNumbersPassTests → IsStandardMachine p → IsStandardMachine q
      → (m : Quadruples) (states : ℕ) (symbols : List ℕ) → IsMadeOf m quads states symbols → IsUniformMachine m
  passes tests one two m states symbols made =
      let all = tests p q one two (name_at (First GoRight) names) m.rules (made_list m states symbols made) in
      record { deterministic = all.0; reversible = all.1; uniform = all.2 }

  -- ---- none is refused

  module _ (ranges : ErasingIsInRange) (same : p.symbols ≡ q.symbols) where
    sound : All (IsSound (length names) (erasing_symbols p q)) quads
    sound = sound_listed (name_at (First GoRight) names) (length names) (erasing_symbols p q) (erasing p q) quads d.kept
        d.below d.list (ranges p q left right same)

    pub none_refused : ErasingHasLength → (why : QuadRefusal) → IsQuadRefusal quads (length names) (erasing_symbols p q)
        why → ⊥
    none_refused has_length why refused = no_quad_refusal (length names) (erasing_symbols p q) quads why
        (some_quads has_length) sound refused

-- ---- what holds of a machine holds of an equal one

pub own_made : (p q : Program) (m : Quadruples) (quads : List Quad) (states : ℕ) (zs : List ℕ)
    → zs ≡ erasing_symbols p q → IsMadeOf m quads states zs → IsMadeOf m quads states (erasing_symbols p q)
own_made p q m quads states zs e made = let P : List ℕ → Type 0 = IsMadeOf m quads states in subst P e made

pub own_erasing : (p q : Program) (names : List ErasingName) (m u : Quadruples) → u ≡ m
    → IsErasing p q (erasure_of names m) → IsErasing p q (erasure_of names u)
own_erasing p q names m u e h = let P : Quadruples → Type 0 =
    λ x. IsErasing p q (erasure_of names x) in subst P (sym e) h
