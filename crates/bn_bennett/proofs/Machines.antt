-- The machine of a draft that has Bennett's list: its quadruples are sound, and they are deterministic, reversible and
-- uniform.
use Rattle.std.proofs.Common.{◌≡◌, ◌<◌, ◌+◌, ◌*◌, ◌∙◌, ℕ, suc, List, length, map, refl, sym, ap, subst, arith, get_or}
use Rattle.std.specs.List.{All}
use Rattle.std.proofs.lemmas.List.{length-map}
use Rattle.std.proofs.lemmas.List.Elements.{All-map}
use Rattle.bn_csv.specs.Numbering.{firsts_by}
use Rattle.bn_machine.specs.declared.quint.Shift.TheVariants.{Stay}
use Rattle.bn_machine.specs.Machine.{Program, IsMachine, final_of}
use Rattle.bn_lists.specs.Lists.{IsIn}
use Rattle.bn_quad.specs.Quadruples.{Rule, Quadruples, IsQuadMachine, IsRuleInRange, AreDeedsInRange, deeds_of}
use Rattle.bn_quad.specs.Kept.{IsSound, quad_of, rule_of, rules_of}
use Rattle.bn_quad.proofs.KeptLemmas.{nth-rules_of, quads-apart}
use Rattle.bn_quad.proofs.SoundLemmas.{sound_if}
use Rattle.bn_quad.specs.Calls.{IsMadeOf, IsUniformMachine}
use Rattle.bn_quad.specs.declared.quad.Quad.{Quad}
use Rattle.bn_bennett_laws.proofs.MembershipLemmas.{in_map}
use Rattle.bn_bennett_laws.specs.Laws.{ListCountsNames, ListHasLength, ListIsInRange, NumbersPassTests}
use Rattle.bn_bennett_laws.specs.Names.{states_in}
use Rattle.bn_machine.specs.Standard.{IsStandard}
use Rattle.bn_table.specs.Rows.{FitsTable}
use Rattle.bn_bennett.specs.Translation.{IsTranslation, is_same, translation_of}
use Rattle.bn_bennett.proofs.Counting.{each_mentioned, numbers_states}
use Rattle.bn_bennett_laws.specs.List.{bennett, symbols_of}
use Rattle.bn_bennett_laws.specs.Renamed.{renamed, rename, name_at}
use Rattle.bn_bennett_laws.specs.declared.name.Name.{Name}
use Rattle.bn_bennett_laws.specs.declared.name.Name.TheVariants.{GoRight}
use Rattle.bn_bennett.specs.Draft.{AreDrafted, IsBelow, renamed_back}

-- ---- quadruples that are a list's, with numbers for its names, are sound

pub sound_listed : {N : Type 0} (name : ℕ → N) (states : ℕ) (symbols : List ℕ) (list : List (Rule N))
    (quads : List Quad) → map quad_of (rules_of quads) ≡ quads → All (IsBelow states) quads
    → rename name (rules_of quads) ≡ list → ((r : Rule N) → IsIn list r → AreDeedsInRange symbols (deeds_of r))
    → All (IsSound states symbols) quads
sound_listed {N} name states symbols list quads kept below same ranges =
    sound_if states symbols quads kept (All-map (IsRuleInRange states symbols) rule_of quads each)
  where
    each : All (λ q. IsRuleInRange states symbols (rule_of q)) quads
    each = λ k e inside.
        let r : Rule ℕ = rule_of (get_or quads k e) in
        let there : IsIn (rules_of quads) r = record { place = suc k; stands = nth-rules_of quads k e inside } in
        let listed : IsIn list (renamed name r) = subst (λ rs. IsIn rs (renamed name r)) same
        (in_map (renamed name) (rules_of quads) r there) in
        record { from = (below k e inside).state; deeds = ranges (renamed name r) listed; to = (below k e inside).next }

-- ---- the quadruples of the draft

-- a machine has a symbol
pub some_symbols : (p : Program) → IsMachine p → 0 < p.symbols
some_symbols p h = let first = h.in_range 0 (record { state = 0; read = 0; write = 0; shift = Stay; next = 0 }) h.some
    in omega (arith, first.read)

module _ (p : Program) (names : List Name) (quads : List Quad) (machine : IsMachine p) (ranges : ListIsInRange)
    (d : AreDrafted names quads) (list : renamed_back names quads ≡ bennett p) where
  pub sound : All (IsSound (length names) (symbols_of p)) quads
  sound = sound_listed (name_at GoRight names) (length names) (symbols_of p) (bennett p) quads d.kept d.below list
      (ranges p machine)

  pub length-quads : length quads ≡ length (bennett p)
  length-quads = sym (length-map quads rule_of) ∙ sym (length-map (rules_of quads) (renamed (name_at GoRight names)))
      ∙ ap length list

  -- the rules of the machine that is made of them
  pub rules_made : (m : Quadruples) (states : ℕ) (symbols : List ℕ) → IsMadeOf m quads states symbols
      → m.rules ≡ rules_of quads
  rules_made m states symbols made = quads-apart m.rules (rules_of quads) (made.listed ∙ sym d.kept)

  made_list : (m : Quadruples) → IsMadeOf m quads (length names) (symbols_of p)
      → rename (name_at GoRight names) m.rules ≡ bennett p
  made_list m made = ap (rename (name_at GoRight names)) (rules_made m (length names) (symbols_of p) made) ∙ list

  in_order : names ≡ firsts_by is_same (states_in (bennett p))
  in_order = d.in_order ∙ ap (λ rs. firsts_by is_same (states_in rs)) list

  pub made_translation : (m : Quadruples) → IsMadeOf m quads (length names) (symbols_of p) → IsQuadMachine m
      → IsTranslation p (translation_of names (final_of p.quints) m)
  made_translation m made valid = record {
    names = in_order;
    rules = made_list m made;
    machine = valid;
    states = made.counted;
    symbols = made.lettered;
    final_state = refl;
  }

  pub count_names : ListCountsNames → FitsTable p → length names ≡ 2 * p.states + 2 * length p.quints + 4
  count_names counts fits = counts p machine (each_mentioned p fits) names (numbers_states (bennett p) names in_order)

  pub count_quads : ListHasLength → length quads ≡ 4 * length p.quints + 2 * p.symbols + 3
  count_quads has_length = length-quads ∙ has_length p (some_symbols p machine)

  pub count_rules : ListHasLength → (m : Quadruples) → IsMadeOf m quads (length names) (symbols_of p)
      → length m.rules ≡ 4 * length p.quints + 2 * p.symbols + 3
  count_rules has_length m made = ap length (rules_made m (length names) (symbols_of p) made) ∙ length-map quads rule_of
      ∙ count_quads has_length

  pub passes : NumbersPassTests → IsStandard p.quints → (m : Quadruples)
      → IsMadeOf m quads (length names) (symbols_of p) → IsUniformMachine m
  passes tests standard m made =
      let all = tests p (record { machine = machine; standard = standard }) (name_at GoRight names) m.rules
      (made_list m made) in
      record { deterministic = all.0; reversible = all.1; uniform = all.2 }

-- the machine's own symbols, where they are those of an equal machine
pub own_symbols : (p q : Program) (zs : List ℕ) → q ≡ p → zs ≡ symbols_of q → zs ≡ symbols_of p
own_symbols p q zs e k = k ∙ ap symbols_of e

pub own_made : (p : Program) (m : Quadruples) (quads : List Quad) (states : ℕ) (zs : List ℕ) → zs ≡ symbols_of p
    → IsMadeOf m quads states zs → IsMadeOf m quads states (symbols_of p)
own_made p m quads states zs e made = let P : List ℕ → Type 0 = IsMadeOf m quads states in subst P e made

-- what holds of a machine and its translation holds of an equal machine
pub own_translation : (p : Program) (names : List Name) (final : ℕ) (m u : Quadruples) → u ≡ m
    → IsTranslation p (translation_of names final m) → IsTranslation p (translation_of names final u)
own_translation p names final m u e t = let P : Quadruples → Type 0 =
    λ q. IsTranslation p (translation_of names final q) in subst P (sym e) t

pub own_counts : (m u : Quadruples) (states rules : ℕ) → u ≡ m → m.states ≡ states → length m.rules ≡ rules
    → (u.states ≡ states) × (length u.rules ≡ rules)
own_counts m u states rules e a b = (
  ap (λ (q : Quadruples). q.states) e ∙ a,
  ap (λ (q : Quadruples). length q.rules) e ∙ b,
)
