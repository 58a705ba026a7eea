-- A machine in standard form has a translation.
use Rattle.std.specs.Prelude.{◌≡◌, ℕ, ◌+◌, ◌*◌, ◌<◌, true, List, [], ◌∷◌, length, Some, slice_get, if◌then◌else◌, refl}
use Rattle.std.specs.List.{All, list_any}
use Rattle.std.proofs.Common.{zero, suc, arith, sym, ap, ◌∙◌, inl, inr, get_or}
use Rattle.std.proofs.lemmas.Bool.{cases_Bool, false≢true}
use Rattle.std.proofs.lemmas.List.{length-map}
use Rattle.std.proofs.lemmas.Option.{get_or_from_slice_get, slice_get_within}
use Rattle.bn_csv.specs.Numbering.{firsts_by}
use Rattle.bn_csv.proofs.NumberingLemmas.{any-at, any-firsts}
use Rattle.bn_machine.specs.Machine.{Program, final_of}
use Rattle.bn_lists.specs.Lists.{nth, IsIn}
use Rattle.bn_quad.specs.Quadruples.{Rule, Quadruples, IsRuleInRange}
use Rattle.bn_bennett_laws.proofs.MembershipLemmas.{in_head, in_tail}
use Rattle.bn_bennett_laws.specs.Laws.{ListHasLength, ListIsInRange}
use Rattle.bn_bennett_laws.specs.List.{bennett, symbols_of}
use Rattle.bn_bennett_laws.specs.Names.{states_in}
use Rattle.bn_bennett_laws.specs.Renamed.{rename, renamed, name_at}
use Rattle.bn_bennett_laws.proofs.RenamedLemmas.{from_in, to_in}
use Rattle.bn_bennett_laws.specs.declared.name.Name.{Name}
use Rattle.bn_bennett_laws.specs.declared.name.Name.TheVariants.{GoRight}
use Rattle.bn_bennett.proofs.NameLemmas.{is_same-Decides}
use Rattle.bn_bennett.specs.Translation.{is_same}
use Rattle.bn_bennett.specs.Laws.{TranslationsAreThere}
use Rattle.bn_bennett.proofs.Machines.{some_symbols}

-- the number of a name
abbrev number_in : List Name → Name → ℕ
number_in [] x = 0
number_in (y ∷ ys) x = if is_same x y then 0 else suc (number_in ys x)

numbered : (ys : List Name) (x : Name) → list_any (is_same x) ys ≡ true → slice_get ys (number_in ys x) ≡ Some x
numbered [] x h = absurd (false≢true h)
numbered (y ∷ ys) x h = elim (cases_Bool (is_same x y)) [
  | inl hit ↦ rw hit (ap Some (sym ((is_same-Decides x y).0 hit)))
  | inr miss ↦ rw miss (numbered ys x (rw miss at h))
]

in_any : (y : Name) (xs : List Name) → IsIn xs y → list_any (is_same y) xs ≡ true
in_any y xs h = by_place h.place h.stands
  where
    by_place : (n : ℕ) → nth xs n ≡ Some y → list_any (is_same y) xs ≡ true
    by_place zero e = absurd (cc)
    by_place (suc i) e = any-at is_same is_same-Decides y xs i e

module _ (order : List Name) where
  abbrev code : Name → ℕ
  code x = number_in order x

  abbrev back : ℕ → Name
  back n = name_at GoRight order n

  returns_to : (x : Name) → list_any (is_same x) order ≡ true → back (code x) ≡ x
  returns_to x h = get_or_from_slice_get order (code x) x GoRight (numbered order x h)

  renamed_twice : (rs : List (Rule Name)) → ((r : Rule Name) → IsIn rs r
      → (list_any (is_same r.from) order ≡ true) × (list_any (is_same r.to) order ≡ true))
      → rename back (rename code rs) ≡ rs
  renamed_twice [] h = refl
  renamed_twice (r ∷ rs) h =
      let here = h r (in_head r rs) in
      let from = returns_to r.from here.0 in
      let to = returns_to r.to here.1 in
      let rest = renamed_twice rs (λ s i. h s (in_tail r s rs i)) in
      λ i. record { from = from i; one = r.one; two = r.two; three = r.three; to = to i } ∷ rest i

  ranged : (p : Program) (rs : List (Rule Name)) → ((r : Rule Name) → IsIn rs r
      → IsRuleInRange (length order) (symbols_of p) (renamed code r))
      → All (IsRuleInRange (length order) (symbols_of p)) (rename code rs)
  ranged p [] h = λ k e inside. absurd (omega (arith, inside))
  ranged p (r ∷ rs) h = by_place (ranged p rs (λ s i. h s (in_tail r s rs i)))
    where
      by_place : All (IsRuleInRange (length order) (symbols_of p)) (rename code rs) → (k : ℕ) (e : Rule ℕ)
          → k < length (rename code (r ∷ rs)) → IsRuleInRange (length order) (symbols_of p)
          (get_or (rename code (r ∷ rs)) k e)
      by_place rest zero e inside = h r (in_head r rs)
      by_place rest (suc k) e inside = rest k e (omega (arith, inside))

pub there : ListIsInRange → ListHasLength → TranslationsAreThere
there ranges lengths p standard fits = (
  record { names = order; final_state = final_of p.quints; machine = machine },
  record {
    names = refl;
    rules = renamed_twice order (bennett p) (λ r i. (
      known r.from (from_in (bennett p) r i),
      known r.to (to_in (bennett p) r i),
    ));
    machine = record {
      some = rw count (omega arith);
      few = rw count (omega (arith, fits.quints, fits.symbols));
      tapes = refl;
      in_range = in_range;
    };
    states = refl;
    symbols = refl;
    final_state = refl;
  },
)
  where
    order : List Name
    order = firsts_by is_same (states_in (bennett p))

    machine : Quadruples
    machine = record { rules = rename (code order) (bennett p); states = length order; symbols = symbols_of p }

    known : (x : Name) → IsIn (states_in (bennett p)) x → list_any (is_same x) order ≡ true
    known x h = any-firsts is_same is_same-Decides x (states_in (bennett p)) ∙ in_any x (states_in (bennett p)) h

    below : (x : Name) → IsIn (states_in (bennett p)) x → code order x < length order
    below x h = slice_get_within order (code order x) x (numbered order x (known x h))

    count : length (rename (code order) (bennett p)) ≡ 4 * length p.quints + 2 * p.symbols + 3
    count = length-map (bennett p) (renamed (code order)) ∙ lengths p (some_symbols p standard.machine)

    in_range : All (IsRuleInRange (length order) (symbols_of p)) (rename (code order) (bennett p))
    in_range = ranged order p (bennett p) (λ r i. record {
      from = below r.from (from_in (bennett p) r i);
      deeds = ranges p standard.machine r i;
      to = below r.to (to_in (bennett p) r i);
    })
