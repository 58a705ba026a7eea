-- The two versions: what each admits.
use Rattle.std.specs.Prelude.{◌≡◌, ℕ, ◌<◌, ◌≤◌, List, replicate, Option, Some, None, refl}
use Rattle.std.proofs.Common.{arith, sym, ap, subst, ◌∙◌}
use Rattle.bn_circuits.specs.Circuits.{target, source, IsCircuit, IsConfig, IsPlace, IsInputOf, IsOutputOf}
use Rattle.bn_circuits.specs.declared.config.Config.{Config}
use Rattle.bn_circuits.specs.declared.line.Line.{Line}
use Rattle.bn_circuits.specs.declared.place.Place.{Place}
use Rattle.bn_circuits.specs.declared.place.Place.TheVariants.{Enter, Left}
use Rattle.bn_element.specs.Rotary.{rotary}
use Rattle.bn_netlist_laws.specs.Columns.{rotary_elements}
use Rattle.bn_netlist_laws.specs.Spelling.{Spelling, circuit_of, AreSame}
use Rattle.bn_netlist_laws.specs.Spelling.{Admits, most_elements, Spelled, SpelledAlike, AdmissionRises, SpellingsMove}
use Rattle.bn_netlist_laws.specs.declared.version.Version.{Version}
use Rattle.bn_netlist_laws.proofs.EntryLemmas.{has-text, same-have-one-text}
use Rattle.bn_netlist_laws.proofs.AdmittedLemmas.{most_small}

pub admission-rises : AdmissionRises
admission-rises v s a =
    let small = most_small v in
    let few : s.elements ≤ most_elements v = a.few in
    record {
      some = a.some;
      few = omega arith;
      circuit = a.circuit;
      config = a.config;
      start = a.start;
      end = a.end;
      unfed = a.unfed;
      unwired = a.unwired;
    }

pub spellings-move : SpellingsMove
spellings-move v s c a config =
    record {
      some = a.some;
      few = a.few;
      circuit = a.circuit;
      config = config;
      start = a.start;
      end = a.end;
      unfed = a.unfed;
      unwired = a.unwired;
    }

-- ---- another order of the wires

config_of : (s t : Spelling) → AreSame s t → IsConfig (circuit_of s) s.config → IsConfig (circuit_of t) t.config
config_of s t same is =
    let elements : s.elements ≡ t.elements = same.elements in
    let at_t : IsConfig (rotary_elements t.elements s.wires) t.config =
    subst (λ (n : ℕ). IsConfig (rotary_elements n s.wires) t.config) elements
    (subst (λ (c : Config). IsConfig (circuit_of s) c) same.config is) in
    record {
      count = at_t.count;
      range = at_t.range;
      place = place_of t.config.place at_t.place;
      in_time = at_t.in_time;
    }
  where
    place_of : (p : Place) → IsPlace (rotary_elements t.elements s.wires) p → IsPlace (circuit_of t) p
    place_of (Enter e i) place = place
    place_of (Left e o) place = (place.0, sym (same.targets (record { element = e; line = o })) ∙ place.1)

circuit_alike : (s t : Spelling) → AreSame s t → IsCircuit (circuit_of s) → IsCircuit (circuit_of t)
circuit_alike s t same is =
    let at_t : IsCircuit (rotary_elements t.elements s.wires) =
    subst (λ (n : ℕ). IsCircuit (rotary_elements n s.wires)) same.elements is in
    record {
      reversible = at_t.reversible;
      one_to_one = λ from to. (
        λ leads. sym (same.sources to) ∙ (at_t.one_to_one from to).0 (same.targets from ∙ leads),
        λ comes. sym (same.targets from) ∙ (at_t.one_to_one from to).1 (same.sources to ∙ comes),
      );
      wired = λ from to leads. at_t.wired from to (same.targets from ∙ leads);
    }

pub admits_alike : (v : Version) (s t : Spelling) → AreSame s t → Admits v s → Admits v t
admits_alike v s t same a =
    let elements : s.elements ≡ t.elements = same.elements in
    let some : 0 < s.elements = a.some in
    let few : s.elements ≤ most_elements v = a.few in
    record {
      some = omega arith;
      few = omega arith;
      circuit = circuit_alike s t same a.circuit;
      config = config_of s t same a.config;
      start = subst (λ (n : ℕ). IsInputOf (replicate n rotary) t.start) elements
          (subst (λ (l : Line). IsInputOf (replicate s.elements rotary) l) same.start a.start);
      end = subst (λ (n : ℕ). IsOutputOf (replicate n rotary) t.end) elements
          (subst (λ (l : Line). IsOutputOf (replicate s.elements rotary) l) same.end a.end);
      unfed = ap (λ (l : Line). source t.wires l) (sym same.start) ∙ sym (same.sources s.start) ∙ a.unfed;
      unwired = ap (λ (l : Line). target t.wires l) (sym same.end) ∙ sym (same.targets s.end) ∙ a.unwired;
    }

pub spelled-alike : SpelledAlike
spelled-alike v s t text same is =
    let has = has-text v t (admits_alike v s t same is.admitted) in
    let one : text ≡ has.0 = same-have-one-text v s t text has.0 same is has.1 in
    subst (Spelled v t) (sym one) has.1

-- ---- one text, by where the wires lead

same_option : (o p : Option Line) → ((l : Line) → o ≡ Some l → p ≡ Some l) → ((l : Line) → p ≡ Some l → o ≡ Some l)
    → o ≡ p
same_option None None f g = refl
same_option (Some x) p f g = sym (f x refl)
same_option None (Some y) f g = g y refl

-- where the same wires lead, the same wires come from
same_sources : (s t : Spelling) → IsCircuit (circuit_of s) → IsCircuit (circuit_of t)
    → ((from : Line) → target s.wires from ≡ target t.wires from)
    → (to : Line) → source s.wires to ≡ source t.wires to
same_sources s t one two targets to =
    same_option (source s.wires to) (source t.wires to)
    (λ from comes. (two.one_to_one from to).0 (sym (targets from) ∙ (one.one_to_one from to).1 comes))
    (λ from comes. (one.one_to_one from to).0 (targets from ∙ (two.one_to_one from to).1 comes))

-- two spellings of one configuration are the same where their wires lead alike
pub same_by_targets : (v : Version) (s t : Spelling) → s.elements ≡ t.elements
    → ((from : Line) → target s.wires from ≡ target t.wires from) → s.config ≡ t.config
    → s.start ≡ t.start → s.end ≡ t.end → Admits v s → Admits v t → AreSame s t
same_by_targets v s t elements targets config start end one two =
    record {
      elements = elements;
      targets = targets;
      sources = same_sources s t one.circuit two.circuit targets;
      config = config;
      start = start;
      end = end;
    }

-- and then they have one text
pub same_text : (v : Version) (s t : Spelling) (text second : List ℕ) → s.elements ≡ t.elements
    → ((from : Line) → target s.wires from ≡ target t.wires from)
    → s.config ≡ t.config → s.start ≡ t.start → s.end ≡ t.end → Spelled v s text → Spelled v t second → text ≡ second
same_text v s t text second elements targets config start end one two =
    same-have-one-text v s t text second (same_by_targets v s t elements targets config start end one.admitted
    two.admitted) one two
