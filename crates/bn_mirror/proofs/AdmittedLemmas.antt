-- Mirrors may be spelled: they exist, they are circuits with a configuration, there is one, and the mirror of a mirror
-- is the first.
use Rattle.std.specs.Prelude.{◌≡◌, ℕ, ◌<◌, ◌==◌, ◌&&◌, ◌↔◌, if◌then◌else◌, Bool, true, false, List, [], ◌∷◌, Option}
use Rattle.std.specs.Prelude.{Some, None, replicate, refl}
use Rattle.std.proofs.Common.{arith, sym, ap, subst, ◌∙◌, inl, inr}
use Rattle.std.proofs.lemmas.Bool.Decides.{eqb_tells}
use Rattle.bn_element.specs.Tables.{Table}
use Rattle.bn_element.specs.Rotary.{rotary}
use Rattle.bn_element.specs.Inverse.{exchanged}
use Rattle.bn_circuits.specs.Circuits.{Circuit, target, source, line_at, same_line, IsOneToOne, IsPlace, IsInputOf}
use Rattle.bn_circuits.specs.Circuits.{IsOutputOf, inputs_of, outputs_of}
use Rattle.bn_circuits.specs.Situations.{counted, situation_of}
use Rattle.bn_circuits.proofs.AlikeLemmas.{options_one, sources_one}
use Rattle.bn_circuits.proofs.StepLemmas.{same_config}
use Rattle.bn_circuits.specs.declared.line.Line.{Line}
use Rattle.bn_circuits.specs.declared.line.Wire.{Wire}
use Rattle.bn_circuits.specs.declared.place.Place.{Place}
use Rattle.bn_circuits.specs.declared.place.Place.TheVariants.{Enter, Left}
use Rattle.bn_circuits.specs.declared.config.Config.{Config}
use Rattle.bn_netlist_laws.specs.Spelling.{Spelling, Admits, circuit_of}
use Rattle.bn_netlist_laws.specs.declared.version.Version.{Version}
use Rattle.bn_mirror.specs.Mirror.{mirrored_line, fed_place, mirrored_place, AreMirrored, IsMirror}
use Rattle.bn_mirror.specs.Laws.{MirrorsAreAdmitted, MirrorsAreOne, MirrorsAreThere, MirrorsTurnBack}
use Rattle.bn_mirror.proofs.RotaryLemmas.{all_rotary, exchanged_twice, line_twice, lines_are, turned_input}
use Rattle.bn_mirror.proofs.StepLemmas.{mirrored_config, unturned, unfed, unled}

-- ---- the list of wires turned round one by one

-- two lines are one exactly where their mirrored lines are
exchanged_tells : (a b : ℕ) → (exchanged a == exchanged b) ≡ (a == b)
exchanged_tells a b =
    elim (eqb_tells a b) [
      | inl same ↦
          (elim (eqb_tells (exchanged a) (exchanged b)) [
            | inl both ↦ both.0 ∙ sym same.0
            | inr other ↦ absurd (other.1 (ap exchanged same.1))
          ])
      | inr apart ↦
          (elim (eqb_tells (exchanged a) (exchanged b)) [
            | inl both ↦ absurd (apart.1 (sym (exchanged_twice a) ∙ ap exchanged both.1 ∙ exchanged_twice b))
            | inr other ↦ other.0 ∙ sym apart.0
          ])
    ]

same_turned : (a b : Line) → same_line (mirrored_line a) (mirrored_line b) ≡ same_line a b
same_turned a b = ap (λ x. a.element == b.element && x) (exchanged_tells a.line b.line)

-- the wires turned round one by one
abbrev mirrored_wires : List Wire → List Wire
mirrored_wires [] = []
mirrored_wires (w ∷ ws) = record { from = mirrored_line w.to; to = mirrored_line w.from } ∷ mirrored_wires ws

-- a line mirrored, where there is one
abbrev turned_option : Option Line → Option Line
turned_option None = None
turned_option (Some l) = Some (mirrored_line l)

turned_if : (b : Bool) (x : Line) (s t : Option Line) → t ≡ turned_option s
    → (if b then Some (mirrored_line x) else t) ≡ turned_option (if b then Some x else s)
turned_if true x s t h = refl
turned_if false x s t h = h

turned_some : (s : Option Line) (l : Line) → turned_option s ≡ Some (mirrored_line l) → s ≡ Some l
turned_some None l h = absurd (cc)
turned_some (Some x) l h =
    let e : mirrored_line x ≡ mirrored_line l = cc in
    ap Some (sym (line_twice x) ∙ ap mirrored_line e ∙ line_twice l)

target_turned : (ws : List Wire) (to : Line) → target (mirrored_wires ws) (mirrored_line to)
    ≡ turned_option (source ws to)
target_turned [] to = refl
target_turned (w ∷ ws) to =
    ap (λ b. if b then Some (mirrored_line w.from) else target (mirrored_wires ws) (mirrored_line to))
    (same_turned w.to to) ∙
    turned_if (same_line w.to to) w.from (source ws to) (target (mirrored_wires ws) (mirrored_line to))
    (target_turned ws to)

source_turned : (ws : List Wire) (from : Line) → source (mirrored_wires ws) (mirrored_line from)
    ≡ turned_option (target ws from)
source_turned [] from = refl
source_turned (w ∷ ws) from =
    ap (λ b. if b then Some (mirrored_line w.to) else source (mirrored_wires ws) (mirrored_line from))
    (same_turned w.from from) ∙
    turned_if (same_line w.from from) w.to (target ws from) (source (mirrored_wires ws) (mirrored_line from))
    (source_turned ws from)

wires_turned : (ws : List Wire) → IsOneToOne ws → AreMirrored ws (mirrored_wires ws)
wires_turned ws one from to = (
  λ h. target_turned ws to ∙ ap turned_option ((one from to).0 h),
  λ h. (one from to).1 (turned_some (source ws to) from (sym (target_turned ws to) ∙ h)),
)

one_turned : (ws : List Wire) → IsOneToOne ws → (f t : Line)
    → (target (mirrored_wires ws) (mirrored_line f) ≡ Some (mirrored_line t))
    ↔ (source (mirrored_wires ws) (mirrored_line t) ≡ Some (mirrored_line f))
one_turned ws one f t = (
  λ h. source_turned ws t ∙ ap turned_option ((one t f).1 (turned_some (source ws f) t (sym (target_turned ws f) ∙ h))),
  λ h. target_turned ws f ∙ ap turned_option ((one t f).0 (turned_some (target ws t) f (sym (source_turned ws t) ∙ h))),
)

turned_one_to_one : (ws : List Wire) → IsOneToOne ws → IsOneToOne (mirrored_wires ws)
turned_one_to_one ws one from to =
    let at_from : (target (mirrored_wires ws) from ≡ Some (mirrored_line (mirrored_line to)))
    ↔ (source (mirrored_wires ws) (mirrored_line (mirrored_line to)) ≡ Some from) =
    subst (λ f. (target (mirrored_wires ws) f ≡ Some (mirrored_line (mirrored_line to)))
    ↔ (source (mirrored_wires ws) (mirrored_line (mirrored_line to)) ≡ Some f)) (line_twice from)
    (one_turned ws one (mirrored_line from) (mirrored_line to)) in
    subst (λ t. (target (mirrored_wires ws) from ≡ Some t) ↔ (source (mirrored_wires ws) t ≡ Some from)) (line_twice to)
    at_from

abbrev mirror_of : Spelling → Spelling
mirror_of s =
    record {
      elements = s.elements;
      wires = mirrored_wires s.wires;
      config = mirrored_config s.wires 0 s.config;
      start = mirrored_line s.end;
      end = mirrored_line s.start;
    }

pub mirrors-there : MirrorsAreThere
mirrors-there v s admitted =
    let one = admitted.circuit.one_to_one in (
      mirror_of s,
      record {
        elements = refl;
        wires = wires_turned s.wires one;
        one_to_one = turned_one_to_one s.wires one;
        start = refl;
        end = refl;
        bars = refl;
        place = refl;
        steps = refl;
      },
    )

-- the configuration of a mirror
pub config_of : (s m : Spelling) → IsMirror s m → m.config ≡ mirrored_config s.wires 0 s.config
config_of s m is = same_config m.config (mirrored_config s.wires 0 s.config) is.bars is.place is.steps

-- ---- what the mirror of an admitted configuration is

module _ (v : Version) (s : Spelling) (admitted : Admits v s) (vs : List Wire) (wires : AreMirrored s.wires vs) where
  abbrev tables : List Table
  tables = replicate s.elements rotary

  abbrev turned_circuit : Circuit
  turned_circuit = record { tables = tables; wires = vs }

  output_turned : (l : Line) → IsOutputOf tables l → IsInputOf tables (mirrored_line l)
  output_turned l h =
      let is : inputs_of tables l.element ≡ outputs_of tables l.element =
      lines_are tables (all_rotary s.elements) l.element in
      turned_input tables (all_rotary s.elements) l.element l.line (subst (λ n. l.line < n) (sym is) h)

  input_turned : (l : Line) → IsInputOf tables l → IsOutputOf tables (mirrored_line l)
  input_turned l h =
      let is : inputs_of tables l.element ≡ outputs_of tables l.element =
      lines_are tables (all_rotary s.elements) l.element in
      subst (λ n. exchanged l.line < n) is (turned_input tables (all_rotary s.elements) l.element l.line h)

  wired_turned : (from to : Line) → target vs from ≡ Some to → IsOutputOf tables from × IsInputOf tables to
  wired_turned from to h =
      let ends = admitted.circuit.wired (mirrored_line to) (mirrored_line from)
      (unturned s.wires vs wires from to h) in (
        subst (IsOutputOf tables) (line_twice from) (input_turned (mirrored_line from) ends.1),
        subst (IsInputOf tables) (line_twice to) (output_turned (mirrored_line to) ends.0),
      )

  fed_IsPlace : (to : Line) (o : Option Line) → source s.wires to ≡ o → IsInputOf tables to
      → IsPlace turned_circuit (fed_place o to)
  fed_IsPlace to None is input = (
    input_turned to input,
    unfed s.wires vs wires admitted.circuit.one_to_one to is (target vs (mirrored_line to)) refl,
  )
  fed_IsPlace to (Some from) is input = output_turned from (admitted.circuit.wired from to
      ((admitted.circuit.one_to_one from to).1 is)).0

  mirrored_IsPlace : (p : Place) → IsPlace (circuit_of s) p → IsPlace turned_circuit (mirrored_place s.wires p)
  mirrored_IsPlace (Left e o) h = output_turned (line_at e o) h.0
  mirrored_IsPlace (Enter e i) h = fed_IsPlace (line_at e i) (source s.wires (line_at e i)) refl h

  module _ (one : IsOneToOne vs) where
    abbrev turned_spelling : Spelling
    turned_spelling = record {
      elements = s.elements;
      wires = vs;
      config = mirrored_config s.wires 0 s.config;
      start = mirrored_line s.end;
      end = mirrored_line s.start;
    }

    mirrored_Admits : Admits v turned_spelling
    mirrored_Admits =
        record {
          some = admitted.some;
          few = admitted.few;
          circuit = record { reversible = admitted.circuit.reversible; one_to_one = one; wired = wired_turned };
          config = record {
            count = admitted.config.count;
            range = admitted.config.range;
            place = mirrored_IsPlace s.config.place admitted.config.place;
            in_time = omega arith;
          };
          start = output_turned s.end admitted.end;
          end = input_turned s.start admitted.start;
          unfed = unled s.wires vs wires one s.end admitted.unwired (source vs (mirrored_line s.end)) refl;
          unwired = unfed s.wires vs wires admitted.circuit.one_to_one s.start admitted.unfed
              (target vs (mirrored_line s.start)) refl;
        }

    fed_twice : (to : Line) (o : Option Line) → source s.wires to ≡ o
        → mirrored_place vs (fed_place o to) ≡ Enter to.element to.line
    fed_twice to None is = ap (Enter to.element) (exchanged_twice to.line)
    fed_twice to (Some from) is =
        let wired : target vs (mirrored_line to) ≡ Some (mirrored_line from) =
        (wires from to).0 ((admitted.circuit.one_to_one from to).1 is) in
        let fed : source vs (mirrored_line from) ≡ Some (mirrored_line to) =
        (one (mirrored_line to) (mirrored_line from)).0 wired in
        ap (λ o. fed_place o (mirrored_line from)) fed ∙ ap (Enter to.element) (exchanged_twice to.line)

    -- the place of the mirror's mirror is the place
    mirrored_twice : (p : Place) → IsPlace (circuit_of s) p → mirrored_place vs (mirrored_place s.wires p) ≡ p
    mirrored_twice (Left e o) h =
        let none : source vs (mirrored_line (line_at e o)) ≡ None =
        unled s.wires vs wires one (line_at e o) h.1 (source vs (mirrored_line (line_at e o))) refl in
        ap (λ fed. fed_place fed (mirrored_line (line_at e o))) none ∙ ap (Left e) (exchanged_twice o)
    mirrored_twice (Enter e i) h = fed_twice (line_at e i) (source s.wires (line_at e i)) refl

    config_twice : mirrored_config vs 0 (mirrored_config s.wires 0 s.config) ≡ counted (situation_of s.config) 0
    config_twice = same_config (mirrored_config vs 0 (mirrored_config s.wires 0 s.config))
        (counted (situation_of s.config) 0) refl (mirrored_twice s.config.place admitted.config.place) refl

-- a spelling by its parts
abbrev spelling_by : ℕ → List Wire → Config → Line → Line → Spelling
spelling_by n ws c a b = record { elements = n; wires = ws; config = c; start = a; end = b }

same_parts : (m n : ℕ) (ws : List Wire) (c d : Config) (a x b y : Line) → m ≡ n → c ≡ d → a ≡ x → b ≡ y
    → spelling_by m ws c a b ≡ spelling_by n ws d x y
same_parts m n ws c d a x b y elements config start end =
    ap (λ z. spelling_by z ws c a b) elements ∙ ap (λ z. spelling_by n ws z a b) config
    ∙ ap (λ z. spelling_by n ws d z b) start ∙ ap (λ z. spelling_by n ws d x z) end

pub mirrors-admitted : MirrorsAreAdmitted
mirrors-admitted v s m admitted is =
    let same : spelling_by s.elements m.wires (mirrored_config s.wires 0 s.config) (mirrored_line s.end)
    (mirrored_line s.start) ≡ m =
    same_parts s.elements m.elements m.wires (mirrored_config s.wires 0 s.config) m.config (mirrored_line s.end) m.start
    (mirrored_line s.start) m.end (sym is.elements) (sym (config_of s m is)) (sym is.start) (sym is.end) in
    subst (Admits v) same (mirrored_Admits v s admitted m.wires is.wires is.one_to_one)

-- ---- there is one

-- by the targets of one, the targets of the other
targets_from : (ws vs us : List Wire) → AreMirrored ws vs → AreMirrored ws us → (from to : Line)
    → target vs from ≡ Some to → target us from ≡ Some to
targets_from ws vs us one other from to h =
    let back = unturned ws vs one from to h in
    let there : target us (mirrored_line (mirrored_line from)) ≡ Some (mirrored_line (mirrored_line to)) =
    (other (mirrored_line to) (mirrored_line from)).0 back in
    let at_from : target us from ≡ Some (mirrored_line (mirrored_line to)) =
    subst (λ x. target us x ≡ Some (mirrored_line (mirrored_line to))) (line_twice from) there in
    subst (λ x. target us from ≡ Some x) (line_twice to) at_from

targets_one : (ws vs us : List Wire) → AreMirrored ws vs → AreMirrored ws us → (from : Line)
    → target vs from ≡ target us from
targets_one ws vs us one other from =
    options_one (target vs from) (target us from) (λ to h. targets_from ws vs us one other from to h)
    (λ to h. targets_from ws us vs other one from to h)

-- the mirror of the same wires in another order
mirrored_alike : (ws us vs : List Wire) → ((from : Line) → target us from ≡ target ws from) → AreMirrored us vs
    → AreMirrored ws vs
mirrored_alike ws us vs same is from to = (λ h. (is from to).0 (same from ∙ h), λ h. sym (same from) ∙ (is from to).1 h)

pub mirrors-one : MirrorsAreOne
mirrors-one s t m n same is also =
    let targets = targets_one s.wires m.wires n.wires is.wires
    (mirrored_alike s.wires t.wires n.wires (λ from. sym (same.targets from)) also.wires) in
    record {
      elements = is.elements ∙ same.elements ∙ sym also.elements;
      targets = targets;
      sources = sources_one m.wires n.wires is.one_to_one also.one_to_one targets;
      config = config_of s m is ∙ mirrored_same ∙ ap (mirrored_config t.wires 0) same.config ∙ sym (config_of t n also);
      start = is.start ∙ ap mirrored_line same.end ∙ sym also.start;
      end = is.end ∙ ap mirrored_line same.start ∙ sym also.end;
    }
  where
    place_same : (p : Place) → mirrored_place s.wires p ≡ mirrored_place t.wires p
    place_same (Left e o) = refl
    place_same (Enter e i) = ap (λ o. fed_place o (line_at e i)) (same.sources (line_at e i))

    mirrored_same : mirrored_config s.wires 0 s.config ≡ mirrored_config t.wires 0 s.config
    mirrored_same = same_config (mirrored_config s.wires 0 s.config) (mirrored_config t.wires 0 s.config) refl
        (place_same s.config.place) refl

-- ---- twice

twice_targets : (s m n : Spelling) → IsMirror s m → IsMirror m n → (from to : Line)
    → (target n.wires from ≡ Some to) ↔ (target s.wires from ≡ Some to)
twice_targets s m n is again from to =
    let there : (target m.wires (mirrored_line to) ≡ Some (mirrored_line from))
    ↔ (target n.wires (mirrored_line (mirrored_line from)) ≡ Some (mirrored_line (mirrored_line to))) = again.wires
    (mirrored_line to) (mirrored_line from) in
    let by_from : (target m.wires (mirrored_line to) ≡ Some (mirrored_line from))
    ↔ (target n.wires from ≡ Some (mirrored_line (mirrored_line to))) =
    subst (λ x. (target m.wires (mirrored_line to) ≡ Some (mirrored_line from))
    ↔ (target n.wires x ≡ Some (mirrored_line (mirrored_line to)))) (line_twice from) there in
    let by_to : (target m.wires (mirrored_line to) ≡ Some (mirrored_line from)) ↔ (target n.wires from ≡ Some to) =
    subst (λ x. (target m.wires (mirrored_line to) ≡ Some (mirrored_line from)) ↔ (target n.wires from ≡ Some x))
    (line_twice to) by_from in
    (λ h. (is.wires from to).1 (by_to.1 h), λ h. by_to.0 ((is.wires from to).0 h))

pub mirrors-turn_back : MirrorsTurnBack
mirrors-turn_back v s m n admitted is again =
    let targets : (from : Line) → target n.wires from ≡ target s.wires from =
    λ from. options_one (target n.wires from) (target s.wires from)
    (λ to h. (twice_targets s m n is again from to).0 h) (λ to h. (twice_targets s m n is again from to).1 h) in
    record {
      elements = again.elements ∙ is.elements;
      targets = targets;
      sources = sources_one n.wires s.wires again.one_to_one admitted.circuit.one_to_one targets;
      config = config_of m n again ∙ ap (mirrored_config m.wires 0) (config_of s m is)
          ∙ config_twice v s admitted m.wires is.wires is.one_to_one;
      start = again.start ∙ ap mirrored_line is.end ∙ line_twice s.start;
      end = again.end ∙ ap mirrored_line is.start ∙ line_twice s.end;
    }
