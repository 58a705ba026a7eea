-- Wires turned round, and the steps of a mirror: the steps back of the first.
use Rattle.std.specs.Prelude.{◌≡◌, ℕ, ◌+◌, ◌<◌, ◌≤◌, List, Option, Some, None, slice_get, slice_set, length, refl}
use Rattle.std.proofs.Common.{zero, suc, arith, sym, ap, subst, ◌∙◌}
use Rattle.std.proofs.lemmas.Option.{slice_get_within}
use Rattle.bn_lists.specs.Runs.{Reaches}
use Rattle.bn_lists.proofs.RunsLemmas.{runs_more}
use Rattle.bn_element.specs.Tables.{Table}
use Rattle.bn_element.specs.Inverse.{exchanged}
use Rattle.bn_circuits.specs.Circuits.{Circuit, clock, target, source, line_at, IsOneToOne, go_of, place_at}
use Rattle.bn_circuits.specs.Circuits.{place_after, Goes}
use Rattle.bn_circuits.proofs.StepLemmas.{set-set_back, slice_get-set_same}
use Rattle.bn_circuits.specs.declared.line.Line.{Line}
use Rattle.bn_circuits.specs.declared.line.Wire.{Wire}
use Rattle.bn_circuits.specs.declared.place.Place.TheVariants.{Enter}
use Rattle.bn_circuits.specs.declared.config.Config.{Config}
use Rattle.bn_mirror.specs.Mirror.{mirrored_line, fed_place, mirrored_place, AreMirrored}
use Rattle.bn_mirror.proofs.RotaryLemmas.{AreAllRotary, line_twice, go_of_turned}

-- the configuration with its bars kept, its place mirrored, and so many steps counted
abbrev pub mirrored_config : List Wire → ℕ → Config → Config
mirrored_config ws steps c = record { states = c.states; place = mirrored_place ws c.place; steps = steps }

-- wires turned round, read by the lines of the other list
module _ (ws vs : List Wire) (wires : AreMirrored ws vs) where
  -- a wire of the turned list comes from a wire of the first
  pub unturned : (from to : Line) → target vs from ≡ Some to → target ws (mirrored_line to) ≡ Some (mirrored_line from)
  unturned from to h =
      let by_from : target vs (mirrored_line (mirrored_line from)) ≡ Some to =
      subst (λ x. target vs x ≡ Some to) (sym (line_twice from)) h in
      let by_to : target vs (mirrored_line (mirrored_line from)) ≡ Some (mirrored_line (mirrored_line to)) =
      subst (λ x. target vs (mirrored_line (mirrored_line from)) ≡ Some x) (sym (line_twice to)) by_from in
      (wires (mirrored_line to) (mirrored_line from)).1 by_to

  -- where no wire of the first leads to a line, none of the turned list leads on from it, mirrored
  pub unfed : IsOneToOne ws → (to : Line) → source ws to ≡ None → (t : Option Line) → target vs (mirrored_line to) ≡ t
      → t ≡ None
  unfed one to none None is = refl
  unfed one to none (Some x) is =
      let back : target ws (mirrored_line x) ≡ Some (mirrored_line (mirrored_line to)) =
      unturned (mirrored_line to) x is in
      let at_to : target ws (mirrored_line x) ≡ Some to = subst (λ y. target ws (mirrored_line x) ≡ Some y)
      (line_twice to) back in
      let fed : source ws to ≡ Some (mirrored_line x) = (one (mirrored_line x) to).0 at_to in
      absurd (cc)

  -- where the first has no wire from a line, none of the turned list comes to it, mirrored
  pub unled : IsOneToOne vs → (from : Line) → target ws from ≡ None → (s : Option Line)
      → source vs (mirrored_line from) ≡ s → s ≡ None
  unled one from none None is = refl
  unled one from none (Some x) is =
      let there : target vs x ≡ Some (mirrored_line from) = (one x (mirrored_line from)).1 is in
      let back : target ws (mirrored_line (mirrored_line from)) ≡ Some (mirrored_line x) =
      unturned x (mirrored_line from) there in
      let at_from : target ws from ≡ Some (mirrored_line x) = subst (λ y. target ws y ≡ Some (mirrored_line x))
      (line_twice from) back in
      absurd (cc)

  after_by : IsOneToOne ws → (to : Line) (s : Option Line) → source ws to ≡ s
      → place_after vs (mirrored_line to) ≡ fed_place s to
  after_by one to None is = rw (unfed one to is (target vs (mirrored_line to)) refl) refl
  after_by one to (Some from) is = rw ((wires from to).0 ((one from to).1 is)) refl

  -- in the mirror, the signal that comes out where it came in is at the mirror of the place where it came in
  pub place_after_turned : IsOneToOne ws → (to : Line) → place_after vs (mirrored_line to)
      ≡ mirrored_place ws (Enter to.element to.line)
  place_after_turned one to = after_by one to (source ws to) refl

  mirrored_at : IsOneToOne ws → (from : Line) (t : Option Line) → target ws from ≡ t
      → mirrored_place ws (place_at t from) ≡ Enter from.element (exchanged from.line)
  mirrored_at one from None is = refl
  mirrored_at one from (Some to) is = rw ((one from to).0 is) refl

  -- the mirror of the place after an output line enters that line, mirrored
  pub mirrored_after : IsOneToOne ws → (from : Line) → mirrored_place ws (place_after ws from)
      ≡ Enter from.element (exchanged from.line)
  mirrored_after one from = mirrored_at one from (target ws from) refl

-- the step of the mirror
module _ (k j : Circuit) (tables : j.tables ≡ k.tables) (rotaries : AreAllRotary k.tables)
    (wires : AreMirrored k.wires j.wires) (one : IsOneToOne k.wires) where
  turned_Goes : (c d : Config) (n : ℕ) → Goes k c d → n + 1 ≤ clock
      → Goes j (mirrored_config k.wires n d) (mirrored_config k.wires (n + 1) c)
  turned_Goes c d n g within =
      let inside : g.crosses.element < length c.states = slice_get_within c.states g.crosses.element g.crosses.before
      g.crosses.has_state in
      let at_k : go_of k.tables g.crosses.element g.crosses.after (exchanged g.crosses.output)
      ≡ Some (g.crosses.before, exchanged g.crosses.input) = go_of_turned k.tables rotaries g.crosses.element
      g.crosses.before g.crosses.input g.crosses.after g.crosses.output g.crosses.moves in
      record {
        crosses = record {
          element = g.crosses.element;
          input = exchanged g.crosses.output;
          output = exchanged g.crosses.input;
          before = g.crosses.after;
          after = g.crosses.before;
          enters = ap (mirrored_place k.wires) g.crosses.place ∙ mirrored_after k.wires j.wires wires one
              (line_at g.crosses.element g.crosses.output);
          has_state = ap (λ xs. slice_get xs g.crosses.element) g.crosses.states
              ∙ slice_get-set_same c.states g.crosses.element g.crosses.after inside;
          moves = subst (λ (ts : List Table). go_of ts g.crosses.element g.crosses.after (exchanged g.crosses.output)
              ≡ Some (g.crosses.before, exchanged g.crosses.input)) (sym tables) at_k;
          states = sym (ap (λ xs. slice_set xs g.crosses.element g.crosses.before) g.crosses.states
              ∙ set-set_back c.states g.crosses.element g.crosses.after g.crosses.before g.crosses.has_state);
          place = ap (mirrored_place k.wires) g.crosses.enters ∙ sym
              (place_after_turned k.wires j.wires wires one (line_at g.crosses.element g.crosses.input));
        };
        steps = refl;
        in_time = within;
      }

  -- a run, taken back by the mirror
  pub turned_Reaches : (t : ℕ) (c d : Config) → Reaches (Goes k) t c d → t ≤ clock
      → Reaches (Goes j) t (mirrored_config k.wires 0 d) (mirrored_config k.wires t c)
  turned_Reaches zero c d made within = ap (mirrored_config k.wires 0) (sym made)
  turned_Reaches (suc t) c d made within =
      let sum : t + 1 ≡ suc t = omega arith in
      let rest : Reaches (Goes j) t (mirrored_config k.wires 0 d) (mirrored_config k.wires t made.0) =
      turned_Reaches t made.0 d made.2 (omega arith) in
      let last : Goes j (mirrored_config k.wires t made.0) (mirrored_config k.wires (t + 1) c) =
      turned_Goes c made.0 t made.1 (omega arith) in
      let all : Reaches (Goes j) (t + 1) (mirrored_config k.wires 0 d) (mirrored_config k.wires (t + 1) c) =
      runs_more (Goes j) t (mirrored_config k.wires 0 d) (mirrored_config k.wires t made.0)
      (mirrored_config k.wires (t + 1) c) rest last in
      subst (λ n. Reaches (Goes j) n (mirrored_config k.wires 0 d) (mirrored_config k.wires n c)) sum all
