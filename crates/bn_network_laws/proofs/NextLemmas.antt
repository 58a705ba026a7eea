-- From a moment to the next one.
use Rattle.std.specs.Prelude.{◌≡◌, ℕ, ◌*◌, ◌<◌, ◌≤◌, ◌==◌, Bool, true, List, [], length, Some, refl}
use Rattle.std.proofs.Common.{arith, sym, ap, subst, ◌∙◌, inl, inr}
use Rattle.std.proofs.lemmas.Nat.{mul-le}
use Rattle.std.proofs.lemmas.Bool.{cases_Bool, eqb-false, eqb-true}
use Rattle.bn_circuits.specs.Circuits.{Circuit, place_after}
use Rattle.bn_rsm.specs.Laws.{CostsAreBounded}
use Rattle.bn_lists.specs.Lists.{nth}
use Rattle.bn_machine.specs.Tape.{Tape}
use Rattle.bn_machine.specs.Window.{IsBetween}
use Rattle.bn_machine.specs.Outcome.{Limits}
use Rattle.bn_quad.specs.Quadruples.{Deed, Rewrite, Move, Rule, Configuration, Quadruples, IsQuadMachine, IsDeedInRange}
use Rattle.bn_quad.specs.Quadruples.{final_state_of, GoesBy, after, done}
use Rattle.bn_quad.specs.Calls.{IsUniformMachine}
use Rattle.bn_bennett_laws.specs.Stages.{rooms_of}
use Rattle.bn_circuits.specs.Situations.{Situation}
use Rattle.bn_network.specs.Controls.{ControlState, ControlMove, End, Outside, finishes, IsNumbering, symbol_count}
use Rattle.bn_network.specs.Controls.{out_number, to_reads, reads_of}
use Rattle.bn_network.specs.ControlLaws.{HasEntries, StatesHaveEntries}
use Rattle.bn_network.specs.Networks.{IsNetwork, ShowsTape, ShowsTapes, first_cell, elements_by, left_of}
use Rattle.bn_circuits.specs.Circuits.{line_at}
use Rattle.bn_network.specs.Moments.{at_end, sent, IsMomentOf, TellsMoments, Travels, quad_moves}
use Rattle.bn_network_laws.specs.NetworkLaws.{NextMoment}
use Rattle.bn_network_laws.specs.Commands.{Commands, right_of}
use Rattle.bn_network_laws.proofs.PlaceLemmas.{outside_place}
use Rattle.bn_network_laws.proofs.ChainLemmas.{lead, Stands, chain}
use Rattle.bn_network_laws.proofs.StopLemmas.{stops_of, stops_are, lead_reads}
use Rattle.bn_network_laws.specs.Ends.{read_by, shift_by}
use Rattle.bn_network_laws.proofs.ObeyLemmas.{Fits, MayWrite, Applies, obey_all, after_writes, all_parts, blanked}
use Rattle.bn_network_laws.proofs.RangeLemmas.{rule_range, deeds_range, opening, some_moves, six_stops}

-- at a moment of a configuration the test says yes
pub told : (m : Quadruples) (l : Limits) (names : List ControlState) (k : Circuit) (test : Situation → Bool)
    → IsNetwork m l names k → HasEntries m
    → TellsMoments m names k test → (s : Situation) (c : Configuration ℕ) → IsMomentOf m l names k s c → test s ≡ true
told m l names k test net entries tells s c now = elim (cases_Bool (c.state == final_state_of m.rules)) [
  | inl same ↦
      let final = eqb-true c.state (final_state_of m.rules) same in
      let first : now.first ≡ (End, Outside) = entries.one c.state now.first (End, Outside) now.entry
      (finishes final refl) in
      let number : out_number m now.first.1 ≡ 0 = ap (λ (v : ControlMove). out_number m v.1) first in
      tells.some s c.state (at_end final (now.place ∙ ap (λ o. place_after k.wires (line_at 0 o)) number
      ∙ outside_place m l names k net))
  | inr other ↦ tells.some s c.state (sent (eqb-false c.state (final_state_of m.rules) other) now.first now.entry
      now.waits now.place)
]

-- a head that may be where the deed takes it is shifted within the window
pub fits_of : (l : Limits) (t : ℕ) (d : Deed) (x : Tape) → IsBetween (left_of l t) (right_of l t) (done d x).head
    → Fits l t d (read_by d x)
fits_of l t (Rewrite a b) x h = tt
fits_of l t (Move s) x h = h

-- a deed in range may write, as it has read before
may_of : (m : Quadruples) (t : ℕ) (d : Deed) (x : Tape) → IsDeedInRange (symbol_count m t) d
    → MayWrite m t d (shift_by d (read_by d x))
may_of m t (Rewrite a b) x h = (h.1, blanked x)
may_of m t (Move s) x h = tt

-- the tapes after the parts of a quadruple are those after it
pub after_shown : (m : Quadruples) (l : Limits) (n : ℕ) (r : Rule ℕ) (c : Configuration ℕ) (states : List ℕ)
    → ShowsTapes m l states (after_writes m l n r c)
    → ShowsTapes m l states (after r c)
after_shown m l n r c states shows = record {
  one = subst (λ (x : Tape). ShowsTape states (first_cell l 1) (symbol_count m 1) l.left l.right x)
      (all_parts r.one c.one) shows.one;
  two = subst (λ (x : Tape). ShowsTape states (first_cell l 2) (symbol_count m 2) 0 l.steps x) (all_parts r.two c.two)
      shows.two;
  three = subst (λ (x : Tape). ShowsTape states (first_cell l 3) (symbol_count m 3) 0 l.output x)
      (all_parts r.three c.three) shows.three;
}

module _ (costs : CostsAreBounded) (commands : Commands) (has : StatesHaveEntries) (m : Quadruples) (l : Limits)
    (names : List ControlState) (k : Circuit) (test : Situation → Bool)
    (machine : IsQuadMachine m) (uniform : IsUniformMachine m) (numbering : IsNumbering m names)
    (net : IsNetwork m l names k) (tells : TellsMoments m names k test) where
  -- at a moment the control has sent the first command of each quadruple that leaves the state
  pub begun : (s : Situation) (c : Configuration ℕ) → IsMomentOf m l names k s c → (n : ℕ) (r : Rule ℕ)
      → nth m.rules n ≡ Some r → r.from ≡ c.state
      → (e : ControlMove) → Stands m l names k s (lead e (stops_of n r)) c
  begun s c now n r stands from e =
      let first = to_reads e n r [] (reads_of r) in
      let same : now.first ≡ first = (has m machine uniform).one c.state now.first first now.entry
      (opening m uniform n r stands e c.state from) in
      let led : lead e (stops_of n r) ≡ first = lead_reads e n r [] (reads_of r) in
      let at : Stands m l names k s now.first c = record { waits = now.waits; place = now.place; shows = now.shows } in
      subst (λ (x : ControlMove). Stands m l names k s x c) (same ∙ sym led) at

  -- the quadruple that applies leads to the next moment
  next_moment : (s : Situation) (c d : Configuration ℕ) → IsMomentOf m l names k s c
      → (n : ℕ) (by : GoesBy (rooms_of l) m n c d)
      → (t : Situation) × (0 < quad_moves l by.rule c) × Travels k test (quad_moves l by.rule c)
      (48 * elements_by m l (length names)) s t
      × IsMomentOf m l names k t d × (test t ≡ true)
  next_moment s c d now n by =
      let r = by.rule in
      let stands = by.first.stands in
      let applies = by.first.holds in
      let range = rule_range m machine n r stands in
      let deeds = deeds_range m r range in
      let e = (has m machine uniform).some r.to range.to in
      let heads = subst (λ (x : Configuration ℕ). IsBetween l.left l.right x.one.head × IsBetween 0 l.steps x.two.head
      × IsBetween 0 l.output x.three.head) by.gives (by.stays.one, by.stays.two, by.stays.three) in
      let one : Applies m l n r c 1 r.one = record {
        admits = applies.one;
        fits = fits_of l 1 r.one c.one heads.0;
        may = may_of m 1 r.one c.one deeds.0;
      } in
      let two : Applies m l n r c 2 r.two = record {
        admits = applies.two;
        fits = fits_of l 2 r.two c.two heads.1;
        may = may_of m 2 r.two c.two deeds.1;
      } in
      let three : Applies m l n r c 3 r.three = record {
        admits = applies.three;
        fits = fits_of l 3 r.three c.three heads.2;
        may = may_of m 3 r.three c.three deeds.2;
      } in
      let obey = obey_all m l n r c one two three in
      let come = chain costs m l names k numbering net test tells commands (stops_of n r) e.0 c (after_writes m l n r c)
      (quad_moves l r c) s (stops_are m n r stands e.0 e.1) obey (begun s c now n r stands (sym applies.from) e.0)
      in
      let moment : IsMomentOf m l names k come.0 (after r c) = record {
        first = e.0;
        entry = e.1;
        waits = come.2.waits;
        place = come.2.place;
        shows = after_shown m l n r c come.0.states come.2.shows;
      } in
      let there : IsMomentOf m l names k come.0 d = subst (λ (x : Configuration ℕ). IsMomentOf m l names k come.0 x)
      (sym by.gives) moment in (
        come.0,
        some_moves m uniform n r stands l c,
        record {
          path = come.1.path;
          cost = few (length (stops_of n r)) (elements_by m l (length names)) come.1.cost (six_stops n r);
        },
        there,
        told m l names k test net (has m machine uniform) tells come.0 d there,
      )
    where
      few : (x y : ℕ) {z : ℕ} → z ≤ x * (8 * y) → x ≤ 6 → z ≤ 48 * y
      few x y a b = let c = mul-le x (8 * y) 6 (8 * y) b (omega arith) in omega arith

-- the law
pub next-moment : CostsAreBounded → Commands → StatesHaveEntries → NextMoment
next-moment costs commands has m l names k test machine uniform numbering net tells s c d now n by =
    next_moment costs commands has m l names k test machine uniform numbering net tells s c d now n by
