-- Steps by the numbers of lines.
use Rattle.std.specs.Prelude.{◌≡◌, ℕ, ◌+◌, ◌-◌, ◌<◌, Bool, true, List, [], ◌∷◌, length, Option, Some, None, is_none}
use Rattle.std.specs.Prelude.{map, slice_get, bit_xor, refl}
use Rattle.std.proofs.Common.{arith, sym, ap, subst, ◌∙◌}
use Rattle.std.proofs.lemmas.List.{length-map}
use Rattle.std.proofs.lemmas.Option.{slice_get_within}
use Rattle.bn_circuits.specs.Circuits.{IsCircuit, IsConfig, IsOutputOf, clock, place_at, place_after, source}
use Rattle.bn_circuits.specs.declared.line.Line.{Line}
use Rattle.bn_circuits.specs.declared.place.Place.{Place}
use Rattle.bn_circuits.specs.declared.place.Place.TheVariants.{Enter}
use Rattle.bn_circuits.specs.declared.config.Config.{Config}
use Rattle.bn_element.specs.declared.rotary.Rotary.{Rotary}
use Rattle.bn_circuits.specs.Parts.{Parts}
use Rattle.bn_circuits.specs.Watching.{Hears}
use Rattle.bn_circuits.specs.Walking.{HasWalkedBack}
use Rattle.bn_circuits.specs.RotaryNets.{rotary_circuit}
use Rattle.bn_packed.specs.Bars.{HasCrossed, HasCrossedBack}
use Rattle.std.specs.Option.{option_map}
use Rattle.bn_packed.specs.Numbers.{line_of, number_of}
use Rattle.bn_packed.specs.Ends.{opposite, ahead, behind, IsLineBelow, HasEnds}
use Rattle.bn_packed.specs.PackedNets.{config_at}
use Rattle.bn_packed.specs.Stopping.{passes_by}
use Rattle.bn_packed.proofs.BlockLemmas.{number_again, line_again}
use Rattle.bn_packed.proofs.EndLemmas.{input_below, output_below, source_output}
use Rattle.bn_packed.proofs.AcrossLemmas.{opposite_twice}
use Rattle.bn_packed.proofs.StepLemmas.{IsOnWay, way_more, leaving_below, walked_back_more}

-- the signal is about to enter the line of a number
abbrev pub entered : ℕ → Place
entered n = Enter (line_of n).element (line_of n).line

-- the number of a line tells the line
pub entered_line : (l : Line) (n : ℕ) → l.line < 4 → n ≡ number_of l → Enter l.element l.line ≡ entered n
entered_line l n low is =
    let same : line_of n ≡ l = ap line_of is ∙ line_again l low in
    λ i. Enter (sym same i).element (sym same i).line

pub entered_by : (l : Line) (n : ℕ) → l ≡ line_of n → Enter l.element l.line ≡ entered n
entered_by l n is = λ i. Enter (is i).element (is i).line

-- what is read at a number
pub cell_there : (f : Line → Option Line) (cells : List (Option Line)) (n m : ℕ) → HasEnds f m cells
    → IsLineBelow m (line_of n)
    → slice_get cells n ≡ Some (f (line_of n))
cell_there f cells n m has below = ap (slice_get cells) (sym (number_again n)) ∙ has.each (line_of n) below

pub cell_read : (f : Line → Option Line) (cells : List (Option Line)) (n m : ℕ) (o : Option Line) → HasEnds f m cells
    → IsLineBelow m (line_of n)
    → slice_get cells n ≡ Some o → o ≡ f (line_of n)
cell_read f cells n m o has below read =
    let same : Some o ≡ Some (f (line_of n)) = sym read ∙ cell_there f cells n m has below in
    cc

pub cell_within : {X : Type 0} (f : Line → Option Line) (tells : X → Option Line) (cells : List X) (n m : ℕ)
    → HasEnds f m (map tells cells)
    → IsLineBelow m (line_of n) → n < length cells
cell_within f tells cells n m has below =
    let within = slice_get_within (map tells cells) n (f (line_of n)) (cell_there f (map tells cells) n m has below) in
    omega (arith, length-map cells tells)

-- and where it tells of no wire
pub none_read : (o : Option Line) → is_none o ≡ true → o ≡ None
none_read None is = refl
none_read (Some l) is = absurd (cc)

-- and where it tells of a line, by that across
behind_read : (o : Option Line) (l : Line) → Some l ≡ option_map opposite o → o ≡ Some (opposite l)
behind_read None l is = absurd (cc)
behind_read (Some m) l is =
    let same : l ≡ opposite m = cc in
    ap Some (sym (opposite_twice m) ∙ ap opposite (sym same))

pub behind_none : (o : Option Line) → option_map opposite o ≡ None → o ≡ None
behind_none None is = refl
behind_none (Some m) is = absurd (cc)

module _ (net : Parts Rotary) (circuit : IsCircuit (rotary_circuit net)) where
  -- the line across from that by which the signal goes out is there
  pub crossed_low : (bars after : List ℕ) (n from steps : ℕ) → IsConfig (rotary_circuit net)
      (config_at bars (entered n) steps) → HasCrossed bars n after from
      → IsLineBelow (length net.elements) (line_of from)
  crossed_low bars after n from steps config cross = record {
    element = subst (λ e. e < length net.elements) (sym cross.same)
        (input_below net.elements (line_of n) config.place).element;
    line = omega arith;
  }

  -- the line to which it leads is there
  pub led_low : (from to : ℕ) → Some (line_of to) ≡ ahead net.wires (line_of from)
      → (line_of to).element < length net.elements
  led_low from to leads = (input_below net.elements (line_of to)
      (circuit.wired (opposite (line_of from)) (line_of to) (sym leads)).1).element

  -- a step more on the way past these lines
  pub number_more : (stops : Line → Bool) (first : Config) (bars after : List ℕ) (then : Place)
      (n from steps made p q : ℕ) (old mid new : Option (List Place))
      → IsOnWay (rotary_circuit net) stops first (config_at bars (entered n) (steps + made)) made old mid
      → (0 < made → passes_by stops (entered n) ≡ true)
      → HasCrossed bars n after from → then ≡ place_at (ahead net.wires (line_of from)) (opposite (line_of from))
      → steps + made < clock → p ≡ steps + made + 1
      → q ≡ made + 1 → Hears mid (then ∷ []) new
      → IsOnWay (rotary_circuit net) stops first (config_at after then p) q old new
  number_more stops first bars after then n from steps made p q old mid new way calm cross leads room counted more
      hears =
      let same : opposite (line_of from) ≡ record {
        element = (line_of n).element;
        line = bit_xor (line_of from).line 2;
      } =
      (λ i. record { element = cross.same i; line = bit_xor (line_of from).line 2 }) in
      way_more net circuit stops first bars after (entered n) then (line_of n).element (line_of n).line
      (bit_xor (line_of from).line 2) steps made p q old mid new way calm refl cross.moved
      (leads ∙ ap (place_after net.wires) same) room counted more hears

  -- the input line at which the signal is, is there
  pub entered_low : (bars : List ℕ) (n steps : ℕ) → IsConfig (rotary_circuit net) (config_at bars (entered n) steps)
      → IsLineBelow (length net.elements) (line_of n)
  entered_low bars n steps config = input_below net.elements (line_of n) config.place

  -- what feeds it
  came_by : (n from : ℕ) → Some (line_of from) ≡ behind net.wires (line_of n)
      → source net.wires (line_of n) ≡ Some (opposite (line_of from))
  came_by n from came = behind_read (source net.wires (line_of n)) (line_of from) came

  fed_by : (n from : ℕ) → Some (line_of from) ≡ behind net.wires (line_of n)
      → IsOutputOf (rotary_circuit net).tables (opposite (line_of from))
  fed_by n from came = source_output net circuit (line_of n) (Some (opposite (line_of from)))
      (sym (came_by n from came))

  pub fed_low : (bars : List ℕ) (n from steps : ℕ) → IsConfig (rotary_circuit net) (config_at bars (entered n) steps)
      → Some (line_of from) ≡ behind net.wires (line_of n) → (line_of from).element < length bars
  fed_low bars n from steps config came = (leaving_below net (config_at bars (entered n) steps)
      (opposite (line_of from)) config (fed_by n from came)).0

  pub back_low : (bars before : List ℕ) (n from into : ℕ) → Some (line_of from) ≡ behind net.wires (line_of n)
      → HasCrossedBack bars from before into
      → (line_of into).element < length net.elements
  back_low bars before n from into came cross =
      subst (λ e. e < length net.elements) (sym cross.same) (output_below net.elements (opposite (line_of from))
      (fed_by n from came)).element

  -- a step more back
  pub number_back_more : (first : Config) (bars before : List ℕ) (n from into steps made : ℕ)
      (old mid new : Option (List Place))
      → HasWalkedBack (rotary_circuit net) first (config_at bars (entered n) (steps - made)) made old mid
      → Some (line_of from) ≡ behind net.wires (line_of n) → HasCrossedBack bars from before into → made < steps
      → Hears mid (entered into ∷ []) new
      → HasWalkedBack (rotary_circuit net) first (config_at before (entered into) (steps - (made + 1))) (made + 1) old
      new
  number_back_more first bars before n from into steps made old mid new walked came cross some hears =
      let same : Enter (line_of from).element (line_of into).line ≡ entered into =
      (λ i. Enter (sym cross.same i) (line_of into).line) in
      subst (λ p. HasWalkedBack (rotary_circuit net) first (config_at before p (steps - (made + 1))) (made + 1) old new)
      same
      (walked_back_more net circuit first bars before (entered n) (opposite (line_of from)) (line_of into).line steps
      made old mid new walked (came_by n from came) (fed_by n from came)
      cross.moved some (subst (λ p. Hears mid (p ∷ []) new) (sym same) hears))
