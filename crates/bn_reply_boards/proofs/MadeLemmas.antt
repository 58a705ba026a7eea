-- A board that was made from a machine, a word and limits: it may be compiled, and its configuration has a text.
use Rattle.std.specs.Prelude.{◌≡◌, ℕ, List, [], length, replicate, Option, Some, None, refl}
use Rattle.std.proofs.Common.{arith, sym, subst, ◌∙◌}
use Rattle.bn_circuits.specs.Circuits.{Circuit, IsCircuit, IsConfig, IsInputOf, IsOutputOf, target, source}
use Rattle.bn_circuits.specs.declared.line.Line.{Line}
use Rattle.bn_circuits.specs.declared.line.Wire.{Wire}
use Rattle.bn_circuits.specs.RotaryNets.{rotary_circuit}
use Rattle.bn_circuits.proofs.RotaryNetLemmas.{rotary-tables}
use Rattle.bn_machine.specs.Machine.{Program}
use Rattle.bn_machine.specs.Outcome.{Limits}
use Rattle.bn_table.specs.Rows.{Named}
use Rattle.bn_bennett.specs.Translation.{Translation}
use Rattle.bn_netlist_laws.specs.Spelling.{Spelling, circuit_of, Admits, IsTextOf}
use Rattle.bn_netlist_laws.specs.declared.version.Version.TheVariants.{Two}
use Rattle.bn_netlist.specs.PackedText.{spelling_of_packed}
use Rattle.bn_netlist.specs.declared.packed_config.PackedConfig.{PackedConfig}
use Rattle.bn_element.specs.Rotary.{rotary}
use Rattle.bn_circuits.specs.declared.config.Config.{Config}
use Rattle.bn_circuits.specs.declared.place.Place.{Place}
use Rattle.bn_boards.specs.Boards.{IsBoard}
use Rattle.bn_boards.specs.Flats.{Flat, flat_start}
use Rattle.bn_boards.specs.Layouts.{Layout}
use Rattle.bn_board.specs.Flattened.{Flattened, IsBoardKept}
use Rattle.bn_reply.specs.declared.status.Status.{Status}
use Rattle.bn_reply.specs.declared.status.Status.TheVariants as statuses
use Rattle.bn_reply_relations.specs.Laws.{BoardsAreSpelled}
use Rattle.bn_reply_relations.specs.CompileReply.{CompileReplies, IsBoardSpelling, IsFlatSpelling, TellsBoard}
use Rattle.bn_reply_relations.specs.CompileReply.{TellsStart}
use Rattle.bn_reply_relations.proofs.SpelledLemmas.{board_targets, entered_once, left_once}
use Rattle.bn_reply_boards.specs.Opened.{IsBoardAsked, IsMade, spelling_of_board}
use Rattle.bn_reply_circuits.specs.Unwritten.{WillReply}
use Rattle.bn_reply_circuits.specs.declared.unwritten.Unwritten.TheVariants.{Packed}
use Rattle.bn_reply_boards.proofs.AskedLemmas.{board_accepted, board_replies}
use Rattle.bn_reply_boards.proofs.OpeningLemmas.{elements_are}

-- nothing leads to a line in one of two lists where nothing does in the other
no_source : (xs ys : List Wire) (to : Line) (o : Option Line)
    → ((from to : Line) → (source xs to ≡ Some from) → target xs from ≡ Some to)
    → ((from to : Line) → (target ys from ≡ Some to) → source ys to ≡ Some from)
    → ((from : Line) → target xs from ≡ target ys from) → source xs to ≡ o → source ys to ≡ None → o ≡ None
no_source xs ys to None back forth same is none = refl
no_source xs ys to (Some from) back forth same is none = absurd
    (let there = forth from to (sym (same from) ∙ back from to is) in cc)

-- ---- the board of a network

module _ (net : Circuit) (layout : Layout) (at_start : Config) (b : Flattened)
    (board : IsBoard net (rotary_circuit b.net)) (kept : IsBoardKept b)
    (a : IsBoardSpelling net layout at_start (spelling_of_board b)) (u : Spelling)
    (other : IsBoardSpelling net layout at_start u) (admitted : Admits Two u) where
  same_circuit : circuit_of (spelling_of_board b) ≡ rotary_circuit b.net
  same_circuit = λ i. record { tables = sym (rotary-tables b.net.elements) i; wires = b.net.wires }

  pub made-Admits : Admits Two (spelling_of_board b)
  made-Admits =
      let s = spelling_of_board b in
      let elements : u.elements ≡ s.elements = other.elements ∙ sym a.elements in
      let start : u.start ≡ s.start = entered_once u.start s.start (other.start ∙ sym a.start) in
      let end : u.end ≡ s.end = left_once u.end s.end (other.end ∙ sym a.end) in
      let targets : (from : Line) → target s.wires from ≡ target u.wires from =
      (λ from. board_targets net (rotary_circuit b.net) board layout at_start s a from
      ∙ sym (board_targets net (rotary_circuit b.net) board layout at_start u other from)) in
      let circuit : IsCircuit (circuit_of s) = subst IsCircuit (sym same_circuit) kept.circuit in
      record {
        some = let some = admitted.some in omega arith;
        few = let few = admitted.few in omega arith;
        circuit = circuit;
        config = subst (λ k. IsConfig k b.config) (sym same_circuit) kept.reached.good;
        start = subst (λ n. IsInputOf (replicate n rotary) s.start) elements
            (subst (λ x. IsInputOf (replicate u.elements rotary) x) start admitted.start);
        end = subst (λ n. IsOutputOf (replicate n rotary) s.end) elements
            (subst (λ x. IsOutputOf (replicate u.elements rotary) x) end admitted.end);
        unfed = no_source s.wires u.wires s.start (source s.wires s.start) (λ x y. (circuit.one_to_one x y).1)
            (λ x y. (admitted.circuit.one_to_one x y).0) targets refl
            (subst (λ x. source u.wires x ≡ None) start admitted.unfed);
        unwired = targets s.end ∙ subst (λ x. target u.wires x ≡ None) end admitted.unwired;
      }

  -- as a configuration of a packed circuit it is written so, and that is what is answered
  pub will_tell : (answers : Status → List ℕ → List Place → Type 0) (c : PackedConfig) → c.version ≡ Two
      → spelling_of_packed c ≡ spelling_of_board b
      → ((text : List ℕ) → TellsBoard net layout at_start statuses.Done text [] → answers statuses.Done text [])
      → WillReply answers (Packed c)
  will_tell answers c two is answer = record {
    writable = subst (λ v. Admits v (spelling_of_packed c)) (sym two) (subst (Admits Two) (sym is) made-Admits);
    right = λ s text written.
        let told : IsTextOf Two (spelling_of_packed c) text = subst (λ v. IsTextOf v (spelling_of_packed c) text) two
        written.1 in
        let start : TellsBoard net layout at_start statuses.Done text [] = record {
          spelling = spelling_of_board b;
          board = a;
          spelled = record { admitted = made-Admits; is_text = subst (λ z. IsTextOf Two z text) is told };
          done = refl;
          silent = refl;
        } in
        subst (λ st. answers st text []) (sym written.0) (answer text start);
  }

-- ---- the board of a machine's translation

module _ (p : Program) (l : Limits) (symbols : List ℕ) (f : Flat) (t : Translation) (b : Flattened)
    (made : IsMade p l symbols f t b) where
  made-IsBoard : IsBoard f.network (rotary_circuit b.net)
  made-IsBoard = subst (λ k. IsBoard f.network k) made.circuit made.comes.flat.is_board

  pub made-IsFlatSpelling : IsFlatSpelling f (spelling_of_board b)
  made-IsFlatSpelling = record {
    elements = elements_are f.network b.net made-IsBoard;
    wires = made-IsBoard.wires;
    config = made.config;
    start = made.start;
    end = made.end;
  }

-- a board's packed net spells the board
pub packed_spelling : (b : Flattened) (c : PackedConfig) → c.packed.net ≡ b.net → c.packed.config ≡ b.config
    → c.start ≡ b.start → c.end ≡ b.end → spelling_of_packed c ≡ spelling_of_board b
packed_spelling b c net config start end =
    λ i. record {
      elements = length (net i).elements;
      wires = (net i).wires;
      config = config i;
      start = start i;
      end = end i;
    }

-- ---- what is answered

-- the board of bytes, a word and limits as a configuration
pub will_compile : BoardsAreSpelled → (bytes word : List ℕ) (l : Limits) (t : Named) (m : Translation) (b : Flattened)
    → IsBoardAsked bytes word l t m b → (c : PackedConfig)
    → c.version ≡ Two → spelling_of_packed c ≡ spelling_of_board b → WillReply (CompileReplies word l bytes) (Packed c)
will_compile boards bytes word l t m b asked c two is =
    let f = asked.flat in
    let made = asked.made in
    let spelled = boards t.machine asked.symbols l f made.comes.flat (board_accepted bytes word l t m b asked) in
    will_tell f.network f.layout (flat_start f) b (made-IsBoard t.machine l asked.symbols f m b made) made.kept
    (made-IsFlatSpelling t.machine l asked.symbols f m b made) spelled.0 spelled.1 spelled.2.1.admitted
    (CompileReplies word l bytes) c two is
    (λ text start. board_replies (λ t. TellsStart) bytes word l t m b asked statuses.Done text [] start)
