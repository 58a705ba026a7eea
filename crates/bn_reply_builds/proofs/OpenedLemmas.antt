-- What is opened of bytes, words and a window is answered.
use Rattle.std.specs.Prelude.{◌≡◌, ℕ, ◌<◌, All, Err, IfOk, List, [], Ok, Result, refl}
use Rattle.std.proofs.Common.{arith, sym, ap, subst}
use Rattle.bn_circuits.specs.Circuits.{Circuit}
use Rattle.bn_circuits.specs.declared.config.Config.{Config}
use Rattle.bn_circuits.specs.declared.line.Line.{Line}
use Rattle.bn_circuits.specs.declared.place.Place.{Place}
use Rattle.bn_circuits.specs.declared.place.Place.TheVariants.{Enter, Left}
use Rattle.bn_machine.specs.Outcome.{Limits}
use Rattle.bn_circuits.specs.RotaryNets.{rotary_circuit}
use Rattle.bn_lists.specs.declared.memory.NoMemory.{NoMemory as WantOfMemory}
use Rattle.bn_quad.specs.Calls.{IsUniformMachine}
use Rattle.bn_quad.specs.Names.{Naming}
use Rattle.bn_quad.specs.Quadruples.{Configuration, Quadruples}
use Rattle.bn_qtable.specs.Reading.{ReadsQuadruples}
use Rattle.bn_qtable.specs.Rows.{QuadTable, table_of}
use Rattle.bn_qtable.specs.TapeWords.{TapeWords, names_on}
use Rattle.bn_netlist_laws.specs.declared.version.Version.TheVariants.{Two}
use Rattle.bn_netlist.specs.PackedText.{spelling_of_packed}
use Rattle.bn_netlist.specs.declared.packed_config.PackedConfig.{PackedConfig}
use Rattle.bn_network.specs.Controls.{ControlState, symbol_count}
use Rattle.bn_network.specs.Starts.{AreInputs, start_from, words_on}
use Rattle.bn_boards.specs.Boards.{IsBoard, board_start}
use Rattle.bn_boards.specs.Layouts.{Layout}
use Rattle.bn_boards.proofs.NetworkReadLemmas.{networks-read}
use Rattle.bn_board.specs.Flattened.{Flattened}
use Rattle.bn_boards.specs.Builds.{Build, IsBuild, IsStart}
use Rattle.bn_reply.specs.declared.reply.Reply.{Reply}
use Rattle.bn_reply.specs.declared.status.Status.{Status}
use Rattle.bn_reply_relations.specs.CompileReply.{IsBoardSpelling}
use Rattle.bn_reply_boards.specs.Opened.{IsBoardFor, IsOpenedBoard, IsTooLarge, spelling_of_board}
use Rattle.bn_reply_boards.specs.declared.opening.OpenedWindow.{OpenedWindow}
use Rattle.bn_reply_boards.specs.declared.opening.OpenedWindow.TheVariants as windows
use Rattle.bn_reply_boards.proofs.MadeLemmas.{will_tell}
use Rattle.bn_reply_boards.proofs.OpeningLemmas.{elements_are}
use Rattle.bn_reply_machines.specs.NamedWords.{AreNamedBy, IsNamedBy}
use Rattle.bn_reply_machines.specs.QuadReply.{passes}
use Rattle.bn_reply_machines.specs.UniformReply.{UniformReplies, not_uniform, uniform}
use Rattle.bn_reply_machines.specs.WordsReply.{WordsReplies}
use Rattle.bn_reply_machines.proofs.QuadReplyLemmas.{answered_as}
use Rattle.bn_reply_machines.proofs.WordsLemmas.{words_as, words_named}
use Rattle.bn_reply_circuits.specs.Unwritten.{WillReply}
use Rattle.bn_reply_circuits.specs.declared.unwritten.Unwritten.TheVariants.{Packed}
use Rattle.bn_reply_builds.specs.BuildReply.{BuildReplies, BuiltReplies, HaveRoom, IsBuiltFor, IsUncrowded}
use Rattle.bn_reply_builds.specs.BuildReply.{SizedReplies, TellsBuild, built, large, long, many}
use Rattle.bn_reply_builds.specs.Buildable.{IsBuildable}
use Rattle.bn_reply_builds.specs.Opened.{IsBuildAsked, IsBuiltBoard, IsOpenedSized, IsSizedBoard}
use Rattle.bn_reply_builds.proofs.BuiltLemmas.{build_begins, build_spells}

-- ---- a machine that is read

-- words that are inputs have room
room_of : (m : Quadruples) (l : Limits) (one two three : List ℕ) → AreInputs m l one two three →
    HaveRoom l one two three
room_of m l one two three inputs =
    record { on_one = inputs.one_room; on_two = inputs.two_room; on_three = inputs.three_room }

pub large_answer : (words : TapeWords) (tells : Build → Status → List ℕ → List Place → Type 0) (m : Quadruples)
    (l : Limits) (one two three : List ℕ) → IsUncrowded m → AreInputs m l one two three → (r : Reply) →
    IsTooLarge m l r → SizedReplies words tells m l one two three r.status r.text.items []
large_answer words tells m l one two three few inputs r h =
    large few (room_of m l one two three inputs) h.count h.counts h.great h.text h.status refl

module _ (m : Quadruples) (l : Limits) (one two three : List ℕ) (is : IsBuildable m) (few : IsUncrowded m)
    (inputs : AreInputs m l one two three) (names : List ControlState) (network : Circuit) (b : Flattened)
    (h : IsBoardFor m l (words_on m one two three) names network b) where
  abbrev as_build : Build
  as_build = record {
    machine = m;
    limits = l;
    names = names;
    network = network;
    circuit = rotary_circuit b.net;
    layout = b.layout;
  }

  is_build : IsBuild as_build
  is_build = record {
    is_network = record {
      machine = is.valid;
      uniform = is.uniform;
      symbols = is.letters;
      numbering = h.numbering;
      network = h.is_network;
    };
    is_board = h.is_board;
    is_layout = h.is_layout;
  }

  none_low : (z : ℕ) → All (λ x. x < z) []
  none_low z k d low = absurd (omega (arith, low))

  built_for : IsBuiltFor m l as_build
  built_for =
      let read = networks-read m l [] names network b.layout is_build.is_network h.is_layout
      (none_low (symbol_count m 1)) in
      let whole = read.1.whole in
      let small = h.few in
      record { machine = refl; limits = refl; build = is_build; few = omega arith }

  pub sized_board : IsSizedBoard m l one two three b
  sized_board =
      let start : Configuration ℕ = words_on m one two three in
      record {
        uncrowded = few;
        inputs = inputs;
        build = as_build;
        built = built_for;
        board = record {
          build = is_build;
          circuit = refl;
          layout = refl;
          config = h.config;
          begins = subst (λ (d : Config). IsStart as_build start (start_from m l start) d) (sym h.config)
              (build_begins m l one two three inputs as_build built_for);
          start = h.start;
          end = h.end;
          kept = h.kept;
        };
      }

-- ---- what is answered

-- where what is told of a build is told otherwise
pub sized_as : (words : TapeWords) (tells other : Build → Status → List ℕ → List Place → Type 0) (m : Quadruples)
    (l : Limits) (one two three : List ℕ) (s : Status) (text : List ℕ) (told : List Place) →
    ((f : Build) → tells f s text told → other f s text told) →
    SizedReplies words tells m l one two three s text told → SizedReplies words other m l one two three s text told
sized_as words tells other m l one two three s text told by (many t z h is e n) = many t z h is e n
sized_as words tells other m l one two three s text told by (long few t z far is e n) = long few t z far is e n
sized_as words tells other m l one two three s text told by (large few fits count counts great is e n) =
    large few fits count counts great is e n
sized_as words tells other m l one two three s text told by (built few fits f h answer) =
    built few fits f h (by f answer)

-- what is told of a table whose machine is uniform, where nothing is told of a build, and where this is
abbrev pub NoneTold : TapeWords → Limits → QuadTable → Status → List ℕ → List Place → Type 0
NoneTold words l t = WordsReplies words (λ one two three.
    SizedReplies words (λ f status text told. ⊥) t.machine l one two three) t.names

abbrev AllTold : (QuadTable → List ℕ → List ℕ → List ℕ → Build → Status → List ℕ → List Place → Type 0) → TapeWords →
    Limits → QuadTable → Status → List ℕ → List Place → Type 0
AllTold tells words l t = WordsReplies words (λ one two three.
    SizedReplies words (tells t one two three) t.machine l one two three) t.names

-- what is answered whatever is told of a build
pub refused_as : (tells : QuadTable → List ℕ → List ℕ → List ℕ → Build → Status → List ℕ → List Place → Type 0)
    (words : TapeWords) (l : Limits) (bytes : List ℕ) (s : Status) (text : List ℕ) (told : List Place) →
    BuiltReplies (λ t one two three f status text told. ⊥) words l bytes s text told →
    BuiltReplies tells words l bytes s text told
refused_as tells words l bytes s text told =
    answered_as (UniformReplies (NoneTold words l)) (UniformReplies (AllTold tells words l)) bytes s text told by
  where
    by : (t : QuadTable) → UniformReplies (NoneTold words l) t s text told →
        UniformReplies (AllTold tells words l) t s text told
    by t (not_uniform why h is e n) = not_uniform why h is e n
    by t (uniform h answer) = uniform h (words_as words (λ one two three.
        SizedReplies words (λ f status text told. ⊥) t.machine l one two three) (λ one two three.
        SizedReplies words (tells t one two three) t.machine l one two three) t.names s text told (λ one two three.
        sized_as words (λ f status text told. ⊥) (tells t one two three) t.machine l one two three s text told
        (λ f none. absurd none)) answer)

module _ (words : TapeWords) (l : Limits) (bytes : List ℕ) (t : QuadTable) (reads : ReadsQuadruples bytes t)
    (even : IsUniformMachine t.machine) where
  -- what is answered to the words, whatever is told of their symbols
  pub words_refused : (s : Status) (text : List ℕ) →
      WordsReplies words (λ one two three status text told. ⊥) t.names s text [] →
      BuiltReplies (λ t one two three f status text told. ⊥) words l bytes s text []
  words_refused s text h =
      passes t reads even.deterministic even.reversible (uniform even.uniform
      (words_as words (λ one two three status text told. ⊥) (λ one two three.
      SizedReplies words (λ f status text told. ⊥) t.machine l one two three) t.names s text []
      (λ one two three none. absurd none) h))

  -- what is answered to the sizes, whatever is told of a build
  pub sized_refused : (one two three : List ℕ) → AreNamedBy words t.names one two three → (s : Status)
      (text : List ℕ) → SizedReplies words (λ f status text told. ⊥) t.machine l one two three s text [] →
      BuiltReplies (λ t one two three f status text told. ⊥) words l bytes s text []
  sized_refused one two three named s text h =
      passes t reads even.deterministic even.reversible (uniform even.uniform
      (words_named words (λ one two three. SizedReplies words (λ f status text told. ⊥) t.machine l one two three)
      t.names one two three named s text [] h))

  -- the board that is asked for
  pub sized_asked : IsBuildable t.machine → (one two three : List ℕ) → AreNamedBy words t.names one two three →
      (b : Flattened) → IsSizedBoard t.machine l one two three b → IsBuildAsked words l bytes t.machine t.names b
  sized_asked is one two three named b h = record {
    table = reads;
    buildable = is;
    one = one;
    two = two;
    three = three;
    named = named;
    uncrowded = h.uncrowded;
    inputs = h.inputs;
    build = h.build;
    built = h.built;
    board = h.board;
  }

-- words of symbols that are slices of others
pub named_slices : (words : TapeWords) (names : Naming) (a b c x y z : List ℕ) → x ≡ a → y ≡ b → z ≡ c →
    AreNamedBy words names a b c → AreNamedBy words names x y z
named_slices words names a b c x y z e f g h = record {
  on_one = subst (IsNamedBy names.one (names_on words 1)) (sym e) h.on_one;
  on_two = subst (IsNamedBy names.two (names_on words 2)) (sym f) h.on_two;
  on_three = subst (IsNamedBy names.three (names_on words 3)) (sym g) h.on_three;
}

-- what is opened of a board is opened of the sizes
module _ (words : TapeWords) (m : Quadruples) (l : Limits) (one two three : List ℕ) (is : IsBuildable m)
    (few : IsUncrowded m) (inputs : AreInputs m l one two three) where
  by_window : (w : OpenedWindow) → IsOpenedBoard m l (words_on m one two three) w →
      IsOpenedSized words m l one two three w
  by_window (windows.Made b) h = sized_board m l one two three is few inputs h.0 h.1 b h.2
  by_window (windows.Refused reply) h =
      large_answer words (λ f status text told. ⊥) m l one two three few inputs reply h

  pub sized_opened : (r : Result OpenedWindow WantOfMemory) → IfOk r (IsOpenedBoard m l (words_on m one two three)) →
      IfOk r (IsOpenedSized words m l one two three)
  sized_opened (Ok w) h = by_window w h
  sized_opened (Err e) h = tt

-- what is told of the build that is asked for
pub built_replies : (tells : QuadTable → List ℕ → List ℕ → List ℕ → Build → Status → List ℕ → List Place → Type 0)
    (words : TapeWords) (l : Limits) (bytes : List ℕ) (m : Quadruples) (names : Naming) (b : Flattened) →
    (a : IsBuildAsked words l bytes m names b) → (s : Status) (text : List ℕ) (told : List Place) →
    tells (table_of m names) a.one a.two a.three a.build s text told → BuiltReplies tells words l bytes s text told
built_replies tells words l bytes m names b a s text told answer =
    let even = a.buildable.uniform in
    passes (table_of m names) a.table even.deterministic even.reversible (uniform even.uniform
    (words_named words (λ one two three. SizedReplies words (tells (table_of m names) one two three) m l one two three)
    names a.one a.two a.three a.named s text told
    (built a.uncrowded (room_of m l a.one a.two a.three a.inputs) a.build a.built answer)))

-- ---- the board's text

-- the board of a build is spelled as the build's
built_spells : (f : Build) (c : Configuration ℕ) (b : Flattened) → IsBuiltBoard f c b →
    IsBoard f.network (rotary_circuit b.net) →
    IsBoardSpelling f.network f.layout (board_start f.network.tables (start_from f.machine f.limits c))
    (spelling_of_board b)
built_spells f c b h board =
    subst (λ (layout : Layout). IsBoardSpelling f.network layout
    (board_start f.network.tables (start_from f.machine f.limits c)) (spelling_of_board b)) (sym h.layout) (record {
      elements = elements_are f.network b.net board;
      wires = board.wires;
      config = h.config;
      start = ap (λ (x : Line). Enter x.element x.line) h.start;
      end = ap (λ (x : Line). Left x.element x.line) h.end;
    })

pub asked_will : (words : TapeWords) (l : Limits) (bytes : List ℕ) (m : Quadruples) (names : Naming) (b : Flattened) →
    IsBuildAsked words l bytes m names b → (c : PackedConfig) → c.version ≡ Two →
    spelling_of_packed c ≡ spelling_of_board b → WillReply (BuildReplies words l bytes) (Packed c)
asked_will words l bytes m names b a c two same =
    let f = a.build in
    let h = a.board in
    let start : Configuration ℕ = words_on m a.one a.two a.three in
    let board : IsBoard f.network (rotary_circuit b.net) = subst (λ (k : Circuit). IsBoard f.network k) h.circuit
    h.build.is_board in
    let some = build_spells m l a.one a.two a.three a.inputs f a.built in
    will_tell f.network f.layout (board_start f.network.tables (start_from f.machine f.limits start)) b board h.kept
    (built_spells f start b h board) some.0 some.1 some.2.1.admitted (BuildReplies words l bytes) c two same
    (λ text told. built_replies (λ t one two three. TellsBuild (words_on t.machine one two three)) words l bytes m names
    b a _ text [] told)
