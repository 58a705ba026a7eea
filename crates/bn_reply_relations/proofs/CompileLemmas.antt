-- Texts that are compiled: of two words, and stepped and taken back.
use Rattle.std.specs.Prelude.{◌≡◌, ℕ, ◌+◌, List, length, slice_get, refl}
use Rattle.std.proofs.Common.{arith, sym, ap, subst, ◌∙◌}
use Rattle.std.proofs.lemmas.List.{length-replicate}
use Rattle.bn_circuits.specs.Circuits.{Circuit, IsFirst}
use Rattle.bn_circuits.proofs.RunLemmas.{Reaches-IsConfig, back_stops, run_makes}
use Rattle.bn_circuits.specs.Stepping.{back, places, places_back, run}
use Rattle.bn_circuits.specs.declared.place.Place.{Place}
use Rattle.bn_circuits.specs.declared.config.Config.{Config}
use Rattle.bn_circuits.proofs.RunPartLemmas.{places-of_runs, runs-undo_in_part}
use Rattle.bn_element.specs.Rotary.{rotary}
use Rattle.bn_machine.specs.Outcome.{Limits}
use Rattle.bn_netlist_laws.proofs.VersionLemmas.{spellings-move}
use Rattle.bn_netlist_laws.specs.Spelling.{Spelling, IsTextOf, Spelled, circuit_of, moved_to}
use Rattle.bn_netlist_laws.specs.declared.version.Version.{Version}
use Rattle.bn_netlist_laws.specs.declared.version.Version.TheVariants.{Two}
use Rattle.bn_netlist_laws.proofs.EntryLemmas.{has-text}
use Rattle.bn_table.specs.Laws.{TablesAreMachines}
use Rattle.bn_table.specs.Rows.{Named}
use Rattle.bn_boards.specs.Boards.{size}
use Rattle.bn_boards.specs.Flats.{Flat}
use Rattle.bn_boards.specs.LayoutLaws.{WordsDifferInCells, WordsShareBoards}
use Rattle.bn_reply_relations.specs.CircuitReply.{BackReplies, CircuitIsSettled, StepReplies, walked}
use Rattle.bn_machine.specs.Standard.{IsStandard}
use Rattle.bn_reply.specs.Words.{IsSpelledBy}
use Rattle.bn_reply.specs.TableReply.{JudgedReplies, ReadsStandard, WordReplies, faulty, fit, foreign, read, spelled}
use Rattle.bn_reply.specs.TableReply.{unfit}
use Rattle.bn_reply.specs.declared.status.Status.{Status}
use Rattle.bn_reply.specs.declared.status.Status.TheVariants.{Done}
use Rattle.bn_reply.proofs.TableLemmas.{one_table}
use Rattle.bn_reply_relations.specs.Windows.{BoardReplies, ComesTo, board, large, long}
use Rattle.bn_reply_relations.specs.CompileReply.{CompileReplies, IsFlatSpelling, TellsStart}
use Rattle.bn_reply_relations.specs.CompileLaws.{CompiledTextsStepBack, StepsBack, TextsDifferInWords}
use Rattle.bn_reply_relations.specs.ToldRuns.{IsGiven}
use Rattle.bn_reply_relations.proofs.SpelledLemmas.{entered_once, left_once, target_of}
use Rattle.bn_reply_relations.proofs.WindowLemmas.{given_accepted, standard_machine}

-- ---- what was compiled

-- a board, and its text
pub record IsCompiled (bytes word : List ℕ) (l : Limits) (text : List ℕ) : Type 0 where
  pub table : Named
  pub symbols : List ℕ
  pub reads : ReadsStandard bytes table
  pub spells : IsSpelledBy table word symbols
  pub flat : Flat
  pub comes : ComesTo table.machine l symbols flat
  pub tells : Spelling
  pub board_is : IsFlatSpelling flat tells
  pub is_text : Spelled Two tells text

pub compiled : (bytes word : List ℕ) (l : Limits) (text : List ℕ) (told : List Place)
    → CompileReplies word l bytes Done text told → IsCompiled bytes word l text
compiled bytes word l text told (faulty h e n) = absurd (cc)
compiled bytes word l text told (read t reads answer) = by_machine answer
  where
    by_board : IsStandard t.machine.quints → (symbols : List ℕ) → IsSpelledBy t word symbols
        → BoardReplies TellsStart t.machine l symbols Done text told →
        IsCompiled bytes word l text
    by_board standard symbols is (long far h e n) = absurd (cc)
    by_board standard symbols is (large fits count counts great h e n) = absurd (cc)
    by_board standard symbols is (board f comes a) =
        record {
          table = t;
          symbols = symbols;
          reads = record { reads = reads; standard = standard };
          spells = is;
          flat = f;
          comes = comes;
          tells = a.spelling;
          board_is = a.board;
          is_text = a.spelled;
        }

    by_word : IsStandard t.machine.quints → WordReplies (BoardReplies TellsStart t.machine l) t word Done text told
        → IsCompiled bytes word l text
    by_word standard (foreign p h told_is e n) = absurd (cc)
    by_word standard (spelled symbols is answer) = by_board standard symbols is answer

    by_machine : JudgedReplies (WordReplies (BoardReplies TellsStart t.machine l) t word) t Done text told
        → IsCompiled bytes word l text
    by_machine (unfit h e n) = absurd (cc)
    by_machine (fit standard answer) = by_word standard answer

-- ---- two words

pub texts-differ : TablesAreMachines → WordsShareBoards → WordsDifferInCells → TextsDifferInWords
texts-differ machines share cells bytes word other l text second told heard small a b =
    let h = compiled bytes word l text told a in
    let k = compiled bytes other l second heard b in
    let tables : k.table ≡ h.table = one_table bytes k.table h.table k.reads.reads h.reads.reads in
    let given : IsGiven bytes word l h.table h.symbols = record { reads = h.reads; spelled = h.spells; small = small }
    in
    let also : IsGiven bytes other l h.table k.symbols = subst (λ (t : Named). IsGiven bytes other l t k.symbols) tables
    (record { reads = k.reads; spelled = k.spells; small = small }) in
    let comes : ComesTo h.table.machine l k.symbols k.flat = subst (λ (t : Named). ComesTo t.machine l k.symbols k.flat)
    tables k.comes in
    let p = h.table.machine in
    let both = share p h.symbols k.symbols l h.flat k.flat (standard_machine machines bytes h.table h.reads).0
    h.comes.flat comes.flat in
    let bars = cells p h.symbols k.symbols l h.flat k.flat h.comes.flat comes.flat
    (given_accepted machines bytes word l h.table h.symbols h.flat given h.comes)
    (given_accepted machines bytes other l h.table k.symbols k.flat also comes) in
    let sizes : size h.flat.network.tables ≡ size k.flat.network.tables =
    sym (length-replicate (size h.flat.network.tables) rotary)
    ∙ ap (λ ts. length ts) (sym h.comes.flat.is_board.tables ∙ both.0.tables ∙ comes.flat.is_board.tables)
    ∙ length-replicate (size k.flat.network.tables) rotary in
    record {
      table = h.table;
      symbols = h.symbols;
      given = given;
      flat = h.flat;
      comes = h.comes;
      one = h.tells;
      two = k.tells;
      first = h.is_text;
      other = k.is_text;
      differ = record {
        elements = h.board_is.elements ∙ sizes ∙ sym k.board_is.elements;
        targets = λ from. target_of h.flat p h.symbols l h.comes.flat h.tells h.board_is from ∙ both.0.targets from
            ∙ sym (target_of k.flat p k.symbols l comes.flat k.tells k.board_is from);
        start = entered_once h.tells.start k.tells.start (h.board_is.start ∙ bars.0 ∙ sym k.board_is.start);
        end = left_once h.tells.end k.tells.end (h.board_is.end ∙ both.2 ∙ sym k.board_is.end);
        place = ap (λ (c : Config). c.place) h.board_is.config ∙ bars.0
            ∙ sym (ap (λ (c : Config). c.place) k.board_is.config);
        steps = ap (λ (c : Config). c.steps) h.board_is.config ∙ sym (ap (λ (c : Config). c.steps) k.board_is.config);
        bars = λ e apart. ap (λ (c : Config). slice_get c.states e) h.board_is.config
            ∙ bars.1 e (λ j c low few. apart c j low few)
            ∙ sym (ap (λ (c : Config). slice_get c.states e) k.board_is.config);
      };
    }

-- ---- steps

module _ (settled : CircuitIsSettled) (v : Version) (s : Spelling) (text : List ℕ) (is : Spelled v s text)
    (fresh : s.config.steps ≡ 0) where
  abbrev whole_circuit : Circuit
  whole_circuit = circuit_of s

  -- after n steps
  abbrev stepped : ℕ → Config
  stepped n = run whole_circuit s.config n

  -- the text after n steps
  stepped-text : (n : ℕ) → (after : List ℕ) × Spelled v (moved_to s (stepped n)) after
  stepped-text n =
      let made = run_makes whole_circuit s.config n in
      has-text v (moved_to s (stepped n)) (spellings-move v s (stepped n) is.admitted
      (Reaches-IsConfig whole_circuit is.admitted.circuit made.made s.config (stepped n) is.admitted.config
      made.reaches))

  -- what `step` answers
  step_is : (n : ℕ) (a : Status) (middle : List ℕ) (told : List Place) → StepReplies n text a middle told →
      (middle ≡ (stepped-text n).0) × (told ≡ places whole_circuit n s.config)
  step_is n a middle told reply =
      let one = (settled n text).0.one a Done middle (stepped-text n).0 told (places whole_circuit n s.config) reply
      (walked (record { version = v; spelling = s; spelled = is; written = (stepped-text n).1.is_text; places = refl })
      refl) in
      (one.texts, one.places)

  -- and `back`, of a text that was stepped: the text of the configuration to which the circuit goes back
  back_is : (n m : ℕ) (b : Status) (middle last : List ℕ) (heard : List Place) (d : Config) (before : List ℕ)
      → back whole_circuit (stepped n) m ≡ d
      → Spelled v (moved_to s d) before → middle ≡ (stepped-text n).0 → BackReplies m middle b last heard
      → last ≡ before
  back_is n m b middle last heard d before gone shown same reply =
      let here : BackReplies m (stepped-text n).0 b last heard =
      subst (λ bytes. BackReplies m bytes b last heard) same reply in
      let written : IsTextOf v (moved_to s (back whole_circuit (stepped n) m)) before =
      subst (λ c. IsTextOf v (moved_to s c) before) (sym gone) shown.is_text in
      ((settled m (stepped-text n).0).1.one b Done last before heard (places_back whole_circuit m (stepped n)) here
      (walked (record {
        version = v;
        spelling = moved_to s (stepped n);
        spelled = (stepped-text n).1;
        written = written;
        places = refl;
      }) refl)).texts

  -- no step leads to the start
  first_here : IsFirst whole_circuit s.config
  first_here c goes = let steps = goes.steps in omega arith

  pub steps_back : StepsBack text
  steps_back = record {
    whole = λ e a b middle last told heard step reply.
        let made = run_makes whole_circuit s.config e in
        let start : back whole_circuit (stepped e) e ≡ s.config =
        back_stops whole_circuit is.admitted.circuit made.made e s.config
        (stepped e) is.admitted.config made.reaches made.within (λ _. first_here) in
        back_is e e b middle last heard s.config text start is (step_is e a middle told step).0 reply;
    part = λ r n a b c middle last front told heard some step count reply short.
        let all = places-of_runs whole_circuit (r + n) s.config in
        let told_is = (step_is (r + n) a middle told step).1 in
        let made : all.count ≡ r + n = sym all.all ∙ ap (λ (ps : List Place). length ps) (sym told_is) ∙ count in
        let there : back whole_circuit (stepped (r + n)) n ≡ stepped r =
        runs-undo_in_part whole_circuit is.admitted.circuit n r all.count s.config (stepped (r + n)) made all.reaches in
        back_is (r + n) n b middle last heard (stepped r) (stepped-text r).0 there (stepped-text r).1
        (step_is (r + n) a middle told step).0 reply
        ∙ sym (step_is r c front some short).0;
  }

pub compiled_texts-step_back : CircuitIsSettled → CompiledTextsStepBack
compiled_texts-step_back settled bytes word l text told a =
    let h = compiled bytes word l text told a in
    let fresh : h.tells.config.steps ≡ 0 = ap (λ (c : Config). c.steps) h.board_is.config in
    steps_back settled Two h.tells text h.is_text fresh
