-- What is built of the table of Bennett's machine is what the one-tape machine is compiled to.
use Rattle.std.specs.Prelude.{◌≡◌, ℕ, ◌<◌, ◌≤◌, List, [], ◌∷◌, All, length, map, slice_index, slice_index_or, refl}
use Rattle.std.proofs.Common.{zero, suc, arith, sym, ap, subst, ◌∙◌, get_or}
use Rattle.std.proofs.lemmas.List.{get_or-map, length-map}
use Rattle.bn_circuits.specs.declared.place.Place.{Place}
use Rattle.bn_machine.specs.Outcome.{Limits}
use Rattle.bn_quad.specs.Calls.{IsUniformMachine}
use Rattle.bn_quad.specs.Names.{Naming}
use Rattle.bn_quad.specs.Quadruples.{Quadruples}
use Rattle.bn_qtable.specs.Reading.{ReadsQuadruples}
use Rattle.bn_qtable.specs.Rows.{IsQuadTableOf, table_of}
use Rattle.bn_qtable.specs.TapeWords.{Letters, One}
use Rattle.bn_qtable.proofs.Writing.{entries-back}
use Rattle.bn_table.specs.Laws.{TablesAreMachines}
use Rattle.bn_table.specs.Rows.{FitsTable, IsTable, Named}
use Rattle.bn_bennett.specs.Laws.{TranslationsAreTables, TranslationsAreUniform, TranslationsHaveNames}
use Rattle.bn_bennett.specs.Printed.{one_byte, translation_names}
use Rattle.bn_network.specs.Networks.{IsNetwork, network_start}
use Rattle.bn_network.specs.Starts.{start_from, words_on}
use Rattle.bn_network.specs.declared.limits.TheConstants.{MOST_SYMBOLS}
use Rattle.bn_boards.specs.Boards.{board_start}
use Rattle.bn_boards.specs.Flats.{Flat, flat_start}
use Rattle.bn_boards.specs.Layouts.{IsLayout}
use Rattle.bn_boards.proofs.NetworkReadLemmas.{networks-read}
use Rattle.bn_boards.specs.Builds.{IsBuild}
use Rattle.bn_boards.proofs.StartLemmas.{one-word}
use Rattle.bn_reply.specs.TableReply.{ReadsStandard, WordReplies, foreign, spelled}
use Rattle.bn_reply.specs.Words.{IsLetterSymbol, IsSpelledBy}
use Rattle.bn_reply.specs.declared.status.Status.TheVariants.{Done}
use Rattle.bn_reply.proofs.SettledLemmas.{standard_tells}
use Rattle.bn_reply.proofs.TableLemmas.{reads_table}
use Rattle.bn_reply_relations.specs.CompileReply.{TellsBoard, TellsStart}
use Rattle.bn_reply_relations.specs.Windows.{BoardReplies, ComesTo, board, large, long}
use Rattle.bn_reply_relations.proofs.WindowLemmas.{standard_machine}
use Rattle.bn_reply_machines.specs.NamedWords.{IsNamedBy, names_of}
use Rattle.bn_reply_machines.specs.QuadReply.{passes}
use Rattle.bn_reply_machines.specs.UniformReply.{uniform}
use Rattle.bn_reply_machines.specs.WordsReply.{named}
use Rattle.bn_reply_builds.specs.BennettBuilds.{BoardsAreOne, CompilingIsBuilding, IsOneBoard}
use Rattle.bn_boards.specs.Flats.{build_of}
use Rattle.bn_reply_builds.specs.BuildReply.{BuildReplies, IsBuiltFor, IsUncrowded, built}
use Rattle.bn_reply_builds.specs.Buildable.{IsBuildable}
use Rattle.bn_reply_builds.proofs.TableFacts.{buildable}
use Rattle.bn_reply_machines.specs.BennettReply.{bennett_text}
use Rattle.bn_reply_machines.proofs.BennettLemmas.{translated_text}

-- ---- words

-- the bytes of a word are the names of its symbols
letters_named : (t : Named) (symbols : List ℕ) → All (IsLetterSymbol t) symbols
    → map (λ byte. byte ∷ []) (map (λ s. slice_index t.letters s) symbols) ≡ names_of (map one_byte t.letters) symbols
letters_named t [] known = refl
letters_named t (s ∷ ss) known =
    let low : s < length t.letters = (known 0 s (omega arith)).known in
    let here : slice_index_or (map one_byte t.letters) s [] ≡ one_byte (slice_index t.letters s) =
    get_or-map one_byte t.letters s 0 [] low in
    let rest = letters_named t ss (λ k d inside. known (suc k) d (omega arith)) in
    λ i. sym here i ∷ rest i

word_named : (t : Named) (word symbols : List ℕ) → IsSpelledBy t word symbols
    → IsNamedBy (map one_byte t.letters) (map (λ byte. byte ∷ []) word) symbols
word_named t word symbols h = record {
  spelled = ap (map (λ byte. byte ∷ [])) h.letters ∙ letters_named t symbols h.symbols_known;
  symbols_known = λ k d inside.
      let own = h.symbols_known k d inside in
      record {
        nonblank = own.letter;
        known = subst (λ n. get_or symbols k d < n) (sym (length-map t.letters one_byte)) own.known;
      };
}

nothing_named : (names : List (List ℕ)) → IsNamedBy names [] []
nothing_named names = record { spelled = refl; symbols_known = λ k d inside. absurd (omega arith) }

-- ---- tables

module _ (machines : TablesAreMachines) (tables : TranslationsAreTables) (named_so : TranslationsHaveNames)
    (even : TranslationsAreUniform) (bytes : List ℕ) (t : Named) (reads : ReadsStandard bytes t) where
  table : IsTable t
  table = reads_table bytes t reads.reads

  fits : FitsTable t.machine
  fits = (machines t table).1

  module _ (symbols : List ℕ) (l : Limits) (f : Flat) (comes : ComesTo t.machine l symbols f) where
    abbrev m : Quadruples
    m = f.translation.machine

    abbrev names : Naming
    names = translation_names t f.translation

    uniform_machine : IsUniformMachine m
    uniform_machine =
        (even t.machine f.translation (standard_machine machines bytes t reads).0 comes.flat.translation).0

    read : ReadsQuadruples (bennett_text t) (table_of m names)
    read =
        let machine = (machines t table).0 in
        let is = comes.flat.translation in
        let own = tables t f.translation machine table fits is in
        let rows = entries-back m names (bennett_text t) is.machine (named_so t f.translation machine table fits is)
        (sym (translated_text t f.translation is)) in
        subst (λ entries. IsQuadTableOf entries (table_of m names)) (sym rows) own

    can_build : IsBuildable m
    can_build = buildable (bennett_text t) (table_of m names) read uniform_machine

    uncrowded : IsUncrowded m
    uncrowded zero tape = absurd (let low = tape.low in omega arith)
    uncrowded (suc zero) tape = subst (λ zs. slice_index zs 0 ≤ MOST_SYMBOLS) (sym comes.flat.translation.symbols)
        (let few = fits.symbols in omega (arith, few))
    uncrowded (suc (suc zero)) tape = subst (λ zs. slice_index zs 1 ≤ MOST_SYMBOLS) (sym comes.flat.translation.symbols)
        (let few = fits.quints in omega (arith, few))
    uncrowded (suc (suc (suc zero))) tape = subst (λ zs. slice_index zs 2 ≤ MOST_SYMBOLS)
        (sym comes.flat.translation.symbols) (let few = fits.symbols in omega (arith, few))
    uncrowded (suc (suc (suc (suc k)))) tape = absurd (let high = tape.high in omega arith)

    is_build : IsBuild (build_of f)
    is_build = record {
      is_network = record {
        machine = can_build.valid;
        uniform = uniform_machine;
        symbols = can_build.letters;
        numbering = comes.flat.numbering;
        network = subst (λ w. IsNetwork m w f.names f.network) (sym comes.flat.limits_are) comes.flat.is_network;
      };
      is_board = comes.flat.is_board;
      is_layout = subst (λ w. IsLayout m w f.names f.layout) (sym comes.flat.limits_are) comes.flat.is_layout;
    }

    is_built : IsBuiltFor m l (build_of f)
    is_built =
        let whole = (networks-read m f.limits [] f.names f.network f.layout is_build.is_network is_build.is_layout
        (λ k d low. absurd (omega arith))).1.whole in
        let few = comes.few in
        record { machine = refl; limits = comes.flat.limits_are; build = is_build; few = omega (arith, whole, few) }

    starts : board_start f.network.tables (start_from m f.limits (words_on m symbols [] [])) ≡ flat_start f
    starts = ap (board_start f.network.tables)
        ((one-word m f.limits symbols).1 ∙ ap (network_start m f.limits) (sym comes.flat.word_is))

    one_board : IsOneBoard t l symbols f
    one_board = record { reads = read; built = is_built; start = starts }

  -- ---- the text

  module _ (word : List ℕ) (l : Limits) (text : List ℕ) (told : List Place) where
    written : (symbols : List ℕ) → IsSpelledBy t word symbols → (f : Flat) → ComesTo t.machine l symbols f
        → TellsStart f Done text told → BuildReplies (One (Letters word)) l (bennett_text t) Done text told
    written symbols spells f comes tells =
        let machine = uniform_machine symbols l f comes in
        let again : TellsBoard f.network f.layout (board_start f.network.tables
        (start_from f.translation.machine f.limits
        (words_on f.translation.machine symbols [] []))) Done text told =
        subst (λ c. TellsBoard f.network f.layout c Done text told) (sym (starts symbols l f comes)) tells in
        passes (table_of f.translation.machine (translation_names t f.translation)) (read symbols l f comes)
        machine.deterministic machine.reversible
        (uniform machine.uniform
        (named symbols (word_named t word symbols spells)
        (named [] (nothing_named _) (named [] (nothing_named _)
        (built (uncrowded symbols l f comes)
        (record { on_one = comes.fits; on_two = omega arith; on_three = omega arith })
        (build_of f) (is_built symbols l f comes) again)))))

    compiled : WordReplies (BoardReplies TellsStart t.machine l) t word Done text told
        → BuildReplies (One (Letters word)) l (bennett_text t) Done text told
    compiled (foreign p why e n silent) = absurd (cc)
    compiled (spelled symbols spells (long far e n silent)) = absurd (cc)
    compiled (spelled symbols spells (large fits count counts great e n silent)) = absurd (cc)
    compiled (spelled symbols spells (board f comes tells)) = written symbols spells f comes tells

module _ (machines : TablesAreMachines) (tables : TranslationsAreTables) (named_so : TranslationsHaveNames)
    (even : TranslationsAreUniform) where
  pub boards-one : BoardsAreOne
  boards-one bytes word l t symbols f given comes =
      one_board machines tables named_so even bytes t given.reads symbols l f comes

  pub compiling-builds : CompilingIsBuilding
  compiling-builds bytes word l text told reply t reads =
      compiled machines tables named_so even bytes t reads word l text told
      (standard_tells (λ u. WordReplies (BoardReplies TellsStart u.machine l) u word) bytes t Done text told reads
      reply)
