-- The pieces of the text of a view, put together; and that it can be written.
use Rattle.std.specs.Prelude.{◌≡◌, ℕ, ◌<◌, List, [], ◌++◌, Some, slice_get}
use Rattle.std.specs.Option.{option_map}
use Rattle.std.proofs.Common.{arith, sym, ap, subst, ◌∙◌, append_assoc}
use Rattle.std.proofs.lemmas.Option.{slice_get-map, slice_get-get_or}
use Rattle.bn_machine.specs.Machine.{Program, start}
use Rattle.bn_machine.specs.Window.{anywhere}
use Rattle.bn_machine.specs.Outcome.{Limits}
use Rattle.bn_table.specs.Rows.{Named}
use Rattle.bn_bennett_laws.specs.declared.name.Name.TheVariants.{GoRight}
use Rattle.bn_bennett.specs.Printed.{translation_names, bennett_state_text}
use Rattle.bn_bennett.specs.Translation.{IsTranslation, Translation, name_of}
use Rattle.bn_bennett.specs.declared.translated.MachineState.{MachineState}
use Rattle.bn_bennett.specs.declared.translated.MachineState.TheVariants.{AtState, Within}
use Rattle.bn_boards.specs.declared.spelled.Spelled.{Spelled}
use Rattle.bn_boards.specs.Layouts.{IsExit, symbol_count_at}
use Rattle.bn_boards.specs.Flats.{Flat, IsAccepted, IsFlatOf}
use Rattle.bn_boards.proofs.LetterLemmas.{symbols_are}
use Rattle.bn_board.specs.Flattened.{Flattened, IsBoardKept}
use Rattle.bn_quad.specs.Names.{Naming}
use Rattle.bn_reply_machines.proofs.FitLemmas.{AreSymbols, run_fits, start_fits}
use Rattle.bn_reply_boards.specs.Shown.{HaveLetters}
use Rattle.bn_reply_boards.proofs.ShownLemmas.{line_within, shown_letters}
use Rattle.bn_view.specs.Viewed.{IsBoardFor, IsViewOf, MachineIsAt, ShowsMachine}
use Rattle.bn_view.specs.declared.layers.Layers.{Layers}
use Rattle.bn_reply_views.specs.Showing.{CanBeWritten, IsNamedState}
use Rattle.bn_reply_views.specs.Viewing.{MayShow}

-- five pieces one behind the other
pub five_pieces : (first a b d e g one two three four five : List ℕ) → first ≡ [] → one ≡ first ++ a → two ≡ one ++ b
    → three ≡ two ++ d → four ≡ three ++ e → five ≡ four ++ g
    → five ≡ a ++ (b ++ (d ++ (e ++ g)))
five_pieces first a b d e g one two three four five none h1 h2 h3 h4 h5 =
    h5 ∙ ap (λ x. x ++ g) (h4 ∙ ap (λ x. x ++ e) (h3 ∙ ap (λ x. x ++ d)
    (h2 ∙ ap (λ x. x ++ b) (h1 ∙ ap (λ x. x ++ a) none))))
    ∙ append_assoc ((a ++ b) ++ d) e g ∙ append_assoc (a ++ b) d (e ++ g) ∙ append_assoc a b (d ++ (e ++ g))

-- ---- the name of a state

pub state_name : (t : Named) (m : Translation) (names : Naming) → names ≡ translation_names t m
    → IsTranslation t.machine m → (a : ℕ) → a < m.machine.states
    → slice_get names.states a ≡ Some (bennett_state_text (name_of m a))
state_name t m names is translation a low =
    let states = translation.states in
    ap (λ (n : Naming). slice_get n.states a) is ∙ slice_get-map bennett_state_text m.names a
    ∙ ap (option_map bennett_state_text) (slice_get-get_or m.names a GoRight (omega arith))

-- ---- what can be written

word_symbols : (p : Program) (word : List ℕ) (l : Limits) (f : Flat) → IsAccepted p word l f → AreSymbols p word
word_symbols p word l f accepted = record { each = λ k low. accepted.letters k 0 low }

-- a state that the machine comes to has a name
named_state : (t : Named) (word : List ℕ) (l : Limits) (f : Flat) → IsAccepted t.machine word l f
    → (i : ℕ) (s : MachineState) → MachineIsAt t.machine word i s → IsNamedState t s
named_state t word l f accepted i (Within m) h = tt
named_state t word l f accepted i (AtState j) h =
    let machine = accepted.standard.machine in
    let fits = run_fits anywhere t.machine i (start t.machine word) h.0 machine
    (start_fits t.machine word machine (word_symbols t.machine word l f accepted)) h.1 in
    subst (λ s. s < t.machine.states) h.2 fits.state

letters_one : (p : Program) (word : List ℕ) (l : Limits) (f : Flat) → IsFlatOf p word l f
    → symbol_count_at f.layout 1 ≡ p.symbols
letters_one p word l f flat = ap (λ zs. symbol_count_at (record {
  limits = f.layout.limits;
  symbols = zs;
  states = f.layout.states;
  firsts = f.layout.firsts;
  awaited = f.layout.awaited;
}) 1) (symbols_are p word l f flat)

letters_three : (p : Program) (word : List ℕ) (l : Limits) (f : Flat) → IsFlatOf p word l f
    → symbol_count_at f.layout 3 ≡ p.symbols
letters_three p word l f flat = ap (λ zs. symbol_count_at (record {
  limits = f.layout.limits;
  symbols = zs;
  states = f.layout.states;
  firsts = f.layout.firsts;
  awaited = f.layout.awaited;
}) 3) (symbols_are p word l f flat)

module _ (t : Named) (m : Translation) (b : Flattened) (is : MayShow t m b) (kept : IsBoardKept b) where
  pub can_be_written : (v : Layers) → v.place ≡ b.config.place → v.state < m.machine.states
      → ((p : Program) (word : List ℕ) (l : Limits) (f : Flat) → IsBoardFor p word l f m b → IsViewOf f b.config v)
      → ((p : Program) (word : List ℕ) (l : Limits) (f : Flat) → IsBoardFor p word l f m b → ShowsMachine p word l m v)
      → CanBeWritten t m v
  can_be_written v place low views shows =
      let f = is.flat in
      let for_it = is.is_for in
      let view = views t.machine is.word is.limits f for_it in
      let machine = shows t.machine is.word is.limits f for_it in
      record {
        place = line_within b.net b.config kept.reached.good v.place place;
        exit = is.names b.config kept.reached.reaches v.exit (subst (λ x. IsExit x b.config.place v.exit) for_it.layout
            view.exit);
        state = low;
        machine = named_state t is.word is.limits f for_it.accepted v.machine_step v.machine machine.at;
        one = subst (λ (s : Spelled). HaveLetters t 1 s.one.cells) (sym view.board.tapes)
            (shown_letters t 1 f.layout _ (λ _. letters_one t.machine is.word is.limits f for_it.flat));
        three = subst (λ (s : Spelled). HaveLetters t 3 s.three.cells) (sym view.board.tapes)
            (shown_letters t 3 f.layout _ (λ _. letters_three t.machine is.word is.limits f for_it.flat));
      }
