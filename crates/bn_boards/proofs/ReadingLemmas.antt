-- What is read off a board, field by field.
use Rattle.std.specs.Prelude.{◌≡◌, ℕ, ◌<◌, Bool, List, All, length}
use Rattle.std.proofs.Common.{sym, subst, ◌∙◌}
use Rattle.bn_machine.specs.Machine.{Program}
use Rattle.bn_machine.specs.Outcome.{Limits}
use Rattle.bn_quad.specs.Quadruples.{Quadruples, quadruples_of}
use Rattle.bn_bennett_laws.specs.Stages.{IsSpelledBy}
use Rattle.bn_circuits.specs.Situations.{Situation}
use Rattle.bn_network.specs.Controls.{ControlState, symbol_count}
use Rattle.bn_network.specs.Moments.{HasLetters}
use Rattle.bn_boards.specs.Layouts.{Layout, IsLayout}
use Rattle.bn_boards.specs.Flats.{Flat, machine_of, IsFlatOf, IsAccepted}
use Rattle.bn_boards.specs.Builds.{Build, IsUniformNetwork}
use Rattle.bn_boards.specs.NetworkReads.{NetworkReads}
use Rattle.bn_boards.specs.Readings.{BoardReads, MomentsAgree}
use Rattle.bn_boards.proofs.NetworkReadLemmas.{networks-read}
use Rattle.bn_bennett.proofs.LawLemmas.{translations_are_uniform as uniform}
use Rattle.bn_bennett.proofs.Machines.{some_symbols}
use Rattle.bn_bennett.specs.Translation.{Translation, IsTranslation}
use Rattle.bn_bennett_laws.specs.Stages.{IsStandardMachine}
use Rattle.bn_machine.specs.Machine.{IsMachine}
use Rattle.bn_boards.specs.LayoutLaws.{BoardsRead}
use Rattle.bn_boards.proofs.LetterLemmas.{tape_letters}

-- what holds of a machine and a layout that are given by their parts holds of any with these numbers of symbols
pub of_parts : (zs : List ℕ) (l : Limits) (names : List ControlState) (P : Quadruples → Layout → Type 0)
    → ((m : Quadruples) (b : Layout) → P (quadruples_of m.rules m.states zs)
    (record { limits = l; symbols = zs; states = length names; firsts = b.firsts; awaited = b.awaited }))
    → (m : Quadruples) (b : Layout) → m.symbols ≡ zs → IsLayout m l names b → P m b
of_parts zs l names P by_parts m b symbols kept =
    let machine_is : m ≡ quadruples_of m.rules m.states zs =
    λ i. record { rules = m.rules; states = m.states; symbols = symbols i } in
    let letters_same : b.symbols ≡ zs = kept.symbols ∙ symbols in
    let layout_is : b
    ≡ record { limits = l; symbols = zs; states = length names; firsts = b.firsts; awaited = b.awaited } = λ i. record {
      limits = kept.limits i;
      symbols = letters_same i;
      states = kept.states i;
      firsts = b.firsts;
      awaited = b.awaited;
    } in
    subst (λ v. P v b) (sym machine_is) (subst (P (quadruples_of m.rules m.states zs)) (sym layout_is) (by_parts m b))

-- each tape of a translation has a symbol
pub has_letters : (p : Program) (t : Translation) → IsMachine p → IsTranslation p t → HasLetters t.machine
has_letters p t machine is tape h =
    subst (λ zs. 0 < symbol_count (record { rules = t.machine.rules; states = t.machine.states; symbols = zs }) tape)
    (sym is.symbols)
    (tape_letters p t.machine (some_symbols p machine) tape h)

-- the letters of a word are tape 1's
pub word_low : (p : Program) (t : Translation) (word : List ℕ) → IsTranslation p t → IsSpelledBy p word
    → All (λ s. s < symbol_count t.machine 1) word
word_low p t word is all =
    subst (λ zs. All (λ s. s < symbol_count (record {
      rules = t.machine.rules;
      states = t.machine.states;
      symbols = zs;
    }) 1) word) (sym is.symbols) all

-- a flat's network is one of a uniform machine
pub uniform_of : (p : Program) (word : List ℕ) (l : Limits) (f : Flat) → IsFlatOf p word l f → IsStandardMachine p
    → IsUniformNetwork (machine_of f) l f.names f.network
uniform_of p word l f flat standard = record {
  machine = flat.translation.machine;
  uniform = (uniform p f.translation standard flat.translation).0;
  symbols = has_letters p f.translation standard.machine flat.translation;
  numbering = flat.numbering;
  network = flat.is_network;
}

-- ---- the readings of a flat

pub flat-reads : (p : Program) (f : Flat) → IsFlatOf p f.word f.limits f → IsAccepted p f.word f.limits f
    → (test : Situation → Bool) × BoardReads f test
flat-reads p f flat accepted = networks-read (machine_of f) f.limits f.word f.names f.network f.layout
    (uniform_of p f.word f.limits f flat accepted.standard) flat.is_layout
    (word_low p f.translation f.word flat.translation accepted.letters)

-- the board's test of moments and the network's agree
pub agreed : (f : Build) (word : List ℕ) (test : Situation → Bool)
    → NetworkReads f.machine f.limits word f.names f.network f.layout test → MomentsAgree f test
agreed f word test read = record { between = read.between; amid = read.amid; loose = read.at_loose }

-- a flat's own word and limits
pub own_flat : (p : Program) (word : List ℕ) (l : Limits) (f : Flat) → IsFlatOf p word l f
    → IsFlatOf p f.word f.limits f
own_flat p word l f flat = subst (λ w. IsFlatOf p w f.limits f) (sym flat.word_is)
    (subst (λ x. IsFlatOf p word x f) (sym flat.limits_are) flat)

-- likewise for what may be compiled
pub own_accepted : (p : Program) (word : List ℕ) (l : Limits) (f : Flat) → IsFlatOf p word l f → IsAccepted p word l f
    → IsAccepted p f.word f.limits f
own_accepted p word l f flat accepted = subst (λ w. IsAccepted p w f.limits f) (sym flat.word_is)
    (subst (λ x. IsAccepted p word x f) (sym flat.limits_are) accepted)

-- for each flat
pub boards-read : BoardsRead
boards-read p word l f flat accepted = flat-reads p f (own_flat p word l f flat) (own_accepted p word l f flat accepted)
