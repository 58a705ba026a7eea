-- The board of a machine with other numbers tells of the machine.
use Rattle.std.specs.Prelude.{◌≡◌, ℕ, ◌<◌, ℤ, pos, negsuc, List, [], ◌∷◌, map, Some, refl}
use Rattle.std.proofs.Common.{zero, suc, sym, ap, subst, ◌∙◌, get_or}
use Rattle.std.proofs.lemmas.Option.{get_or_from_slice_get}
use Rattle.bn_lists.specs.Lists.{nth}
use Rattle.bn_machine.specs.Tape.{cell, word_tape, letter_at}
use Rattle.bn_machine.proofs.TapeLemmas.{cell-word}
use Rattle.bn_quad.specs.Quadruples.{Configuration, Quadruples, initial_of}
use Rattle.bn_bennett_laws.specs.Stages.{rooms_of}
use Rattle.bn_bennett_laws.proofs.NumberLemmas.{run_of_goes}
use Rattle.bn_network.specs.Controls.{symbol_count}
use Rattle.bn_renumbering.specs.Renumbering.{IsConfigurationOf, IsRenumberedTape}
use Rattle.bn_renumbering.proofs.RunLemmas.{renumberings-run, three_of}
use Rattle.bn_renumbering.proofs.UniformLemmas.{initial_renumbered}
use Rattle.bn_circuits.specs.Situations.{Situation}
use Rattle.bn_circuits.specs.declared.config.Config.{Config}
use Rattle.bn_boards.proofs.NetworkReadLemmas.{networks-read}
use Rattle.bn_boards.specs.Builds.{Build, IsBuild, IsStart}
use Rattle.bn_boards.proofs.ComingLemmas.{initial_low}
use Rattle.bn_boards.proofs.ConverseLemmas.{builds-tell}
use Rattle.bn_boards.proofs.StartingLemmas.{no_letters as none_low}
use Rattle.bn_reply_builds.specs.DriveLaws.{RenumberedBuildsTell, WordsAreRenumbered}

count_is : (m : Quadruples) (n z : ℕ) → nth m.symbols (suc n) ≡ Some z → symbol_count m (suc n) ≡ z
count_is m n z at = get_or_from_slice_get m.symbols n z _ at

start_within : (f : Build) → IsBuild f → (c : Configuration ℕ) (s : Situation) (at_start : Config)
    → IsStart f c s at_start → IsConfigurationOf f.machine c
start_within f is c s at_start start =
    let read = networks-read f.machine f.limits [] f.names f.network f.layout is.is_network is.is_layout
    (none_low (symbol_count f.machine 1)) in
    record {
      state = subst (λ a. a < f.machine.states) (sym start.initial)
          (initial_low f is read.0 read.1.tells f.machine.rules refl is.is_network.machine.some);
      one = λ z at q. subst (λ v. cell c.one q < v) (count_is f.machine 0 z at) (start.shows.one.shown.symbols q);
      two = λ z at q. subst (λ v. cell c.two q < v) (count_is f.machine 1 z at) (start.shows.two.shown.symbols q);
      three = λ z at q. subst (λ v. cell c.three q < v) (count_is f.machine 2 z at) (start.shows.three.shown.symbols q);
    }

pub renumbered-tell : RenumberedBuildsTell
renumbered-tell k f m is renumbering apart c x s at_start start alike t z run stuck room =
    let told = builds-tell f is c s at_start start t z run stuck room in
    let found = (renumberings-run k f.machine m is.is_network.machine renumbering apart
    (rooms_of f.limits) told.steps c x told.exit (start_within f is c s at_start start) alike).0 told.final
    (record {
      run = run_of_goes (rooms_of f.limits) f.machine told.steps c told.final told.ends.runs;
      ends = told.ends.ends;
    }) in
    record { told = told; final = found.0; ends = found.1; alike = found.2 }

-- ---- words

map_or : (g : ℕ → ℕ) → g 0 ≡ 0 → (word : List ℕ) (i : ℕ) → get_or (map g word) i 0 ≡ g (get_or word i 0)
map_or g blank [] i = sym blank
map_or g blank (a ∷ word) zero = refl
map_or g blank (a ∷ word) (suc i) = map_or g blank word i

letter_renumbered : (g : ℕ → ℕ) → g 0 ≡ 0 → (word : List ℕ) (q : ℤ) → letter_at (map g word) q ≡ g (letter_at word q)
letter_renumbered g blank word (pos zero) = sym blank
letter_renumbered g blank word (pos (suc i)) = map_or g blank word i
letter_renumbered g blank word (negsuc i) = sym blank

word_renumbered : (g : ℕ → ℕ) → g 0 ≡ 0 → (word : List ℕ) → IsRenumberedTape g (word_tape word) (word_tape (map g word))
word_renumbered g blank word =
    record {
      head = refl;
      cells = λ q. cell-word (map g word) q ∙ letter_renumbered g blank word q ∙ ap g (sym (cell-word word q));
    }

pub words-renumbered : WordsAreRenumbered
words-renumbered k p m machine renumbering one two three =
    let counts = three_of p.symbols machine.tapes in
    record {
      state = ap initial_of (sym renumbering.rules) ∙ initial_renumbered k p.rules machine.some;
      one = word_renumbered k.one (renumbering.one counts.0 (ap (λ (zs : List ℕ). nth zs 1) counts.3)).blank one;
      two = word_renumbered k.two (renumbering.two counts.1 (ap (λ (zs : List ℕ). nth zs 2) counts.3)).blank two;
      three = word_renumbered k.three (renumbering.three counts.2 (ap (λ (zs : List ℕ). nth zs 3) counts.3)).blank
          three;
    }
