-- A build starts with each configuration that stands in its window.
use Rattle.std.specs.Prelude.{refl}
use Rattle.bn_network.specs.Starts.{words_on}
use Rattle.bn_network_laws.proofs.FirstLemmas.{begin_first}
use Rattle.bn_network_laws.proofs.StartsLemmas.{inputs-fit}
use Rattle.bn_boards.proofs.StartsLemmas.{shows, start-stands}
use Rattle.bn_boards.specs.Laws.{BuildsStartAnywhere, BuildsStartWithWords, OneWordStarts, WordsFit}

pub builds-start-anywhere : BuildsStartAnywhere
builds-start-anywhere f is c initial fits =
    let net = is.is_network in
    record {
      initial = initial;
      waits = record { number = 0; is = refl; named = begin_first f.machine f.names net.numbering };
      place = refl;
      shows = shows f.machine f.limits f.network c fits;
      stands = start-stands f.machine f.limits f.names f.network c net.numbering net.network fits;
      fresh = refl;
    }

pub words-fit : WordsFit
words-fit f is one two three inputs = inputs-fit f.machine f.limits is.is_network.symbols one two three inputs

pub builds-start-words : BuildsStartWithWords
builds-start-words f is one two three inputs =
    builds-start-anywhere f is (words_on f.machine one two three) refl (words-fit f is one two three inputs)

pub one-word : OneWordStarts
one-word m l word = (refl, refl)
