-- What is read off the board of a machine, from what is read off any network; and the word at the start.
use Rattle.std.proofs.Common.{◌∙◌}
use Rattle.bn_network.specs.Networks.{network_start}
use Rattle.bn_boards.specs.Layouts.{spelled_config}
use Rattle.bn_boards.specs.Flats.{machine_of, flat_start}
use Rattle.bn_boards.proofs.ReadingLemmas.{own_flat, own_accepted, has_letters, word_low, uniform_of}
use Rattle.bn_boards.specs.NetworkMoments.{StartsSpellWords, machine_start}
use Rattle.bn_network_laws.proofs.FirstLemmas.{start_shown}
use Rattle.bn_network_laws.proofs.ShownLemmas.{all_cells}
use Rattle.bn_boards.proofs.NetworkReadLemmas.{networks-read}

-- ---- the word at the start

pub starts-spell : StartsSpellWords
starts-spell p word l f is may =
    let flat = own_flat p word l f is in
    let accepts = own_accepted p word l f is may in
    let low = word_low p f.translation f.word flat.translation accepts.letters in
    let read = networks-read (machine_of f) f.limits f.word f.names f.network f.layout
    (uniform_of p f.word f.limits f flat accepts.standard) flat.is_layout low in
    let shown = start_shown (machine_of f) f.limits f.word (has_letters p f.translation accepts.standard.machine
    flat.translation) low accepts.fits in
    let own = read.1.spells (network_start (machine_of f) f.limits f.word) (flat_start f)
    (machine_start (machine_of f) f.word) read.1.starts (all_cells (machine_of f) f.limits _ _ shown) in
    own ∙ (λ i. spelled_config (is.limits_are i) (machine_start (machine_of f) (is.word_is i)))
