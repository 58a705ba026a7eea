-- How passing over a word comes out.
use Rattle.bn_netlist_laws.proofs.LineReadingLemmas.{word_passed, word_missing}

pub ruleset words = (word_passed, word_missing)
