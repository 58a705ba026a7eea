-- What stands behind a word, by a test of the bytes at the front.
use Rattle.bn_netlist_laws.proofs.LineReadingLemmas.{word_passed, word_missing}

pub ruleset words = (word_passed, word_missing)
