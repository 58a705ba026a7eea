-- The machine of a translation within the limits of tables meets the control's condition.
use Rattle.std.specs.Prelude.{length}
use Rattle.std.proofs.Common.{sym, ap, ◌∙◌}
use Rattle.std.proofs.lemmas.List.{length-map}
use Rattle.bn_bennett_laws.specs.List.{bennett}
use Rattle.bn_bennett_laws.specs.Renamed.{renamed}
use Rattle.bn_bennett_laws.proofs.Counts.{list_counts_names, list_has_length}
use Rattle.bn_bennett.specs.Translation.{name_of}
use Rattle.bn_bennett.proofs.Counting.{each_mentioned, numbers_states}
use Rattle.bn_bennett.proofs.Machines.{some_symbols}
use Rattle.bn_reply_boards.proofs.OpeningLemmas.{within_limits}
use Rattle.bn_headline.specs.ControlLaws.{TranslationsHaveControls}

pub translations-controls : TranslationsHaveControls
translations-controls p t machine fits is =
    within_limits p t machine fits is
    (is.states ∙ list_counts_names p machine (each_mentioned p fits) t.names
    (numbers_states (bennett p) t.names is.names))
    (sym (length-map t.machine.rules (renamed (name_of t))) ∙ ap length is.rules
    ∙ list_has_length p (some_symbols p machine))
