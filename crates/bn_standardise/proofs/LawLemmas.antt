-- The laws of this crate that follow from those of the crates below it, each proved.
use Rattle.bn_csv.specs.Lines.{lines_of}
use Rattle.bn_csv.specs.Numbering.{firsts_by}
use Rattle.bn_standardise.proofs.FormLemmas.{is_standard, final_state}
use Rattle.bn_standardise.proofs.NumberingLemmas.{tells_apart}
use Rattle.bn_standardise.proofs.PrintedLemmas.{is_table, rows_are}
use Rattle.bn_standardise.proofs.RuleLemmas.{rules_counted}
use Rattle.bn_standardise.proofs.RunLemmas.{ended, halts_behind, stand_in, sticks_alike, after_halts, after_sticks}
use Rattle.bn_standardise.proofs.TailLemmas.{tail_exists, tail_once}
use Rattle.bn_standardise.specs.Laws.{CountsRules, NumbersTellApart, IsInStandardForm, TextsAreRead, HasOneTail}
use Rattle.bn_standardise.specs.Laws.{HaltsBehind, SticksAlike, HaltsTogether, SticksTogether, InvertsExample}
use Rattle.bn_standardise.specs.Loose.{behind}
use Rattle.bn_standardise.specs.Printed.{standard_lines, standard_table}
use Rattle.bn_standardise.specs.Rules.{back_over_all}
use Rattle.bn_standardise.specs.Standardised.{numbering_of}
use Rattle.bn_table.proofs.MachineLemmas.{tables_machines}
use Rattle.bn_table.proofs.Writing.{reads-back}
use Rattle.std.proofs.Common.{ap, sym, refl, ◌+◌}

pub counts_rules : CountsRules
counts_rules = λ p machine. rules_counted (numbering_of p) p machine

pub numbers_tell_apart : NumbersTellApart
numbers_tell_apart = λ p machine. tells_apart p

pub is_in_standard_form : IsInStandardForm
is_in_standard_form = λ p loose. is_standard (numbering_of p) p loose (tells_apart p)

pub texts_are_read : TextsAreRead
texts_are_read = λ t table accepted.
    let fits = (tables_machines t table).1 in (
      reads-back (standard_table t) (standard_lines t) (is_table t table fits accepted.few)
          (ap lines_of (sym (rows_are t table fits accepted.few))),
      is_standard (numbering_of t.machine) t.machine accepted.loose (tells_apart t.machine),
    )

pub tail_is_one : HasOneTail
tail_is_one = (tail_exists, tail_once)

pub halts_behind-law : HaltsBehind
halts_behind-law = λ p loose word w v d c run final tail. (
  ended (numbering_of p) p loose (tells_apart p) (behind d c.tape),
  halts_behind (numbering_of p) p loose (tells_apart p) word w v d c run final tail,
  sym (final_state (numbering_of p) p),
  refl,
)

pub sticks_alike-law : SticksAlike
sticks_alike-law = λ p loose word w v c run stuck.
    let alike = sticks_alike (numbering_of p) p loose (tells_apart p) word v c run stuck in
    (stand_in (numbering_of p) c, alike.0, alike.1, refl, refl)

pub halts_together : HaltsTogether
halts_together = λ p loose word w. (
  λ h. after_halts (numbering_of p) p loose (tells_apart p) word h.0 h.1 h.2 h.3,
  λ h.
      let tail = tail_exists h.1.tape in (
        h.0 + 2 + tail.0,
        ended (numbering_of p) p loose (tells_apart p) (behind tail.0 h.1.tape),
        halts_behind (numbering_of p) p loose (tells_apart p) word w h.0 tail.0 h.1 h.2 h.3 tail.1,
        sym (final_state (numbering_of p) p),
      ),
)

pub sticks_together : SticksTogether
sticks_together =
    λ p loose word w n e run stuck. after_sticks (numbering_of p) p loose (tells_apart p) word w n e run stuck

pub inverts_example : InvertsExample
unfolding firsts_by back_over_all
inverts_example = refl
