-- The laws of this crate that follow from those of the crates below it, each proved.
use Rattle.bn_bennett.proofs.Alike.{begins_named, ends_named, names_apart, halts_back, halts_forth, ends_alike, no_room}
use Rattle.bn_bennett.proofs.Alike.{run_named}
use Rattle.bn_bennett.proofs.CallByCall.{calls_alike}
use Rattle.bn_bennett.proofs.Forms.{has_names}
use Rattle.bn_bennett.proofs.Tables.{is_table}
use Rattle.bn_bennett.proofs.ThereLemmas.{there}
use Rattle.bn_bennett.specs.Laws.{TranslationsAreThere, TranslationsAreUniform, TranslationsHaltAlike}
use Rattle.bn_bennett.specs.Laws.{TranslationsEndAlike, CallsEndAlike, TranslationsHaveNoRoom, TranslationsStand}
use Rattle.bn_bennett.specs.Laws.{TranslationsHaveNames, TranslationsAreTables}
use Rattle.bn_bennett.specs.Translation.{name_of}
use Rattle.bn_bennett_laws.proofs.Bounded.{bounded_runs_agree, runs_have_no_room}
use Rattle.bn_bennett_laws.proofs.Counts.{list_is_in_range, list_has_length, list_has_names}
use Rattle.bn_bennett_laws.proofs.Moments.{every_moment_stands}
use Rattle.bn_bennett_laws.proofs.Numbering.{numbers_pass_tests, numbers_run_alike}
use Rattle.bn_bennett_laws.proofs.Short.{bounded_runs_are_short}
use Rattle.bn_bennett_laws.proofs.Theorem.{bennetts_theorem}
use Rattle.bn_bennett_laws.specs.Renamed.{in_state}
use Rattle.bn_bennett_laws.specs.Stages.{rooms_of}

pub translations_are_there : TranslationsAreThere
translations_are_there = there list_is_in_range list_has_length

pub translations_are_uniform : TranslationsAreUniform
translations_are_uniform = λ p t standard h.
    let all = numbers_pass_tests p standard (name_of t) t.machine.rules h.rules in (
      record { deterministic = all.0; reversible = all.1; uniform = all.2 },
      begins_named p t h standard numbers_pass_tests,
      ends_named p t h standard numbers_pass_tests,
      names_apart p t h,
    )

pub translations_halt_alike : TranslationsHaltAlike
translations_halt_alike = λ p t word standard h letters. (
  halts_forth p t h standard numbers_pass_tests numbers_run_alike word bennetts_theorem letters,
  halts_back p t h standard numbers_pass_tests numbers_run_alike word bennetts_theorem letters,
)

pub translations_end_alike : TranslationsEndAlike
translations_end_alike = λ p t word standard h letters. ends_alike p t h standard numbers_pass_tests
    numbers_run_alike word bounded_runs_agree letters

pub calls_end_alike : CallsEndAlike
calls_end_alike = λ p t word standard h letters l i o.
    let apart = (translations_are_uniform p t standard h).0.deterministic in
    let machine = translations_end_alike p t word standard h letters l i o in
    let calls = calls_alike t word apart l i o in
    (λ a. calls.0 (machine.0 a), λ b. machine.1 (calls.1 b))

pub translations_have_no_room : TranslationsHaveNoRoom
translations_have_no_room = λ p t word standard h letters. no_room p t h standard numbers_pass_tests
    numbers_run_alike word runs_have_no_room letters

pub translations_stand : TranslationsStand
translations_stand = λ p t word standard h letters. (
  λ rooms n d run. every_moment_stands p word standard letters rooms n (in_state (name_of t) d)
      (run_named p t h standard numbers_pass_tests numbers_run_alike word rooms n d run),
  λ l n d run. bounded_runs_are_short p word standard letters l n (in_state (name_of t) d)
      (run_named p t h standard numbers_pass_tests numbers_run_alike word (rooms_of l) n d run),
)

pub translations_have_names : TranslationsHaveNames
translations_have_names = λ t s machine table fits h. has_names t s machine table fits list_has_names h

pub translations_are_tables : TranslationsAreTables
translations_are_tables = λ t s machine table fits h. is_table t s machine table fits list_has_names
    list_is_in_range list_has_length h
