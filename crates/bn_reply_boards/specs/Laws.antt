-- The laws of this crate, a named field each. `Laws` is the contract of `reply_boards_laws`.
use Rattle.bn_reply_boards.specs.GenerateLaws.{GenerateIsSettled, GeneratedTablesAreGiven, GeneratedRunsTellOutcomes}

pub record Laws : Type 0 where
  -- For each number of increments, `generate` has exactly one answer.
  pub generate_has_one_reply : GenerateIsSettled
  -- The text whose run is reported is that of the machine of k increments, in standard form, and the number is a word
  -- of its letters.
  pub generated_tables_are_given : GeneratedTablesAreGiven
  -- The answer of `generate` reports the outcome of the machine's own bounded run.
  pub generated_runs_tell_outcomes : GeneratedRunsTellOutcomes
