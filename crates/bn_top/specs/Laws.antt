-- Arguments and bytes have at most one answer, and arguments with a form have one.
use Rattle.std.specs.Prelude.{ℕ, List}
use Rattle.bn_reply.specs.Answering.{HasAnswer, IsOneAnswer}
use Rattle.bn_words.specs.Requests.{Request, HasForm}
use Rattle.bn_top.specs.Answers.{Answers}
use Rattle.bn_top.specs.Clauses.{EndsGiveClauses, ClausesGiveEnds}
use Rattle.bn_top.specs.CommandLaws.{AnswersTellCommands}
use Rattle.bn_top.specs.HeadlineLaws.{AnswersTellMachine, GeneratedClauseTells}
use Rattle.bn_top.specs.TextLaws.{CompiledTextsReturn, BuiltTextsReturn, RealisedTextsReturn, MirroredTextsReturn}
use Rattle.bn_top.specs.TextLaws.{FarmedTextsReturn}
use Rattle.bn_top.specs.FoundLaws.{AnswersTellFound}
use Rattle.bn_top.specs.PrintedTables.{CompilingIsBuildingAgain, EndsTellHalts, ErasedTablesComeOut}
use Rattle.bn_top.specs.PrintedTables.{ErasedTablesEnd, ErasedTablesErase, ErasedTablesTellOutput}
use Rattle.bn_top.specs.PrintedTables.{InversedTablesReturn}

abbrev pub AnswersAreOne : Type 0
AnswersAreOne = (words : List (List ℕ)) (bytes : List ℕ) → IsOneAnswer (Answers words bytes)

abbrev pub RequestsAreAnswered : Type 0
RequestsAreAnswered = (words : List (List ℕ)) (request : Request) (bytes : List ℕ) → HasForm words request →
    HasAnswer (Answers words bytes)

-- ---- the laws

pub record Laws : Type 0 where
  -- Arguments and bytes have at most one answer: one status, one text, and one list of places.
  pub one_answer : AnswersAreOne
  -- Arguments with a form have an answer on all bytes.
  pub each_request_has_an_answer : RequestsAreAnswered
  -- How a call ends says the same as the separate clauses.
  pub ends_give_clauses : EndsGiveClauses × ClausesGiveEnds
  -- The whole answer implies the headline by the machine alone.
  pub answers_tell_machine : AnswersTellMachine
  -- The whole answer implies the headline of the automatic window.
  pub answers_tell_found : AnswersTellFound
  -- The whole answer implies what `machine`, `bennett`, `step`, `back`, `inverse`, `build` and `drive` print, each in
  -- its own terms.
  pub answers_tell_commands : AnswersTellCommands
  -- The answer to `generate` implies its own headline.
  pub generate_tells_machine : GeneratedClauseTells
  -- What the workbench prints can be given to it again. What `compile`, `build` or `realise` printed, given to `step E`
  -- and that to `back E`, is printed again byte for byte, for every E that `step` takes. The inverse circuit of what
  -- `mirror` printed is the first text with no steps counted. What `farm` printed undoes the schedule, if it is within
  -- the limit of an input.
  pub printed_texts_return :
      CompiledTextsReturn × BuiltTextsReturn × RealisedTextsReturn × MirroredTextsReturn × FarmedTextsReturn
  -- `compile` prints what `bennett` and then `build` print.
  pub compiling_is_building : CompilingIsBuildingAgain
  -- Given the table that `erase` prints, `drive` reports the end only with the output alone on the tapes.
  pub erased_tables_erase : ErasedTablesErase
  -- It does so only if both machines halt in the window, each on the other's word.
  pub ends_tell_halts : EndsTellHalts
  -- If they do, the signal leaves by the end for each number of element steps from the circuit's cost on.
  pub erased_tables_come_out : ErasedTablesComeOut
  -- So with 2^52 element steps or more `drive` prints y alone, unless the circuit is refused for its size.
  pub erased_tables_tell_output : ErasedTablesTellOutput
  -- Whatever the machines do, no such `drive` goes on for ever.
  pub erased_tables_end : ErasedTablesEnd
  -- The inverse of the inverse has the entries of the first table.
  pub inversed_tables_return : InversedTablesReturn
