-- What `build` printed may be given to the workbench again.
use Rattle.std.specs.Prelude.{ℕ, List, refl}
use Rattle.std.proofs.Common.{ap}
use Rattle.bn_circuits.specs.declared.config.Config.{Config}
use Rattle.bn_circuits.specs.declared.place.Place.{Place}
use Rattle.bn_machine.specs.Outcome.{Limits}
use Rattle.bn_qtable.specs.Rows.{QuadTable}
use Rattle.bn_qtable.specs.TapeWords.{TapeWords}
use Rattle.bn_network.specs.Starts.{words_on}
use Rattle.bn_reply.specs.declared.status.Status.TheVariants.{Done}
use Rattle.bn_reply_builds.specs.BuildReply.{BuildReplies, SizedReplies, TellsBuild, built, large, long, many}
use Rattle.bn_reply_machines.specs.QuadReply.{domain, faulty, passes, range}
use Rattle.bn_reply_machines.specs.UniformReply.{not_uniform, uniform}
use Rattle.bn_reply_machines.specs.WordsReply.{named, unnamed}
use Rattle.bn_words.specs.Requests.{Build, words_of}
use Rattle.bn_top.specs.TextLaws.{BuiltTextsReturn, StepsAndBack}
use Rattle.bn_top.proofs.TextLemmas.{done_reply, steps_and_back}

module _ (words : TapeWords) (l : Limits) (bytes text : List ℕ) (told : List Place) where
  by_size : (t : QuadTable) (one two three : List ℕ)
      → SizedReplies words (TellsBuild (words_on t.machine one two three)) t.machine l one two three Done text told
      → StepsAndBack text
  by_size t one two three (many tape z h is e n) = absurd (cc)
  by_size t one two three (long some tape n far is e quiet) = absurd (cc)
  by_size t one two three (large some fits count counts great is e quiet) = absurd (cc)
  by_size t one two three (built some fits f h tells) =
      steps_and_back tells.spelling text tells.spelled (ap (λ (c : Config). c.steps) tells.board.config)

  by_reply : BuildReplies words l bytes Done text told → StepsAndBack text
  by_reply (faulty h e n) = absurd (cc)
  by_reply (domain t reads i j h is e n) = absurd (cc)
  by_reply (range t reads apart i j h is e n) = absurd (cc)
  by_reply (passes t reads apart back (not_uniform why h is e n)) = absurd (cc)
  by_reply (passes t reads apart back (uniform even (unnamed p h is e n))) = absurd (cc)
  by_reply (passes t reads apart back (uniform even (named one on_one (unnamed p h is e n)))) = absurd (cc)
  by_reply (passes t reads apart back (uniform even (named one on_one (named two on_two (unnamed p h is e n))))) =
      absurd (cc)
  by_reply (passes t reads apart back
      (uniform even (named one on_one (named two on_two (named three on_three sized))))) =
      by_size t one two three sized

pub built-return : BuiltTextsReturn
built-return words l bytes text told form answer =
    by_reply words l bytes text told
    (done_reply (words_of (Build words l)) bytes text told (Build words l) form refl answer)
