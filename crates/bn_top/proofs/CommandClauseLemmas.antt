-- What further commands print, each in its own terms, from the whole answer.
use Rattle.std.specs.Prelude.{◌≡◌, true, ℕ, ◌≤◌, List, [], length, Option, refl}
use Rattle.std.proofs.Common.{arith, subst}
use Rattle.bn_circuits.specs.declared.place.Place.{Place}
use Rattle.bn_io.specs.Told.{Grows}
use Rattle.bn_reply.specs.declared.limits.TheConstants.{MOST_INPUT_BYTES}
use Rattle.bn_reply.specs.declared.status.Status.{Status}
use Rattle.bn_reply.specs.declared.status.Status.TheVariants.{Done}
use Rattle.bn_quad.specs.Quadruples.{Quadruples, inverse_of}
use Rattle.bn_reply_builds.proofs.CircuitLemmas.{builds-tell_boards, drives-tell_boards}
use Rattle.bn_reply_builds.proofs.OwnDriveLemmas.{tell-their-run}
use Rattle.bn_erase_laws.proofs.InverseLemmas.{inverses-follow, inverses-uniform, tests_passed}
use Rattle.bn_renumbering.proofs.TableLemmas.{inverses-tables}
use Rattle.bn_reply_machines.proofs.InverseLemmas.{inverse_settled}
use Rattle.bn_reply_machines.specs.InverseReply.{InverseReplies, inverse_text, inverted}
use Rattle.bn_words.specs.Requests.{Back, Bennett, Build, Drive, HasForm, Inverse, Machine, Request, Step, reads_input}
use Rattle.bn_words.proofs.FormLemmas.{one_form}
use Rattle.bn_headline.proofs.CommandLemmas.{back-tells, bennett-tells, machine-tells, step-tells}
use Rattle.bn_headline.specs.CommandHeadlines.{BackCommand, BennettCommand, MachineCommand, StepCommand}
use Rattle.bn_top.specs.Answers.{Answers, no_form, unread, too_long, replied, Replies}
use Rattle.bn_top.specs.CommandLaws.{AnswersTellCommands, TellsCommands}
use Rattle.bn_top.specs.QuadHeadlines.{BuildHeadline, DriveCircuitHeadline, DriveHeadline, InverseCommand, TakesBack}
use Rattle.bn_top.specs.Told.{IsAnswered}
use Rattle.bn_top.proofs.AnswerLemmas.{not_both}
use Rattle.bn_top.proofs.EndLemmas.{by_told}

-- the answer to words that ask for a command that reads an input is its reply
pub request_reply : (words : List (List ℕ)) (bytes : List ℕ) (status : Status) (text : List ℕ) (told : List Place)
    → Answers words bytes status text told →
    (request : Request) → HasForm words request → reads_input request ≡ true → length bytes ≤ MOST_INPUT_BYTES
    → Replies request bytes status text told
request_reply words bytes status text told (no_form none s t p) request asks reads short = absurd (none request asks)
request_reply words bytes status text told (unread r form nothing reply) request asks reads short =
    absurd (not_both words request r asks form reads nothing)
request_reply words bytes status text told (too_long r form also long s t p) request asks reads short =
    absurd (omega arith)
request_reply words bytes status text told (replied r form also low reply) request asks reads short =
    subst (λ x. Replies x bytes status text told) (one_form words r request form asks) reply

-- the inverse takes the machine's steps back
takes_back : (m : Quadruples) → TakesBack m (inverse_of m)
takes_back m =
    let tests = tests_passed m in
    record {
      follows = inverses-follow m;
      deterministic = tests.0;
      reversible = tests.1;
      uniform = inverses-uniform m;
    }

module _ (words : List (List ℕ)) (bytes : List ℕ) (status : Status) (taken took : Option (List ℕ))
    (told heard : Option (List Place))
    (h : IsAnswered words bytes status taken took told heard) where
  reply_to : (request : Request) → HasForm words request → reads_input request ≡ true → length bytes ≤ MOST_INPUT_BYTES
      → Replies request bytes status h.text h.places
  reply_to request asks reads short = request_reply words bytes status h.text h.places h.answers request asks reads
      short

  machine_told : MachineCommand words bytes status taken took
  unfolding MachineCommand
  machine_told word n is low short t symbols reads spelled i e ending =
      let reply = reply_to (Machine word n) (record { words_are = is; allowed = low }) refl short in
      let tells = machine-tells word n bytes status h.text h.places reply t symbols reads spelled i e ending in
      (tells.0, subst (Grows taken took) tells.1 h.grows)

  bennett_told : BennettCommand words bytes status taken took
  unfolding BennettCommand
  bennett_told is short t reads =
      let reply = reply_to Bennett (record { words_are = is; allowed = tt }) refl short in
      let tells = bennett-tells bytes status h.text h.places reply t reads in
      (tells.0, subst (Grows taken took) tells.1 h.grows)

  step_told : StepCommand words bytes status taken took
  unfolding StepCommand
  step_told e is low short v s spelled =
      let reply = reply_to (Step e) (record { words_are = is; allowed = low }) refl short in
      let tells = step-tells e bytes status h.text h.places reply v s spelled in
      record { text = h.text; is_text = tells.1; grows = h.grows; status_is = tells.0 }

  back_told : BackCommand words bytes status taken took
  unfolding BackCommand
  back_told e is low short v s spelled =
      let reply = reply_to (Back e) (record { words_are = is; allowed = low }) refl short in
      let tells = back-tells e bytes status h.text h.places reply v s spelled in
      record { text = h.text; is_text = tells.1; grows = h.grows; status_is = tells.0 }

  inverse_told : InverseCommand words bytes status taken took
  unfolding InverseCommand
  inverse_told is short t reads =
      let reply = reply_to Inverse (record { words_are = is; allowed = tt }) refl short in
      let own : InverseReplies bytes Done (inverse_text t) [] = inverted t reads refl refl refl in
      let same = (inverse_settled bytes).one status Done h.text (inverse_text t) h.places [] reply own in
      let again = inverses-tables bytes (inverse_text t) t reads refl in (
        same.statuses,
        subst (Grows taken took) same.texts h.grows,
        takes_back t.machine,
        (again.0, again.1, again.2),
      )

  build_told : BuildHeadline words bytes status taken took
  unfolding BuildHeadline
  build_told asked l form short t one two three given count counts few =
      let reply = reply_to (Build asked l) form refl short in (
        h.text,
        h.places,
        h.grows,
        builds-tell_boards asked l bytes status h.text h.places reply t one two three given count counts few,
      )

  drive_told : DriveHeadline words bytes status taken took
  unfolding DriveHeadline
  drive_told asked l most form short t one two three given =
      let reply = reply_to (Drive asked l most) form refl short in
      let told = tell-their-run asked l most bytes status h.text h.places form.allowed.1 reply t one two three given in
      (told.0, h.text, h.grows, told.1)

  drive_circuit_told : DriveCircuitHeadline words bytes status taken took
  unfolding DriveCircuitHeadline
  drive_circuit_told asked l most form short t one two three given count counts few =
      let reply = reply_to (Drive asked l most) form refl short in (
        h.text,
        h.places,
        h.grows,
        drives-tell_boards asked l most bytes status h.text h.places form.allowed.1 reply t one two three given count
            counts few,
      )

  commands_told : TellsCommands words bytes status taken took
  commands_told = record {
    machine = machine_told;
    bennett = bennett_told;
    step = step_told;
    back = back_told;
    inverse = inverse_told;
    build = build_told;
    drive = drive_told;
    drive_circuit = drive_circuit_told;
  }

pub answers-tell_commands : AnswersTellCommands
answers-tell_commands words left status taken took told heard answered is =
    by_told left (λ bytes. IsAnswered words bytes status taken took told heard)
    (λ bytes. TellsCommands words bytes status taken took)
    (λ bytes h. commands_told words bytes status taken took told heard h) (answered is)
