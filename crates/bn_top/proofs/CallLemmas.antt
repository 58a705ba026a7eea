-- How the top call ends, from how the answer to its words ends; and what it tells then.
use Rattle.std.specs.Prelude.{◌≡◌, ◌≢◌, ℕ, true, false, List, [], Option, IfSome, ◌⊎◌, refl}
use Rattle.std.proofs.Common.{inl, inr, sym, subst, ◌∙◌}
use Rattle.std.proofs.lemmas.Bool.{cases_Bool}
use Rattle.bn_circuits.specs.declared.place.Place.{Place}
use Rattle.bn_io.specs.Faults.{Rose, CountsUnless}
use Rattle.bn_circuits.proofs.WalkLemmas.{hears-nothing}
use Rattle.bn_words.specs.Requests.{Request, HasForm, HasNoForm, reads_input}
use Rattle.bn_words.proofs.DecideLemmas.{words_have_form_or_none}
use Rattle.bn_reply.specs.Codes.{IsAnswer}
use Rattle.bn_reply.specs.Ends.{Finishes, whole, cut}
use Rattle.bn_reply.specs.Outside.{Outside, outside}
use Rattle.bn_reply.specs.Streams.{AnswerEnds, StreamEnds}
use Rattle.bn_reply.specs.declared.status.Status.{Status}
use Rattle.bn_reply.specs.declared.status.Status.TheVariants.{Usage, Size, ReadFault, WriteFault, NoMemory}
use Rattle.bn_reply.proofs.CountLemmas.{counts_nothing}
use Rattle.bn_reply_boards.proofs.ClosedLemmas.{tells}
use Rattle.bn_reply_relations.specs.ToldRuns.{TellsHeadline}
use Rattle.bn_headline.specs.CircuitHeadline.{CircuitHeadline}
use Rattle.bn_headline.specs.Generated.{GeneratedHeadline}
use Rattle.bn_headline.specs.MachineHeadline.{MachineHeadline, MachineHeadlineWithin}
use Rattle.bn_headline.proofs.ClosedLemmas.{circuit_told}
use Rattle.bn_headline.specs.FoundHeadline.{TellsFoundWindow}
use Rattle.bn_headline.specs.FoundCircuitHeadline.{FoundCircuitHeadline}
use Rattle.bn_headline.specs.FoundMachineHeadline.{FoundMachineHeadline}
use Rattle.bn_headline.proofs.FoundMachineLemmas.{found-tells_machine}
use Rattle.bn_top.specs.Answers.{Replies, usage_text}
use Rattle.bn_top.specs.Clauses.{CallEnds, ClausesApart}
use Rattle.bn_top.specs.CommandLaws.{TellsCommands}
use Rattle.bn_top.specs.Outside.{NeedNoInput}
use Rattle.bn_top.specs.Told.{UsageEnds, TellsGenerate}
use Rattle.bn_top.proofs.ClauseLemmas.{ends-give_clauses}
use Rattle.bn_top.proofs.ClosedLemmas.{ends_given, generated_told, machine_told, window_told}
use Rattle.bn_top.proofs.CommandClauseLemmas.{answers-tell_commands}
use Rattle.bn_top.proofs.EndLemmas.{by_told, for_any, usage_answered, usage_cut, needs_input}
use Rattle.bn_top.proofs.EndLemmas.{cut_cause, is_complete, never_read_fault, never_usage}
use Rattle.bn_top.proofs.EndLemmas.{inputless, inputless_answered, inputless_broken, inputless_cut}
use Rattle.bn_top.proofs.HeadlineLemmas.{generates, generates_not, generates_nothing, headline_follows}
use Rattle.bn_top.proofs.StreamLemmas.{stream_clauses}

-- ---- how it ends

-- words that have no form
module _ (words : List (List ℕ)) (none : HasNoForm words) (result : Status) (left taken took : Option (List ℕ))
    (told : Option (List Place)) (reads before now : ℕ) (ends : Finishes Usage result taken took before now usage_text)
    (later : CountsUnless (result ≡ WriteFault) before now) where
  never : (other : Status) → (Usage ≡ other → ⊥) → (WriteFault ≡ other → ⊥) → result ≡ other → ⊥
  never other first second is = by ends
    where
      by : Finishes Usage result taken took before now usage_text → ⊥
      by (whole was grows) = first (sym was ∙ is)
      by (cut failed rose grows) = second (sym failed ∙ is)

  line_complete : Finishes Usage result taken took before now usage_text → (Rose before now → ⊥) →
      IsAnswer result ⊎ (result ≡ NoMemory)
  line_complete (whole was grows) sound = inl (subst IsAnswer (sym was) tt)
  line_complete (cut failed rose grows) sound = absurd (sound rose)

  line_ends : Finishes Usage result taken took before now usage_text → UsageEnds result taken took
  line_ends (whole was grows) = subst (λ s. UsageEnds s taken took) (sym was) grows
  line_ends (cut failed rose grows) = subst (λ s. UsageEnds s taken took) (sym failed) grows

  no_other_answer : Finishes Usage result taken took before now usage_text → IsAnswer result → result ≢ Usage → ⊥
  no_other_answer (whole was grows) answer other = other was
  no_other_answer (cut failed rose grows) answer other = subst IsAnswer failed answer

  line_cause : Finishes Usage result taken took before now usage_text → result ≡ WriteFault → Rose before now
  line_cause (whole was grows) failed = absurd (usage_is_no_fault (sym was ∙ failed))
    where
      usage_is_no_fault : Usage ≡ WriteFault → ⊥
      usage_is_no_fault e = cc
  line_cause (cut is rose grows) failed = rose

  usage_clauses : ClausesApart words result (outside left taken told reads before) (outside left took told reads now)
  usage_clauses = record {
    answered = λ answer. usage_answered words none result taken took told before now usage_text refl ends answer left;
    complete = λ _ sound. line_complete ends sound;
    usage_only = λ _. none;
    usage = λ _. line_ends ends;
    untold = λ _. hears-nothing told;
    inputless_ends = λ asks. absurd (none asks.request asks.form);
    read = λ _ answer other. absurd (no_other_answer ends answer other);
    size = λ _. for_any left _ (λ bytes is more. absurd (never Size (λ e. cc) (λ e. cc) is));
    read_cause = λ is. absurd (never ReadFault (λ e. cc) (λ e. cc) is);
    read_fault = λ is. absurd (never ReadFault (λ e. cc) (λ e. cc) is);
    read_fault_told = λ is. absurd (never ReadFault (λ e. cc) (λ e. cc) is);
    write_cause = λ is. line_cause ends is;
    write_fault = λ failed.
        inr (usage_cut words none result taken took told before now usage_text refl ends failed left);
    no_memory = λ is. absurd (never NoMemory (λ e. cc) (λ e. cc) is);
    later_source = counts_nothing _ reads reads refl;
    later_sink = later;
  }

  pub usage_ends : CallEnds words result (outside left taken told reads before) (outside left took told reads now)
  usage_ends = ends_given words result _ _ usage_clauses

-- words that ask for what needs no input
module _ (words : List (List ℕ)) (request : Request) (form : HasForm words request)
    (nothing : reads_input request ≡ false)
    (result : Status) (left taken took : Option (List ℕ)) (told heard : Option (List Place)) (reads before now : ℕ)
    (ends : AnswerEnds (Replies request []) result taken took before now told heard)
    (later : CountsUnless (result ≡ WriteFault) before now) where
  no_read_fault : result ≡ ReadFault → ⊥
  no_read_fault is = never_read_fault words request form [] result taken took told heard before now ends is

  inputless_clauses : ClausesApart words result (outside left taken told reads before)
      (outside left took heard reads now)
  inputless_clauses = record {
    answered = λ answer.
        inputless_answered words request form nothing result taken took told heard before now ends left answer;
    complete = λ _ sound. is_complete words request form [] result taken took told heard before now ends sound;
    usage_only = λ is. absurd (never_usage words request form [] result taken took told heard before now ends is);
    usage = λ none. absurd (none request form);
    untold = λ none. absurd (none request form);
    inputless_ends = λ _. inputless words request form nothing result taken took told heard before now ends;
    read = λ needs. absurd (needs (record { request = request; form = form; unread = nothing }));
    size = λ needs. absurd (needs (record { request = request; form = form; unread = nothing }));
    read_cause = λ is. absurd (no_read_fault is);
    read_fault = λ is. absurd (no_read_fault is);
    read_fault_told = λ is. absurd (no_read_fault is);
    write_cause = cut_cause words request form [] result taken took told heard before now ends;
    write_fault = λ failed.
        inr (inputless_cut words request form nothing result taken took told heard before now ends left failed);
    no_memory = inputless_broken words request form nothing result taken took told heard before now ends left;
    later_source = counts_nothing _ reads reads refl;
    later_sink = later;
  }

  pub inputless_call : CallEnds words result (outside left taken told reads before) (outside left took heard reads now)
  inputless_call = ends_given words result _ _ inputless_clauses

-- words whose command reads an input
pub stream_call : (words : List (List ℕ)) (request : Request) → HasForm words request → reads_input request ≡ true →
    (result : Status) (b a : Outside) → StreamEnds (Replies request) result b a → CallEnds words result b a
stream_call words request form reads result b a h =
    ends_given words result b a (stream_clauses words request form reads result b a h)

pub needs_some : (words : List (List ℕ)) (request : Request) → HasForm words request → reads_input request ≡ true →
    NeedNoInput words → ⊥
needs_some words request form reads (inl none) = none request form
needs_some words request form reads (inr asks) = needs_input words request form reads asks

-- ---- what it tells

module _ (words : List (List ℕ)) (status : Status) (b a : Outside) (ends : CallEnds words status b a)
    (is : IsAnswer status) where
  apart : ClausesApart words status b a
  apart = ends-give_clauses words b a status ends

  pub machine_by : IfSome b.left (λ bytes. MachineHeadline words bytes status b.taken a.taken)
      × IfSome b.left (λ bytes. MachineHeadlineWithin words bytes status b.taken a.taken)
  machine_by = machine_told words b.left status b.taken a.taken b.told a.told apart.answered is

  pub circuit_by : IfSome b.left (λ bytes. CircuitHeadline words bytes status b.taken a.taken)
  circuit_by =
      by_told b.left (λ bytes. TellsHeadline words bytes status b.taken a.taken)
      (λ bytes. CircuitHeadline words bytes status b.taken a.taken)
      (λ bytes h. circuit_told words bytes status b.taken a.taken h)
      (headline_follows words b.left status b.taken a.taken b.told a.told apart.answered is)

  pub found_by : IfSome b.left (λ bytes. TellsFoundWindow words bytes status b.taken a.taken)
  found_by = window_told words b.left status b.taken a.taken b.told a.told apart.answered is

  pub found_machine_by : IfSome b.left (λ bytes. FoundMachineHeadline words bytes status b.taken a.taken)
  found_machine_by =
      by_told b.left (λ bytes. TellsFoundWindow words bytes status b.taken a.taken)
      (λ bytes. FoundMachineHeadline words bytes status b.taken a.taken)
      (λ bytes h. (found-tells_machine words bytes status b.taken a.taken h).0) found_by

  pub found_circuit_by : IfSome b.left (λ bytes. FoundCircuitHeadline words bytes status b.taken a.taken)
  found_circuit_by =
      by_told b.left (λ bytes. TellsFoundWindow words bytes status b.taken a.taken)
      (λ bytes. FoundCircuitHeadline words bytes status b.taken a.taken)
      (λ bytes h. (found-tells_machine words bytes status b.taken a.taken h).1) found_by

  -- what one of the commands prints
  pub command_by : (command : List (List ℕ) → List ℕ → Status → Option (List ℕ) → Option (List ℕ) → Type 0)
      → ((bytes : List ℕ) → TellsCommands words bytes status b.taken a.taken
      → command words bytes status b.taken a.taken)
      → IfSome b.left (λ bytes. command words bytes status b.taken a.taken)
  command_by command tells =
      by_told b.left (λ bytes. TellsCommands words bytes status b.taken a.taken)
      (λ bytes. command words bytes status b.taken a.taken) tells
      (answers-tell_commands words b.left status b.taken a.taken b.told a.told apart.answered is)

  generate_by : ((request : Request) × HasForm words request) ⊎ HasNoForm words →
      TellsGenerate words status b.taken a.taken
  generate_by (inr none) = generates_nothing words status b.taken a.taken none
  generate_by (inl asked) = by_reading (cases_Bool (reads_input asked.0))
    where
      by_reading : (reads_input asked.0 ≡ true) ⊎ (reads_input asked.0 ≡ false) →
          TellsGenerate words status b.taken a.taken
      by_reading (inl reads) = generates_not words asked.0 status b.taken a.taken asked.1 reads
      by_reading (inr nothing) =
          let inputless = apart.inputless_ends (record { request = asked.0; form = asked.1; unread = nothing }) in
          generates tells words status b.taken a.taken b.told a.told (inputless.answered is)

  pub generated_by : GeneratedHeadline words status b.taken a.taken
  generated_by = generated_told words status b.taken a.taken (generate_by (words_have_form_or_none words))
