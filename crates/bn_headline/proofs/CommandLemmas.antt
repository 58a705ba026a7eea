-- What the replies of further commands tell of an input that has a reading.
use Rattle.std.specs.Prelude.{◌≡◌, ℕ, List, refl}
use Rattle.std.proofs.Common.{ap, subst, sym, ◌∙◌}
use Rattle.bn_circuits.specs.Stepping.{back, places, places_back, run}
use Rattle.bn_circuits.specs.declared.config.Config.{Config}
use Rattle.bn_circuits.specs.declared.place.Place.{Place}
use Rattle.bn_circuits.specs.Circuits.{Circuit, IsCircuit, IsConfig}
use Rattle.bn_circuits.proofs.RunLemmas.{back-IsConfig, run-IsConfig}
use Rattle.bn_machine.proofs.OutcomeLemmas.{ending_once}
use Rattle.bn_netlist_laws.proofs.EntryLemmas.{has-text}
use Rattle.bn_netlist_laws.proofs.VersionLemmas.{spellings-move}
use Rattle.bn_netlist_laws.specs.Spelling.{IsTextOf, Spelled, Spelling, circuit_of, moved_to}
use Rattle.bn_netlist_laws.specs.declared.version.Version.{Version}
use Rattle.bn_reply.proofs.SettledLemmas.{standard_tells, word_tells}
use Rattle.bn_reply.proofs.TableLemmas.{reads_table}
use Rattle.bn_reply.specs.Answering.{IsDone, IsOneAnswer}
use Rattle.bn_reply.specs.TableReply.{WordReplies}
use Rattle.bn_reply.specs.declared.status.Status.{Status}
use Rattle.bn_reply.specs.declared.status.Status.TheVariants.{Done}
use Rattle.bn_reply_relations.proofs.SettledLemmas.{circuits_settled}
use Rattle.bn_reply_relations.specs.CircuitReply.{CircuitReplies, walked}
use Rattle.bn_reply_machines.specs.BennettReply.{bennett_text}
use Rattle.bn_reply_machines.specs.MachineReply.{TellsMachineRun, ending_status, ending_text}
use Rattle.bn_headline.specs.CommandLaws.{BackRepliesTell, BennettRepliesTell, MachineRepliesTell, StepRepliesTell}

pub machine-tells : MachineRepliesTell
machine-tells word n bytes status text told reply t symbols reads spelled i e ending =
    let ran = word_tells (TellsMachineRun t n) t (reads_table bytes t reads.reads) word symbols status text told spelled
    (standard_tells (λ u. WordReplies (TellsMachineRun u n) u word) bytes t status text told reads reply) in
    let same = ending_once t.machine symbols n ran.steps i ran.ending e ran.comes_out ending in
    (ran.status_is ∙ ap ending_status same.1, ran.text_is ∙ (λ k. ending_text t (same.0 k) (same.1 k)))

pub bennett-tells : BennettRepliesTell
bennett-tells bytes status text told reply t reads =
    let done = standard_tells (λ u. IsDone (bennett_text u)) bytes t status text told reads reply in
    (done.done, done.text_is)

-- the one reply of a walk on a text that spells a configuration
module _ (goes : Circuit → Config → Config) (tells : Circuit → Config → List Place)
    (keeps : (k : Circuit) → IsCircuit k → (c : Config) → IsConfig k c → IsConfig k (goes k c))
    (bytes : List ℕ) (one : IsOneAnswer (CircuitReplies goes tells bytes)) where
  walk_tells : (status : Status) (text : List ℕ) (told : List Place) → CircuitReplies goes tells bytes status text told
      → (v : Version) (s : Spelling) → Spelled v s bytes → (status ≡ Done)
      × IsTextOf v (moved_to s (goes (circuit_of s) s.config)) text
  walk_tells status text told reply v s is =
      let c = goes (circuit_of s) s.config in
      let stays = keeps (circuit_of s) is.admitted.circuit s.config is.admitted.config in
      let moved = has-text v (moved_to s c) (spellings-move v s c is.admitted stays) in
      let own = walked (record { version = v; spelling = s; spelled = is; written = moved.1.is_text; places = refl })
      refl in
      let agreed = one status Done text moved.0 told (tells (circuit_of s) s.config) reply own in
      (agreed.statuses, subst (IsTextOf v (moved_to s c)) (sym agreed.texts) moved.1.is_text)

pub step-tells : StepRepliesTell
step-tells e bytes = walk_tells (λ k c. run k c e) (λ k c. places k e c)
    (λ k circuit c config. run-IsConfig k circuit c config e) bytes (circuits_settled e bytes).0.one

pub back-tells : BackRepliesTell
back-tells e bytes = walk_tells (λ k c. back k c e) (λ k c. places_back k e c)
    (λ k circuit c config. back-IsConfig k circuit c config e) bytes (circuits_settled e bytes).1.one
