-- Two tables with machines in standard form have machines in standard form over one alphabet.
use Rattle.std.specs.Prelude.{ℕ, List}
use Rattle.bn_bennett_laws.specs.Stages.{IsStandardMachine}
use Rattle.bn_table.specs.Rows.{IsTable, Named}
use Rattle.bn_erase.specs.Joint.{IsJoint, joined}
use Rattle.bn_erase.proofs.JoinedLemmas.{joined_are_judged_alike}
use Rattle.bn_reply.proofs.TableLemmas.{reads_table}
use Rattle.bn_reply_erase.proofs.PairLemmas.{ReadBoth}

pub joint_of_tables : (t u : Named) → IsTable t → IsTable u → IsJoint (joined t u)
joint_of_tables t u h k = (joined_are_judged_alike t u h k).0

pub both_standard : (first second : List ℕ) (t u : Named) → ReadBoth first second t u →
    IsStandardMachine (joined t u).first × IsStandardMachine (joined t u).second
both_standard first second t u both =
    let alike = joined_are_judged_alike t u (reads_table first t both.reads) (reads_table second u both.also) in (
      record { machine = alike.0.first_machine; standard = alike.1.1 both.standard },
      record { machine = alike.0.second_machine; standard = alike.2.1 both.fit },
    )
