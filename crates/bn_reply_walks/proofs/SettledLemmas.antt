-- `walk` has one answer.
use Rattle.std.specs.Prelude.{◌≡◌, ℕ, List, [], replicate, None, ◌⊎◌, refl}
use Rattle.std.proofs.Common.{inl, inr, arith, sym, ap, subst}
use Rattle.std.proofs.lemmas.Option.{slice_get_within}
use Rattle.bn_element.specs.Rotary.{rotary}
use Rattle.bn_circuits.specs.Alike.{AreAlike}
use Rattle.bn_circuits.specs.declared.config.Config.{Config}
use Rattle.bn_circuits.specs.declared.place.Place.{Place}
use Rattle.bn_netlist_laws.specs.Faults.{Fault, IsFirstFault}
use Rattle.bn_netlist_laws.specs.Spelling.{AreSame, Spelled, Spelling, circuit_of}
use Rattle.bn_netlist_laws.specs.declared.version.Version.{Version}
use Rattle.bn_netlist_laws.proofs.TextLemmas.{spellings-agree, faulty_texts-spell-nothing}
use Rattle.bn_netlist_laws.proofs.DecideLemmas.{texts-spell-or-fault}
use Rattle.bn_reply.specs.Answering.{HasAnswer, IsOneAnswer, IsSettled}
use Rattle.bn_reply.specs.Codes.{IsReplyStatus}
use Rattle.bn_reply.specs.declared.status.Status.{Status}
use Rattle.bn_reply.specs.declared.status.Status.TheVariants.{Text}
use Rattle.bn_reply.proofs.SettledLemmas.{agree}
use Rattle.bn_reply_relations.specs.CircuitReply.{fault_text}
use Rattle.bn_reply_relations.proofs.SettledLemmas.{one_fault}
use Rattle.bn_reply_scripts.proofs.AlikeLemmas.{plays_alike}
use Rattle.bn_reply_scripts.proofs.ScriptLemmas.{cut_settled, script_answered, script_as, script_once, script_status}
use Rattle.bn_session.specs.Laws.{AreNamesApart}
use Rattle.bn_session.specs.Plays.{Plays, session, given}
use Rattle.bn_session.specs.declared.command.Command.{Command}
use Rattle.bn_session.proofs.PlayedLemmas.{plays-one, plays-there}
use Rattle.bn_reply_walks.specs.WalkReply.{IsWalkOf, WalkIsSettled, WalkTextReplies, misspelled, no_moment, spelled}
use Rattle.bn_reply_walks.specs.WalkView.{walk_view}

-- no state has a name
no_names : AreNamesApart None
no_names = record { same = λ name m n at also. let none = slice_get_within [] m name at in absurd (omega arith) }

-- ---- a walk

walk_once : (s : Spelling) (xs : List Command) (text other : List ℕ) → IsWalkOf s xs text → IsWalkOf s xs other
    → text ≡ other
walk_once s xs text other a b = (plays-one (circuit_of s) no_moment (walk_view s.config.states) xs (session s.config [])
    a.0 b.0 text other a.1 b.1).1

walk_there : (s : Spelling) (xs : List Command) → (text : List ℕ) × IsWalkOf s xs text
walk_there s xs =
    let made = plays-there (circuit_of s) no_moment (walk_view s.config.states) xs (session s.config []) in
    (made.1, (made.0, made.2))

alike : (s t : Spelling) → AreSame s t → AreAlike (circuit_of s) (circuit_of t)
alike s t same = record {
  tables = ap (λ n. replicate n rotary) same.elements;
  targets = same.targets;
  sources = same.sources;
}

-- spellings that are the same are walked alike
walk_as : (s t : Spelling) → AreSame s t → (xs : List Command) (text : List ℕ) → IsWalkOf s xs text → IsWalkOf t xs text
walk_as s t same xs text a =
    let there = plays_alike (circuit_of s) (circuit_of t) (alike s t same) no_moment
    (given (walk_view s.config.states)) xs (session s.config []) a.0 text a.1 in (
      a.0,
      subst (λ (c : Config). Plays (circuit_of t) no_moment (given (walk_view c.states)) xs (session c []) a.0 text)
          same.config there,
    )

-- ---- a text and a script

module _ (bytes script : List ℕ) where
  text_some : ((v : Version) × (s : Spelling) × Spelled v s bytes)
      ⊎ ((line : ℕ) × (fault : Fault) × IsFirstFault bytes line fault) → HasAnswer (WalkTextReplies bytes script)
  text_some (inl (v, s, is)) =
      let answer = script_answered None (IsWalkOf s) script (walk_there s) in
      (answer.0, answer.1, answer.2, spelled v s is answer.3)
  text_some (inr h) = (
    Text,
    fault_text h.0 h.1,
    [],
    misspelled (record { line = h.0; fault = h.1; first = h.2; written = refl }) refl refl,
  )

  text_one : IsOneAnswer (WalkTextReplies bytes script)
  text_one st ot a b x y (misspelled h e m) (misspelled k d n) =
      agree Text st ot a b x y e d (one_fault bytes a b h k) m n
  text_one st ot a b x y (misspelled h e m) (spelled w t also other) =
      absurd (faulty_texts-spell-nothing w t bytes h.line h.fault h.first also)
  text_one st ot a b x y (spelled v s is answer) (misspelled k d n) =
      absurd (faulty_texts-spell-nothing v s bytes k.line k.fault k.first is)
  text_one st ot a b x y (spelled v s is answer) (spelled w t also other) =
      let same = (spellings-agree v w s t bytes is also).1 in
      script_once None (IsWalkOf t) script no_names (walk_once t) st ot a b x y
      (script_as None None (IsWalkOf s) (IsWalkOf t) script refl (walk_as s t same) st a x answer) other

  text_status : (status : Status) (text : List ℕ) (told : List Place) → WalkTextReplies bytes script status text told
      → IsReplyStatus status
  text_status status text told (misspelled h e m) = subst IsReplyStatus (sym e) tt
  text_status status text told (spelled v s is answer) = script_status None (IsWalkOf s) script status text told answer

  text_settled : IsSettled (WalkTextReplies bytes script)
  text_settled = record {
    some = text_some (texts-spell-or-fault bytes);
    one = text_one;
    status = text_status;
  }

pub walk_settled : WalkIsSettled
walk_settled bytes = cut_settled WalkTextReplies bytes text_settled
