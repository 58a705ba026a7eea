-- Rounds made one after another, and what is answered after them.
use Rattle.std.specs.Prelude.{◌≡◌, ℕ, ◌+◌, List, [], ◌++◌, Option, Ok, Err, refl}
use Rattle.std.proofs.Common.{zero, suc, arith, sym, ap, subst, ◌∙◌, append_assoc, append-nil}
use Rattle.bn_circuits.specs.declared.place.Place.{Place}
use Rattle.bn_machine.specs.Machine.{Program}
use Rattle.bn_machine.specs.Outcome.{Limits}
use Rattle.bn_machine.specs.declared.quint.Side.{Side}
use Rattle.bn_circuits.specs.Watching.{Hears}
use Rattle.bn_circuits.proofs.WalkLemmas.{hears-joins, hears-nothing}
use Rattle.bn_table.specs.Rows.{Named}
use Rattle.bn_lists.specs.declared.memory.NoMemory.{NoMemory}
use Rattle.bn_reply.specs.Replying.{IsReplied, IsUnfinished, told_some, untold}
use Rattle.bn_reply.specs.declared.reply.Reply.{Reply}
use Rattle.bn_reply.specs.declared.status.Status.{Status}
use Rattle.bn_reply_boards.specs.Running.{IsAnswered}
use Rattle.bn_network_assembly.specs.Widening.{first_window, widened}
use Rattle.bn_headline.specs.AutoReply.{EndReplies, IsRound, MakeRounds, SearchReplies}
use Rattle.bn_headline.specs.Rounds.{HasCome, LeavesBy}
use Rattle.bn_headline.specs.Laws.{BeginsSearch}

-- one round more
rounds_more : (p : Program) (symbols : List ℕ) (n : ℕ) (w v u : Limits) (told more : List Place)
    → MakeRounds p symbols n w v told → IsRound p symbols v u more
    → MakeRounds p symbols (suc n) w u (told ++ more)
rounds_more p symbols zero w v u told more made round = (
  u,
  more,
  [],
  subst (λ x. IsRound p symbols x u more) (sym made.0) round,
  (refl, refl),
  ap (λ ps. ps ++ more) made.1 ∙ sym (append-nil more),
)
rounds_more p symbols (suc n) w v u told more made round = (
  made.0,
  made.1,
  made.2 ++ more,
  made.3,
  rounds_more p symbols n made.0 v u made.2 more made.4 round,
  ap (λ ps. ps ++ more) made.5 ∙ append_assoc made.1 made.2 more,
)

-- before the first round
pub none_made : (p : Program) (symbols : List ℕ) (w : Limits) (told : Option (List Place)) → w ≡ first_window symbols
    → HasCome p symbols 0 w told told
none_made p symbols w told is = record { before = []; made = (sym is, refl); hears = hears-nothing told }

module _ (t : Named) (symbols : List ℕ) (n : ℕ) (w : Limits) (told mid : Option (List Place))
    (come : HasCome t.machine symbols n w told mid) where
  -- after one round more
  pub come_on : (tape : ℕ) (side : Side) (heard : Option (List Place))
      → (round : (places : List Place) × LeavesBy t.machine symbols w tape side places × Hears mid places heard)
      → (v : Limits) → v ≡ widened w tape side → HasCome t.machine symbols (n + 1) v told heard
  come_on tape side heard round v is =
      let one : IsRound t.machine symbols w v round.0 = record {
        flat = round.1.flat;
        comes = round.1.comes;
        tape = tape;
        side = side;
        leaves = round.1.leaves;
        next = is;
        told_is = round.1.told_is;
      } in
      let count : suc n ≡ n + 1 = omega arith in
      record {
        before = come.before ++ round.0;
        made = subst (λ m. MakeRounds t.machine symbols m (first_window symbols) v (come.before ++ round.0)) count
            (rounds_more t.machine symbols n (first_window symbols) w v come.before round.0 come.made one);
        hears = hears-joins told mid heard come.before round.0 come.hears round.2;
      }

  -- what is answered in the window to which they lead is an answer to the search
  ends_search : (s : Status) (text : List ℕ) (places : List Place) → EndReplies t symbols w s text places
      → SearchReplies t symbols s text (come.before ++ places)
  ends_search s text places h = record {
    rounds = n;
    last = w;
    before = come.before;
    behind = places;
    made = come.made;
    ends = h;
    told_is = refl;
  }

  pub come_ends : (r : Reply) (heard : Option (List Place)) → IsReplied (EndReplies t symbols w) r mid heard
      → IsAnswered (SearchReplies t symbols) (Ok r) told heard
  come_ends r heard h = record {
    replied = record {
      places = come.before ++ h.places;
      right = ends_search r.status r.text.items h.places h.right;
      hears = hears-joins told mid heard come.before h.places come.hears h.hears;
    };
    interrupted = tt;
  }

  -- and where memory is wanting in it, what was heard begins one
  unfinished : (heard : Option (List Place)) → BeginsSearch t symbols come.before
      → IsUnfinished (EndReplies t symbols w) mid heard → IsUnfinished (SearchReplies t symbols) told heard
  unfinished heard begins (untold h) =
      told_some begins.status begins.text begins.told (come.before ++ []) begins.rest begins.replies
      (begins.begins ∙ ap (λ ps. ps ++ begins.rest) (sym (append-nil come.before)))
      (hears-joins told mid heard come.before [] come.hears h)
  unfinished heard begins (told_some s text places front rest h cut hears) =
      told_some s text (come.before ++ places) (come.before ++ front) rest (ends_search s text places h)
      (ap (λ ps. come.before ++ ps) cut ∙ sym (append_assoc come.before front rest))
      (hears-joins told mid heard come.before front come.hears hears)

  pub come_wanting : (e : NoMemory) (heard : Option (List Place)) → BeginsSearch t symbols come.before
      → IsUnfinished (EndReplies t symbols w) mid heard
      → IsAnswered (SearchReplies t symbols) (Err e) told heard
  come_wanting e heard begins h = record { replied = tt; interrupted = unfinished heard begins h }
