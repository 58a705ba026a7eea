-- The run of the board in a window is a round of the search.
use Rattle.std.specs.Prelude.{◌≡◌, ◌≢◌, ℕ, List, [], ◌++◌, Option, None, Result, Ok, Err, refl}
use Rattle.std.proofs.Common.{sym, subst, ◌∙◌, append-nil}
use Rattle.bn_circuits.specs.Stepping.{places}
use Rattle.bn_circuits.specs.declared.place.Place.{Place}
use Rattle.bn_network.specs.Limits.{AreSmall}
use Rattle.bn_machine.specs.Outcome.{Limits}
use Rattle.bn_machine.specs.declared.quint.Side.{Side}
use Rattle.bn_circuits.proofs.WalkLemmas.{hears-nothing}
use Rattle.bn_table.specs.Laws.{TablesAreMachines}
use Rattle.bn_table.specs.Rows.{Named}
use Rattle.bn_bennett.specs.Translation.{Translation}
use Rattle.bn_boards.specs.declared.exit.Exit.{Exit}
use Rattle.bn_boards.specs.declared.exit.Exit.TheVariants as exits
use Rattle.bn_boards.specs.Layouts.{IsExit}
use Rattle.bn_boards.specs.Flats.{Flat, IsAccepted, flat_start}
use Rattle.bn_board.specs.Flattened.{Flattened}
use Rattle.bn_lists.specs.declared.memory.NoMemory.{NoMemory}
use Rattle.bn_reply.specs.Replying.{IsUnfinished, told_some, untold}
use Rattle.bn_reply.specs.declared.reply.Reply.{Reply}
use Rattle.bn_reply.specs.declared.status.Status.{Status}
use Rattle.bn_reply.specs.declared.status.Status.TheVariants as statuses
use Rattle.bn_reply_relations.specs.Windows.{ComesTo}
use Rattle.bn_reply_relations.specs.RunReply.{budget, reached, exit_status}
use Rattle.bn_reply_relations.specs.RunText.{run_text}
use Rattle.bn_reply_relations.specs.Laws.{ExitsAreNamed, MomentsAreCounted, found_text}
use Rattle.bn_reply_relations.proofs.RunLemmas.{named_of}
use Rattle.bn_reply_relations.proofs.WindowLemmas.{given_accepted}
use Rattle.bn_reply_boards.specs.Opened.{IsLarge}
use Rattle.bn_reply_boards.specs.Running.{HasRun}
use Rattle.bn_reply_boards.proofs.RunLemmas.{found_tells}
use Rattle.bn_headline.specs.AutoReply.{EndReplies, found, found_line, large}
use Rattle.bn_headline.specs.Asked.{IsAsked}
use Rattle.bn_headline.specs.Rounds.{IsRoundOf, IsRun, LeavesBy, RanBy, TellsEnd}
use Rattle.bn_headline.specs.declared.round.Round.{Round}
use Rattle.bn_headline.specs.declared.round.Round.TheVariants.{Ended, Short}

-- ---- a board that ran

window_named : (n : ℕ) (s : Side) → exits.Window n s ≢ exits.Unnamed
window_named n s e = cc

-- the status of an exit that is no end of a tape
status_apart : (e : Exit) → ((n : ℕ) (s : Side) → e ≡ exits.Window n s → ⊥) → exit_status e ≢ statuses.Window
status_apart exits.Inside other h = cc
status_apart exits.End other h = cc
status_apart (exits.Stuck a c) other h = cc
status_apart (exits.Window n s) other h = other n s refl
status_apart exits.Unnamed other h = cc

module _ (t : Named) (f : Flat) (m : Translation) (d : Flattened) (w : Limits) (e : Exit) (steps : ℕ)
    (told heard : Option (List Place)) (ran : HasRun None f m d e steps told heard) where
  abbrev heard_places : List Place
  heard_places = places f.circuit (budget f None) (flat_start f)

  pub ran_short : (n : ℕ) (s : Side) → e ≡ exits.Window n s → IsRun (TellsEnd t f w) (RanBy f) (Ok (Short n s)) told
      heard
  ran_short n s is = record {
    came = (
      heard_places,
      record {
        leaves = subst (IsExit f.layout (reached f None).place) is ran.is_exit;
        told_is = refl;
      },
      ran.hears,
    );
    interrupted = tt;
  }

  module _ (other : (n : ℕ) (s : Side) → e ≡ exits.Window n s → ⊥) where
    tells_end : TellsEnd t f w (exit_status e) (found_line w ++ found_text None t f e) heard_places
    tells_end = record {
      ran = found_text None t f e;
      tells = record { exit = e; is_exit = ran.is_exit; status_is = refl; text_is = refl; told_is = refl };
      no_window = status_apart e other;
      text_is = refl;
    }

    pub ran_ended : (r : Reply) → r.status ≡ exit_status e → r.text.items
        ≡ found_line w ++ run_text t f d.config steps e → IsRun (TellsEnd t f w) (RanBy f) (Ok (Ended r)) told heard
    ran_ended r status text =
        let whole : r.text.items ≡ found_line w ++ found_text None t f e =
        text ∙ (λ i. found_line w ++ run_text t f (ran.config i) (ran.steps_are i) e) in
        record {
          came = record {
            places = heard_places;
            right = subst (λ s. TellsEnd t f w s r.text.items heard_places) (sym status)
                (subst (λ x. TellsEnd t f w (exit_status e) x heard_places) (sym whole) tells_end);
            hears = ran.hears;
          };
          interrupted = tt;
        }

    pub ran_wanting : (x : NoMemory) → IsRun (TellsEnd t f w) (RanBy f) (Err x) told heard
    ran_wanting x = record {
      came = tt;
      interrupted = told_some (exit_status e) (found_line w ++ found_text None t f e) heard_places heard_places []
          tells_end (sym (append-nil heard_places)) ran.hears;
    }

-- ---- the board of a window

-- what is asked comes to a board that may be compiled
pub asked_accepted : (machines : TablesAreMachines) (t : Named) (symbols : List ℕ) → IsAsked t symbols → (w : Limits)
    → AreSmall w → (f : Flat)
    → ComesTo t.machine w symbols f → IsAccepted t.machine symbols w f
asked_accepted machines t symbols asked w small f comes =
    given_accepted machines asked.bytes asked.letters w t symbols f
    (record { reads = asked.given.reads; spelled = asked.given.spelled; small = small }) comes

module _ (t : Named) (symbols : List ℕ) (w : Limits) where
  -- the answer that it is too large
  pub large_ends : (r : Reply) (told : Option (List Place)) → IsLarge t.machine w r
      → IsRun (EndReplies t symbols w) (LeavesBy t.machine symbols w) (Ok (Ended r)) told told
  large_ends r told is = record {
    came = record {
      places = [];
      right = large is.count is.counts is.great is.text is.status refl;
      hears = hears-nothing told;
    };
    interrupted = tt;
  }

  module _ (f : Flat) (comes : ComesTo t.machine w symbols f) (accepted : IsAccepted t.machine symbols w f)
      (naming : ExitsAreNamed) (counts : MomentsAreCounted) where
    end_replies : (s : Status) (text : List ℕ) (told : List Place) → TellsEnd t f w s text told
        → EndReplies t symbols w s text told
    end_replies s text told h = found f comes h.ran (found_tells None t symbols w f comes.flat accepted naming counts s
        h.ran told h.tells) h.no_window h.text_is

    leaves_by : (tape : ℕ) (side : Side) (told : List Place) → RanBy f tape side told
        → LeavesBy t.machine symbols w tape side told
    leaves_by tape side told h = record {
      flat = f;
      comes = comes;
      leaves = named_of f.layout (reached f None).place (exits.Window tape side) h.leaves (window_named tape side);
      told_is = h.told_is;
    }

    unfinished_as : (told heard : Option (List Place)) → IsUnfinished (TellsEnd t f w) told heard
        → IsUnfinished (EndReplies t symbols w) told heard
    unfinished_as told heard (untold h) = untold h
    unfinished_as told heard (told_some s text places front rest h cut hears) =
        told_some s text places front rest (end_replies s text places h) cut hears

    round_as : (r : Round) (told heard : Option (List Place)) → IsRoundOf (TellsEnd t f w) (RanBy f) r told heard
        → IsRoundOf (EndReplies t symbols w) (LeavesBy t.machine symbols w) r told heard
    round_as (Ended r) told heard h = record {
      places = h.places;
      right = end_replies r.status r.text.items h.places h.right;
      hears = h.hears;
    }
    round_as (Short tape side) told heard h = (h.0, leaves_by tape side h.0 h.1, h.2)

    -- the run of its board is a round
    pub run_as : (result : Result Round NoMemory) (told heard : Option (List Place))
        → IsRun (TellsEnd t f w) (RanBy f) result told heard
        → IsRun (EndReplies t symbols w) (LeavesBy t.machine symbols w) result told heard
    run_as (Ok r) told heard h = record { came = round_as r told heard h.came; interrupted = tt }
    run_as (Err e) told heard h = record { came = tt; interrupted = unfinished_as told heard h.interrupted }
