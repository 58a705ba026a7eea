use Rattle.bn_reply_views.proofs.BreakpointLemmas.{goes-next, revs-last, steps-back, one-text}
use Rattle.bn_reply_views.proofs.LawLemmas.{session_has_one_reply, view_has_one_reply, views_show_steps}
use Rattle.bn_reply_views.proofs.PlaceLemmas.{places-one, sessions-show}
use Rattle.bn_reply_views.proofs.RunLemmas.{sessions_stay, places_told, goes_least}
use Rattle.bn_reply_views.proofs.laws.reply_views_laws.Goals as goal

pub returns : goal.returns
returns _ = record {
  places_are_one_in_all = (places-one, sessions-show);
  breakpoints_hold_at_moments = (goes-next, revs-last);
  steps_taken_back_are_steps = steps-back;
  boards_show_one_text = one-text;
  session_has_one_reply = session_has_one_reply;
  sessions_stay_on_the_run = (sessions_stay, places_told, goes_least);
  view_has_one_reply = view_has_one_reply;
  views_show_steps = views_show_steps;
}
