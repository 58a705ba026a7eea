use Rattle.bn_boards.proofs.BoardLawLemmas.{boards_are_restored, boards_end_in_time, boards_have_moments}
use Rattle.bn_boards.proofs.BoardLawLemmas.{boards_leave_by_outcomes, boards_run_back, boards_run_to_their_exit}
use Rattle.bn_boards.proofs.BoardLawLemmas.{exits_tell_outcomes, flats_are_there, moments_are_by_marks}
use Rattle.bn_boards.proofs.BoardLawLemmas.{moments_are_told, networks_end_alike}
use Rattle.bn_boards.proofs.BoardReadLemmas.{starts-spell}
use Rattle.bn_boards.proofs.CountLemmas.{costs-one}
use Rattle.bn_boards.proofs.FirstReadLemmas.{networks-stop}
use Rattle.bn_boards.proofs.LayoutLemmas.{layouts-there}
use Rattle.bn_boards.proofs.NetworkLemmas.{networks-modules, networks-there}
use Rattle.bn_boards.proofs.NetworkMomentLemmas.{networks-moments}
use Rattle.bn_boards.proofs.BankedLemmas.{modules-banks}
use Rattle.bn_boards.proofs.ExitLemmas.{exits-one}
use Rattle.bn_boards.proofs.FollowedLemmas.{boards-follow}
use Rattle.bn_boards.proofs.LayoutLawLemmas.{boards_are_read, flats_are_one, words_differ_in_cells}
use Rattle.bn_boards.proofs.LayoutLawLemmas.{words_share_boards}
use Rattle.bn_boards.proofs.ListedLemmas.{boards-there}
use Rattle.bn_boards.proofs.LooseLemmas.{loose-move}
use Rattle.bn_boards.proofs.MovedLemmas.{one-move}
use Rattle.bn_boards.proofs.NetworkReadLemmas.{networks-read}
use Rattle.bn_boards.proofs.ReadingLemmas.{boards-read as boards-read_alike}
use Rattle.bn_boards.proofs.VisitedLemmas.{boards-visit}
use Rattle.bn_boards.proofs.BackLemmas.{builds-back}
use Rattle.bn_boards.proofs.BuildMomentLemmas.{builds-show}
use Rattle.bn_boards.proofs.ConverseLemmas.{builds-once, builds-tell}
use Rattle.bn_boards.proofs.InverseLemmas.{inverse-builds}
use Rattle.bn_boards.proofs.LeftLemmas.{builds-left}
use Rattle.bn_boards.proofs.RunLemmas.{builds-run}
use Rattle.bn_boards.proofs.StartLemmas.{builds-start-anywhere, builds-start-words, one-word, words-fit}
use Rattle.bn_boards.proofs.ThereLemmas.{builds-there}
use Rattle.bn_boards.proofs.OwnRunLemmas.{own-runs-end, own-runs-words, own-runs-one}
use Rattle.bn_boards.proofs.laws.boards_laws.Goals as goal

pub returns : goal.returns
returns _ = record {
  modules_are_banks = modules-banks;
  boards_are_there = boards-there;
  one_move_is_one_crossing = one-move;
  missing_moves_lead_to_loose_lines = loose-move;
  boards_follow_networks = boards-follow;
  boards_visit_situations = boards-visit;
  flats_are_one = flats_are_one;
  exits_are_one = exits-one;
  boards_are_read = boards_are_read;
  words_differ_in_cells = words_differ_in_cells;
  words_share_boards = words_share_boards;
  networks_are_there = networks-there;
  networks_are_modules = networks-modules;
  layouts_are_there = layouts-there;
  flats_are_there = flats_are_there;
  networks_end_alike = networks_end_alike;
  boards_run_to_their_exit = boards_run_to_their_exit;
  costs_are_one = costs-one;
  boards_end_in_time = boards_end_in_time;
  exits_tell_outcomes = exits_tell_outcomes;
  boards_leave_by_outcomes = boards_leave_by_outcomes;
  boards_are_restored = boards_are_restored;
  boards_run_back = boards_run_back;
  moments_are_told = moments_are_told;
  moments_are_by_marks = moments_are_by_marks;
  boards_have_moments = boards_have_moments;
  networks_are_read = networks-read;
  boards_are_read_alike = boards-read_alike;
  networks_have_moments = networks-moments;
  networks_stop_at_first_reads = networks-stop;
  starts_spell_words = starts-spell;
  builds_are_there = builds-there;
  builds_start_anywhere = builds-start-anywhere;
  words_fit = words-fit;
  builds_start_with_words = builds-start-words;
  one_word_starts = one-word;
  builds_run_to_their_exit = builds-run;
  builds_run_back = builds-back;
  builds_tell_their_machine = builds-tell;
  builds_are_left_by_their_machine = builds-left;
  builds_show_their_machine = builds-show;
  builds_end_once = builds-once;
  inverse_builds_run_back = inverse-builds;
  own_runs_end = own-runs-end;
  own_runs_from_words_end = own-runs-words;
  own_runs_are_one = own-runs-one;
}
