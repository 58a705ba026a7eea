-- The laws on the runs of circuits in least windows.
use Rattle.std.proofs.Common.{◌≡◌, ◌≤◌, inl, inr, length, arith}
use Rattle.bn_machine.specs.Outcome.{Outside}
use Rattle.bn_extents.specs.Laws.{IsTooSmall}
use Rattle.bn_extents.proofs.LawLemmas.{larger_windows_end_alike, smaller_windows_are_too_small}
use Rattle.bn_reply.specs.declared.status.Status.TheVariants as statuses
use Rattle.bn_reply_relations.proofs.LawLemmas.{runs_tell_outcomes}
use Rattle.bn_window_laws.specs.Laws.{RunsEndInLeastWindows, RunsLeaveSmallerWindows}

pub runs_end_in_least_windows : RunsEndInLeastWindows
runs_end_in_least_windows bytes letters k l t symbols f status text told window more given comes tells =
    runs_tell_outcomes bytes letters k t symbols f status text told given comes tells window.fits.steps
    window.fits.outcome (larger_windows_end_alike t.machine symbols l k window.fits.steps window.fits.outcome
    window.fits.own more window.fits.comes_out)

pub runs_leave_smaller_windows : RunsLeaveSmallerWindows
runs_leave_smaller_windows bytes letters k l t symbols f status text told window smaller given comes tells =
    by_size (smaller_windows_are_too_small t.machine symbols k l window smaller)
  where
    by_size : IsTooSmall t.machine symbols k → status ≡ statuses.Window
    by_size (inl short) = let fits : length symbols ≤ k.right = comes.fits in absurd (omega arith)
    by_size (inr leaves) = (runs_tell_outcomes bytes letters k t symbols f status text told given comes tells leaves.0
        (Outside leaves.1 leaves.2) leaves.3).status_is
