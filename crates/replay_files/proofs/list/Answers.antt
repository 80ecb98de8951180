-- `list` counts no more of the text than the listing. Assumes nothing.
use mathlib.Core.Path.{sym}
use lib.Seq.{length-take-le}
use Rattle.pmf.proofs.Theorems.{within}
use Rattle.replay_files.proofs.list.Goals as goal

pub slice_bounds-text-end : goal.slice_bounds-text-end
slice_bounds-text-end g c = within _ _ c.list-k.ensures

pub slice_bounds-count-end : goal.slice_bounds-count-end
slice_bounds-count-end g c = sym (length-take-le _ _ (within _ _ c.list-k.ensures))
