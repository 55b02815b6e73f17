-- `panel::search_block` meets its contract: what is left of the search gives the whole search's answer, and as many flags were read as were
-- passed over. Assumes nothing.
use mathlib.Core.Path.{refl}
use Rattle.panel.proofs.Searches.{left-all}
use Rattle.panel.proofs.search_block.Goals as goal

pub loop-flag-init : goal.loop-flag-init
loop-flag-init c = (refl, left-all _)
