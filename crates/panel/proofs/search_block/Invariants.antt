-- `panel::search_block` meets its contract: what is left of the search gives the whole search's answer, and as many flags were read as were
-- passed over. Assumes nothing.
use mathlib.Core.Path.{◌≡◌}
use Rattle.panel.proofs.Searches.{Left}
use Rattle.panel.proofs.search_block.Given as goal

abbrev pub invariant-loop-flag : goal.invariant-loop-flag
invariant-loop-flag l = (l.read ≡ l.flag-index) × Left l.flags l.flag-index
