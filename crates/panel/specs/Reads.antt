-- Only serves the code's own contracts: what a reading of the totals tells, and one of a block's flags.
use Rattle.std.specs.Prelude.{cond, List, ℕ}
use Rattle.std.specs.declared.result.Result.{Result}
use Rattle.std.specs.declared.result.Result.TheVariants as searches
use Rattle.parity.specs.Lists.{sum_over}
use Rattle.panel.specs.Panel.{first_nonzero, any_nonzero, read_count}
use Rattle.panel.specs.declared.Totals.{Totals}

-- what all the totals tell
abbrev pub summed : List ℕ → Totals
summed totals = record { sum = sum_over totals (λ t. t); block = first_nonzero totals }

-- a search through a block's flags for one that isn't 0: how many flags were read, by whether there is one
abbrev pub searched : List ℕ → Result ℕ ℕ
searched flags = cond (any_nonzero flags) (searches.Ok (read_count flags)) (searches.Err (read_count flags))
