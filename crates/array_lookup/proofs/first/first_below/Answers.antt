-- `array_lookup::first::first_below` meets its contract: the search goes over the rows with the inputs as they are. Assumes nothing.
use mathlib.Core.Bool.{true}
use Rattle.parity.specs.Shape.{levels}
use Rattle.array_lookup.proofs.FirstRows.{rows-searched, first_said}
use Rattle.array_lookup.proofs.Narrowing.{below-narrowed}
use Rattle.array_lookup.proofs.first.first_below.Goals as goal

pub find_match-requires : goal.find_match-requires
find_match-requires c =
    let args = c.args in
    rows-searched args.shape args.sizes args.cells.now args.lines.now args.inputs.now c.requires.passed true args.inputs.now
    (below-narrowed (levels args.shape) args.inputs.now c.requires.inputs_value)

-- the search's answer
pub returns : goal.returns
returns c =
    let args = c.args in
    first_said args.shape args.sizes args.cells.now args.lines.now args.inputs.now c.requires.passed true args.inputs.now
    (below-narrowed (levels args.shape) args.inputs.now c.requires.inputs_value) _ c.find_match.ensures
