-- `array_lookup::first::first_lent` meets its contract: the inputs become bytes in an array, and the search goes over the rows with that part of it.
-- Assumes nothing.
use mathlib.Core.Path.{sym}
use Rattle.array_lookup.proofs.FirstRows.{taken, rows-searched, first_said}
use Rattle.array_lookup.proofs.Front.{front_fits, front-sized}
use Rattle.array_lookup.proofs.Narrowing.{bytes-ask, bytes-narrowed}
use Rattle.array_lookup.proofs.first.first_lent.Goals as goal

pub slice_bounds-bytes-end : goal.slice_bounds-bytes-end
slice_bounds-bytes-end c =
    let args = c.args in
    let p = taken args.shape args.sizes args.cells.now args.lines.now args.inputs.now c.requires in
    front_fits args.shape p.cells.taken

pub slice_bounds-narrow-end : goal.slice_bounds-narrow-end
slice_bounds-narrow-end c =
    let args = c.args in
    let p = taken args.shape args.sizes args.cells.now args.lines.now args.inputs.now c.requires in
    sym (front-sized args.shape p.cells.taken)

pub narrow-below-requires-clause-inputs_len : goal.narrow-below-requires-clause-inputs_len
narrow-below-requires-clause-inputs_len c =
    let args = c.args in
    let p = taken args.shape args.sizes args.cells.now args.lines.now args.inputs.now c.requires in
    (bytes-ask args.shape p.cells.taken args.inputs.now p.inputs args.sizes c.requires.sizes).1

-- once the bytes are made
pub find_match-requires : goal.find_match-requires
find_match-requires c =
    let args = c.args in
    let p = taken args.shape args.sizes args.cells.now args.lines.now args.inputs.now c.requires in
    let made = c.narrow-below in
    rows-searched args.shape args.sizes args.cells.now args.lines.now args.inputs.now c.requires made.result _
    (bytes-narrowed args.shape p.cells.taken args.inputs.now p.inputs made.new.bytes made.ensures.narrowed args.sizes c.requires.sizes
    made.result made.ensures.below)

-- the search's answer
pub returns : goal.returns
returns c =
    let args = c.args in
    let p = taken args.shape args.sizes args.cells.now args.lines.now args.inputs.now c.requires in
    let made = c.narrow-below in
    first_said args.shape args.sizes args.cells.now args.lines.now args.inputs.now c.requires made.result _
    (bytes-narrowed args.shape p.cells.taken args.inputs.now p.inputs made.new.bytes made.ensures.narrowed args.sizes c.requires.sizes
    made.result made.ensures.below)
    _ c.find_match.ensures
