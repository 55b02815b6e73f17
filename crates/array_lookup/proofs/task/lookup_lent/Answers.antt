-- `array_lookup::task::lookup_lent` meets its contract: the inputs become bytes in an array, the loop goes over the rows with that part of it, and each
-- row is compared from its own part of the cells. Assumes nothing.
use mathlib.Core.Path.{◌≡◌, sym, ap, ap₂, ◌∙◌}
use mathlib.Core.Bool.{Bool}
use mathlib.Core.List.{List}
use Prim.Native.Nat.{ℕ}
use lib.ListN.{length}
use Rattle.parity.specs.Lists.{tabulate, sum_over}
use Rattle.parity.specs.Shape.{levels}
use Rattle.parity.specs.declared.Shape.{Shape}
use Rattle.parity.proofs.ListLaws.{tabulate-same}
use Rattle.shape.specs.Answers.{accepted, giving}
use Rattle.shape.specs.Shapes.{sizes_of}
use Rattle.shape.specs.declared.sizes.Sizes.{Sizes}
use Rattle.shape.proofs.Calling.{call-done}
use Rattle.array_memory.specs.Geometry.{match_bytes}
use Rattle.array_memory.specs.Memory.{with_array, no_memory}
use Rattle.array_lookup.specs.Lookups.{task_matches, task_count, lookup_call}
use Rattle.array_lookup.specs.Rows.{byte_of}
use Rattle.array_lookup.proofs.RowBytes.{task-byte}
use Rattle.array_lookup.proofs.Front.{front_fits, front-sized}
use Rattle.array_lookup.proofs.Narrowing.{Narrowed, bytes-ask, bytes-narrowed}
use Rattle.array_lookup.proofs.Asked.{ArrayTaken, lookup-taken, rows-lent}
use Rattle.array_lookup.proofs.task.lookup_lent.Goals as goal

pub slice_bounds-bytes-end : goal.slice_bounds-bytes-end
slice_bounds-bytes-end c =
    let args = c.args in
    let p = lookup-taken args.shape (length args.cells.now) (length args.lines.now) args.inputs.now (length args.matches.now) c.requires.none in
    front_fits args.shape p.0.cells.taken

pub slice_bounds-narrow-end : goal.slice_bounds-narrow-end
slice_bounds-narrow-end c =
    let args = c.args in
    let p = lookup-taken args.shape (length args.cells.now) (length args.lines.now) args.inputs.now (length args.matches.now) c.requires.none in
    sym (front-sized args.shape p.0.cells.taken)

pub narrow-below-requires-clause-inputs_len : goal.narrow-below-requires-clause-inputs_len
narrow-below-requires-clause-inputs_len c =
    let args = c.args in
    let p = lookup-taken args.shape (length args.cells.now) (length args.lines.now) args.inputs.now (length args.matches.now) c.requires.none in
    (bytes-ask args.shape p.0.cells.taken args.inputs.now p.0.inputs args.sizes c.requires.sizes).1

-- once the bytes are made
pub match_rows-requires : goal.match_rows-requires
match_rows-requires c =
    let args = c.args in
    let p = lookup-taken args.shape (length args.cells.now) (length args.lines.now) args.inputs.now (length args.matches.now) c.requires.none in
    let made = c.narrow-below in
    let narrowed =
    bytes-narrowed args.shape p.0.cells.taken args.inputs.now p.0.inputs made.new.bytes made.ensures.narrowed args.sizes c.requires.sizes
    made.result made.ensures.below in
    rw p.1 (rows-lent args.shape (length args.cells.now) (length args.lines.now) args.sizes args.inputs.now _ p.0 c.requires.sizes narrowed.sized)

-- the match bytes that are written are those of the rows
matched :
    (s : Shape) (z : Sizes) (cells lines inputs : List ℕ) (below : Bool) (bytes written : List ℕ) (m : ℕ)
    → ArrayTaken s (length cells) (length lines) inputs → m ≡ s.rows → z ≡ sizes_of s → Narrowed (levels s) inputs below bytes
    → written ≡ tabulate m (byte_of below bytes cells lines z.columns)
    → written ≡ task_matches s (with_array cells lines no_memory) inputs
unfolding task_matches match_bytes
matched s z cells lines inputs below bytes written m p rows e narrowed are =
    are ∙ ap (λ m. tabulate m (byte_of below bytes cells lines z.columns)) rows
    ∙ tabulate-same s.rows _ _ (task-byte s z inputs below bytes cells lines p.cells e p.inputs narrowed)

-- all rows looked up
pub returns : goal.returns
unfolding lookup_call task_matches task_count
returns c =
    let args = c.args in
    let p = lookup-taken args.shape (length args.cells.now) (length args.lines.now) args.inputs.now (length args.matches.now) c.requires.none in
    let made = c.narrow-below in
    let narrowed =
    bytes-narrowed args.shape p.0.cells.taken args.inputs.now p.0.inputs made.new.bytes made.ensures.narrowed args.sizes c.requires.sizes
    made.result made.ensures.below in
    let bytes =
    matched args.shape args.sizes args.cells.now args.lines.now args.inputs.now made.result _ c.match_rows.new.matches (length args.matches.now)
    p.0 p.1 c.requires.sizes narrowed c.match_rows.ensures.matched in
    let count = c.match_rows.ensures.counted ∙ ap (λ bytes. sum_over bytes (λ byte. byte)) bytes in
    λ mem. call-done _ args.matches.now (with_array args.cells.now args.lines.now mem) _ c.requires.none
    ∙ ap₂ (λ n bytes. giving (accepted n) bytes (with_array args.cells.now args.lines.now mem)) (sym count) (sym bytes)
