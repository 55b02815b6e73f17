-- `job::job` meets its contract: a job that is taken is run on the front parts of its buffers, and its report is its head and then the lines of
-- its rows. Assumes nothing.
use mathlib.Core.Path.{◌≡◌, sym, ◌∙◌, ap, subst}
use mathlib.Core.Bool.{Bool, true}
use mathlib.Core.List.{List, ◌++◌}
use Prim.Native.Nat.{ℕ, ◌≤◌}
use native.Mathlib.Omega.{arith}
use lib.ListN.{length, take, drop, length-append}
use lib.Seq.{length-take-le, take_at}
use Rattle.std.specs.declared.result.Result.{Result as Answer}
use Rattle.std.specs.declared.result.Result.TheVariants.{Ok}
use Rattle.parity.specs.Shape.{cell_count}
use Rattle.parity.specs.declared.Shape.{Shape}
use Rattle.parity.proofs.Taken.{limits}
use Rattle.shape.specs.Answers.{outcome_says}
use Rattle.shape.specs.Shapes.{checked_says, sizes_if, sizes_of, Passed}
use Rattle.shape.specs.declared.answer.Refusal.{Refusal}
use Rattle.shape.specs.declared.sizes.Sizes.{Sizes}
use Rattle.shape.proofs.Refusals.{answer-taken, answer-refused}
use Rattle.array_memory.specs.Blocks.{blocks_of}
use Rattle.array_memory.specs.Memory.{with_all, no_memory}
use Rattle.cycle.specs.Calls.{State, state_of}
use Rattle.job_parse.specs.Parse.{job_shape, most_cells, job_questions, job_refusal}
use Rattle.job_text.specs.Text.{refused_text, head_text, rows_text}
use Rattle.job_text.specs.Written.{Wrote}
use Rattle.job_text.proofs.Lengths.{head-short}
use Rattle.job_text.proofs.Written.{wrote-append}
use Rattle.job.specs.Job.{Space, space, most_rows, most_text, roomy, printed, report_text}
use Rattle.job.proofs.TakenJob.{taken_job}
use Rattle.job.proofs.JobSpace.{Room, room, front-written, no_room, refused-job, taken-job}
use Rattle.job.proofs.job.Goals as goal

-- what is known of a job that is taken, of its sizes and its shape, where there is room: its parts fit
record Fits (input : List ℕ) (sp : Space) (sizes : Sizes) (s : Shape) : Type 0 where
  pub none : job_refusal input ≡ 0
  pub known : sizes ≡ sizes_of (job_shape input)
  pub end : sizes.cells ≡ cell_count s
  pub cells : sizes.cells ≤ length sp.cells
  pub few : s.rows ≤ most_rows
  pub lines : s.rows ≤ length sp.lines
  pub counters : s.rows ≤ length sp.counters
  pub flags : s.rows ≤ length sp.flags
  pub totals : (blocks : ℕ) → blocks ≡ blocks_of s.rows → blocks ≤ length sp.totals
  pub matches : s.rows ≤ length sp.matches
  pub out : most_text ≤ length sp.out

-- a job that is taken has no no, and its sizes are its shape's
passed :
    (input : List ℕ) (answer : Answer Sizes Refusal) (sizes : Sizes) → checked_says answer ≡ sizes_if (job_refusal input) (job_shape input)
    → answer ≡ Ok sizes → Passed (job_questions input) (job_shape input) sizes
unfolding job_refusal
passed input answer sizes e is = answer-taken (job_questions input) (job_shape input) e is

refuses-none :
    (input : List ℕ) (answer : Answer Sizes Refusal) (sizes : Sizes) → checked_says answer ≡ sizes_if (job_refusal input) (job_shape input)
    → answer ≡ Ok sizes → job_refusal input ≡ 0
unfolding job_refusal
refuses-none input answer sizes e is = (passed input answer sizes e is).none

fits :
    (input : List ℕ) (sp : Space) (long : Bool) (answer : Answer Sizes Refusal) (sizes : Sizes) (s : Shape) → long ≡ roomy sp → long ≡ true
    → checked_says answer ≡ sizes_if (job_refusal input) (job_shape input) → answer ≡ Ok sizes → s ≡ job_shape input
    → Fits input sp sizes s
unfolding blocks_of job_refusal
fits input sp long answer sizes s has true_long e is same =
    let wide : Room sp = room sp (sym has ∙ true_long) in
    let all = passed input answer sizes e is in
    let job = taken_job input all.none in
    let few : s.rows ≤ most_rows = rw same (limits _ job.taken).rows_high in
    let end : sizes.cells ≡ cell_count s = ap (λ z. z.cells) all.sizes ∙ ap cell_count (sym same) in
    let small : sizes.cells ≤ most_cells = rw (end, same) job.cells in
    record {
      none = all.none;
      known = all.sizes;
      end = end;
      cells = omega (arith, wide.cells);
      few = few;
      lines = omega (arith, wide.lines);
      counters = omega (arith, wide.counters);
      flags = omega (arith, wide.flags);
      totals = λ blocks counted. omega (arith, wide.totals);
      matches = omega (arith, wide.matches);
      out = wide.out;
    }

-- what was lent of a buffer is as long after the run
front : (part : List ℕ) (n : ℕ) (old : List ℕ) → length part ≡ length (take n old) → n ≤ length old → length part ≡ n
front part n old kept h = kept ∙ length-take-le n old h

-- the first line is short, whatever is in it
line-end : (levels columns count : ℕ) {end : ℕ} {out after : List ℕ} → Wrote 0 (head_text levels columns count) out end after → end ≤ 86
line-end levels columns count w = omega (arith, w.place, head-short levels columns count)

-- the texts, one after the other, are the report of the state that is left
report :
    (input out : List ℕ) (s : Shape) (sizes : Sizes) (st : State) (flags : List ℕ) (head end : ℕ) (first last : List ℕ) → s ≡ job_shape input
    → sizes ≡ sizes_of (job_shape input) → flags ≡ st.memory.flags → length st.memory.flags ≡ s.rows → most_text ≤ length out
    → Wrote 0 (head_text sizes.levels sizes.columns st.cycle.count) out head first → Wrote head (rows_text (length flags) flags) first end last
    → Wrote 0 (report_text (job_shape input) st) out end last
unfolding report_text
report input out s sizes st flags head end first last same known front l room w v =
    let short : head ≤ 86 = line-end _ _ _ w in
    let rows : length flags ≡ (job_shape input).rows = ap length front ∙ l ∙ ap (λ s. s.rows) same in
    subst (λ text. Wrote 0 text out end last)
    (λ i. head_text (known i).levels (known i).columns st.cycle.count ++ rows_text (rows i) (front i))
    (wrote-append (omega arith) w v)

-- too little room
pub returns-then-not-has_room : goal.returns-then-not-has_room
returns-then-not-has_room c =
    let args = c.args in
    let sp : Space = space args.cells.now args.lines.now args.counters.now args.flags.now args.totals.now args.matches.now args.out.now in
    no_room args.input.now sp (sym c.has_room.ensures ∙ c.if-not-has_room.true)

pub put_refusal-requires : goal.put_refusal-requires
put_refusal-requires c =
    let args = c.args in
    let sp : Space = space args.cells.now args.lines.now args.counters.now args.flags.now args.totals.now args.matches.now args.out.now in
    let wide : Room sp = room sp (sym c.has_room.ensures ∙ c.if-not-has_room.false) in
    omega (arith, wide.out)

pub shape_of-shape-requires-in-Ok : goal.shape_of-shape-requires-in-Ok
shape_of-shape-requires-in-Ok c =
    omega (arith, (taken_job c.args.input.now (refuses-none c.args.input.now _ _ c.check_job.ensures c.in-Ok.is)).sized)

pub slice_bounds-run_calls-end : goal.slice_bounds-run_calls-end
slice_bounds-run_calls-end c =
    let args = c.args in
    let sp : Space = space args.cells.now args.lines.now args.counters.now args.flags.now args.totals.now args.matches.now args.out.now in
    let fit = fits args.input.now sp _ _ _ _ c.has_room.ensures c.if-not-has_room.false c.check_job.ensures c.in-Ok.is c.shape_of-shape.ensures in
    fit.cells

pub slice_bounds-run_calls-end-in-Ok : goal.slice_bounds-run_calls-end-in-Ok
slice_bounds-run_calls-end-in-Ok c =
    let args = c.args in
    let sp : Space = space args.cells.now args.lines.now args.counters.now args.flags.now args.totals.now args.matches.now args.out.now in
    let fit = fits args.input.now sp _ _ _ _ c.has_room.ensures c.if-not-has_room.false c.check_job.ensures c.in-Ok.is c.shape_of-shape.ensures in
    sym (length-take-le _ _ fit.cells)

pub slice_bounds-run_calls-end-in-Ok-2 : goal.slice_bounds-run_calls-end-in-Ok-2
slice_bounds-run_calls-end-in-Ok-2 c =
    let args = c.args in
    let sp : Space = space args.cells.now args.lines.now args.counters.now args.flags.now args.totals.now args.matches.now args.out.now in
    let fit = fits args.input.now sp _ _ _ _ c.has_room.ensures c.if-not-has_room.false c.check_job.ensures c.in-Ok.is c.shape_of-shape.ensures in
    fit.lines

pub slice_bounds-run_calls-end-in-Ok-3 : goal.slice_bounds-run_calls-end-in-Ok-3
slice_bounds-run_calls-end-in-Ok-3 c =
    let args = c.args in
    let sp : Space = space args.cells.now args.lines.now args.counters.now args.flags.now args.totals.now args.matches.now args.out.now in
    let fit = fits args.input.now sp _ _ _ _ c.has_room.ensures c.if-not-has_room.false c.check_job.ensures c.in-Ok.is c.shape_of-shape.ensures in
    sym (length-take-le _ _ fit.lines)

pub slice_bounds-run_calls-end-in-Ok-4 : goal.slice_bounds-run_calls-end-in-Ok-4
slice_bounds-run_calls-end-in-Ok-4 c =
    let args = c.args in
    let sp : Space = space args.cells.now args.lines.now args.counters.now args.flags.now args.totals.now args.matches.now args.out.now in
    let fit = fits args.input.now sp _ _ _ _ c.has_room.ensures c.if-not-has_room.false c.check_job.ensures c.in-Ok.is c.shape_of-shape.ensures in
    fit.counters

pub slice_bounds-run_calls-end-in-Ok-5 : goal.slice_bounds-run_calls-end-in-Ok-5
slice_bounds-run_calls-end-in-Ok-5 c =
    let args = c.args in
    let sp : Space = space args.cells.now args.lines.now args.counters.now args.flags.now args.totals.now args.matches.now args.out.now in
    let fit = fits args.input.now sp _ _ _ _ c.has_room.ensures c.if-not-has_room.false c.check_job.ensures c.in-Ok.is c.shape_of-shape.ensures in
    sym (length-take-le _ _ fit.counters)

pub slice_bounds-run_calls-end-in-Ok-6 : goal.slice_bounds-run_calls-end-in-Ok-6
slice_bounds-run_calls-end-in-Ok-6 c =
    let args = c.args in
    let sp : Space = space args.cells.now args.lines.now args.counters.now args.flags.now args.totals.now args.matches.now args.out.now in
    let fit = fits args.input.now sp _ _ _ _ c.has_room.ensures c.if-not-has_room.false c.check_job.ensures c.in-Ok.is c.shape_of-shape.ensures in
    fit.flags

pub slice_bounds-run_calls-end-in-Ok-7 : goal.slice_bounds-run_calls-end-in-Ok-7
slice_bounds-run_calls-end-in-Ok-7 c =
    let args = c.args in
    let sp : Space = space args.cells.now args.lines.now args.counters.now args.flags.now args.totals.now args.matches.now args.out.now in
    let fit = fits args.input.now sp _ _ _ _ c.has_room.ensures c.if-not-has_room.false c.check_job.ensures c.in-Ok.is c.shape_of-shape.ensures in
    sym (length-take-le _ _ fit.flags)

pub slice_bounds-run_calls-end-in-Ok-8 : goal.slice_bounds-run_calls-end-in-Ok-8
slice_bounds-run_calls-end-in-Ok-8 c =
    let args = c.args in
    let sp : Space = space args.cells.now args.lines.now args.counters.now args.flags.now args.totals.now args.matches.now args.out.now in
    let fit = fits args.input.now sp _ _ _ _ c.has_room.ensures c.if-not-has_room.false c.check_job.ensures c.in-Ok.is c.shape_of-shape.ensures in
    fit.totals _ c.block_count-blocks.ensures

pub slice_bounds-run_calls-end-in-Ok-9 : goal.slice_bounds-run_calls-end-in-Ok-9
slice_bounds-run_calls-end-in-Ok-9 c =
    let args = c.args in
    let sp : Space = space args.cells.now args.lines.now args.counters.now args.flags.now args.totals.now args.matches.now args.out.now in
    let fit = fits args.input.now sp _ _ _ _ c.has_room.ensures c.if-not-has_room.false c.check_job.ensures c.in-Ok.is c.shape_of-shape.ensures in
    sym (length-take-le _ _ (fit.totals _ c.block_count-blocks.ensures))

pub slice_bounds-run_calls-end-in-Ok-10 : goal.slice_bounds-run_calls-end-in-Ok-10
slice_bounds-run_calls-end-in-Ok-10 c =
    let args = c.args in
    let sp : Space = space args.cells.now args.lines.now args.counters.now args.flags.now args.totals.now args.matches.now args.out.now in
    let fit = fits args.input.now sp _ _ _ _ c.has_room.ensures c.if-not-has_room.false c.check_job.ensures c.in-Ok.is c.shape_of-shape.ensures in
    fit.matches

pub slice_bounds-run_calls-end-in-Ok-11 : goal.slice_bounds-run_calls-end-in-Ok-11
slice_bounds-run_calls-end-in-Ok-11 c =
    let args = c.args in
    let sp : Space = space args.cells.now args.lines.now args.counters.now args.flags.now args.totals.now args.matches.now args.out.now in
    let fit = fits args.input.now sp _ _ _ _ c.has_room.ensures c.if-not-has_room.false c.check_job.ensures c.in-Ok.is c.shape_of-shape.ensures in
    sym (length-take-le _ _ fit.matches)

pub run_calls-ended-requires-clause-rows_lent : goal.run_calls-ended-requires-clause-rows_lent
run_calls-ended-requires-clause-rows_lent c =
    let args = c.args in
    let sp : Space = space args.cells.now args.lines.now args.counters.now args.flags.now args.totals.now args.matches.now args.out.now in
    let fit = fits args.input.now sp _ _ _ _ c.has_room.ensures c.if-not-has_room.false c.check_job.ensures c.in-Ok.is c.shape_of-shape.ensures in
    record {
      memory =
          record {
            cells = length-take-le _ _ fit.cells ∙ fit.end;
            lines = length-take-le _ _ fit.lines;
            rows =
                record {
                  counters = length-take-le _ _ fit.counters;
                  flags = length-take-le _ _ fit.flags;
                  totals = length-take-le _ _ (fit.totals _ c.block_count-blocks.ensures) ∙ c.block_count-blocks.ensures;
                };
          };
      matches = length-take-le _ _ fit.matches;
    }

pub put_head-head-requires : goal.put_head-head-requires
put_head-head-requires c =
    let args = c.args in
    let sp : Space = space args.cells.now args.lines.now args.counters.now args.flags.now args.totals.now args.matches.now args.out.now in
    let fit = fits args.input.now sp _ _ _ _ c.has_room.ensures c.if-not-has_room.false c.check_job.ensures c.in-Ok.is c.shape_of-shape.ensures in
    omega (arith, fit.out)

pub slice_bounds-put_rows-end : goal.slice_bounds-put_rows-end
slice_bounds-put_rows-end c =
    let args = c.args in
    let sp : Space = space args.cells.now args.lines.now args.counters.now args.flags.now args.totals.now args.matches.now args.out.now in
    let fit = fits args.input.now sp _ _ _ _ c.has_room.ensures c.if-not-has_room.false c.check_job.ensures c.in-Ok.is c.shape_of-shape.ensures in
    let run = c.run_calls-ended in
    let rows = c.shape_of-shape.result.rows in
    let part : length run.new.flags ≡ rows = front run.new.flags rows args.flags.now run.auto.flags fit.flags in
    omega (arith, length-append run.new.flags (drop rows args.flags.now))

pub slice_bounds-put_rows-end-in-Ok : goal.slice_bounds-put_rows-end-in-Ok
slice_bounds-put_rows-end-in-Ok c =
    let args = c.args in
    let sp : Space = space args.cells.now args.lines.now args.counters.now args.flags.now args.totals.now args.matches.now args.out.now in
    let fit = fits args.input.now sp _ _ _ _ c.has_room.ensures c.if-not-has_room.false c.check_job.ensures c.in-Ok.is c.shape_of-shape.ensures in
    let run = c.run_calls-ended in
    let rows = c.shape_of-shape.result.rows in
    let part : length run.new.flags ≡ rows = front run.new.flags rows args.flags.now run.auto.flags fit.flags in
    sym (ap length (take_at run.new.flags _ rows part) ∙ part)

pub put_rows-requires : goal.put_rows-requires
put_rows-requires c =
    let args = c.args in
    let sp : Space = space args.cells.now args.lines.now args.counters.now args.flags.now args.totals.now args.matches.now args.out.now in
    let fit = fits args.input.now sp _ _ _ _ c.has_room.ensures c.if-not-has_room.false c.check_job.ensures c.in-Ok.is c.shape_of-shape.ensures in
    let run = c.run_calls-ended in
    let rows = c.shape_of-shape.result.rows in
    let part : length run.new.flags ≡ rows = front run.new.flags rows args.flags.now run.auto.flags fit.flags in
    let whole = ap length (take_at run.new.flags (drop rows args.flags.now) rows part) in
    let short : c.put_head-head.result ≤ 86 = line-end _ _ _ c.put_head-head.ensures in
    omega (arith, fit.few, fit.out, c.put_head-head.auto.out)

-- refused
pub returns-in-Err : goal.returns-in-Err
unfolding job_refusal
returns-in-Err c =
    let args = c.args in
    let sp : Space = space args.cells.now args.lines.now args.counters.now args.flags.now args.totals.now args.matches.now args.out.now in
    let input = args.input.now in
    refused-job input sp (sym c.has_room.ensures ∙ c.if-not-has_room.false) _
    (answer-refused (job_questions input) (job_shape input) c.check_job.ensures c.in-Err.is)
    (subst (λ n. Wrote 0 (refused_text n) args.out.now c.put_refusal.result c.put_refusal.new.out) c.number.ensures c.put_refusal.ensures)

-- run and reported
pub returns-in-Ok : goal.returns-in-Ok
returns-in-Ok c =
    let args = c.args in
    let sp : Space = space args.cells.now args.lines.now args.counters.now args.flags.now args.totals.now args.matches.now args.out.now in
    let fit = fits args.input.now sp _ _ _ _ c.has_room.ensures c.if-not-has_room.false c.check_job.ensures c.in-Ok.is c.shape_of-shape.ensures in
    let run = c.run_calls-ended in
    let left = run.new in
    let s = c.shape_of-shape.result in
    let st : State = state_of (with_all left.cells left.lines left.counters left.flags left.totals no_memory) run.result.cycle in
    let cells : length left.cells ≡ c.in-Ok.sizes.cells = front left.cells _ _ run.auto.cells fit.cells in
    let lines : length left.lines ≡ s.rows = front left.lines _ _ run.auto.lines fit.lines in
    let counters : length left.counters ≡ s.rows = front left.counters _ _ run.auto.counters fit.counters in
    let flags : length left.flags ≡ s.rows = front left.flags _ _ run.auto.flags fit.flags in
    let totals : length left.totals ≡ c.block_count-blocks.result
    = front left.totals _ _ run.auto.totals (fit.totals _ c.block_count-blocks.ensures) in
    let matches : length left.matches ≡ s.rows = front left.matches _ _ run.auto.matches fit.matches in
    let text = report args.input.now args.out.now s c.in-Ok.sizes st _ _ _ _ _ c.shape_of-shape.ensures fit.known
    (take_at left.flags (drop s.rows args.flags.now) s.rows flags) flags fit.out c.put_head-head.ensures c.put_rows.ensures in
    taken-job args.input.now sp (sym c.has_room.ensures ∙ c.if-not-has_room.false) fit.none (outcome_says run.result.outcome) left.matches st
    run.ensures text
    ∙ (λ i.
    printed c.put_rows.result
    (space (front-written left.cells sp.cells _ cells i) (front-written left.lines sp.lines _ lines i)
    (front-written left.counters sp.counters _ counters i) (front-written left.flags sp.flags _ flags i)
    (front-written left.totals sp.totals _ totals i) (front-written left.matches sp.matches _ matches i) c.put_rows.new.out))
