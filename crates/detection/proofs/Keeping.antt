-- Every call, taken or refused, keeps the agreement of state and log; so does every list of calls. Assumes nothing.
use mathlib.Core.Path.{◌≡◌, refl, sym, ap, subst, ◌∙◌}
use mathlib.Core.Logic.{◌≢◌}
use mathlib.Core.Bool.{Bool, true, false, cond, ◌&&◌, true≢false}
use mathlib.Core.List.{List, []}
use Prim.Native.Nat.{ℕ, zero, suc, ◌+◌, ◌*◌, ◌<◌}
use native.Mathlib.Nat.{le_of_eq, zero-lt-suc}
use native.Mathlib.Omega.{arith}
use lib.Dec.{eqb}
use lib.ListN.{length, get_or, set, length-set}
use lib.Seq.{set-get_or}
use borrow.Author.Tests.{eqb-true, eqb-false}
use Rattle.parity.specs.Shape.{levels, columns}
use Rattle.parity.specs.Matrix.{lookups, cycle_steps}
use Rattle.parity.specs.Codeword.{Codeword, encode}
use Rattle.parity.specs.Questions.{Question, Taken, first_no, if_taken}
use Rattle.parity.specs.declared.Shape.{Shape}
use Rattle.parity.proofs.Taken.{skip_below}
use Rattle.parity.proofs.Encoding.{encoded_claim}
use Rattle.shape.specs.Answers.{Result, accepted, refused, giving, calling}
use Rattle.shape.proofs.Refusals.{call-rest}
use Rattle.array_memory.specs.Geometry.{with_row}
use Rattle.array_memory.specs.Lengths.{Sized}
use Rattle.array_memory.specs.Memory.{Memory, with_cells, with_lines}
use Rattle.array_memory.proofs.Asked.{array-lent, rows-kept}
use Rattle.array_memory.proofs.RowPlaces.{row-cell}
use Rattle.array_questions.specs.Questions.{
  cells_questions,
  program_arguments,
  ask_arguments,
  commit_arguments,
  drift_arguments,
  line_arguments,
  start_arguments,
}
use Rattle.array_questions.proofs.Asked.{program-reads, commit-reads, Drifts, drift-reads}
use Rattle.array.specs.Calls.{row_written, ask_call, drifted, drift_call, line_set, line_call}
use Rattle.array_lookup.specs.Lookups.{lookup_arguments, lookup_call}
use Rattle.cycle_lookup.specs.Lookup.{looked_up}
use Rattle.cycle.specs.Record.{idle, is_next}
use Rattle.cycle.specs.Calls.{State, state_of, zero_rows, cleared, fresh, clear_call, program_call, commit_call, started, start_call}
use Rattle.cycle.specs.Calls.{stepped_memory, stepped}
use Rattle.cycle.proofs.Asked.{clear-asked, start-asked, cells-asked, lines-asked}
use Rattle.cycle.proofs.CycleRecord.{stands_at, stands-next, next-idle, next-open, next-complete}
use Rattle.cycle.proofs.Steps.{started-tallies, started-sized, stepped-tallies, stepped-cycle, stepped-sized, step-state}
use Rattle.call_lists.specs.Run.{Call, clear, start, program, ask, commit, drift, line, lookup, step, after, run_from}
use Rattle.call_lists.proofs.Runs.{run-keeps}
use Rattle.detection.specs.Log.{Course, none, open-cycle, ended, Log, blank, log_written, changed_by, log_drift, log_line, log_start, log_step, while_open}
use Rattle.detection.specs.Log.{log_call, log_from}
use Rattle.detection.proofs.Elements.{all_set, at_set}
use Rattle.detection.proofs.Rows.{flat-with, flat-set}
use Rattle.detection.proofs.Agreement.{Cells, codeword-cells, RowsAgree, Running, InCourse, Agrees, wide, standing-row, row-stands, sized, agrees-fresh}

-- ---- the rows

module _ (s : Shape) (cells : List ℕ) (written standing : List (List ℕ)) (r : RowsAgree s cells written standing) where
  rows_written :
      (row : ℕ) (new : List ℕ) → row < s.rows → Codeword s new
      → RowsAgree s (with_row (columns s) cells row new) (set written row new) (set standing row new)
  unfolding with_row
  rows_written row new place code =
      record {
        written_count = length-set written row _ ∙ r.written_count;
        standing_count = length-set standing row _ ∙ r.standing_count;
        sound = all_set (Codeword s) written row _ r.sound code;
        stands = all_set (Cells s) standing row _ r.stands (codeword-cells s _ code);
        laid = rw r.laid (flat-with (columns s) standing row new (wide s cells written standing r) (rw r.standing_count place));
      }

  rows-drifted :
      (row column level : ℕ) → Drifts s row column level
      → RowsAgree s (set cells (row * columns s + column) level) written (set standing row (set (get_or standing row []) column level))
  rows-drifted row column level d =
      let old : List ℕ = get_or standing row [] in
      let c : Cells s old = standing-row s cells written standing r row d.place in
      record {
        written_count = r.written_count;
        standing_count = length-set standing row _ ∙ r.standing_count;
        sound = r.sound;
        stands =
            all_set (Cells s) standing row _ r.stands
            (record {
              sized = length-set old column level ∙ c.sized;
              below = λ i h. at_set (λ v. v < levels s) old column level 0 i (rw c.sized d.within) (λ same. d.below) (λ apart. c.below i h);
            });
        laid = rw r.laid (flat-set (columns s) standing row column level (wide s cells written standing r) (rw r.standing_count d.place) d.within);
      }

-- ---- the calls

-- a byte has become another, so nothing is said of the tallies
blurred : (s : Shape) (st : State) (mem : Memory) (z c : ℕ) (changed : Bool) → Running s st z c changed → Running s (state_of mem st.cycle) z c true
blurred s st mem z c changed r = record { partial = r.partial; stands = r.stands; tallies = λ off. absurd (true≢false off) }

marked :
    (s : Shape) (st : State) (mem : Memory) (k : Course) (z c : ℕ) (changed : Bool) → InCourse s st k z c changed
    → InCourse s (state_of mem st.cycle) k z c true
marked s st mem none z c changed f = f
marked s st mem open-cycle z c changed f = (blurred s st mem z c changed f.0, f.1)
marked s st mem ended z c changed f = (blurred s st mem z c changed f.0, f.1)

-- .. and a byte that is set to what it was leaves the memory
course-set :
    (s : Shape) (st : State) (mem : Memory) (k : Course) (z c : ℕ) (changed : Bool) (old new : ℕ) → (old ≡ new → mem ≡ st.memory)
    → InCourse s st k z c changed → InCourse s (state_of mem st.cycle) k z c (changed_by old new changed)
course-set s st mem k z c changed old new same f = go (eqb old new) refl
  where
    go : (b : Bool) → eqb old new ≡ b → InCourse s (state_of mem st.cycle) k z c (cond b changed true)
    go true e = subst (λ mem. InCourse s (state_of mem st.cycle) k z c changed) (sym (same (eqb-true old new e))) f
    go false e = marked s st mem k z c changed f

module _ (s : Shape) (t : Taken s) (st : State) (l : Log) (a : Agrees s st l) where
  lent : Sized s st.memory
  lent = sized s st l a

  -- A call whose first no is that to its own arguments keeps the agreement where the state that it makes, taken, agrees with the log that it makes:
  -- refused, it leaves both. (`into` is the state that goes with what the call is lent.)
  kept :
      {S : Type 0} (into : S → State) (questions : List Question) (bytes : List ℕ) (found : S) (done : Result S) (own : List Question) (new : Log)
      → first_no questions ≡ first_no own → Agrees s (into found) l → (first_no own ≡ 0 → Agrees s (into done.state) new)
      → Agrees s (into (calling questions bytes found done).state) (if_taken (first_no own) new l)
  unfolding calling
  kept into questions bytes found done own new same old taken = rw same (go (first_no own) refl)
    where
      go : (n : ℕ) → first_no own ≡ n → Agrees s (into (if_taken n done (giving (refused 0 n) bytes found)).state) (if_taken n new l)
      go zero e = taken e
      go (suc n) e = old

  -- the state with another memory
  abbrev with-memory : Memory → State
  with-memory mem = state_of mem st.cycle

  agrees-clear : Agrees s (after s st clear) (log_call s l clear)
  unfolding clear_call fresh cleared zero_rows
  agrees-clear = kept (λ st. st) _ [] st _ [] (blank s) (clear-asked s t st lent) a (λ none. agrees-fresh s t)

  agrees_start : (z : ℕ) → Agrees s (after s st (start z)) (log_call s l (start z))
  unfolding start_call started zero_rows
  agrees_start z = kept (λ st. st) _ [] st _ (start_arguments s z) (log_start z l) (start-asked s t st lent z) a opens
    where
      opens : first_no (start_arguments s z) ≡ 0 → Agrees s (started s st z) (log_start z l)
      opens e =
          record {
            rows = a.rows;
            lines = a.lines;
            line_count = a.line_count;
            rest = (started-sized s st lent z).rows;
            course = (
              record { partial = skip_below s z e; stands = stands_at z s 0 _ refl; tallies = λ off. started-tallies s st z },
              zero-lt-suc (suc (lookups z s)),
            );
          }

  -- a call that writes a row of levels, sound where its questions have no no
  agrees-written :
      (row : ℕ) (new : List ℕ) (own : List Question) → (first_no own ≡ 0 → (row < s.rows) × Codeword s new)
      → Agrees s
      (calling (cells_questions s (length st.memory.cells) own) [] st (giving (accepted 0) [] (state_of (row_written s st.memory row new) idle))).state
      (if_taken (first_no own) (log_written row new l) l)
  unfolding row_written
  agrees-written row new own right = kept (λ st. st) _ [] st _ own (log_written row new l) (cells-asked s t st lent own) a writes
    where
      writes : first_no own ≡ 0 → Agrees s (state_of (row_written s st.memory row new) idle) (log_written row new l)
      writes e =
          record {
            rows = rows_written s _ _ _ a.rows row new (right e).0 (right e).1;
            lines = a.lines;
            line_count = a.line_count;
            rest = rows-kept s st.memory a.rest _ _;
            course = record { phase = refl; count = (refl, refl); skip = (refl, refl) };
          }

  agrees-program : (row : ℕ) (given : List ℕ) → Agrees s (after s st (program row given)) (log_call s l (program row given))
  unfolding program_call
  agrees-program row given =
      agrees-written row (encode s given) (program_arguments s row given)
      (λ e. let p = program-reads s row given e in (p.place, encoded_claim s t given p.sized p.below))

  agrees-commit : (row : ℕ) (finished : List ℕ) → Agrees s (after s st (commit row finished)) (log_call s l (commit row finished))
  unfolding commit_call
  agrees-commit row finished =
      agrees-written row finished (commit_arguments s row finished) (λ e. let p = commit-reads s row finished e in (p.place, p.sound))

  -- a cell or a line that is set to what it was
  drift-same :
      (row column level : ℕ) → Drifts s row column level → get_or (get_or l.rows.standing row []) column 0 ≡ level
      → set st.memory.cells (row * columns s + column) level ≡ st.memory.cells
  drift-same row column level d same =
      let place : ℕ = row * columns s + column in
      let stood : get_or st.memory.cells place 0 ≡ level =
      sym (row-cell s st.memory.cells row column d.within) ∙ ap (λ r. get_or r column 0) (row-stands s _ _ _ a.rows row d.place) ∙ same in
      ap (set st.memory.cells place) (sym stood) ∙ set-get_or st.memory.cells place 0

  line_same : (row byte : ℕ) → get_or l.rows.lines row 0 ≡ byte → set st.memory.lines row byte ≡ st.memory.lines
  line_same row byte same =
      ap (set st.memory.lines row) (sym (ap (λ lines. get_or lines row 0) a.lines ∙ same)) ∙ set-get_or st.memory.lines row 0

  -- the course after a byte of the memory has been set
  byte-set :
      (mem : Memory) (old new : ℕ) → (old ≡ new → mem ≡ st.memory)
      → InCourse s (with-memory mem) l.cycle.course l.cycle.skip l.cycle.count (changed_by old new l.marks.changed)
  byte-set mem old new same = course-set s st mem l.cycle.course l.cycle.skip l.cycle.count l.marks.changed old new same a.course

  agrees-drift : (row column level : ℕ) → Agrees s (after s st (drift row column level)) (log_call s l (drift row column level))
  unfolding drift_call drifted
  agrees-drift row column level =
      kept with-memory _ [] st.memory _ (drift_arguments s row column level) (log_drift row column level l)
      (cells-asked s t st lent (drift_arguments s row column level)) a drifts
    where
      drifts : first_no (drift_arguments s row column level) ≡ 0 → Agrees s (with-memory (drifted s st.memory row column level)) (log_drift row column level l)
      drifts e =
          let d = drift-reads s row column level e in
          record {
            rows = rows-drifted s _ _ _ a.rows row column level d;
            lines = a.lines;
            line_count = a.line_count;
            rest = rows-kept s st.memory a.rest _ _;
            course = byte-set _ _ level (λ same. ap (λ cells. with_cells cells st.memory) (drift-same row column level d same));
          }

  agrees-line : (row byte : ℕ) → Agrees s (after s st (line row byte)) (log_call s l (line row byte))
  unfolding line_call line_set
  agrees-line row byte =
      kept with-memory _ [] st.memory _ (line_arguments s row byte) (log_line row byte l) (lines-asked s t st lent (line_arguments s row byte)) a sets
    where
      sets : first_no (line_arguments s row byte) ≡ 0 → Agrees s (with-memory (line_set st.memory row byte)) (log_line row byte l)
      sets e =
          record {
            rows = a.rows;
            lines = ap (λ lines. set lines row byte) a.lines;
            line_count = length-set st.memory.lines row byte ∙ a.line_count;
            rest = rows-kept s st.memory a.rest _ _;
            course = byte-set _ _ byte (λ same. ap (λ lines. with_lines lines st.memory) (line_same row byte same));
          }

  -- an ask and a lookup leave the state
  agrees-ask : (row : ℕ) (given buffer : List ℕ) → Agrees s (after s st (ask row given buffer)) (log_call s l (ask row given buffer))
  unfolding ask_call
  agrees-ask row given buffer =
      let own = ask_arguments s row given (length buffer) in
      kept with-memory _ buffer st.memory _ own l (cells-asked s t st lent own) a (λ none. a)

  agrees-lookup : (inputs matches : List ℕ) → Agrees s (after s st (lookup inputs matches)) (log_call s l (lookup inputs matches))
  unfolding lookup_call
  agrees-lookup inputs matches =
      let own = lookup_arguments s inputs (length matches) in
      kept with-memory _ matches st.memory _ own l (call-rest s [] _ own t (array-lent s st.memory lent)) a (λ none. a)

  agrees-stepped :
      Running s st l.cycle.skip l.cycle.count l.marks.changed → l.cycle.count < cycle_steps l.cycle.skip s
      → Agrees s (stepped s st) (log_step s l)
  unfolding stepped stepped_memory looked_up
  agrees-stepped r h =
      let z : Sized s (stepped s st).memory = stepped-sized s st lent in
      record {
        rows = a.rows;
        lines = a.lines;
        line_count = a.line_count;
        rest = z.rows;
        course = go (eqb (suc l.cycle.count) (cycle_steps l.cycle.skip s)) refl;
      }
    where
      next : Running s (stepped s st) l.cycle.skip (suc l.cycle.count) l.marks.changed
      next =
          record {
            partial = r.partial;
            stands =
                stands_at l.cycle.skip s (suc l.cycle.count) _
                (stepped-cycle s st l.cycle.skip l.cycle.count r.stands.skip r.stands.count);
            tallies = λ off. stepped-tallies s st t l.cycle.skip l.cycle.count h r.stands.skip r.stands.count (r.tallies off);
          }

      go :
          (b : Bool) → eqb (suc l.cycle.count) (cycle_steps l.cycle.skip s) ≡ b
          → InCourse s (stepped s st) (cond b ended open-cycle) l.cycle.skip (suc l.cycle.count) l.marks.changed
      go true e = (next, eqb-true _ _ e)
      go false e =
          let apart : suc l.cycle.count ≢ cycle_steps l.cycle.skip s = eqb-false _ _ e in
          (next, omega arith)

  -- the record has a lookup to come exactly where the log's cycle is open
  while-open :
      (k : Course) → InCourse s st k l.cycle.skip l.cycle.count l.marks.changed
      → Agrees s (cond (is_next s st.cycle) (stepped s st) st) (while_open k (log_step s l) l)
  while-open none f = rw (next-idle s st.cycle f.phase) a
  while-open open-cycle f =
      rw (stands-next l.cycle.skip s l.cycle.count st.cycle f.0.stands ∙ next-open l.cycle.skip s t l.cycle.count f.0.partial f.1)
      (agrees-stepped f.0 f.1)
  while-open ended f =
      rw (stands-next l.cycle.skip s l.cycle.count st.cycle f.0.stands
      ∙ next-complete l.cycle.skip s t l.cycle.count (le_of_eq (sym f.1))) a

  agrees-step : (matches : List ℕ) → Agrees s (after s st (step matches)) (log_call s l (step matches))
  agrees-step matches = rw (step-state s st lent t matches) (go (eqb (length matches) s.rows))
    where
      go :
          (b : Bool)
          → Agrees s (cond (b && is_next s st.cycle) (stepped s st) st) (if_taken (cond (b && true) 0 6) (while_open l.cycle.course (log_step s l) l) l)
      go true = while-open l.cycle.course a.course
      go false = a

  agrees-call : (c : Call) → Agrees s (after s st c) (log_call s l c)
  agrees-call clear = agrees-clear
  agrees-call (start z) = agrees_start z
  agrees-call (program row given) = agrees-program row given
  agrees-call (ask row given buffer) = agrees-ask row given buffer
  agrees-call (commit row finished) = agrees-commit row finished
  agrees-call (drift row column level) = agrees-drift row column level
  agrees-call (line row byte) = agrees-line row byte
  agrees-call (lookup inputs matches) = agrees-lookup inputs matches
  agrees-call (step matches) = agrees-step matches

pub agrees-run :
    (s : Shape) → Taken s → (calls : List Call) (st : State) (l : Log) → Agrees s st l → Agrees s (run_from s st calls) (log_from s l calls)
agrees-run s t = run-keeps s (log_call s) (Agrees s) (λ st l c a. agrees-call s t st l a c)
