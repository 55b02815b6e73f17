-- After every list of calls the state is as the log says, and the flags at the end of a cycle in which nothing has changed are right: seen above the
-- digits that it skips, and so demand 3's own sentence and those of Cards 2, 4 and 7. Assumes nothing.
use mathlib.Core.Path.{◌≡◌, refl, sym, ap, ap₂, subst, ◌∙◌}
use mathlib.Core.Logic.{◌↔◌, ◌≢◌}
use mathlib.Core.Bool.{Bool, true, false, cond, ◌&&◌}
use mathlib.Core.List.{List, []}
use Prim.Native.Nat.{ℕ, suc, ◌-◌, ◌*◌, ◌/◌, ◌≤◌, ◌<◌}
use native.Mathlib.Nat.{le_of_eq, le_trans, div-one, pow-zero}
use native.Mathlib.Omega.{arith}
use lib.Dec.{eqb}
use lib.ListN.{length, get_or, take}
use borrow.Author.Tests.{eq-eqb, ne_eqb}
use Rattle.parity.specs.Lists.{differences}
use Rattle.parity.specs.Shape.{levels}
use Rattle.parity.specs.Matrix.{matrix_ones, lookups, cycle_steps}
use Rattle.parity.specs.Codeword.{Codeword, is_codeword}
use Rattle.parity.specs.Questions.{Taken}
use Rattle.parity.specs.declared.Shape.{Shape}
use Rattle.schedule.specs.Coarse.{floors, BalancedFrom, is_balanced_from}
use Rattle.schedule.specs.Schedule.{schedule}
use Rattle.schedule.specs.Tally.{tally_run, fresh_tally}
use Rattle.schedule.proofs.Balanced.{balanced_claim, sound-test}
use Rattle.schedule.proofs.Coarse.{floors-nearer, floors-zero, floors-equal, floors-balanced}
use Rattle.cycle.specs.Calls.{State}
use Rattle.cycle.specs.declared.Cycle.{Cycle}
use Rattle.call_lists.specs.Run.{Call, run}
use Rattle.detection.specs.Log.{Course, none, open-cycle, ended, Log, log}
use Rattle.detection.specs.Claims.{course_phase, RightFlag, wrote_at, stands_at, line_at, flag_at, DetectionClaim, DemandClaim, CoarseClaim, LevelsClaim}
use Rattle.cycle.proofs.CycleRecord.{record-open, record-complete}
use Rattle.cycle.proofs.Steps.{tally_at, tallies-ended}
use Rattle.detection.proofs.Agreement.{Cells, Running, InCourse, Agrees, cells-below, written_row, standing-row, row-stands, agrees-fresh}
use Rattle.detection.proofs.Keeping.{agrees-run}
use Rattle.detection.proofs.Marks.{unmarked_claim}

pub agrees : (s : Shape) → Taken s → (calls : List Call) → Agrees s (run s calls) (log s calls)
unfolding run log
agrees s t calls = agrees-run s t calls _ _ (agrees-fresh s t)

-- the log's cycles apart
number : Course → ℕ
number none = 0
number open-cycle = 1
number ended = 2

none≢open : none ≡ open-cycle → ⊥
unfolding number
none≢open e = let never : ◌≡◌ {A = ℕ} 0 1 = ap number e in absurd (omega arith)

none≢ended : none ≡ ended → ⊥
unfolding number
none≢ended e = let never : ◌≡◌ {A = ℕ} 0 2 = ap number e in absurd (omega arith)

open≢ended : open-cycle ≡ ended → ⊥
unfolding number
open≢ended e = let never : ◌≡◌ {A = ℕ} 1 2 = ap number e in absurd (omega arith)

-- the flag of a line that isn't sound is 1
unsound-flag : (line : ℕ) → line ≢ 0 → (b : Bool) → ◌≡◌ {A = ℕ} (cond (eqb line 0 && b) 0 1) 1
unsound-flag line unsound b = ap (λ a. cond (a && b) 0 1) (ne_eqb line 0 unsound)

module _ (s : Shape) (t : Taken s) where
  -- the flag that says whether the line is sound and the row as it stands is balanced from z on is right, where its floors differ in at most τ cells
  -- from a sound row's
  right-flag :
      (z : ℕ) → z < s.digits → (line : ℕ) (written standing : List ℕ) (flag : ℕ) → Codeword s written → Cells s standing
      → differences (floors z s written) (floors z s standing) ≤ s.errors → flag ≡ cond (eqb line 0 && is_balanced_from z s standing) 0 1
      → RightFlag line (floors z s written) (floors z s standing) flag
  right-flag z lt line written standing flag code c near e =
      record {
        unchanged =
            λ sound same. e
            ∙ ap₂ (λ a b. cond (a && b) 0 1) (eq-eqb line 0 sound)
            (test.1 (floors-balanced z s t lt written standing same (λ ℓ d h low k. code.balanced ℓ d h k)));
        changed = λ apart. e ∙ go apart (eqb line 0) (is_balanced_from z s standing) refl;
        unsound = λ unsound. e ∙ unsound-flag line unsound (is_balanced_from z s standing);
      }
    where
      test : (is_balanced_from z s standing ≡ true) ↔ BalancedFrom z s standing
      test = balanced_claim z s standing

      go : (floors z s written ≡ floors z s standing → ⊥) → (a b : Bool) → is_balanced_from z s standing ≡ b → ◌≡◌ {A = ℕ} (cond (a && b) 0 1) 1
      go apart a true p = absurd (apart (floors-equal z s t lt written standing code c.sized c.below (test.0 p) near))
      go apart true false p = refl
      go apart false false p = refl

  -- what the log's cycle says of the record: its phase, its count, the digits that it skips, and where the count is
  pub record Counted (cycle : Cycle) (k : Course) (z c : ℕ) : Type 0 where
    pub phase : cycle.phase ≡ course_phase k
    pub count : cycle.count ≡ c
    pub skip : cycle.skip ≡ z
    pub open-below : k ≡ open-cycle → c < cycle_steps z s
    pub ended_at : k ≡ ended → c ≡ cycle_steps z s

  counted : (st : State) (k : Course) (z c : ℕ) (changed : Bool) → InCourse s st k z c changed → Counted st.cycle k z c
  counted st none z c changed f =
      record {
        phase = f.phase;
        count = f.count.0 ∙ sym f.count.1;
        skip = f.skip.0 ∙ sym f.skip.1;
        open-below = λ e. absurd (none≢open e);
        ended_at = λ e. absurd (none≢ended e);
      }
  counted st open-cycle z c changed f =
      record {
        phase = f.0.stands.phase ∙ ap (λ r. r.phase) (record-open z s t c f.1);
        count = f.0.stands.count;
        skip = f.0.stands.skip;
        open-below = λ e. f.1;
        ended_at = λ e. absurd (open≢ended e);
      }
  counted st ended z c changed f =
      record {
        phase = f.0.stands.phase ∙ ap (λ r. r.phase) (record-complete z s t c (le_of_eq (sym f.1)));
        count = f.0.stands.count;
        skip = f.0.stands.skip;
        open-below = λ e. absurd (open≢ended (sym e));
        ended_at = λ e. f.1;
      }

  -- a cycle that is open or has ended is running
  running : (st : State) (k : Course) (z c : ℕ) (changed : Bool) → k ≢ none → InCourse s st k z c changed → Running s st z c changed
  running st none z c changed some f = absurd (some refl)
  running st open-cycle z c changed some f = f.0
  running st ended z c changed some f = f.0

  -- .. and where nothing has changed since its start, each row's tally is that of the lookups made so far
  still-tally :
      (st : State) (l : Log) (a : Agrees s st l) → l.cycle.course ≢ none → l.marks.changed ≡ false → (i : ℕ) → i < s.rows
      → let made = take l.cycle.count (schedule l.cycle.skip s) in
      tally_at st i ≡ tally_run s (get_or l.rows.lines i 0) (get_or l.rows.standing i []) made fresh_tally
  still-tally st l a some off i h =
      let made = take l.cycle.count (schedule l.cycle.skip s) in
      (running st l.cycle.course l.cycle.skip l.cycle.count l.marks.changed some a.course).tallies off i h
      ∙ ap₂ (λ lines row. tally_run s (get_or lines i 0) row made fresh_tally) a.lines (row-stands s _ _ _ a.rows i h)

  module _ (st : State) (l : Log) (a : Agrees s st l) (e : l.cycle.course ≡ ended) where
    course-ended : InCourse s st ended l.cycle.skip l.cycle.count l.marks.changed
    course-ended = subst (λ k. InCourse s st k l.cycle.skip l.cycle.count l.marks.changed) e a.course

    -- at the end of a cycle in which nothing has changed the flags say which rows have a line that isn't sound or a digit sum from z on that is not 0 ..
    pub ended-flag :
        l.marks.changed ≡ false → (i : ℕ) → i < s.rows
        → get_or st.memory.flags i 0 ≡ cond (eqb (get_or l.rows.lines i 0) 0 && is_balanced_from l.cycle.skip s (get_or l.rows.standing i [])) 0 1
    ended-flag off i h =
        let f = course-ended in
        let row = row-stands s _ _ _ a.rows i h in
        let c : Cells s (get_or l.rows.standing i []) = standing-row s _ _ _ a.rows i h in
        tallies-ended s st t l.cycle.skip (rw f.1 at (f.0.tallies off)) i h (ap length row ∙ c.sized) (rw row c.below)
        ∙ ap₂ (λ lines r. cond (eqb (get_or lines i 0) 0 && is_balanced_from l.cycle.skip s r) 0 1) a.lines row

    -- .. and where no digit was skipped, which rows have a line that isn't sound or are not sound
    pub ended-sound :
        l.cycle.skip ≡ 0 → l.marks.changed ≡ false → (i : ℕ) → i < s.rows
        → get_or st.memory.flags i 0 ≡ cond (eqb (get_or l.rows.lines i 0) 0 && is_codeword s (get_or l.rows.standing i [])) 0 1
    ended-sound fine off i h =
        let standing : List ℕ = get_or l.rows.standing i [] in
        let c : Cells s standing = standing-row s _ _ _ a.rows i h in
        ended-flag off i h
        ∙ ap (λ z. cond (eqb (get_or l.rows.lines i 0) 0 && is_balanced_from z s standing) 0 1) fine
        ∙ ap (λ b. cond (eqb (get_or l.rows.lines i 0) 0 && b) 0 1) (sound-test s standing c.sized c.below)

pub detection_claim : DetectionClaim
detection_claim s t calls =
    let st : State = run s calls in
    let l : Log = log s calls in
    let a : Agrees s st l = agrees s t calls in
    let k = counted s t st l.cycle.course l.cycle.skip l.cycle.count l.marks.changed a.course in
    record {
      cells = a.rows.laid;
      lines = a.lines;
      sound = written_row s _ _ _ a.rows;
      phase = k.phase;
      count = k.count;
      skip = k.skip;
      open-below = λ e. rw k.count (k.open-below e);
      ended_at = λ e. k.count ∙ k.ended_at e;
      tallied = λ (some, off). still-tally s t st l a some off;
      told = λ (is, off). ended-flag s t st l a is off;
      verdict =
          λ (is, off) i h near.
          right-flag s t l.cycle.skip (course-ended s t st l a is).0.partial (line_at s calls i) (wrote_at s calls i) (stands_at s calls i)
          (flag_at s calls i) (written_row s _ _ _ a.rows i h) (standing-row s _ _ _ a.rows i h) near (ended-flag s t st l a is off i h);
      unsound = λ (is, off) i h unsound. ended-flag s t st l a is off i h ∙ unsound-flag (get_or l.rows.lines i 0) unsound _;
    }

-- where no digit is skipped the cycle has (q − 1) × W tests
whole_length : (s : Shape) → lookups 0 s ≡ (levels s - 1) * matrix_ones s
unfolding lookups
whole_length s = ap (λ x. (x - 1) * matrix_ones s) (ap (λ p. levels s / p) (pow-zero s.radix) ∙ div-one (levels s))

-- .. and sees all of a row
whole-rows :
    (z : ℕ) → z ≡ 0 → (s : Shape) (line : ℕ) (x y : List ℕ) (flag : ℕ) → RightFlag line (floors z s x) (floors z s y) flag → RightFlag line x y flag
whole-rows z e s line x y flag r =
    let all : (row : List ℕ) → floors z s row ≡ row = λ row. ap (λ z. floors z s row) e ∙ floors-zero s row in
    record {
      unchanged = λ sound same. r.unchanged sound (all x ∙ same ∙ sym (all y));
      changed = λ apart. r.changed (λ same. apart (sym (all x) ∙ same ∙ all y));
      unsound = r.unsound;
    }

pub coarse_claim : CoarseClaim
coarse_claim s t calls still i h near =
    let z = (log s calls).cycle.skip in
    (detection_claim s t calls).verdict (unmarked_claim s calls still) i h (le_trans (floors-nearer z s (wrote_at s calls i) (stands_at s calls i)) near)

pub demand_claim : DemandClaim
demand_claim s t calls fine =
    let d = detection_claim s t calls in
    let length = ap (λ z. cycle_steps z s) fine ∙ ap (λ n. suc (suc n)) (whole_length s) in
    record {
      open-below = λ e. rw length at (d.open-below e);
      ended_at = λ e. d.ended_at e ∙ length;
      verdict = λ still i h near. whole-rows _ fine s _ _ _ _ (coarse_claim s t calls still i h near);
    }

pub levels_claim : LevelsClaim
levels_claim s t calls = cells-below s _ _ _ (agrees s t calls).rows
