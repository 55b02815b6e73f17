-- December's shutdown: after a cycle that skips no digit and in which nothing has changed, and with sound lines, programming every flagged row again
-- from what was last written restores every row, where those that were not flagged were within τ cells of it, and a whole cycle more flags no row.
-- Assumes nothing.
use mathlib.Core.Path.{◌≡◌, refl, sym, ap, ap₂, ◌∙◌}
use mathlib.Core.Logic.{⊎_elim}
use mathlib.Core.Bool.{Bool, true, false, cond, ◌&&◌, and-eq-true_iff}
use mathlib.Core.List.{List, [], ◌∷◌, ◌++◌}
use Prim.Native.Nat.{ℕ, zero, suc, ◌≤◌, ◌<◌}
use native.Mathlib.Nat.{eq-or-lt_of_le}
use native.Mathlib.Omega.{arith}
use lib.Dec.{eqb}
use lib.ListN.{length, get_or, take, replicate}
use lib.Seq.{length-take-le, get_or-take}
use borrow.Author.Tests.{eqb-true, eq-eqb}
use Rattle.parity.specs.Lists.{joined, differences}
use Rattle.parity.specs.Shape.{columns}
use Rattle.parity.specs.Matrix.{cycle_steps}
use Rattle.parity.specs.Codeword.{Codeword, is_codeword, encode}
use Rattle.parity.specs.Questions.{Taken, first_no, if_taken}
use Rattle.parity.specs.declared.Shape.{Shape}
use Rattle.parity.proofs.ListLaws.{tabulate-same, tabulate-constant}
use Rattle.parity.proofs.CodewordTest.{codeword-test}
use Rattle.parity.proofs.Encoding.{encoding_claim}
use Rattle.parity.proofs.Distance.{distance_claim}
use Rattle.schedule.specs.Coarse.{is_balanced_from}
use Rattle.schedule.proofs.Balanced.{codeword-balanced}
use Rattle.cycle.specs.Calls.{State, fresh}
use Rattle.call_lists.specs.Run.{Call, start, program, run_from, run}
use Rattle.detection.specs.Log.{ended, Log, blank, log_written, log_call, log_from, log}
use Rattle.detection.specs.Claims.{steps_with, Buffers, repair, ShutdownClaim}
use Rattle.detection.proofs.Elements.{at_set}
use Rattle.parity.proofs.Followed.{followed-append}
use Rattle.call_lists.proofs.Runs.{run-append}
use Rattle.array_questions.specs.Questions.{program_arguments}
use Rattle.array_questions.proofs.Asked.{Programs, program-fits}
use Rattle.detection.proofs.Still.{still_claim}
use Rattle.detection.proofs.Agreement.{Agrees, sized, cells-below, written_row, row-stands}
use Rattle.detection.proofs.Keeping.{agrees-run}
use Rattle.detection.proofs.Detection.{agrees, ended-sound}

log-append : (s : Shape) (xs ys : List Call) (l : Log) → log_from s l (xs ++ ys) ≡ log_from s (log_from s l xs) ys
log-append s = followed-append (log_call s)

-- a flag of 0 says that a test is passed
flag-zero : (b : Bool) → ◌≡◌ {A = ℕ} (cond b 0 1) 0 → b ≡ true
flag-zero true e = refl
flag-zero false e = absurd (omega arith)

-- where all lines and all rows as they stand are sound, a cycle flags none
sound-cycle :
    (s : Shape) → Taken s → (st : State) (l : Log) → Agrees s st l → ((i : ℕ) → i < s.rows → get_or l.rows.lines i 0 ≡ 0)
    → ((i : ℕ) → i < s.rows → Codeword s (get_or l.rows.standing i []))
    → (z : ℕ) → z < s.digits → (buffers : List (List ℕ)) → Buffers s buffers → length buffers ≡ cycle_steps z s
    → (run_from s st (start z ∷ steps_with buffers)).memory.flags ≡ replicate s.rows 0
sound-cycle s t st l a lines sound z lt buffers made whole =
    still_claim z s t lt st (sized s st l a) (cells-below s _ _ _ a.rows) buffers made whole
    ∙ tabulate-same s.rows _ (λ i. 0)
    (λ i h.
    ap₂ (λ a b. cond (a && b) 0 1) (eq-eqb _ 0 (ap (λ lines. get_or lines i 0) a.lines ∙ lines i h))
    (ap (is_balanced_from z s) (row-stands s _ _ _ a.rows i h) ∙ codeword-balanced z s _ (sound i h)))
    ∙ tabulate-constant s.rows 0

module _ (s : Shape) (t : Taken s) (st : State) (l : Log) (a : Agrees s st l) where
  -- row i as it was last written
  abbrev wrote : ℕ → List ℕ
  wrote i = get_or l.rows.written i []

  module _ (i : ℕ) (h : i < s.rows) where
    wrote-sound : Codeword s (wrote i)
    wrote-sound = written_row s _ _ _ a.rows i h

    -- its rule cells are what programming takes ..
    again : Programs s i (take s.width (wrote i))
    unfolding columns
    again =
        record {
          sized = length-take-le s.width (wrote i) (omega (arith, wrote-sound.sized));
          place = h;
          below = λ j k. rw get_or-take (wrote-sound.below j (omega arith));
        }

    -- .. and the row is what it then writes
    again-same : encode s (take s.width (wrote i)) ≡ wrote i
    again-same = sym ((encoding_claim s t (wrote i) wrote-sound.sized).0 wrote-sound).0

  module _
      (e : l.cycle.course ≡ ended) (fine : l.cycle.skip ≡ 0) (off : l.marks.changed ≡ false)
      (lines : (i : ℕ) → i < s.rows → get_or l.rows.lines i 0 ≡ 0)
      (near : (i : ℕ) → i < s.rows → get_or st.memory.flags i 0 ≡ 0 → differences (wrote i) (get_or l.rows.standing i []) ≤ s.errors) where
    -- a row that is not flagged is sound, and so it is the one that was written
    unflagged-same : (i : ℕ) → i < s.rows → get_or st.memory.flags i 0 ≡ 0 → get_or l.rows.standing i [] ≡ wrote i
    unflagged-same i h zero_flag =
        let standing : List ℕ = get_or l.rows.standing i [] in
        let sound : Codeword s standing = codeword-test s standing
        ((and-eq-true_iff (eqb (get_or l.rows.lines i 0) 0) (is_codeword s standing)).0
        (flag-zero _ (sym (ended-sound s t st l a e fine off i h) ∙ zero_flag))).1 in
        sym (distance_claim s t (wrote i) standing (wrote-sound i h) sound (near i h zero_flag))

    -- the repair of the first n rows
    abbrev part : ℕ → List Call
    part n = joined n (λ i. cond (eqb (get_or st.memory.flags i 0) 0) [] (program i (take s.width (wrote i)) ∷ []))

    -- after it these stand as they were written, and of the others those that were not flagged
    repaired :
        (n : ℕ) → n ≤ s.rows → (i : ℕ) → i < s.rows → (n ≤ i → get_or st.memory.flags i 0 ≡ 0)
        → get_or (log_from s l (part n)).rows.standing i [] ≡ wrote i
    repaired zero h i k unflagged = unflagged-same i k (unflagged (omega arith))
    repaired (suc n) h i k unflagged =
        rw (log-append s (part n) _ l)
        (go (eqb (get_or st.memory.flags n 0) 0) refl (repaired n (omega arith) i k))
      where
        given : List ℕ
        given = take s.width (wrote n)

        before : Log
        before = log_from s l (part n)

        go : (b : Bool) → eqb (get_or st.memory.flags n 0) 0 ≡ b
            → ((n ≤ i → get_or st.memory.flags i 0 ≡ 0) → get_or before.rows.standing i [] ≡ wrote i)
            → get_or (log_from s before (cond b [] (program n given ∷ []))).rows.standing i [] ≡ wrote i
        go true q rest =
            rest λ le. ⊎_elim (λ same. ap (λ j. get_or st.memory.flags j 0) (sym same) ∙ eqb-true _ 0 q) unflagged (eq-or-lt_of_le le)
        go false q rest =
            rw (program-fits s n given (again n h))
            (at_set (λ row. row ≡ wrote i) before.rows.standing n (encode s given) [] i (rw (agrees-run s t (part n) st l a).rows.standing_count h)
            (λ same. again-same n h ∙ ap wrote (sym same)) (λ apart. rest (λ le. unflagged (omega arith))))

    -- after the whole repair all do
    restored-row : (i : ℕ) → i < s.rows → get_or (log_from s l (part s.rows)).rows.standing i [] ≡ wrote i
    restored-row i h = repaired s.rows (omega arith) i h (λ past. absurd (omega arith))

    -- programming leaves the lines
    repaired-lines : (n : ℕ) → (log_from s l (part n)).rows.lines ≡ l.rows.lines
    repaired-lines zero = refl
    repaired-lines (suc n) = rw (log-append s (part n) _ l) (go (eqb (get_or st.memory.flags n 0) 0) ∙ repaired-lines n)
      where
        given : List ℕ
        given = take s.width (wrote n)

        before : Log
        before = log_from s l (part n)

        either : (n' : ℕ) → (if_taken n' (log_written n (encode s given) before) before).rows.lines ≡ before.rows.lines
        either zero = refl
        either (suc n') = refl

        go : (b : Bool) → (log_from s before (cond b [] (program n given ∷ []))).rows.lines ≡ before.rows.lines
        go true = refl
        go false = either (first_no (program_arguments s n given))

    quiet-cycle :
        (z : ℕ) → z < s.digits → (buffers : List (List ℕ)) → Buffers s buffers → length buffers ≡ cycle_steps z s
        → (run_from s (run_from s st (part s.rows)) (start z ∷ steps_with buffers)).memory.flags ≡ replicate s.rows 0
    quiet-cycle =
        let repairs : List Call = part s.rows in
        sound-cycle s t (run_from s st repairs) (log_from s l repairs) (agrees-run s t repairs st l a)
        (λ i h. ap (λ lines. get_or lines i 0) (repaired-lines s.rows) ∙ lines i h) (λ i h. rw (restored-row i h) (wrote-sound i h))

pub shutdown_claim : ShutdownClaim
unfolding run log
shutdown_claim s t calls (is, off) fine lines near z lt buffers made whole =
    let st : State = run s calls in
    let l : Log = log s calls in
    let a : Agrees s st l = agrees s t calls in
    let repairs : List Call = repair s st.memory.flags l.rows.written in
    let cycle : List Call = start z ∷ steps_with buffers in
    record {
      restored = λ i h. ap (λ k. get_or k.rows.standing i []) (log-append s calls repairs (blank s)) ∙ restored-row s t st l a is fine off lines near i h;
      quiet =
          ap (λ k. k.memory.flags) (run-append s (fresh s) (calls ++ repairs) cycle ∙ ap (λ k. run_from s k cycle) (run-append s (fresh s) calls repairs))
          ∙ quiet-cycle s t st l a is fine off lines near z lt buffers made whole;
    }
