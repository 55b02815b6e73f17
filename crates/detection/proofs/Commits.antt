-- Ask leaves no trace, and a commit of a finished row is a programming with its levels: in what the calls give, in the state and in the log, over whole
-- lists. Assumes nothing.
use mathlib.Core.Path.{◌≡◌, refl, sym, ap, subst}
use mathlib.Core.List.{List, [], ◌∷◌, ◌++◌}
use Prim.Native.Nat.{ℕ}
use native.Mathlib.Omega.{arith}
use lib.Dec.{ltb}
use lib.ListN.{length, take}
use lib.Seq.{length-take-le, get_or-take}
use borrow.Author.Tests.{eq-eqb, lt-ltb}
use Rattle.parity.specs.Lists.{followed}
use Rattle.parity.specs.Shape.{levels, columns}
use Rattle.parity.specs.Codeword.{Codeword, encode}
use Rattle.parity.specs.Claims.{Below}
use Rattle.parity.specs.Questions.{Taken, first_no, if_taken}
use Rattle.parity.specs.declared.Shape.{Shape}
use Rattle.parity.proofs.ListLaws.{every-passes}
use Rattle.parity.proofs.CodewordTest.{codeword-passes}
use Rattle.parity.proofs.Encoding.{encoded_claim, encoding_claim}
use Rattle.shape.specs.Answers.{accepted, refused, giving, calling}
use Rattle.shape.proofs.Refusals.{first-after}
use Rattle.shape.proofs.Calling.{if-either, call-done, call-taken, call-keeps}
use Rattle.array_memory.specs.Memory.{Memory}
use Rattle.array_questions.specs.Questions.{cells_questions, program_arguments, ask_arguments, commit_arguments}
use Rattle.array_questions.proofs.Asked.{Programs, cells-parts, ask-reads, commit-reads}
use Rattle.array.specs.Calls.{row_written, ask_call}
use Rattle.cycle.specs.Record.{idle}
use Rattle.cycle.specs.Calls.{State, state_of, fresh, program_call, commit_call}
use Rattle.call_lists.specs.Run.{Call, program, ask, commit, after, run}
use Rattle.parity.proofs.Followed.{followed_same}
use Rattle.detection.specs.Log.{Log, blank, log_written, log_call, log}
use Rattle.detection.specs.Commits.{Same, Replaces, AskClaim, CommitClaim, AcceptedClaim}

-- ---- one list in the other's place
same_lists :
    (s : Shape) (ys zs : List Call) → ((st : State) → followed (after s) st ys ≡ followed (after s) st zs)
    → ((l : Log) → followed (log_call s) l ys ≡ followed (log_call s) l zs) → (xs : List Call) → Same s (xs ++ ys) (xs ++ zs)
unfolding run log
same_lists s ys zs states logs xs =
    record { state = followed_same (after s) ys zs states xs (fresh s); logged = followed_same (log_call s) ys zs logs xs (blank s) }

-- ---- ask
ask-leaves : (s : Shape) (st : State) (row : ℕ) (given buffer : List ℕ) → after s st (ask row given buffer) ≡ st
unfolding ask_call
ask-leaves s st row given buffer = call-keeps _ _ st.memory _ (λ mem. state_of mem st.cycle ≡ st) refl refl

ask-unlogged : (s : Shape) (l : Log) (row : ℕ) (given buffer : List ℕ) → log_call s l (ask row given buffer) ≡ l
ask-unlogged s l row given buffer = if-either (λ k. k ≡ l) (first_no (ask_arguments s row given (length buffer))) l l refl refl

pub ask_claim : AskClaim
ask_claim s before rest row given buffer =
    same_lists s (ask row given buffer ∷ rest) rest (λ st. ap (λ st. followed (after s) st rest) (ask-leaves s st row given buffer))
    (λ l. ap (λ l. followed (log_call s) l rest) (ask-unlogged s l row given buffer)) before

-- ---- a finished row, of levels that programming takes
module _ (s : Shape) (t : Taken s) (given : List ℕ) (sized : length given ≡ s.width) (below : Below (levels s) s.width given) where
  word : Codeword s (encode s given)
  word = encoded_claim s t given sized below

  -- the first no to its commit is that to the programming: the row's number alone can have one
  same-question : (row : ℕ) → first_no (commit_arguments s row (encode s given)) ≡ first_no (program_arguments s row given)
  same-question row =
      rw (
        eq-eqb (length (encode s given)) (columns s) word.sized,
        every-passes (λ v. ltb v (levels s)) (encode s given) 0 (λ j h. lt-ltb _ _ (word.below j (omega (arith, word.sized)))),
        codeword-passes s (encode s given) word,
        eq-eqb (length given) s.width sized,
        every-passes (λ v. ltb v (levels s)) given 0 (λ j h. lt-ltb _ _ (below j (omega (arith, sized)))),
      ) refl

  same-call : (st : State) (row : ℕ) → commit_call s st row (encode s given) ≡ program_call s st row given
  unfolding commit_call program_call calling
  same-call st row =
      let cells = length st.memory.cells in
      ap (λ n. if_taken n (giving (accepted 0) [] (state_of (row_written s st.memory row (encode s given)) idle)) (giving (refused 0 n) [] st))
      (first-after (cells_questions s cells []) (commit_arguments s row (encode s given)) (program_arguments s row given) (same-question row))

  same_log : (l : Log) (row : ℕ) → log_call s l (commit row (encode s given)) ≡ log_call s l (program row given)
  same_log l row = ap (λ n. if_taken n (log_written row (encode s given) l) l) (same-question row)

  replaces : (before : List Call) (row : ℕ) → Replaces s before row (encode s given) given
  replaces before row =
      record {
        gives = same-call (run s before) row;
        leaves = λ rest.
            same_lists s (commit row (encode s given) ∷ rest) (program row given ∷ rest)
            (λ st. ap (λ r. followed (after s) r.state rest) (same-call st row)) (λ l. ap (λ l. followed (log_call s) l rest) (same_log l row)) before;
      }

-- ---- what an accepted ask wrote
pub commit_claim : CommitClaim
unfolding ask_call
commit_claim s before between row given buffer taken to =
    let mem : Memory = (run s before).memory in
    let none = call-taken _ buffer mem _ taken in
    let parts = cells-parts s (length mem.cells) (ask_arguments s row given (length buffer)) none in
    let p : Programs s row given = (ask-reads s row given (length buffer) parts.1).1 in
    rw (call-done _ buffer mem _ none) (replaces s parts.0.taken given p.sized p.below _ to)

-- ---- an accepted commit
pub accepted_claim : AcceptedClaim
unfolding commit_call columns
accepted_claim s before row finished taken =
    let st : State = run s before in
    let parts = cells-parts s (length st.memory.cells) (commit_arguments s row finished) (call-taken _ [] st _ taken) in
    let t : Taken s = parts.0.taken in
    let word : Codeword s finished = (commit-reads s row finished parts.1).sound in
    let made = (encoding_claim s t finished word.sized).0 word in
    let rule : length (take s.width finished) ≡ s.width = length-take-le s.width finished (omega (arith, word.sized)) in
    subst (λ cells. Replaces s before row cells (take s.width finished)) (sym made.0)
    (replaces s t (take s.width finished) rule (λ j h. rw get_or-take (made.1 j h)) before row)
