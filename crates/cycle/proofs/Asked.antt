-- On a shape taken and a memory whose buffers have their lengths the first no to a call is that to its own arguments. Assumes nothing.
use mathlib.Core.Path.{◌≡◌}
use mathlib.Core.List.{List, [], ◌∷◌, ◌++◌}
use Prim.Native.Nat.{ℕ}
use lib.ListN.{length}
use Rattle.parity.specs.Questions.{Question, first_no, Taken, lengths_question}
use Rattle.parity.specs.declared.Shape.{Shape}
use Rattle.shape.proofs.Refusals.{call-rest}
use Rattle.array_memory.specs.Lengths.{cells_wanted, lines_wanted, rows_wanted, all_wanted, Sized, rows_lengths, all_lengths}
use Rattle.array_memory.proofs.Asked.{cells-lent, lines-lent, rows-lent, all-lent}
use Rattle.array_questions.specs.Questions.{cells_questions, lines_questions, clear_questions, start_arguments, start_questions, step_arguments, lent_questions}
use Rattle.cycle.specs.Record.{cycle_question}
use Rattle.cycle.specs.Calls.{State, step_questions}

module _ (s : Shape) (t : Taken s) (st : State) (lent : Sized s st.memory) where
  pub clear-asked : first_no (clear_questions s (all_lengths st.memory)) ≡ 0
  clear-asked = call-rest s [] (lengths_question (all_lengths st.memory) (all_wanted s)) [] t (all-lent s st.memory lent)

  -- the first no to a start is that to its number of digits
  pub start-asked : (z : ℕ) → first_no (start_questions s z (rows_lengths st.memory)) ≡ first_no (start_arguments s z)
  start-asked z = call-rest s (start_arguments s z) (lengths_question (rows_lengths st.memory) (rows_wanted s)) [] t (rows-lent s st.memory lent)

  -- a call on the cells, and one on the lines
  pub cells-asked : (own : List Question) → first_no (cells_questions s (length st.memory.cells) own) ≡ first_no own
  cells-asked own = call-rest s [] (lengths_question (length st.memory.cells ∷ []) (cells_wanted s)) own t (cells-lent s st.memory lent)

  pub lines-asked : (own : List Question) → first_no (lines_questions s (length st.memory.lines) own) ≡ first_no own
  lines-asked own = call-rest s [] (lengths_question (length st.memory.lines ∷ []) (lines_wanted s)) own t (lines-lent s st.memory lent)

  -- a call on the memory and match bytes, with further numbers and with 9
  pub lent-asked :
      (numbers : List Question) (matches : ℕ)
      → first_no (lent_questions s numbers (all_lengths st.memory) matches) ≡ first_no (numbers ++ step_arguments s matches)
  lent-asked numbers matches =
      call-rest s numbers (lengths_question (all_lengths st.memory) (all_wanted s)) (step_arguments s matches) t (all-lent s st.memory lent)

  pub step-asked :
      (matches : List ℕ) → first_no (step_questions s st matches) ≡ first_no (step_arguments s (length matches) ++ cycle_question s st.cycle ∷ [])
  step-asked matches =
      call-rest s [] (lengths_question (all_lengths st.memory) (all_wanted s)) (step_arguments s (length matches) ++ cycle_question s st.cycle ∷ []) t
      (all-lent s st.memory lent)
