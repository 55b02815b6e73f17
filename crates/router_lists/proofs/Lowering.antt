-- A call of the router is, for the array and its log, the calls that it is lowered to. Assumes nothing.
use mathlib.Core.Path.{◌≡◌, refl, sym, ap, ◌∙◌}
use mathlib.Core.List.{List, [], ◌∷◌, ◌++◌}
use Prim.Native.Nat.{ℕ, zero, suc}
use lib.ListN.{length, set}
use Rattle.parity.specs.Shape.{levels, cell_count}
use Rattle.parity.specs.Codeword.{encode}
use Rattle.parity.specs.Questions.{first_no, if_taken, Taken, lengths_question}
use Rattle.parity.specs.declared.Shape.{Shape}
use Rattle.parity.proofs.Alongside.{equal-alongside}
use Rattle.shape.specs.Answers.{Result, refused, giving, calling}
use Rattle.shape.proofs.Refusals.{call-rest}
use Rattle.array_memory.specs.Lengths.{cells_wanted}
use Rattle.array_questions.specs.Questions.{program_arguments}
use Rattle.array_questions.proofs.Asked.{cells-parts}
use Rattle.cycle.specs.Calls.{program_call}
use Rattle.call_lists.specs.Run.{Call, program, after, run_from}
use Rattle.detection.specs.Log.{log_written, log_taken, arguments_of, log_from}
use Rattle.router_ranges.specs.Ranges.{Ranges, Rule, rule_levels}
use Rattle.router_questions.specs.Questions.{features_question, rule_arguments, rule_questions}
use Rattle.router.specs.Calls.{Router, router_of, with_belts, rule_call}
use Rattle.router_questions.proofs.Asked.{RuleTaken, rule-taken, rule-programs}
use Rattle.router_lists.specs.Run.{RouterCall, plain, rule, router_after}
use Rattle.router_lists.specs.Log.{RouterLog, router_taken, router_arguments, router_log_call, lower_call}

module _ (s : Shape) (t : Taken s) where
  -- of buffers of their lengths, a rule's first no is that to its arguments
  rule-rest :
      (cells belts row : ℕ) (ranges : Ranges) → cells ≡ cell_count s → belts ≡ s.rows
      → first_no (rule_questions s cells belts row ranges) ≡ first_no (features_question s ∷ rule_arguments s row ranges)
  rule-rest cells belts row ranges ec eb =
      let wanted = cells_wanted s ++ s.rows ∷ [] in
      call-rest s (features_question s ∷ []) (lengths_question (cells ∷ belts ∷ []) wanted) (rule_arguments s row ranges) t
      (equal-alongside (cells ∷ belts ∷ []) wanted (λ i. ec i ∷ eb i ∷ []))

  -- a rule whose arguments fail no question
  pub taken-rule :
      (row : ℕ) (r : Rule) → first_no (router_arguments s (rule row r)) ≡ 0 → RuleTaken s (cell_count s) s.rows row r.ranges
  taken-rule row r none =
      rule-taken s (cell_count s) s.rows row r.ranges (rule-rest (cell_count s) s.rows row r.ranges refl refl ∙ none)

  -- .. and the programming of its levels fails none
  programs : (row : ℕ) (r : Rule) → first_no (router_arguments s (rule row r)) ≡ 0 → first_no (program_arguments s row (rule_levels (levels s) r.ranges)) ≡ 0
  programs row r none =
      (cells-parts s (cell_count s) (program_arguments s row (rule_levels (levels s) r.ranges))
      (rule-programs s (cell_count s) s.rows row r.ranges (taken-rule row r none))).1

  -- what a rule leaves: where its arguments fail no question, what the programming leaves, with its belt
  pub rule-after :
      (st : Router) → length st.array.memory.cells ≡ cell_count s → length st.belts ≡ s.rows → (row : ℕ) (r : Rule)
      → router_after s st (rule row r)
      ≡ if_taken (first_no (router_arguments s (rule row r)))
      (router_of (after s st.array (program row (rule_levels (levels s) r.ranges))) (set st.belts row r.belt)) st
  unfolding rule_call calling
  rule-after st cells count row r = go _ _ (rule-rest (length st.array.memory.cells) (length st.belts) row r.ranges cells count)
    where
      done : Result Router
      done = with_belts (set st.belts row r.belt) (program_call s st.array row (rule_levels (levels s) r.ranges))

      go : (n m : ℕ) → n ≡ m → (if_taken n done (giving (refused 0 n) [] st)).state ≡ if_taken m done.state st
      go n zero e = ap (λ n. (if_taken n done (giving (refused 0 n) [] st)).state) e
      go n (suc m) e = ap (λ n. (if_taken n done (giving (refused 0 n) [] st)).state) e

  -- ---- for the array

  pub lower-state :
      (st : Router) → length st.array.memory.cells ≡ cell_count s → length st.belts ≡ s.rows → (c : RouterCall)
      → (router_after s st c).array ≡ run_from s st.array (lower_call s c)
  lower-state st cells count (plain c) = refl
  lower-state st cells count (rule row r) = ap (λ st. st.array) (rule-after st cells count row r) ∙ go (first_no (router_arguments s (rule row r)))
    where
      written : List Call
      written = program row (rule_levels (levels s) r.ranges) ∷ []

      go :
          (n : ℕ) → (if_taken n (router_of (run_from s st.array written) (set st.belts row r.belt)) st).array
          ≡ run_from s st.array (if_taken n written [])
      go zero = refl
      go (suc n) = refl

  -- ---- for its log

  pub lower-log : (l : RouterLog) (c : RouterCall) → (router_log_call s l c).array ≡ log_from s l.array (lower_call s c)
  lower-log l (plain c) = go (first_no (arguments_of s c))
    where
      go : (n : ℕ) → (if_taken n (router_taken s l (plain c)) l).array ≡ if_taken n (log_taken s l.array c) l.array
      go zero = refl
      go (suc n) = refl
  lower-log l (rule row r) = go (first_no (router_arguments s (rule row r))) (programs row r)
    where
      given : List ℕ
      given = rule_levels (levels s) r.ranges

      go :
          (n : ℕ) → (n ≡ 0 → first_no (program_arguments s row given) ≡ 0)
          → (if_taken n (router_taken s l (rule row r)) l).array ≡ log_from s l.array (if_taken n (program row given ∷ []) [])
      go zero passed = sym (ap (λ n. if_taken n (log_written row (encode s given) l.array) l.array) (passed refl))
      go (suc n) passed = refl
