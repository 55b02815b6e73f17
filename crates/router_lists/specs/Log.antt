-- The log of a list of the router: it is fed the shape, the belts at first, and the calls alone. Beside document 01's log of the array it holds, for each row,
-- the rule last written there, if there is one, and the belts; and the list of the array's own calls that a list of the router is.
use Rattle.std.specs.Prelude.{List, [], ◌∷◌, ◌++◌, ℕ, set, replicate}
use Rattle.parity.specs.Lists.{followed}
use Rattle.parity.specs.Shape.{levels}
use Rattle.parity.specs.Codeword.{encode}
use Rattle.parity.specs.Questions.{Question, first_no, if_taken}
use Rattle.parity.specs.declared.Shape.{Shape}
use Rattle.call_lists.specs.Run.{Call, clear, start, program, ask, commit, drift, line, lookup, step}
use Rattle.detection.specs.Log.{Log, blank, log_written, log_taken, arguments_of}
use Rattle.router_ranges.specs.Ranges.{Rule, rule_levels}
use Rattle.router_questions.specs.Questions.{features_question, rule_arguments}
use Rattle.router_lists.specs.Run.{RouterCall, plain, rule}

-- ---- what it holds

-- what a row was last written with: cleared, it holds no rule; a rule; or, by a program or a commit, levels that are no rule
pub data Written : Type 0 where
  cleared : Written
  ruled : Rule → Written
  other : Written

pub record RouterLog : Type 0 where
  pub array : Log
  pub rules : List Written
  pub belts : List ℕ

abbrev pub router_log_of : Log → List Written → List ℕ → RouterLog
router_log_of array rules belts = record { array = array; rules = rules; belts = belts }

-- ---- what a call that is taken does to it

-- to the rules, a call on the array
abbrev pub rules_taken : Shape → List Written → Call → List Written
rules_taken s rules clear = replicate s.rows cleared
rules_taken s rules (start z) = rules
rules_taken s rules (program row given) = set rules row other
rules_taken s rules (ask row given buffer) = rules
rules_taken s rules (commit row finished) = set rules row other
rules_taken s rules (drift row column level) = rules
rules_taken s rules (line row byte) = rules
rules_taken s rules (lookup inputs matches) = rules
rules_taken s rules (step matches) = rules

-- A rule writes its levels, and then the check cells that make them sound, as a program does, and the row's belt; no other call writes a belt.
abbrev pub router_taken : Shape → RouterLog → RouterCall → RouterLog
router_taken s l (plain c) = router_log_of (log_taken s l.array c) (rules_taken s l.rules c) l.belts
router_taken s l (rule row r) =
    router_log_of (log_written row (encode s (rule_levels (levels s) r.ranges)) l.array) (set l.rules row (ruled r)) (set l.belts row r.belt)

-- ---- a list of calls

-- what a call asks of its arguments
abbrev pub router_arguments : Shape → RouterCall → List Question
router_arguments s (plain c) = arguments_of s c
router_arguments s (rule row r) = features_question s ∷ rule_arguments s row r.ranges

-- a call whose arguments fail a question is refused: no change
abbrev pub router_log_call : Shape → RouterLog → RouterCall → RouterLog
router_log_call s l c = if_taken (first_no (router_arguments s c)) (router_taken s l c) l

-- at first: the array's log as it is then, no rule in any row, and the belts as they are
unfoldable pub router_log : Shape → List ℕ → List RouterCall → RouterLog
router_log s belts calls = followed (router_log_call s) (router_log_of (blank s) (replicate s.rows cleared) belts) calls

-- ---- the same list for the array: each rule that is taken is the programming of its levels

abbrev pub lower_call : Shape → RouterCall → List Call
lower_call s (plain c) = c ∷ []
lower_call s (rule row r) = if_taken (first_no (router_arguments s (rule row r))) (program row (rule_levels (levels s) r.ranges) ∷ []) []

abbrev pub lowered : Shape → List RouterCall → List Call
lowered s [] = []
lowered s (c ∷ calls) = lower_call s c ++ lowered s calls
