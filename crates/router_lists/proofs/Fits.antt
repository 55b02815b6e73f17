-- What a router's state and log have in common after every list: the array's own agreement, the belts, and in each row that was last written as a rule or
-- cleared what that leaves. So a list of the router is for the array the list that it is lowered to. Assumes nothing.
use mathlib.Core.Path.{◌≡◌, refl, sym, ap, subst, ◌∙◌}
use mathlib.Core.Logic.{◌≢◌}
use mathlib.Core.Bool.{Bool, true, false}
use mathlib.Core.List.{List, [], ◌∷◌}
use Prim.Native.Nat.{ℕ, zero, suc, ◌<◌}
use native.Mathlib.Omega.{arith}
use lib.Dec.{eqb}
use lib.ListN.{length, get_or, set, replicate, length-set, length-replicate, get_or-replicate}
use lib.Seq.{get_or-set_same, get_or-set_other, set-get_or}
use borrow.Author.Tests.{eqb-true, eqb-false}
use Rattle.parity.specs.Lists.{followed}
use Rattle.parity.specs.Shape.{levels, columns, cell_count}
use Rattle.parity.specs.Codeword.{encode}
use Rattle.parity.specs.Questions.{first_no, if_taken, Taken}
use Rattle.parity.specs.declared.Shape.{Shape}
use Rattle.parity.proofs.Followed.{followed-keeps, followed-append}
use Rattle.shape.proofs.Calling.{if-either}
use Rattle.cycle.specs.Calls.{fresh}
use Rattle.call_lists.specs.Run.{Call, clear, start, program, ask, commit, drift, line, lookup, step, after, run_from, run}
use Rattle.call_lists.proofs.Runs.{run-append}
use Rattle.detection.specs.Log.{Course, none, open-cycle, ended, Log, blank, log_step, while_open, log_taken, arguments_of, log_call, log_from, log}
use Rattle.detection.proofs.Agreement.{Agrees, sized, agrees-fresh}
use Rattle.detection.proofs.Keeping.{agrees-run}
use Rattle.detection.proofs.Detection.{detection_claim}
use Rattle.router_ranges.specs.Ranges.{features, Rule, rule_levels}
use Rattle.router_ranges.specs.Claims.{Proper}
use Rattle.router.specs.Calls.{Router, router_of}
use Rattle.router_questions.proofs.Asked.{RuleTaken}
use Rattle.router_lists.specs.Run.{RouterCall, plain, rule, router_after, run_router}
use Rattle.router_lists.specs.Log.{Written, cleared, ruled, other, RouterLog, router_log_of, rules_taken, router_taken, router_arguments}
use Rattle.router_lists.specs.Log.{router_log_call, router_log, lower_call, lowered}
use Rattle.router_lists.specs.Claims.{LoweredClaim}
use Rattle.router_lists.proofs.Lowering.{taken-rule, rule-after, lower-state, lower-log}

-- a rule's row: its levels with their check cells, and its belt
pub record RuleRow (s : Shape) (r : Rule) (row : List ℕ) (byte : ℕ) : Type 0 where
  pub proper : Proper (levels s) (features s) r.ranges
  pub cells : row ≡ encode s (rule_levels (levels s) r.ranges)
  pub belt : byte ≡ r.belt

-- what a row that was so written holds
abbrev pub Row : Shape → Written → List ℕ → ℕ → Type 0
Row s cleared cells belt = cells ≡ replicate (columns s) 0
Row s (ruled r) cells belt = RuleRow s r cells belt
Row s other cells belt = Unit {0}

pub record Rows (s : Shape) (rules : List Written) (written : List (List ℕ)) (belts : List ℕ) : Type 0 where
  pub rule_count : length rules ≡ s.rows
  pub written_count : length written ≡ s.rows
  pub belt_count : length belts ≡ s.rows
  pub row : (i : ℕ) → i < s.rows → Row s (get_or rules i other) (get_or written i []) (get_or belts i 0)

module _ (s : Shape) where
  -- a row written anew
  rows-set :
      (rules : List Written) (written : List (List ℕ)) (belts : List ℕ) → Rows s rules written belts
      → (j : ℕ) (w : Written) (cells : List ℕ) (belt : ℕ) → Row s w cells belt → Rows s (set rules j w) (set written j cells) (set belts j belt)
  rows-set rules written belts p j w cells belt new =
      record {
        rule_count = length-set rules j w ∙ p.rule_count;
        written_count = length-set written j cells ∙ p.written_count;
        belt_count = length-set belts j belt ∙ p.belt_count;
        row = λ i h. go i h (eqb i j) refl;
      }
    where
      go :
          (i : ℕ) → i < s.rows → (b : Bool) → eqb i j ≡ b
          → Row s (get_or (set rules j w) i other) (get_or (set written j cells) i []) (get_or (set belts j belt) i 0)
      go i h true e =
          let same : i ≡ j = eqb-true i j e in
          rw (
            same,
            get_or-set_same rules j w other (omega (arith, p.rule_count)),
            get_or-set_same written j cells [] (omega (arith, p.written_count)),
            get_or-set_same belts j belt 0 (omega (arith, p.belt_count)),
          ) new
      go i h false e =
          let apart : i ≢ j = eqb-false i j e in
          rw (get_or-set_other rules j i w other apart, get_or-set_other written j i cells [] apart, get_or-set_other belts j i belt 0 apart) (p.row i h)

  -- .. by a call that is not lent the belts
  rows_other :
      (rules : List Written) (written : List (List ℕ)) (belts : List ℕ) → Rows s rules written belts
      → (j : ℕ) (cells : List ℕ) → Rows s (set rules j other) (set written j cells) belts
  rows_other rules written belts p j cells =
      subst (Rows s (set rules j other) (set written j cells)) (set-get_or belts j 0) (rows-set rules written belts p j other cells (get_or belts j 0) tt)

  rows-cleared : (belts : List ℕ) → length belts ≡ s.rows → Rows s (replicate s.rows cleared) (replicate s.rows (replicate (columns s) 0)) belts
  rows-cleared belts e =
      record {
        rule_count = length-replicate s.rows cleared;
        written_count = length-replicate s.rows _;
        belt_count = e;
        row = λ i h. rw (get_or-replicate s.rows i cleared other h, get_or-replicate s.rows i (replicate {A = ℕ} (columns s) 0) [] h) refl;
      }

  -- a call on the array that is taken
  rows-plain :
      (l : Log) (rules : List Written) (belts : List ℕ) → Rows s rules l.rows.written belts
      → (c : Call) → Rows s (rules_taken s rules c) (log_taken s l c).rows.written belts
  unfolding blank
  rows-plain l rules belts p clear = rows-cleared belts p.belt_count
  rows-plain l rules belts p (start z) = p
  rows-plain l rules belts p (program row given) = rows_other rules l.rows.written belts p row (encode s given)
  rows-plain l rules belts p (ask row given buffer) = p
  rows-plain l rules belts p (commit row finished) = rows_other rules l.rows.written belts p row finished
  rows-plain l rules belts p (drift row column level) = p
  rows-plain l rules belts p (line row byte) = p
  rows-plain l rules belts p (lookup inputs matches) = p
  rows-plain l rules belts p (step matches) = go l.cycle.course
    where
      go : (k : Course) → Rows s rules (while_open k (log_step s l) l).rows.written belts
      go none = p
      go open-cycle = p
      go ended = p

pub record Fits (s : Shape) (st : Router) (l : RouterLog) : Type 0 where
  pub array : Agrees s st.array l.array
  pub belts : st.belts ≡ l.belts
  pub rows : Rows s l.rules l.array.rows.written l.belts

module _ (s : Shape) (t : Taken s) where
  -- every call keeps it
  kept-array : (st : Router) (l : RouterLog) → Fits s st l → (c : RouterCall) → Agrees s (router_after s st c).array (router_log_call s l c).array
  kept-array st l p c =
      let count : length st.belts ≡ s.rows = ap length p.belts ∙ p.rows.belt_count in
      rw (lower-state s t st (sized s _ _ p.array).cells count c, lower-log s t l c)
      (agrees-run s t (lower_call s c) st.array l.array p.array)

  -- a rule's belt and its row
  rule-belts :
      (st : Router) (l : RouterLog) → Fits s st l → (row : ℕ) (r : Rule) → (router_after s st (rule row r)).belts ≡ (router_log_call s l (rule row r)).belts
  rule-belts st l p row r =
      let count : length st.belts ≡ s.rows = ap length p.belts ∙ p.rows.belt_count in
      ap (λ st. st.belts) (rule-after s t st (sized s _ _ p.array).cells count row r) ∙ go (first_no (router_arguments s (rule row r)))
    where
      go :
          (n : ℕ) → (if_taken n (router_of (after s st.array (program row (rule_levels (levels s) r.ranges))) (set st.belts row r.belt)) st).belts
          ≡ (if_taken n (router_taken s l (rule row r)) l).belts
      go zero = ap (λ bytes. set bytes row r.belt) p.belts
      go (suc n) = p.belts

  rule-rows :
      (l : RouterLog) → Rows s l.rules l.array.rows.written l.belts → (row : ℕ) (r : Rule) → let next = router_log_call s l (rule row r) in
      Rows s next.rules next.array.rows.written next.belts
  rule-rows l p row r = go (first_no (router_arguments s (rule row r))) (taken-rule s t row r)
    where
      go :
          (n : ℕ) → (n ≡ 0 → RuleTaken s (cell_count s) s.rows row r.ranges) → let next = if_taken n (router_taken s l (rule row r)) l in
          Rows s next.rules next.array.rows.written next.belts
      go zero taken =
          rows-set s l.rules l.array.rows.written l.belts p row (ruled r) _ r.belt
          (record { proper = (taken refl).proper; cells = refl; belt = refl })
      go (suc n) taken = p

  kept : (st : Router) (l : RouterLog) (c : RouterCall) → Fits s st l → Fits s (router_after s st c) (router_log_call s l c)
  kept st l (plain c) p =
      let n = first_no (arguments_of s c) in
      record {
        array = kept-array st l p (plain c);
        belts = if-either (λ next. st.belts ≡ next.belts) n (router_taken s l (plain c)) l p.belts p.belts;
        rows =
            if-either (λ next. Rows s next.rules next.array.rows.written next.belts) n (router_taken s l (plain c)) l
            (rows-plain s l.array l.rules l.belts p.rows c) p.rows;
      }
  kept st l (rule row r) p =
      record { array = kept-array st l p (rule row r); belts = rule-belts st l p row r; rows = rule-rows l p.rows row r }

  -- ---- a whole list

  module _ (first : List ℕ) (count : length first ≡ s.rows) where
    fits-first : Fits s (router_of (fresh s) first) (router_log_of (blank s) (replicate s.rows cleared) first)
    unfolding blank
    fits-first = record { array = agrees-fresh s t; belts = refl; rows = rows-cleared s first count }

    pub fits : (calls : List RouterCall) → Fits s (run_router s first calls) (router_log s first calls)
    unfolding run_router router_log
    fits calls = followed-keeps (router_after s) (router_log_call s) (Fits s) kept calls _ _ fits-first

  lowered-run :
      (calls : List RouterCall) (st : Router) (l : RouterLog) → Fits s st l
      → (followed (router_after s) st calls).array ≡ run_from s st.array (lowered s calls)
  lowered-run [] st l p = refl
  lowered-run (c ∷ calls) st l p =
      let count : length st.belts ≡ s.rows = ap length p.belts ∙ p.rows.belt_count in
      lowered-run calls (router_after s st c) (router_log_call s l c) (kept st l c p)
      ∙ ap (λ st. run_from s st (lowered s calls)) (lower-state s t st (sized s _ _ p.array).cells count c)
      ∙ sym (run-append s st.array (lower_call s c) (lowered s calls))

  lowered-log : (calls : List RouterCall) (l : RouterLog) → (followed (router_log_call s) l calls).array ≡ log_from s l.array (lowered s calls)
  lowered-log [] l = refl
  lowered-log (c ∷ calls) l =
      lowered-log calls (router_log_call s l c)
      ∙ ap (λ l. log_from s l (lowered s calls)) (lower-log s t l c)
      ∙ sym (followed-append (log_call s) (lower_call s c) (lowered s calls) l.array)

pub lowered_claim : LoweredClaim
unfolding run_router run router_log log
lowered_claim s t first count calls =
    record {
      state = lowered-run s t calls _ _ (fits-first s t first count);
      logged = lowered-log s t calls _;
      detects = detection_claim s t (lowered s calls);
      belts = (fits s t first count calls).belts;
    }
