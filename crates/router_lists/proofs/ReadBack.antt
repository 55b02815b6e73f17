-- A rule that stands as it was written is read back as that rule, and a cleared row as ranges that hold nothing. Assumes nothing.
use mathlib.Core.Path.{◌≡◌, ap, ap₂, subst, ◌∙◌}
use mathlib.Core.List.{List, [], ◌++◌}
use Prim.Native.Nat.{ℕ, suc, ◌+◌, ◌-◌, ◌*◌, ◌%◌, ◌<◌}
use native.Mathlib.Nat.{sub-zero}
use native.Mathlib.Omega.{arith}
use lib.ListN.{length, get_or, replicate, get_or-append}
use Rattle.parity.specs.Shape.{levels, columns}
use Rattle.parity.specs.Codeword.{encode}
use Rattle.parity.specs.Questions.{Taken}
use Rattle.parity.specs.declared.Shape.{Shape}
use Rattle.parity.proofs.ListLaws.{tabulate-same, tabulate-constant, same_at}
use Rattle.shape.specs.Answers.{accepted, giving}
use Rattle.shape.proofs.Calling.{call-done}
use Rattle.detection.proofs.Agreement.{sized, row-stands}
use Rattle.router_ranges.specs.Ranges.{features, Ranges, ranges_of, Rule, rule_levels, ranges_in}
use Rattle.router_ranges.proofs.Ranges.{ranges_claim, levels-sized}
use Rattle.router.specs.Calls.{Router, rule_at_call}
use Rattle.router_questions.proofs.Asked.{RuleAtTaken, rule-at-fits}
use Rattle.router_lists.specs.Run.{RouterCall, run_router}
use Rattle.router_lists.specs.Log.{Written, cleared, ruled, RouterLog, router_log}
use Rattle.router_lists.specs.Claims.{written_at, Stands, Out, read_at, ReadsBack, ReadBackClaim}
use Rattle.router_lists.proofs.Fits.{RuleRow, Row, Fits, fits}
use Rattle.router_lists.proofs.Routes.{halves}

-- the ranges of f features stand in the first 2f cells
ranges-front : (q f : ℕ) (xs ys : List ℕ) → length xs ≡ f + f → ranges_in q f (xs ++ ys) ≡ ranges_in q f xs
unfolding ranges_in
ranges-front q f xs ys e =
    ap₂ ranges_of
    (tabulate-same f _ _ (λ i h. ap (λ v. q - 1 - v) (get_or-append xs ys 0 (suc (2 * i)) (omega arith))))
    (tabulate-same f _ _ (λ i h. get_or-append xs ys 0 (2 * i) (omega arith)))

-- .. and those of zeros hold nothing
ranges-zeros : (q f n : ℕ) → ranges_in q f (replicate n 0) ≡ ranges_of (replicate f (q - 1)) (replicate f 0)
unfolding ranges_in
ranges-zeros q f n =
    ap₂ ranges_of
    (tabulate-same f _ _ (λ i h. ap (λ v. q - 1 - v) (same_at {A = ℕ} n (suc (2 * i)) 0) ∙ sub-zero (q - 1)) ∙ tabulate-constant f (q - 1))
    (tabulate-same f _ _ (λ i h. same_at {A = ℕ} n (2 * i) 0) ∙ tabulate-constant {A = ℕ} f 0)

rule-ranges :
    (s : Shape) → features s + features s ≡ s.width → (r : Rule) (cells : List ℕ) (belt : ℕ) → RuleRow s r cells belt
    → ranges_in (levels s) (features s) cells ≡ r.ranges
unfolding encode
rule-ranges s even r cells belt row =
    ap (ranges_in (levels s) (features s)) row.cells
    ∙ ranges-front (levels s) (features s) (rule_levels (levels s) r.ranges) _ (levels-sized (levels s) (features s) r.ranges row.proper)
    ∙ ranges_claim.read (levels s) (features s) r.ranges row.proper

module _
    (s : Shape) (t : Taken s) (even : s.width % 2 ≡ 0) (first : List ℕ) (count : length first ≡ s.rows) (calls : List RouterCall) (i : ℕ)
    (h : i < s.rows) (stands : Stands s first calls i) (out : Ranges) (o : Out s out) where
  abbrev st : Router
  st = run_router s first calls

  abbrev l : RouterLog
  l = router_log s first calls

  p : Fits s st l
  p = fits s t first count calls

  taken : RuleAtTaken s (length st.array.memory.cells) (length st.belts) i (length out.lows) (length out.highs)
  taken =
      record {
        taken = t;
        even = halves s even;
        cells = (sized s _ _ p.array).cells;
        belts = ap length p.belts ∙ p.rows.belt_count;
        lows = o.lows;
        highs = o.highs;
        place = h;
      }

  -- what is read from a row that stands as it was written
  reads :
      read_at s first calls i out
      ≡ giving (accepted (get_or l.belts i 0)) [] (ranges_in (levels s) (features s) (get_or l.array.rows.written i []))
  unfolding rule_at_call
  reads =
      call-done _ [] out _ (rule-at-fits s _ _ i _ _ taken)
      ∙ ap₂ (λ belts cells. giving (accepted (get_or belts i 0)) [] (ranges_in (levels s) (features s) cells)) p.belts
      (row-stands s _ _ _ p.array.rows i h ∙ stands.same)

  -- what was written there
  wrote : (w : Written) → written_at s first calls i ≡ w → Row s w (get_or l.array.rows.written i []) (get_or l.belts i 0)
  wrote w e = subst (λ w. Row s w (get_or l.array.rows.written i []) (get_or l.belts i 0)) e (p.rows.row i h)

  reads-back : ReadsBack s first calls i out
  reads-back =
      record {
        rule =
            λ r e.
            let row = wrote (ruled r) e in
            reads ∙ ap₂ (λ belt ranges. giving (accepted belt) [] ranges) row.belt (rule-ranges s (halves s even) r _ _ row);
        blank =
            λ e.
            reads
            ∙ ap (giving (accepted (get_or l.belts i 0)) [])
            (ap (ranges_in (levels s) (features s)) (wrote cleared e) ∙ ranges-zeros (levels s) (features s) (columns s));
      }

pub read_back_claim : ReadBackClaim
read_back_claim s t even first count calls i h stands out o = reads-back s t even first count calls i h stands out o
