-- A row that stands as it was written, as a rule or cleared, with a sound line matches a bottle exactly where its rule holds it. Assumes nothing.
use mathlib.Core.Path.{◌≡◌, refl, sym, ap, ap₂, ◌∙◌}
use mathlib.Core.Logic.{◌≢◌}
use mathlib.Core.Bool.{Bool, true, false, cond}
use mathlib.Core.List.{List, [], ◌++◌}
use Prim.Native.Nat.{ℕ, ◌+◌, ◌*◌, ◌<◌}
use native.Mathlib.Omega.{arith}
use lib.Dec.{eqb}
use lib.ListN.{length, get_or, replicate, length-append, length-replicate, replicate-append-replicate}
use lib.Seq.{take_at}
use Rattle.parity.specs.Shape.{levels, checks, columns}
use Rattle.parity.specs.Codeword.{encode}
use Rattle.parity.specs.Match.{all_answer, match_byte, line_gives, line_match, task_vector}
use Rattle.parity.specs.Questions.{Taken}
use Rattle.parity.specs.declared.Shape.{Shape}
use Rattle.parity.proofs.ListLaws.{length-tabulate}
use Rattle.parity.proofs.Sizes.{two-levels}
use Rattle.parity.proofs.Taken.{limits}
use Rattle.acam.proofs.TaskMatch.{task-match}
use Rattle.array_memory.specs.Geometry.{row_match}
use Rattle.detection.proofs.Agreement.{row-stands}
use Rattle.router_ranges.specs.Ranges.{features, rule_levels, bottle_inputs}
use Rattle.router_ranges.specs.Claims.{Bottle}
use Rattle.router_ranges.proofs.Ranges.{ranges_claim, levels-sized, inputs-sized}
use Rattle.router.specs.Calls.{Router}
use Rattle.router_lists.specs.Log.{Written, cleared, ruled, other, RouterLog}
use Rattle.router_lists.specs.Claims.{rule_holds}
use Rattle.router_lists.proofs.Fits.{Row, Fits}

-- a match byte is 1 where every cell answers
byte_one : (b : Bool) → eqb (cond b 1 0) 1 ≡ b
byte_one true = refl
byte_one false = refl

module _ (s : Shape) (t : Taken s) (even : features s + features s ≡ s.width) (values : List ℕ) (bottle : Bottle (levels s) (features s) values) where
  abbrev inputs : List ℕ
  inputs = bottle_inputs (levels s) values

  -- of a row of n cells that begins with k known ones
  answers-front :
      (front rest : List ℕ) → length front ≡ s.width → length rest ≡ checks s
      → eqb (match_byte (levels s) (task_vector s inputs) (front ++ rest)) 1 ≡ all_answer (levels s) inputs front
  unfolding task_vector match_byte
  answers-front front rest ef er =
      ap (λ byte. eqb byte 1)
      (task-match (levels s) (omega (arith, two-levels s t)) s.width (checks s) inputs (front ++ rest)
      (inputs-sized (levels s) (features s) values bottle ∙ even) (length-append front rest ∙ ap₂ ◌+◌ ef er)
      ∙ ap (match_byte (levels s) inputs) (take_at front rest s.width ef))
      ∙ byte_one (all_answer (levels s) inputs front)

  -- what a row matches that was so written
  row-holds :
      (w : Written) (cells : List ℕ) (belt : ℕ) → w ≢ other → Row s w cells belt
      → eqb (match_byte (levels s) (task_vector s inputs) cells) 1 ≡ rule_holds values w
  unfolding encode columns
  row-holds cleared cells belt known row =
      let two : s.width ≡ 2 * features s = omega (arith, even) in
      ap (λ cells. eqb (match_byte (levels s) (task_vector s inputs) cells) 1) (row ∙ sym (replicate-append-replicate s.width (checks s) 0))
      ∙ answers-front (replicate s.width 0) (replicate (checks s) 0) (length-replicate s.width 0) (length-replicate (checks s) 0)
      ∙ ap (λ n. all_answer (levels s) inputs (replicate n 0)) two
      ∙ ranges_claim.cleared (levels s) (features s) values (two-levels s t) (omega (arith, even, (limits s t).width_low)) bottle
  row-holds (ruled r) cells belt known row =
      ap (λ cells. eqb (match_byte (levels s) (task_vector s inputs) cells) 1) row.cells
      ∙ answers-front (rule_levels (levels s) r.ranges) _ (levels-sized (levels s) (features s) r.ranges row.proper ∙ even)
      (length-tabulate (checks s) _)
      ∙ ranges_claim.held (levels s) (features s) r.ranges values row.proper bottle
  row-holds other cells belt known row = absurd (known refl)

  -- row i of the array
  pub trusted-match :
      (st : Router) (l : RouterLog) → Fits s st l → (i : ℕ) → i < s.rows → get_or l.rules i other ≢ other
      → get_or l.array.rows.standing i [] ≡ get_or l.array.rows.written i [] → get_or l.array.rows.lines i 0 ≡ 0
      → eqb (row_match (levels s) (columns s) (task_vector s inputs) st.array.memory.cells st.array.memory.lines i) 1
      ≡ rule_holds values (get_or l.rules i other)
  unfolding row_match line_match line_gives
  trusted-match st l p i h known same sound =
      ap₂ (λ line cells. eqb (line_match (levels s) line (task_vector s inputs) cells) 1) (ap (λ lines. get_or lines i 0) p.array.lines ∙ sound)
      (row-stands s _ _ _ p.array.rows i h ∙ same)
      ∙ row-holds (get_or l.rules i other) _ (get_or l.belts i 0) known (p.rows.row i h)
