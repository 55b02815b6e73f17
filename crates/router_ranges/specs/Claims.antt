-- The theorem on rules and bottles in the columns, as a type; the proof is in proofs/.
use Rattle.std.specs.Prelude.{◌≡◌, false, List, ℕ, ◌*◌, ◌≤◌, ◌<◌, length, replicate}
use Rattle.parity.specs.Match.{all_answer}
use Rattle.parity.specs.Claims.{Below}
use Rattle.router_ranges.specs.Ranges.{Ranges, holds, rule_levels, bottle_inputs, ranges_in}

-- the ranges of f features, every low and every high below q
pub record Proper (q f : ℕ) (ranges : Ranges) : Type 0 where
  pub low_count : length ranges.lows ≡ f
  pub high_count : length ranges.highs ≡ f
  pub low : Below q f ranges.lows
  pub high : Below q f ranges.highs

-- a bottle's values of f features, all below q
pub record Bottle (q f : ℕ) (values : List ℕ) : Type 0 where
  pub count : length values ≡ f
  pub below : Below q f values

-- Of the two columns to a feature every cell answers exactly where the rule holds the bottle; the row of zeros, which a clear leaves, answers none, since
-- there are two levels at least and one feature; and a rule is read back from its levels as it was written.
pub record RangesClaim : Type 0 where
  pub held :
      (q f : ℕ) (ranges : Ranges) (values : List ℕ) → Proper q f ranges → Bottle q f values
      → all_answer q (bottle_inputs q values) (rule_levels q ranges) ≡ holds ranges values
  pub cleared : (q f : ℕ) (values : List ℕ) → 2 ≤ q → 0 < f → Bottle q f values → all_answer q (bottle_inputs q values) (replicate (2 * f) 0) ≡ false
  pub read : (q f : ℕ) (ranges : Ranges) → Proper q f ranges → ranges_in q f (rule_levels q ranges) ≡ ranges
