-- Only serves the code's own contracts: levels over ρ^s, added up check row by check row, and the digit that completes such a sum.
use Rattle.std.specs.Prelude.{List, ℕ, ◌+◌, ◌-◌, ◌*◌, ◌/◌, ◌%◌, length, get_or, take}
use Rattle.parity.specs.Lists.{tabulate}
use Rattle.parity.proofs.Sums.{check_sum}

-- what brings a sum to 0 mod ρ
abbrev pub missing : ℕ → ℕ → ℕ
missing ρ sum = (ρ - sum % ρ) % ρ

-- check cell l with that digit of its check row's sum, at ρ^s = power
abbrev pub completed : List ℕ → List ℕ → ℕ → ℕ → ℕ → ℕ
completed cells sums ρ power l = get_or cells l 0 + missing ρ (get_or sums l 0) * power

-- for each of 8 check rows, the cells whose columns have a one there, each over ρ^s = power: mod ρ, the sum of their digits s
abbrev pub floor_sums : List ℕ → List ℕ → ℕ → List ℕ
floor_sums cells matrix power = tabulate 8 (λ l. check_sum (λ v. v / power) l (take (length cells) matrix) cells)
