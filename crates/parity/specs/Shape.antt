-- Document 01, "Shape of an array": digits and levels, the limits of k, and the check columns, columns and cells of a shape.
use Rattle.std.specs.Prelude.{cond, ℕ, ◌+◌, ◌-◌, ◌*◌, ◌/◌, ◌%◌, ◌^◌, eqb, leb}
use Rattle.parity.specs.Lists.{first_from}
use Rattle.parity.specs.declared.Shape.{Shape}

-- digit s of the level v in radix ρ
unfoldable pub digit : ℕ → ℕ → ℕ → ℕ
digit ρ s v = v / ρ ^ s % ρ

-- q, the number of levels
unfoldable pub levels : Shape → ℕ
levels s = s.radix ^ s.digits

-- the first, second or third thing, as τ is 1, 2 or 3
abbrev pub by_errors {ℓ} : {A : Type ℓ} → ℕ → A → A → A → A
by_errors τ one two three = cond (eqb τ 1) one (cond (eqb τ 2) two three)

-- the largest k that r check columns carry; for τ = 1 there is one check column and no more
unfoldable pub largest : ℕ → ℕ → ℕ
largest τ r = by_errors τ (cond (eqb r 1) 254 0) (2 ^ r - r - 1) (2 ^ (r - 1) - r)

-- the largest k for τ: what 1 check column carries for τ = 1, and 8 for τ = 2 and 3
unfoldable pub limit : ℕ → ℕ
limit τ = largest τ (by_errors τ 1 8 8)

-- r as the least number from 1 to 8 that carries k; 9 where none does
unfoldable pub redundancy : ℕ → ℕ → ℕ
redundancy τ k = first_from (λ r. leb k (largest τ r)) 8 1

-- r, the check columns of a shape
unfoldable pub checks : Shape → ℕ
checks s = redundancy s.errors s.width

-- n, the columns of a shape
unfoldable pub columns : Shape → ℕ
columns s = s.width + checks s

-- m × n, the cells of an array
unfoldable pub cell_count : Shape → ℕ
cell_count s = s.rows * columns s
