-- Document 02, Cards 2 and 8: the plan of a detection cycle, its order and the number z of low digits that it skips; and how many lookups it makes.
use Rattle.std.specs.Prelude.{Bool, true, false, ℕ, suc, ◌-◌, ◌*◌, ◌/◌, ◌^◌}
use Rattle.parity.specs.Shape.{levels, columns}
use Rattle.parity.specs.Matrix.{matrix_ones}
use Rattle.parity.specs.declared.Shape.{Shape}
use Rattle.parity.specs.declared.Order.{Order}
use Rattle.parity.specs.declared.Order.TheVariants.{RowFirst, ColumnFirst}
use Rattle.parity.specs.declared.Plan.{Plan}

-- the plans of the two orders
abbrev pub row_first : ℕ → Plan
row_first z = record { order = RowFirst; skip = z }

abbrev pub column_first : ℕ → Plan
column_first z = record { order = ColumnFirst; skip = z }

-- whether two orders are the same
abbrev pub same_order : Order → Order → Bool
same_order RowFirst RowFirst = true
same_order RowFirst ColumnFirst = false
same_order ColumnFirst RowFirst = false
same_order ColumnFirst ColumnFirst = true

-- how many columns the tests of a digit go through: row-first W, those of each J(ℓ), column-first n, all of them once
abbrev pub visits : Order → Shape → ℕ
visits RowFirst s = matrix_ones s
visits ColumnFirst s = columns s

-- the lookups of a cycle: (q / ρ^z − 1) × W row-first, (q / ρ^z − 1) × n column-first
unfoldable pub plan_lookups : Plan → Shape → ℕ
plan_lookups plan s = (levels s / s.radix ^ plan.skip - 1) * visits plan.order s

-- the steps of a cycle: its two openings (Cards 4 and 7), and then the lookups
abbrev pub plan_steps : Plan → Shape → ℕ
plan_steps plan s = suc (suc (plan_lookups plan s))
