-- What a call for C tells: the number that it returns, 0 where it is taken, and the value that it leaves behind a pointer.
use Rattle.std.specs.Prelude.{cond, ℕ, eqb}
use Rattle.shape.specs.Answers.{Said, Found, row, none}
use Rattle.cycle_sizes.specs.declared.CycleSizes.{CycleSizes}
use Rattle.panel.specs.Panel.{Reading}

-- what a number and a value say: the call is taken exactly where the number is 0
abbrev pub telling : {A : Type 0} → ℕ → A → Said A
telling number value = record { taken = eqb number 0; number = number; value = value }

-- what a first match finds among m rows, as a number: m for none
abbrev pub found_number : ℕ → Found → ℕ
found_number m (row i) = i
found_number m none = m

-- what a first match among m rows says, as a number: 0 where it is refused
abbrev pub found_says : ℕ → Said Found → Said ℕ
found_says m said = record { taken = said.taken; number = said.number; value = cond said.taken (found_number m said.value) 0 }

-- ---- the sizes

-- six numbers, in the order in which they are told
abbrev pub measured : ℕ → ℕ → ℕ → ℕ → ℕ → ℕ → CycleSizes
measured levels checks columns cells blocks steps =
    record { sizes = record { levels = levels; checks = checks; columns = columns; cells = cells }; blocks = blocks; steps = steps }

-- ---- the panel

-- its three numbers: the total, the row and the flags read
pub record Shown : Type 0 where
  pub total : ℕ
  pub first : ℕ
  pub read : ℕ

abbrev pub shown : ℕ → ℕ → ℕ → Shown
shown total first read = record { total = total; first = first; read = read }

-- what the panel is told of m rows, as three numbers: the row is 0 where the call is refused, as the other two are
abbrev pub reading_says : ℕ → Said Reading → Said Shown
reading_says m said =
    let told = said.value in
    record {
      taken = said.taken;
      number = said.number;
      value = shown told.total (cond said.taken (found_number m told.first) 0) told.read;
    }
