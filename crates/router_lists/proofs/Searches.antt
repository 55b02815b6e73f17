-- What a search for the first number that passes a test tells of the test, and when two searches find the same. Assumes nothing.
use mathlib.Core.Path.{◌≡◌, refl, ap, ◌∙◌}
use mathlib.Core.Bool.{Bool, true, false, cond}
use Prim.Native.Nat.{ℕ, zero, suc, ◌+◌, ◌≤◌, ◌<◌}
use native.Mathlib.Omega.{arith}
use Rattle.parity.specs.Lists.{first_from}
use Rattle.parity.proofs.Redundancy.{first-from, first-low}

-- what stands before what is found fails
pub passed_over : (p : ℕ → Bool) (n i j : ℕ) → i ≤ j → j < i + n → j < first_from p n i → p j ≡ false
passed_over p n i j low high h = go (p j) refl
  where
    go : (b : Bool) → p j ≡ b → b ≡ false
    go true e = absurd (omega (arith, (first-from p n i j low high e).high))
    go false e = refl

-- two tests that agree up to what the first finds find the same
pub found-same :
    (p q : ℕ → Bool) (n i : ℕ) → ((j : ℕ) → i ≤ j → j < i + n → j ≤ first_from p n i → p j ≡ q j) → first_from p n i ≡ first_from q n i
found-same p q zero i same = refl
found-same p q (suc n) i same =
    go (p i) refl (λ no. found-same p q n (suc i) (λ j low high h. same j (omega arith) (omega arith) (rw no h)))
    ∙ ap (λ b. cond b i (first_from q n (suc i))) (same i (omega arith) (omega arith) (first-low p (suc n) i))
  where
    go :
        (b : Bool) → p i ≡ b → (p i ≡ false → first_from p n (suc i) ≡ first_from q n (suc i))
        → cond b i (first_from p n (suc i)) ≡ cond b i (first_from q n (suc i))
    go true e rest = refl
    go false e rest = rest e
