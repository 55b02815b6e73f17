-- Inputs narrowed to bytes, which are the inputs where all are below q: those that are bytes already, and those of 16 bits, whose bytes are made in the
-- front part of an array. Assumes nothing.
use mathlib.Core.Path.{◌≡◌, refl, sym, ◌∙◌, ap, ap₂}
use mathlib.Core.Bool.{Bool, true, and-eq-true_iff}
use mathlib.Core.List.{List, [], ◌∷◌, ◌++◌, map}
use Prim.Native.Nat.{ℕ, ◌%◌, ◌≤◌}
use native.Mathlib.Nat.{mod-eq_of_lt}
use native.Mathlib.Omega.{arith}
use lib.Dec.{ltb}
use lib.ListN.{length, take, drop, length-map}
use borrow.Author.Tests.{ltb-true}
use Rattle.parity.specs.Lists.{every}
use Rattle.parity.specs.Shape.{levels}
use Rattle.parity.specs.Questions.{Taken}
use Rattle.parity.specs.declared.Shape.{Shape}
use Rattle.parity.proofs.Comparator.{reaches}
use Rattle.parity.proofs.Taken.{limits}
use Rattle.shape.specs.Shapes.{sizes_of}
use Rattle.shape.specs.declared.sizes.Sizes.{Sizes}
use Rattle.array_lookup.proofs.Front.{blank, Holds, front-sized, front-held}

-- whether all inputs are below q, and bytes that are the inputs where they are
pub record Narrowed (q : ℕ) (inputs : List ℕ) (below : Bool) (bytes : List ℕ) : Type 0 where
  pub told : below ≡ reaches q inputs
  pub same : below ≡ true → bytes ≡ inputs
  pub sized : length bytes ≡ length inputs

-- inputs that are below q already
pub below-narrowed : (q : ℕ) (inputs : List ℕ) → reaches q inputs ≡ true → Narrowed q inputs true inputs
below-narrowed q inputs all = record { told = sym all; same = λ e. refl; sized = refl }

-- the bytes of inputs of 16 bits
abbrev pub bytes_of : List ℕ → List ℕ
bytes_of inputs = map (λ v. v % 256) inputs

wide-narrowed :
    (s : Shape) → Taken s → (z : Sizes) → z ≡ sizes_of s → (inputs : List ℕ) (below : Bool) (bytes : List ℕ)
    → below ≡ every (λ v. ltb v z.levels) inputs → bytes ≡ bytes_of inputs → Narrowed (levels s) inputs below bytes
wide-narrowed s t z e inputs below bytes told are =
    let q = ap (λ z. z.levels) e in
    let tells = told ∙ ap (λ q. reaches q inputs) q in
    record {
      told = tells;
      same = λ all. are ∙ kept (levels s) (limits s t).levels_high inputs (sym tells ∙ all);
      sized = ap length are ∙ length-map inputs (λ v. v % 256);
    }
  where
    -- a number below 256 is its byte
    kept : (q : ℕ) → q ≤ 256 → (inputs : List ℕ) → reaches q inputs ≡ true → bytes_of inputs ≡ inputs
    kept q h [] all = refl
    kept q h (x ∷ xs) all =
        let both = (and-eq-true_iff (ltb x q) (reaches q xs)).0 all in
        ap₂ (λ (y : ℕ) (ys : List ℕ). y ∷ ys) (mod-eq_of_lt (omega (arith, ltb-true x q both.0))) (kept q h xs both.1)

module _ (s : Shape) (t : Taken s) (inputs : List ℕ) (sized : length inputs ≡ s.width) where
  -- the part of the array that is lent for them
  pub bytes-ask : (z : Sizes) → z ≡ sizes_of s → (z.levels ≤ 256) × (length inputs ≡ length (take s.width blank))
  bytes-ask z e = (omega (arith, ap (λ z. z.levels) e, (limits s t).levels_high), sized ∙ sym (front-sized s t))

  module _ (made : List ℕ) (are : made ≡ bytes_of inputs) where
    pub bytes-held : Holds s.width (made ++ drop s.width blank) (bytes_of inputs)
    bytes-held = front-held s t made (bytes_of inputs) (ap length are ∙ length-map inputs (λ v. v % 256) ∙ sized) are

    -- when it is back, by the sizes in hand
    pub bytes-narrowed :
        (z : Sizes) → z ≡ sizes_of s → (below : Bool) → below ≡ every (λ v. ltb v z.levels) inputs
        → Narrowed (levels s) inputs below (take s.width (made ++ drop s.width blank))
    bytes-narrowed z e below told = wide-narrowed s t z e inputs below (take s.width (made ++ drop s.width blank)) told bytes-held.part
