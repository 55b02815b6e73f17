-- A search through bytes for one that isn't 0: what is left of it gives the whole search's answer. Assumes nothing.
use mathlib.Core.Path.{◌≡◌, refl, sym, ◌∙◌, ap}
use mathlib.Core.Bool.{Bool, true, false}
use mathlib.Core.List.{List}
use Prim.Native.Nat.{ℕ, ◌+◌, ◌<◌}
use native.Mathlib.Nat.{sub-zero}
use native.Mathlib.Numerals.{add-one}
use native.Mathlib.Omega.{arith}
use lib.ListN.{length, get_or}
use borrow.Author.Tests.{lt-ltb, le-ltb}
use Rattle.std.specs.declared.result.Result.TheVariants.{Ok, Err}
use Rattle.parity.specs.Lists.{first_from}
use Rattle.shape.proofs.Search.{search-found, search-missed, search-ended}
use Rattle.shape.proofs.Search.{searched as left-of}
use Rattle.array_memory.specs.Blocks.{is_flagged}
use Rattle.panel.specs.Panel.{first_nonzero}
use Rattle.panel.specs.Reads.{searched}

module _ (bytes : List ℕ) where
  abbrev passes : ℕ → Bool
  passes i = is_flagged (get_or bytes i 0)

  -- the search from byte i on gives the whole search's answer
  abbrev pub Left : ℕ → Type 0
  Left i = left-of passes (length bytes) i ≡ first_nonzero bytes

  pub left-all : Left 0
  unfolding first_nonzero
  left-all = ap (λ n. first_from passes n 0) (sub-zero (length bytes))

  module _ {i : ℕ} (l : Left i) (h : i < length bytes) where
    pub left-next : is_flagged (get_or bytes i 0) ≡ false → Left (i + 1)
    left-next fails = sym (search-missed passes (length bytes) i h fails) ∙ l

    pub left-found : is_flagged (get_or bytes i 0) ≡ true → Ok (i + 1) ≡ searched bytes
    left-found up =
        let here : first_nonzero bytes ≡ i = sym l ∙ search-found passes (length bytes) i h up in
        rw (here, lt-ltb i (length bytes) h, add-one) refl

  pub left-none : {i : ℕ} → Left i → i ≡ length bytes → Err i ≡ searched bytes
  left-none {i} l all =
      let end : first_nonzero bytes ≡ length bytes =
      sym l ∙ ap (left-of passes (length bytes)) all ∙ search-ended passes (length bytes)
      in
      rw (all, end, le-ltb (length bytes) (length bytes) (omega arith)) refl
