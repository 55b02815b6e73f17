-- A slice from place a to its end, `&mut row[a..]`: what it holds, and the row when it is back. Assumes nothing.
use mathlib.Core.Path.{◌≡◌, ◌∙◌, ap}
use mathlib.Core.List.{List, ◌++◌, append-nil}
use Prim.Native.Nat.{ℕ, ◌-◌, ◌≤◌}
use native.Mathlib.Omega.{arith}
use lib.ListN.{length, take, drop, length-drop}
use lib.Seq.{take_all, length-take-le, drop_at, drop-length}
use borrow.Rule.Slice.PartMut.{mid_of, put_mid, Post-is}

module _ (a : ℕ) (xs : List ℕ) where
  pub tail-is : mid_of a (length xs - a) xs ≡ drop a xs
  tail-is = take_all (length xs - a) (drop a xs) (omega (arith, length-drop a xs))

  module _ (ys : List ℕ) (h : a ≤ length xs) where
    pub tail-back : put_mid a (length xs - a) xs ys ≡ take a xs ++ ys
    tail-back = ap (λ zs. take a xs ++ (ys ++ zs)) (Post-is a (length xs) xs h ∙ drop-length xs) ∙ ap (λ zs. take a xs ++ zs) (append-nil ys)

    -- the part is what was written
    pub tail-put : drop a (put_mid a (length xs - a) xs ys) ≡ ys
    tail-put = ap (drop a) tail-back ∙ drop_at (take a xs) ys a (length-take-le a xs h)
