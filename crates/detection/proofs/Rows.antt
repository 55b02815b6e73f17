-- Rows of one width laid one after the other: their cells' number, a row read, and a row or a cell written. Assumes nothing.
use mathlib.Core.Path.{◌≡◌, refl, sym, ap, ◌∙◌}
use mathlib.Core.List.{List, [], ◌∷◌, ◌++◌, append_assoc}
use Prim.Native.Nat.{ℕ, zero, suc, ◌+◌, ◌*◌, ◌<◌}
use native.Mathlib.Nat.{zero-mul, le_of_suc-le-suc, not-suc-le-zero}
use native.Mathlib.Omega.{arith}
use lib.ListN.{length, get_or, take, drop, set, replicate, length-append, replicate-append-replicate}
use lib.Seq.{take-nil, drop-nil, drop-cons, take-append-add, drop-append-add, take_at, set-append_left, set_split}
use Rattle.parity.proofs.ListLaws.{Each, each_append}
use Rattle.schedule.proofs.All.{All, all-at}
use Rattle.detection.specs.Claims.{flat}
use Rattle.detection.proofs.Elements.{set-append-add}

flat_append : (xs ys : List (List ℕ)) → flat (xs ++ ys) ≡ flat xs ++ flat ys
flat_append [] ys = refl
flat_append (x ∷ xs) ys = ap (λ r. x ++ r) (flat_append xs ys) ∙ sym (append_assoc x (flat xs) (flat ys))

pub flat-each : (P : ℕ → Type 0) (rows : List (List ℕ)) → All (Each P) rows → Each P (flat rows)
flat-each P [] h = λ j l. absurd (not-suc-le-zero l)
flat-each P (row ∷ rows) h = each_append P row (flat rows) h.0 (flat-each P rows h.1)

pub flat-replicate : (m n v : ℕ) → flat (replicate m (replicate n v)) ≡ replicate (m * n) v
flat-replicate zero n v = ap (λ k. replicate k v) (sym (zero-mul n))
flat-replicate (suc m) n v =
    let next : n + m * n ≡ suc m * n = omega arith in
    ap (λ r. replicate n v ++ r) (flat-replicate m n v) ∙ replicate-append-replicate n (m * n) v ∙ ap (λ k. replicate k v) next

-- each row has n cells
abbrev pub Wide : ℕ → List (List ℕ) → Type 0
Wide n rows = All (λ row. length row ≡ n) rows

module _ (n : ℕ) where
  pub flat-length : (rows : List (List ℕ)) → Wide n rows → length (flat rows) ≡ length rows * n
  flat-length [] w = sym (zero-mul n)
  flat-length (row ∷ rows) w = omega (arith, length-append row (flat rows), flat-length rows w.1)

  flat-take : (i : ℕ) (rows : List (List ℕ)) → Wide n rows → take (i * n) (flat rows) ≡ flat (take i rows)
  flat-take zero rows w = ap (λ k. take k (flat rows)) (zero-mul n)
  flat-take (suc i) [] w = take-nil (suc i * n)
  flat-take (suc i) (row ∷ rows) w =
      let next : suc i * n ≡ length row + i * n = omega arith in
      rw next (take-append-add row (flat rows) (i * n) ∙ ap (λ r. row ++ r) (flat-take i rows w.1))

  flat-drop : (i : ℕ) (rows : List (List ℕ)) → Wide n rows → drop (i * n) (flat rows) ≡ flat (drop i rows)
  flat-drop zero rows w = ap (λ k. drop k (flat rows)) (zero-mul n)
  flat-drop (suc i) [] w = drop-nil (suc i * n)
  flat-drop (suc i) (row ∷ rows) w =
      let next : suc i * n ≡ length row + i * n = omega arith in
      rw next (drop-append-add row (flat rows) (i * n) ∙ flat-drop i rows w.1)

  pub flat-row : (rows : List (List ℕ)) (i : ℕ) → Wide n rows → i < length rows → take n (drop (i * n) (flat rows)) ≡ get_or rows i []
  flat-row rows i w h =
      ap (take n) (flat-drop i rows w ∙ ap flat (drop-cons rows i [] h))
      ∙ take_at (get_or rows i []) (flat (drop (suc i) rows)) n (all-at _ rows w i h [])

  pub flat-with :
      (rows : List (List ℕ)) (i : ℕ) (row : List ℕ) → Wide n rows → i < length rows
      → take (i * n) (flat rows) ++ row ++ drop (suc i * n) (flat rows) ≡ flat (set rows i row)
  flat-with rows i row w h =
      rw (flat-take i rows w, flat-drop (suc i) rows w, set_split rows i row h, flat_append)
      (append_assoc (flat (take i rows)) row (flat (drop (suc i) rows)))

  pub flat-set :
      (rows : List (List ℕ)) (i j v : ℕ) → Wide n rows → i < length rows → j < n
      → set (flat rows) (i * n + j) v ≡ flat (set rows i (set (get_or rows i []) j v))
  flat-set [] i j v w h l = absurd (not-suc-le-zero h)
  flat-set (row ∷ rows) zero j v w h l =
      let first : zero * n + j ≡ j = omega arith in
      rw first (set-append_left row (flat rows) j v (omega arith))
  flat-set (row ∷ rows) (suc i) j v w h l =
      let next : suc i * n + j ≡ length row + (i * n + j) = omega arith in
      rw next (set-append-add row (flat rows) (i * n + j) v ∙ ap (λ r. row ++ r) (flat-set rows i j v w.1 (le_of_suc-le-suc h) l))
