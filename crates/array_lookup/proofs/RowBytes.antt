-- The match bytes of the rows of an array whose cells lie row after row: a row's match byte by its line and by inputs narrowed to bytes, that a task
-- lookup's match byte is this one, and so the first row with one. Assumes nothing.
use mathlib.Core.Path.{◌≡◌, refl, sym, ◌∙◌, ap, ap₂}
use mathlib.Core.Bool.{Bool, true, false, cond}
use mathlib.Core.List.{List}
use Prim.Native.Nat.{ℕ, ◌*◌, ◌≤◌, ◌<◌}
use native.Mathlib.Omega.{arith}
use lib.Dec.{eqb}
use lib.ListN.{length, get_or, take, drop}
use lib.Seq.{take-take, length-take-le}
use Rattle.parity.specs.Match.{match_byte, line_gives, line_match, task_vector}
use Rattle.parity.specs.Shape.{levels, checks, columns}
use Rattle.parity.specs.declared.Shape.{Shape}
use Rattle.parity.proofs.Comparator.{reaches, match-compared, line-high}
use Rattle.parity.proofs.Sizes.{two-levels}
use Rattle.shape.specs.Answers.{row_or_none}
use Rattle.shape.specs.Shapes.{sizes_of}
use Rattle.shape.specs.declared.sizes.Sizes.{Sizes}
use Rattle.shape.proofs.Search.{search-same}
use Rattle.acam.specs.Cell.{all_reached, compared_byte}
use Rattle.acam.proofs.TaskMatch.{task-match}
use Rattle.array_memory.specs.Geometry.{row_at, row_match}
use Rattle.array_memory.proofs.RowPlaces.{row_sized}
use Rattle.array_questions.proofs.Asked.{CellsTaken}
use Rattle.array_lookup.specs.Lookups.{first_row}
use Rattle.array_lookup.specs.Rows.{byte_of}
use Rattle.array_lookup.proofs.Narrowing.{Narrowed}

pub byte_high : (below : Bool) (inputs cells lines : List ℕ) (n i : ℕ) → byte_of below inputs cells lines n i ≤ 1
unfolding compared_byte
byte_high below inputs cells lines n i =
    let row = take (length inputs) (drop (i * n) cells) in
    line-high (get_or lines i 0) (cond below (compared_byte inputs row) 0) (go below (all_reached inputs row))
  where
    go : (a b : Bool) → cond a (cond b 1 0) 0 ≤ 1
    go true true = omega arith
    go true false = omega arith
    go false b = omega arith

-- the row as the part of the cells that begins at its start
pub part-byte :
    (below : Bool) (inputs cells lines : List ℕ) (n i size : ℕ) → length inputs ≤ size
    → line_gives (get_or lines i 0) (cond below (compared_byte inputs (take (length inputs) (take size (drop (i * n) cells)))) 0)
    ≡ byte_of below inputs cells lines n i
part-byte below inputs cells lines n i size h =
    ap (λ row. line_gives (get_or lines i 0) (cond below (compared_byte inputs row) 0)) (take-take (length inputs) size (drop (i * n) cells) h)

-- ---- a task lookup's match bytes

-- the match byte of as many cells is that of the comparison with the bytes, where all are below q, else 0
narrow-match :
    (q : ℕ) (inputs : List ℕ) (below : Bool) (bytes row : List ℕ) → Narrowed q inputs below bytes → length inputs ≡ length row
    → cond below (compared_byte bytes row) 0 ≡ match_byte q inputs row
unfolding compared_byte
narrow-match q inputs below bytes row p sized = go below refl ∙ sym (match-compared q inputs row sized)
  where
    go :
        (b : Bool) → below ≡ b
        → ◌≡◌ {A = ℕ} (cond b (cond (all_reached bytes row) 1 0) 0) (cond (reaches q inputs) (cond (all_reached inputs row) 1 0) 0)
    go true e = ap₂ (λ a xs. cond a (cond (all_reached xs row) 1 0) 0) (sym e ∙ p.told) (p.same e)
    go false e = ap (λ a. cond a (cond (all_reached inputs row) 1 0) 0) (sym e ∙ p.told)

-- by the sizes in hand
module _
    (s : Shape) (z : Sizes) (inputs : List ℕ) (below : Bool) (bytes cells lines : List ℕ) (p : CellsTaken s (length cells)) (e : z ≡ sizes_of s)
    (sized : length inputs ≡ s.width) (narrowed : Narrowed (levels s) inputs below bytes) where
  pub task-byte : (i : ℕ) → i < s.rows → byte_of below bytes cells lines z.columns i ≡ row_match (levels s) (columns s) (task_vector s inputs) cells lines i
  unfolding row_match row_at task_vector columns line_match
  task-byte i h =
      let n = columns s in
      let whole = row_sized s cells i p.counted h in
      let some : 0 < levels s = omega (arith, two-levels s p.taken) in
      let part : length inputs ≡ length (take s.width (row_at n cells i))
      = sized ∙ sym (length-take-le s.width (row_at n cells i) (omega (arith, whole))) in
      ap (λ z. byte_of below bytes cells lines z.columns i) e
      ∙ sym (part-byte below bytes cells lines n i n (omega (arith, narrowed.sized)))
      ∙ ap (line_gives (get_or lines i 0))
      (ap (λ k. cond below (compared_byte bytes (take k (row_at n cells i))) 0) (narrowed.sized ∙ sized)
      ∙ narrow-match (levels s) inputs below bytes (take s.width (row_at n cells i)) narrowed part
      ∙ sym (task-match (levels s) some s.width (checks s) inputs (row_at n cells i) sized whole))

  -- so the first row that matches
  pub first_byte :
      first_row s.rows (byte_of below bytes cells lines z.columns)
      ≡ first_row s.rows (row_match (levels s) (columns s) (task_vector s inputs) cells lines)
  first_byte =
      ap (row_or_none s.rows) (search-same _ _ s.rows 0 (λ i h. ap (λ b. eqb b 1) (task-byte i (omega arith))))
