-- What it says of a call's arguments that no question on them fails. Assumes nothing.
use mathlib.Core.Path.{◌≡◌, refl, ap}
use mathlib.Core.Bool.{true}
use mathlib.Core.List.{List, [], ◌∷◌}
use Prim.Native.Nat.{ℕ, ◌+◌, ◌*◌, ◌≤◌, ◌<◌}
use native.Mathlib.Omega.{arith}
use lib.Dec.{ltb, lit<}
use lib.ListN.{length}
use borrow.Author.Tests.{leb-true, ltb-true, lt-ltb}
use Rattle.parity.specs.Lists.{every}
use Rattle.parity.specs.Shape.{levels, checks, columns, cell_count}
use Rattle.parity.specs.Codeword.{Codeword, is_codeword}
use Rattle.parity.specs.Claims.{Below}
use Rattle.parity.specs.Questions.{Question, first_no, Taken, place_question, levels_question, line_question, sound_question, lengths_question}
use Rattle.parity.specs.declared.Shape.{Shape}
use Rattle.parity.proofs.Alongside.{equal-alongside}
use Rattle.parity.proofs.ListLaws.{every-at, every-passes}
use Rattle.parity.proofs.CodewordTest.{codeword-test}
use Rattle.parity.proofs.Taken.{first-yes}
use Rattle.shape.specs.Shapes.{sizes_of}
use Rattle.shape.specs.declared.sizes.Sizes.{Sizes}
use Rattle.shape.proofs.Refusals.{length-lent, call-passed}
use Rattle.array_memory.specs.Lengths.{cells_wanted, lines_wanted}
use Rattle.array_memory.proofs.Asked.{cells-counted, lines-counted}
use Rattle.array_memory.proofs.RowPlaces.{row_fits, cells-high}
use Rattle.array_questions.specs.Questions.{cells_questions, lines_questions, read_arguments, drift_arguments, line_arguments}
use Rattle.array_questions.specs.Questions.{program_arguments, ask_arguments, commit_arguments}

-- ---- the cells

-- a shape that is taken, and m × n cells
pub record CellsTaken (s : Shape) (cells : ℕ) : Type 0 where
  pub taken : Taken s
  pub counted : cells ≡ cell_count s

-- .. and then what is asked of the arguments
pub cells-parts :
    (s : Shape) (cells : ℕ) (more : List Question) → first_no (cells_questions s cells more) ≡ 0 → CellsTaken s cells × (first_no more ≡ 0)
cells-parts s cells more none =
    let p = call-passed s [] (lengths_question (cells ∷ []) (cells_wanted s)) more refl (lit< tt) none in
    (record { taken = p.taken; counted = cells-counted s cells p.lent }, p.arguments)

-- a row of them, by the sizes in hand: where it lies
pub record RowLies (s : Shape) (z : Sizes) (cells row : ℕ) : Type 0 where
  pub taken : Taken s
  pub counted : cells ≡ cell_count s
  pub place : row < s.rows
  pub checks : z.checks ≡ checks s
  pub wide : z.columns ≡ columns s
  pub within : row * z.columns + z.columns ≤ cells
  pub bound : cells ≤ 1044480

pub row_lies : (s : Shape) (z : Sizes) (cells row : ℕ) → CellsTaken s cells → z ≡ sizes_of s → row < s.rows → RowLies s z cells row
unfolding cell_count
row_lies s z cells row p e h =
    record {
      taken = p.taken;
      counted = p.counted;
      place = h;
      checks = ap (λ z. z.checks) e;
      wide = ap (λ z. z.columns) e;
      within = rw (e, p.counted) (row_fits row s.rows (columns s) h);
      bound = omega (arith, p.counted, cells-high s p.taken);
    }

-- ---- the arguments

-- a row's number
pub row_reads : (s : Shape) (row : ℕ) (more : List Question) → first_no (place_question row s.rows ∷ more) ≡ 0 → (row < s.rows) × (first_no more ≡ 0)
row_reads s row more e = let one = first-yes _ _ 7 (lit< tt) e in (ltb-true row s.rows one.0, one.1)

-- what read asks
pub read-reads : (s : Shape) (row out : ℕ) → first_no (read_arguments s row out) ≡ 0 → (out ≡ s.width) × (row < s.rows)
read-reads s row out e =
    let one = first-yes _ _ 6 (lit< tt) e in
    (length-lent (out ∷ []) (s.width ∷ []) one.0 0, (row_reads s row [] one.1).0)

-- levels below q
levels-reads : (q : ℕ) (given : List ℕ) → every (λ v. ltb v q) given ≡ true → Below q (length given) given
levels-reads q given e j h = ltb-true _ _ (every-at (λ v. ltb v q) given 0 e j h)

module _ (s : Shape) (row : ℕ) (given : List ℕ) where
  -- what programming asks
  pub record Programs : Type 0 where
    pub sized : length given ≡ s.width
    pub place : row < s.rows
    pub below : Below (levels s) s.width given

  programs :
      length given ≡ s.width → first_no (place_question row s.rows ∷ levels_question (levels s) given ∷ []) ≡ 0 → Programs
  programs sized e =
      let seven = row_reads s row (levels_question (levels s) given ∷ []) e in
      let eight = first-yes _ 0 8 (lit< tt) seven.1 in
      record { sized = sized; place = seven.0; below = rw sized at (levels-reads (levels s) given eight.0) }

  pub program-reads : first_no (program_arguments s row given) ≡ 0 → Programs
  program-reads e =
      let six = first-yes _ _ 6 (lit< tt) e in
      programs (length-lent (length given ∷ []) (s.width ∷ []) six.0 0) six.1

  pub program-fits : Programs → first_no (program_arguments s row given) ≡ 0
  program-fits p =
      simp (
        equal-alongside (length given ∷ []) (s.width ∷ []) (λ i. p.sized i ∷ []),
        lt-ltb row s.rows p.place,
        every-passes (λ v. ltb v (levels s)) given 0 (λ j h. lt-ltb _ _ (p.below j (omega (arith, p.sized)))),
      )

  -- what ask asks: that, and n bytes for the finished row
  pub ask-reads : (buffer : ℕ) → first_no (ask_arguments s row given buffer) ≡ 0 → (buffer ≡ columns s) × Programs
  ask-reads buffer e =
      let six = first-yes _ _ 6 (lit< tt) e in
      let at = length-lent (length given ∷ buffer ∷ []) (s.width ∷ columns s ∷ []) six.0 in
      (at 1, programs (at 0) six.1)

-- what commit asks
pub record Commits (s : Shape) (row : ℕ) (finished : List ℕ) : Type 0 where
  pub place : row < s.rows
  pub sound : Codeword s finished

pub commit-reads : (s : Shape) (row : ℕ) (finished : List ℕ) → first_no (commit_arguments s row finished) ≡ 0 → Commits s row finished
commit-reads s row finished e =
    let six = first-yes (lengths_question (length finished ∷ []) (columns s ∷ [])).holds _ 6 (lit< tt) e in
    let seven = row_reads s row (levels_question (levels s) finished ∷ sound_question s finished ∷ []) six.1 in
    let eight = first-yes (every (λ v. ltb v (levels s)) finished) _ 8 (lit< tt) seven.1 in
    record { place = seven.0; sound = codeword-test s finished (first-yes (is_codeword s finished) 0 17 (lit< tt) eight.1).0 }

-- what a drift asks
pub record Drifts (s : Shape) (row column level : ℕ) : Type 0 where
  pub place : row < s.rows
  pub within : column < columns s
  pub below : level < levels s

pub drift-reads : (s : Shape) (row column level : ℕ) → first_no (drift_arguments s row column level) ≡ 0 → Drifts s row column level
drift-reads s row column level e =
    let seven = row_reads s row (place_question column (columns s) ∷ levels_question (levels s) (level ∷ []) ∷ []) e in
    let again = first-yes _ _ 7 (lit< tt) seven.1 in
    record {
      place = seven.0;
      within = ltb-true column (columns s) again.0;
      below = levels-reads (levels s) (level ∷ []) (first-yes _ 0 8 (lit< tt) again.1).0 0 (omega arith);
    }

-- what setting a line asks, of lines that have their length
pub record Sets (s : Shape) (lines row byte : ℕ) : Type 0 where
  pub taken : Taken s
  pub counted : lines ≡ s.rows
  pub place : row < s.rows
  pub within : byte ≤ 2

pub line_reads : (s : Shape) (lines row byte : ℕ) → first_no (lines_questions s lines (line_arguments s row byte)) ≡ 0 → Sets s lines row byte
line_reads s lines row byte none =
    let p = call-passed s [] (lengths_question (lines ∷ []) (lines_wanted s)) (line_arguments s row byte) refl (lit< tt) none in
    let seven = row_reads s row (line_question byte ∷ []) p.arguments in
    record {
      taken = p.taken;
      counted = lines-counted s lines p.lent;
      place = seven.0;
      within = leb-true byte 2 (first-yes _ 0 16 (lit< tt) seven.1).0;
    }
