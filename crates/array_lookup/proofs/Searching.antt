-- The search over the rows for the first that matches, by a row's line, by the inputs and by its cells: what is left of the search gives the whole search's
-- answer, and within a row the first cell that says no tells, and else each has answered. Assumes nothing.
use mathlib.Core.Path.{◌≡◌, refl, sym, ◌∙◌, ap, ap₂}
use mathlib.Core.Logic.{◌≢◌}
use mathlib.Core.Bool.{Bool, true, false, cond}
use mathlib.Core.List.{List}
use Prim.Native.Nat.{ℕ, ◌+◌, ◌-◌, ◌*◌, ◌≤◌, ◌<◌}
use native.Mathlib.Omega.{arith}
use lib.Dec.{eqb, leb}
use lib.ListN.{length, get_or, take, drop, length-drop}
use lib.Seq.{get_or-drop}
use borrow.Author.Tests.{lt-ltb, le-ltb}
use Rattle.std.proofs.Common.{below_more}
use Rattle.parity.specs.Lists.{first_from}
use Rattle.parity.specs.Match.{line_gives}
use Rattle.parity.proofs.Comparator.{line-sound, line-shorted, line_dead}
use Rattle.shape.specs.Answers.{row, none, row_or_none}
use Rattle.shape.proofs.Search.{searched, search-found, search-missed, search-ended}
use Rattle.acam.specs.Cell.{all_reached, compared_byte}
use Rattle.acam.proofs.Comparison.{FirstReached, cell-fails as row-fails, compare-all}
use Rattle.array_memory.proofs.RowPlaces.{row_fits}
use Rattle.array_lookup.specs.Lookups.{first_row}
use Rattle.array_lookup.specs.Rows.{RowsLent, byte_of}

module _ (below : Bool) (inputs cells lines : List ℕ) (n : ℕ) where
  -- whether row i matches
  abbrev pub matches : ℕ → Bool
  matches i = eqb (byte_of below inputs cells lines n i) 1

  -- the comparison of row i, and that its first j cells have answered
  abbrev compared : ℕ → Bool
  compared i = all_reached inputs (take (length inputs) (drop (i * n) cells))

  pub record CellsLeft (i j : ℕ) : Type 0 where
    pub first : FirstReached inputs (drop (i * n) cells) j

  module _ (i : ℕ) where
    -- what its cells say
    abbrev said : ℕ
    said = cond below (compared_byte inputs (take (length inputs) (drop (i * n) cells))) 0

    -- a shorted line says yes, and a dead one no
    match-shorted : get_or lines i 0 ≡ 2 → matches i ≡ true
    match-shorted shorted = ap (λ line. eqb (line_gives line said) 1) shorted ∙ ap (λ byte. eqb byte 1) (line-shorted said)

    match-dead : get_or lines i 0 ≢ 0 → get_or lines i 0 ≢ 2 → matches i ≡ false
    match-dead h k = ap (λ byte. eqb byte 1) (line_dead (get_or lines i 0) said h k)

    -- a sound one says what its cells do ..
    match-said : get_or lines i 0 ≡ 0 → (byte : ℕ) → said ≡ byte → matches i ≡ eqb byte 1
    match-said sound byte e = ap₂ (λ line byte. eqb (line_gives line byte) 1) sound e ∙ ap (λ byte. eqb byte 1) (line-sound byte)

    match_is : get_or lines i 0 ≡ 0 → below ≡ true → (t : Bool) → compared i ≡ t → matches i ≡ t
    unfolding compared_byte
    match_is sound all t e = match-said sound (cond t 1 0) (ap₂ (λ b t. cond b (cond t 1 0) 0) all e) ∙ one t
      where
        one : (t : Bool) → eqb (cond t 1 0) 1 ≡ t
        one true = refl
        one false = refl

    -- .. and no to inputs of q
    match_none : get_or lines i 0 ≡ 0 → below ≡ false → matches i ≡ false
    match_none sound high = match-said sound 0 (ap (λ b. cond b (compared_byte inputs (take (length inputs) (drop (i * n) cells))) 0) high)

  module _ (m : ℕ) where
    -- the search from row i on gives the whole search's answer
    pub record RowsLeft (i : ℕ) : Type 0 where
      pub same : searched matches m i ≡ first_from matches m 0

    pub rows-begin : RowsLeft 0
    rows-begin =
        let whole : m - 0 ≡ m = omega arith in
        record { same = ap (λ k. first_from matches k 0) whole }

    pub cells-begin : (i : ℕ) → CellsLeft i 0
    cells-begin i = record { first = λ j h. absurd (omega arith) }

    module _ (i : ℕ) (h : i < m) (left : RowsLeft i) where
      passed : matches i ≡ false → RowsLeft (i + 1)
      passed e = record { same = sym (search-missed matches m i h e) ∙ left.same }

      found : matches i ≡ true → row i ≡ first_row m (byte_of below inputs cells lines n)
      found e = sym (ap (λ t. cond t (row i) none) (lt-ltb i m h)) ∙ ap (row_or_none m) (sym (search-found matches m i h e) ∙ left.same)

      -- a shorted line
      pub shorted-found : get_or lines i 0 ≡ 2 → row i ≡ first_row m (byte_of below inputs cells lines n)
      shorted-found shorted = found (match-shorted i shorted)

      -- a dead one
      pub dead-passed : get_or lines i 0 ≢ 0 → get_or lines i 0 ≢ 2 → RowsLeft (i + 1)
      dead-passed h k = passed (match-dead i h k)

      -- a sound one, at inputs of q
      pub high-passed : get_or lines i 0 ≡ 0 → below ≡ false → RowsLeft (i + 1)
      high-passed sound high = passed (match_none i sound high)

      -- a sound one, by its cells
      module _ (lent : RowsLent (length cells) (length lines) (length inputs) n m) where
        room : i * n + length inputs ≤ length cells
        room = omega (arith, lent.inputs, lent.cells, row_fits i m n h)

        fits : length inputs ≤ length (drop (i * n) cells)
        fits = omega (arith, room, length-drop (i * n) cells)

        module _ (j : ℕ) (inside : j < length inputs) (says : Bool) (answer : says ≡ leb (get_or inputs j 0) (get_or cells (i * n + j) 0)) where
          at : (t : Bool) → says ≡ t → leb (get_or inputs j 0) (get_or (drop (i * n) cells) j 0) ≡ t
          at t e = ap (leb (get_or inputs j 0)) (get_or-drop (i * n) cells j 0) ∙ sym answer ∙ e

          pub cell-fails : get_or lines i 0 ≡ 0 → below ≡ true → says ≡ false → RowsLeft (i + 1)
          cell-fails sound all e =
              passed (match_is i sound all false (row-fails inputs (drop (i * n) cells) fits j inside (at false e)))

          pub cell-passes : CellsLeft i j → says ≡ true → CellsLeft i (j + 1)
          cell-passes cell e = record { first = below_more _ _ cell.first (at true e) }

        pub cells-found :
            get_or lines i 0 ≡ 0 → below ≡ true → CellsLeft i (length inputs)
            → row i ≡ first_row m (byte_of below inputs cells lines n)
        cells-found sound all cell =
            found (match_is i sound all true (compare-all inputs (drop (i * n) cells) fits cell.first))

    pub none-found : RowsLeft m → none ≡ first_row m (byte_of below inputs cells lines n)
    none-found left =
        sym (ap (λ t. cond t (row m) none) (le-ltb m m (omega arith))) ∙ ap (row_or_none m) (sym (search-ended matches m) ∙ left.same)

-- the steps of the search
pub ruleset search_steps = (shorted-found, dead-passed, high-passed, cell-fails, cell-passes, cells-found)
