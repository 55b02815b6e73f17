-- What the passes of a lookup over the rows come to, for an opening and for a test: the unit vector looks at one cell of a row, its line makes a match byte
-- of what that says, and a pass that is not made leaves its bytes as they were. Assumes nothing.
use mathlib.Core.Path.{◌≡◌, refl, sym, subst, ap, ap₂, ◌∙◌}
use mathlib.Core.Bool.{Bool, true, false, cond, not, ◌&&◌}
use mathlib.Core.List.{List}
use Prim.Native.Nat.{ℕ, zero, suc, ◌+◌, ◌*◌, ◌%◌, ◌^◌, ◌≤◌, ◌<◌}
use native.Mathlib.Nat.{mod-lt, mod-add-mod}
use native.Mathlib.Omega.{arith}
use lib.Arith.{lt_of_le-ne}
use lib.Dec.{eqb, leb}
use lib.ListN.{length, get_or, replicate}
use lib.Seq.{ext_get_or}
use borrow.Author.Tests.{eqb-true, eqb-false, le-leb, lt-leb}
use Rattle.parity.specs.Lists.{tabulate}
use Rattle.parity.specs.Match.{match_byte, line_gives, line_match}
use Rattle.parity.specs.Shape.{levels, columns, cell_count}
use Rattle.parity.specs.Questions.{Taken}
use Rattle.parity.specs.declared.Shape.{Shape}
use Rattle.parity.proofs.ListLaws.{length-tabulate, get_or-tabulate, tabulate-same, tabulate-constant}
use Rattle.schedule.specs.Schedule.{Kind, counts, Entry, within, test_vector}
use Rattle.schedule.specs.Index.{place_index}
use Rattle.schedule.specs.Tally.{counted, is_suspect, flagged, reset}
use Rattle.schedule.proofs.Cap.{Proper, tests-proper}
use Rattle.schedule.proofs.Index.{index_claim}
use Rattle.schedule.proofs.Lookup.{match-below}
use Rattle.schedule.proofs.Openings.{dead-said, shorted-said}
use Rattle.acam.specs.Cell.{cell_match}
use Rattle.array_memory.specs.Blocks.{block_totals}
use Rattle.array_memory.specs.Geometry.{row_at, row_match, match_bytes}
use Rattle.array_memory.specs.Lengths.{Sized}
use Rattle.array_memory.specs.Memory.{Memory, with_counters, with_rows}
use Rattle.array_memory.proofs.RowPlaces.{row-cell, row_sized}
use Rattle.cycle_passes.specs.Passes.{column_cells, column_matches, given_bytes, reduced_byte, reduced_bytes, counted_bytes, flagged_bytes}
use Rattle.cycle_place.specs.Walk.{Stands, test_of}
use Rattle.cycle_place.specs.declared.Place.{Place}
use Rattle.cycle_lookup.specs.Rows.{opening_of}
use Rattle.cycle_lookup.specs.Lookup.{entry_matches, counted_rows, flagged_rows, totalled_blocks, reset_rows, looked_up}

-- ---- lists

-- a list read place by place
tabulate-list : (n : ℕ) (xs : List ℕ) → length xs ≡ n → tabulate n (λ i. get_or xs i 0) ≡ xs
tabulate-list n xs sized =
    let all : length (tabulate n (λ i. get_or xs i 0)) ≡ n = length-tabulate n _ in
    ext_get_or 0 _ xs (all ∙ sym sized) (λ i h. get_or-tabulate n (λ i. get_or xs i 0) i 0 (rw all at h))

cond-not : (b : Bool) (x y : ℕ) → cond b x y ≡ cond (not b) y x
cond-not true x y = refl
cond-not false x y = refl

-- ---- a test's place

module _ (z : ℕ) (s : Shape) (t : Taken s) (p : Place) (stands : Stands z s p) where
  -- its column and its input are within their bounds
  pub test-proper : Proper s (test_of z s p)
  test-proper =
      let (below, entry) = (index_claim z s t).stands p.check p.digit p.column p.factor stands in
      let none : Entry = within 0 0 0 0 in
      subst (Proper s) (entry none) (tests-proper z s t (place_index z s p.check p.digit p.column p.factor) below none)

-- ---- the match bytes

-- the byte of row i, by what its cells say
row-byte :
    (q n : ℕ) (vector cells lines : List ℕ) (i said : ℕ) → match_byte q vector (row_at n cells i) ≡ said
    → row_match q n vector cells lines i ≡ line_gives (get_or lines i 0) said
unfolding row_match line_match
row-byte q n vector cells lines i said e = ap (line_gives (get_or lines i 0)) e

-- a test's, each from one cell
module _ (z : ℕ) (s : Shape) (t : Taken s) (p : Place) (stands : Stands z s p) (mem : Memory) (sized : length mem.cells ≡ cell_count s) where
  test-row :
      (x : ℕ) → x ≡ p.factor * s.radix ^ p.digit → (i : ℕ) → i < s.rows
      → row_match (levels s) (columns s) (test_vector s (test_of z s p)) mem.cells mem.lines i
      ≡ cell_match (get_or mem.lines i 0) x (get_or mem.cells (i * columns s + p.column) 0)
  test-row x input i h =
      let own : List ℕ = row_at (columns s) mem.cells i in
      row-byte (levels s) (columns s) (test_vector s (test_of z s p)) mem.cells mem.lines i _
      (match-below s t (test_of z s p) own stands.column (row_sized s mem.cells i sized h) (test-proper z s t p stands).input
      ∙ ap₂ (λ x v. cond (leb x v) 1 0) (sym input) (row-cell s mem.cells i p.column stands.column))

  pub test-matches :
      (n m x : ℕ) → n ≡ columns s → m ≡ s.rows → x ≡ p.factor * s.radix ^ p.digit → {column matches : List ℕ}
      → column ≡ column_cells n p.column mem.cells m → matches ≡ column_matches x mem.lines column → matches ≡ entry_matches s (test_of z s p) mem
  unfolding entry_matches match_bytes
  test-matches n m x wide rows input taken made =
      let cell : ℕ → ℕ = λ i. get_or mem.cells (i * columns s + p.column) 0 in
      made
      ∙ ap (column_matches x mem.lines) (taken ∙ ap₂ (λ n m. column_cells n p.column mem.cells m) wide rows)
      ∙ rw (length-tabulate s.rows cell)
      (tabulate-same s.rows _ _ λ i h.
      ap (cell_match (get_or mem.lines i 0) x) (get_or-tabulate s.rows cell i 0 h) ∙ sym (test-row x input i h))

-- an opening's, without a look at the cells: every row's cells say its byte
pub opening-said :
    (s : Shape) → Taken s → (byte : ℕ) → byte ≤ 1 → (row : List ℕ) → length row ≡ columns s
    → match_byte (levels s) (test_vector s (opening_of s byte)) row ≡ byte
opening-said s t zero low row sized = shorted-said s t row sized
opening-said s t (suc zero) low row sized = dead-said s t row sized
opening-said s t (suc (suc byte)) low row sized = absurd (omega arith)

pub opening-matches :
    (s : Shape) → Taken s → (byte : ℕ) → byte ≤ 1 → (mem : Memory) → length mem.cells ≡ cell_count s → {matches : List ℕ} (m : ℕ) → m ≡ s.rows
    → matches ≡ given_bytes byte mem.lines m → matches ≡ entry_matches s (opening_of s byte) mem
unfolding entry_matches match_bytes
opening-matches s t byte low mem sized m rows given =
    given
    ∙ rw rows
    (tabulate-same s.rows _ _ λ i h.
    sym
    (row-byte (levels s) (columns s) (test_vector s (opening_of s byte)) mem.cells mem.lines i byte
    (opening-said s t byte low (row_at (columns s) mem.cells i) (row_sized s mem.cells i sized h))))

-- ---- the passes of a test

-- counters count by their remainders
pub count-reduced : (ρ : ℕ) (counters matches : List ℕ) → counted_bytes ρ (reduced_bytes ρ counters) matches ≡ counted_bytes ρ counters matches
count-reduced ρ counters matches =
    let m : ℕ = length counters in
    let own : ℕ → ℕ = reduced_byte ρ counters in
    rw (length-tabulate m own)
    (tabulate-same m _ _ λ i h.
    ap (λ counter. (counter + get_or matches i 0) % ρ) (get_or-tabulate m own i 0 h) ∙ mod-add-mod (get_or counters i 0) ρ (get_or matches i 0))

-- .. which are below ρ
pub reduced-below : (ρ : ℕ) → 0 < ρ → (counters : List ℕ) (i : ℕ) → i < length counters → get_or (reduced_bytes ρ counters) i 0 < ρ
reduced-below ρ some counters i h = rw (get_or-tabulate (length counters) (reduced_byte ρ counters) i 0 h) (mod-lt (get_or counters i 0) some)

-- a digit that is not above those skipped is the lowest of the others
lowest-at : (z d : ℕ) → z ≤ d → leb d z ≡ eqb d z
lowest-at z d h = go (eqb d z) refl
  where
    go : (b : Bool) → eqb d z ≡ b → leb d z ≡ b
    go true e = le-leb d z (omega (arith, eqb-true d z e))
    go false e = lt-leb d z (lt_of_le-ne h (λ same. eqb-false d z e (sym same)))

module _ (s : Shape) (e : Entry) (test : e.kind ≡ counts) (mem : Memory) (sized : Sized s mem) where
  -- the counters after the lookup
  abbrev counters_after : List ℕ
  counters_after = counted_rows s e mem.counters (entry_matches s e mem)

  counters-length : length counters_after ≡ s.rows
  unfolding counted_rows
  counters-length = length-tabulate s.rows _

  counters-made : {matches : List ℕ} → matches ≡ entry_matches s e mem → counted_bytes s.radix mem.counters matches ≡ counters_after
  unfolding counted_rows
  counters-made looked = rw (sized.rows.counters, looked, test)

  -- they return to 0, or stay
  counters-left :
      {counters left : List ℕ} → counters ≡ counters_after → left ≡ cond e.resets (replicate (length counters) 0) counters
      → left ≡ (looked_up s e mem).counters
  unfolding looked_up reset_rows reset
  counters-left made l = l ∙ rw (made, counters-length) (go e.resets)
    where
      go : (b : Bool) → cond b (replicate s.rows 0) counters_after ≡ tabulate s.rows (λ i. cond b 0 (get_or counters_after i 0))
      go true = sym (tabulate-constant s.rows 0)
      go false = sym (tabulate-list s.rows counters_after counters-length)

  -- rows whose counters aren't 0 are flagged, or no row
  flags-left :
      {counters left : List ℕ} → counters ≡ counters_after → left ≡ cond e.flags (flagged_bytes counters 0 mem.flags) mem.flags
      → left ≡ (looked_up s e mem).flags
  unfolding looked_up flagged_rows flagged
  flags-left made l =
      l
      ∙ rw (made, sized.rows.flags) (go e.flags)
      ∙ ap (λ kind. tabulate s.rows (λ i. cond (e.flags && suspect kind i) 1 (get_or mem.flags i 0))) (sym test)
    where
      suspect : Kind → ℕ → Bool
      suspect kind i = is_suspect kind (get_or (entry_matches s e mem) i 0) (get_or counters_after i 0)

      go :
          (b : Bool)
          → cond b (tabulate s.rows (λ i. cond (eqb (get_or counters_after i 0) 0) (get_or mem.flags i 0) 1)) mem.flags
          ≡ tabulate s.rows (λ i. cond (b && not (eqb (get_or counters_after i 0) 0)) 1 (get_or mem.flags i 0))
      go true = tabulate-same s.rows _ _ (λ i h. cond-not (eqb (get_or counters_after i 0) 0) (get_or mem.flags i 0) 1)
      go false = sym (tabulate-list s.rows mem.flags sized.rows.flags)

  -- what is left in all
  all_left :
      {matches counters left flags totals : List ℕ} → matches ≡ entry_matches s e mem → counters ≡ counted_bytes s.radix mem.counters matches
      → left ≡ cond e.resets (replicate (length counters) 0) counters
      → flags ≡ cond e.flags (flagged_bytes counters 0 mem.flags) mem.flags
      → totals ≡ cond e.flags (block_totals flags) mem.totals
      → looked_up s e mem ≡ with_rows left flags totals mem
  unfolding looked_up totalled_blocks
  all_left looked counted l f t =
      let made = counted ∙ counters-made looked in
      let flagged = flags-left made f in
      let totalled = t ∙ ap (λ flags. cond e.flags (block_totals flags) mem.totals) flagged in
      sym (λ i. with_rows (counters-left made l i) (flagged i) (totalled i) mem)

-- .. of a test at its place, by whether it ends its digit
pub test-made :
    (z : ℕ) (s : Shape) (p : Place) → z ≤ p.digit → (ends : Bool) → ends ≡ (test_of z s p).flags → (mem : Memory) → Sized s mem
    → {matches counters left flags totals : List ℕ} → matches ≡ entry_matches s (test_of z s p) mem
    → counters ≡ counted_bytes s.radix mem.counters matches
    → left ≡ cond (ends && leb p.digit z) (replicate (length counters) 0) counters
    → flags ≡ cond ends (flagged_bytes counters 0 mem.flags) mem.flags
    → totals ≡ cond ends (block_totals flags) mem.totals
    → looked_up s (test_of z s p) mem ≡ with_rows left flags totals mem
test-made z s p unskipped ends e mem sized {matches} {counters} {left} {flags} looked counted l f t =
    let lowest : ends && leb p.digit z ≡ (test_of z s p).resets = ap₂ ◌&&◌ e (lowest-at z p.digit unskipped) in
    all_left s (test_of z s p) refl mem sized looked counted (l ∙ ap (λ b. cond b (replicate (length counters) 0) counters) lowest)
    (f ∙ ap (λ b. cond b (flagged_bytes counters 0 mem.flags) mem.flags) e) (t ∙ ap (λ b. cond b (block_totals flags) mem.totals) e)

-- a test counts any bytes by their remainders
pub look-reduced :
    (s : Shape) (e : Entry) → e.kind ≡ counts → (mem : Memory) → length mem.counters ≡ s.rows
    → looked_up s e (with_counters (reduced_bytes s.radix mem.counters) mem) ≡ looked_up s e mem
unfolding looked_up counted_rows entry_matches
look-reduced s e test mem sized =
    let matches : List ℕ = entry_matches s e mem in
    let left : List ℕ → Memory = λ counters.
    let flags = flagged_rows s e matches counters mem.flags in
    with_rows (reset_rows s e counters) flags (totalled_blocks e flags mem.totals) mem in
    ap left
    (tabulate-same s.rows _ _ λ i h.
    go e.kind (get_or matches i 0) (get_or mem.counters i 0) test
    (get_or-tabulate (length mem.counters) (reduced_byte s.radix mem.counters) i 0 (omega arith)))
  where
    go :
        (kind : Kind) (byte counter : ℕ) → kind ≡ counts → {own : ℕ} → own ≡ counter % s.radix
        → counted kind s.radix own byte ≡ counted kind s.radix counter byte
    go kind byte counter test {own} e =
        ap (λ kind. counted kind s.radix own byte) test
        ∙ ap (λ own. (own + byte) % s.radix) e
        ∙ mod-add-mod counter s.radix byte
        ∙ sym (ap (λ kind. counted kind s.radix counter byte) test)

-- the counters that a test leaves are below ρ
pub test_below :
    (s : Shape) (e : Entry) → e.kind ≡ counts → 0 < s.radix → (mem : Memory) (i : ℕ) → i < s.rows → get_or (looked_up s e mem).counters i 0 < s.radix
unfolding looked_up reset_rows reset counted_rows
test_below s e test some mem i h =
    let byte : ℕ → ℕ = λ i. get_or (entry_matches s e mem) i 0 in
    let added : ℕ → ℕ = λ i. counted e.kind s.radix (get_or mem.counters i 0) (byte i) in
    let kept : ℕ → ℕ = λ i. cond e.resets 0 (get_or (tabulate s.rows added) i 0) in
    let here =
    get_or-tabulate s.rows kept i 0 h
    ∙ ap (cond e.resets 0) (get_or-tabulate s.rows added i 0 h ∙ ap (λ kind. counted kind s.radix (get_or mem.counters i 0) (byte i)) test) in
    rw here (go e.resets (get_or mem.counters i 0 + byte i))
  where
    go : (resets : Bool) (sum : ℕ) → cond resets 0 (sum % s.radix) < s.radix
    go true sum = some
    go false sum = mod-lt sum some

-- ---- flags and totals: left where no row is flagged, and else the totals are those of the flags
module _ (s : Shape) (e : Entry) (mem : Memory) where
  pub flags-kept : e.flags ≡ false → length mem.flags ≡ s.rows → mem.flags ≡ (looked_up s e mem).flags
  unfolding looked_up flagged_rows flagged
  flags-kept f sized = rw f (sym (tabulate-list s.rows mem.flags sized))

  pub totals-kept : e.flags ≡ false → mem.totals ≡ (looked_up s e mem).totals
  unfolding looked_up totalled_blocks
  totals-kept f = rw f refl

  pub totals-counted :
      e.flags ≡ true → {flags totals : List ℕ} → flags ≡ (looked_up s e mem).flags → totals ≡ block_totals flags → totals ≡ (looked_up s e mem).totals
  unfolding looked_up totalled_blocks
  totals-counted f made counted = counted ∙ ap block_totals made ∙ rw f refl

-- ---- the passes of an opening

module _ (s : Shape) (byte : ℕ) (mem : Memory) (sized : Sized s mem) where
  pub opening-counters : mem.counters ≡ (looked_up s (opening_of s byte) mem).counters
  unfolding looked_up reset_rows reset counted_rows
  opening-counters =
      let whole : tabulate s.rows (λ i. get_or mem.counters i 0) ≡ mem.counters = tabulate-list s.rows mem.counters sized.rows.counters in
      sym (ap (λ counters. tabulate s.rows (λ i. get_or counters i 0)) whole ∙ whole)

  -- rows that do not give its byte are flagged
  pub opening-flags :
      {matches flags : List ℕ} → matches ≡ entry_matches s (opening_of s byte) mem → flags ≡ flagged_bytes matches byte mem.flags
      → flags ≡ (looked_up s (opening_of s byte) mem).flags
  unfolding looked_up flagged_rows flagged
  opening-flags made set =
      set
      ∙ rw (made, sized.rows.flags)
      (tabulate-same s.rows _ _ λ i h. cond-not (eqb (get_or (entry_matches s (opening_of s byte) mem) i 0) byte) (get_or mem.flags i 0) 1)
