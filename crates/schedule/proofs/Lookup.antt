-- A lookup of the unit vector looks at one cell: every other input is 0, and each cell answers 1 to that. So does the lookup of an entry, whose input
-- is compared with the cell alone where it is below q. Assumes nothing.
use mathlib.Core.Path.{◌≡◌, refl, sym, ap, ap₂, ◌∙◌}
use mathlib.Core.Logic.{◌≢◌}
use mathlib.Core.Bool.{true, cond, ◌&&◌, and-true}
use mathlib.Core.List.{List, [], ◌∷◌}
use Prim.Native.Nat.{ℕ, zero, suc, ◌*◌, ◌^◌, ◌<◌, suc-le-suc}
use native.Mathlib.Nat.{suc_inj, suc-ne-zero, zero-lt-suc, le_of_suc-le-suc, not-suc-le-zero}
use native.Mathlib.Omega.{arith}
use lib.Dec.{eqb, leb, leb-zero}
use lib.ListN.{length, get_or}
use borrow.Author.Tests.{eq-eqb, ne_eqb}
use Rattle.parity.specs.Shape.{levels, columns}
use Rattle.parity.specs.Match.{answers, all_answer, match_byte}
use Rattle.parity.specs.Questions.{Taken}
use Rattle.parity.specs.declared.Shape.{Shape}
use Rattle.parity.proofs.ListLaws.{length-tabulate, get_or-tabulate}
use Rattle.parity.proofs.Comparator.{answers-below}
use Rattle.parity.proofs.Sizes.{two-levels}
use Rattle.schedule.specs.Schedule.{Entry, unit_vector, test_vector}

-- every cell answers 1 to the input 0
answer-zero : (q : ℕ) → 0 < q → (x v : ℕ) → x ≡ 0 → answers q x v ≡ true
answer-zero q pos x v e = ap (λ y. answers q y v) e ∙ answers-below q 0 v pos ∙ leb-zero v

answer-zeros :
    (q : ℕ) → 0 < q → (xs vs : List ℕ) → length xs ≡ length vs → ((i : ℕ) → i < length xs → get_or xs i 0 ≡ 0) → all_answer q xs vs ≡ true
answer-zeros q pos [] [] e h = refl
answer-zeros q pos [] (v ∷ vs) e h = absurd (omega arith)
answer-zeros q pos (x ∷ xs) [] e h = absurd (omega arith)
answer-zeros q pos (x ∷ xs) (v ∷ vs) e h =
    ap₂ ◌&&◌ (answer-zero q pos x v (h 0 (zero-lt-suc _))) (answer-zeros q pos xs vs (suc_inj e) (λ i l. h (suc i) (suc-le-suc l)))

-- so of inputs that are 0 but in place j only that one counts
answer-one :
    (q : ℕ) → 0 < q → (xs vs : List ℕ) (j : ℕ) → length xs ≡ length vs → j < length xs → ((i : ℕ) → i < length xs → i ≢ j → get_or xs i 0 ≡ 0)
    → all_answer q xs vs ≡ answers q (get_or xs j 0) (get_or vs j 0)
answer-one q pos [] vs j e lt h = absurd (not-suc-le-zero lt)
answer-one q pos (x ∷ xs) [] j e lt h = absurd (omega arith)
answer-one q pos (x ∷ xs) (v ∷ vs) zero e lt h =
    ap (λ t. answers q x v && t) (answer-zeros q pos xs vs (suc_inj e) (λ i l. h (suc i) (suc-le-suc l) (suc-ne-zero i))) ∙ and-true (answers q x v)
answer-one q pos (x ∷ xs) (v ∷ vs) (suc j) e lt h =
    ap₂ ◌&&◌ (answer-zero q pos x v (h 0 (zero-lt-suc _) (λ p. suc-ne-zero j (sym p))))
    (answer-one q pos xs vs j (suc_inj e) (le_of_suc-le-suc lt) (λ i l ne. h (suc i) (suc-le-suc l) (λ p. ne (suc_inj p))))

pub match-unit :
    (q : ℕ) → 0 < q → (n j x : ℕ) (row : List ℕ) → j < n → length row ≡ n → match_byte q (unit_vector n j x) row ≡ cond (answers q x (get_or row j 0)) 1 0
unfolding unit_vector match_byte
match-unit q pos n j x row lt e =
    let f : ℕ → ℕ = λ i. cond (eqb i j) x 0 in
    let size = length-tabulate n f in
    let own : get_or (unit_vector n j x) j 0 ≡ x = get_or-tabulate n f j 0 lt ∙ ap (λ t. cond t x 0) (eq-eqb j j refl) in
    ap (λ t. cond t 1 0)
    (answer-one q pos (unit_vector n j x) row j (size ∙ sym e) (rw size lt)
    (λ i l ne. get_or-tabulate n f i 0 (rw size at l) ∙ ap (λ t. cond t x 0) (ne_eqb i j ne))
    ∙ ap (λ y. answers q y (get_or row j 0)) own)

pub match-entry :
    (s : Shape) → Taken s → (e : Entry) (row : List ℕ) → e.column < columns s → length row ≡ columns s
    → match_byte (levels s) (test_vector s e) row ≡ cond (answers (levels s) (e.factor * s.radix ^ e.digit) (get_or row e.column 0)) 1 0
unfolding test_vector
match-entry s t e row = match-unit (levels s) (omega (arith, two-levels s t)) (columns s) e.column (e.factor * s.radix ^ e.digit) row

-- an input below q is compared and no more
pub match-below :
    (s : Shape) → Taken s → (e : Entry) (row : List ℕ) → e.column < columns s → length row ≡ columns s → e.factor * s.radix ^ e.digit < levels s
    → match_byte (levels s) (test_vector s e) row ≡ cond (leb (e.factor * s.radix ^ e.digit) (get_or row e.column 0)) 1 0
match-below s t e row lt sized h =
    match-entry s t e row lt sized ∙ ap (λ b. cond b 1 0) (answers-below (levels s) (e.factor * s.radix ^ e.digit) (get_or row e.column 0) h)
