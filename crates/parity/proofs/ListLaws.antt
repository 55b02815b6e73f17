-- Laws of specs/Lists.antt's words: tabulate, joined, keep, sum_over, every and every_to, of equal elements, and of what holds of each entry of a list of
-- numbers, of each two in their order, and of one among them. Assumes nothing.
use mathlib.Core.Path.{◌≡◌, refl, sym, ap, ap₂, ◌∙◌}
use mathlib.Core.Logic.{◌⊎◌, inl, inr, ⊎_elim}
use mathlib.Core.Bool.{Bool, true, false, cond, ◌&&◌, and-eq-true_iff}
use mathlib.Core.List.{List, [], ◌∷◌, ◌++◌}
use Prim.Native.Nat.{ℕ, zero, suc, ◌+◌, ◌≤◌, ◌<◌, suc-le-suc}
use native.Mathlib.Nat.{le_of_suc-le-suc, not-suc-le-zero, eq-or-lt_of_le, zero-lt-suc, zero-add}
use native.Mathlib.Numerals.{add-one}
use native.Mathlib.Omega.{arith}
use lib.Dec.{eqb, ltb}
use lib.ListN.{length, get_or, take, replicate, length-append, length-take, replicate-append-replicate, get_or-append}
use lib.Seq.{take-suc, get_or-take, get_or-append-add, get_or_at}
use borrow.Author.Tests.{eqb-true, ltb-true, ltb-false}
use Rattle.parity.specs.Lists.{tabulate, joined, keep, every, every_to, sum_over, differences}
use Rattle.parity.specs.Claims.{Among}

module _ {ℓ} {A : Type ℓ} where
  -- ---- keep

  pub keep_append : (p : A → Bool) (xs ys : List A) → keep p (xs ++ ys) ≡ keep p xs ++ keep p ys
  keep_append p [] ys = refl
  keep_append p (x ∷ xs) ys = go (p x) (keep_append p xs ys)
    where
      go : (b : Bool) → keep p (xs ++ ys) ≡ keep p xs ++ keep p ys
          → cond b (x ∷ keep p (xs ++ ys)) (keep p (xs ++ ys)) ≡ cond b (x ∷ keep p xs) (keep p xs) ++ keep p ys
      go true e = ap (λ zs. x ∷ zs) e
      go false e = e

  -- ---- tabulate

  pub length-tabulate : (n : ℕ) (f : ℕ → A) → length (tabulate n f) ≡ n
  length-tabulate zero f = refl
  length-tabulate (suc n) f = omega (arith, length-append (tabulate n f) (f n ∷ []), length-tabulate n f)

  pub get_or-tabulate : (n : ℕ) (f : ℕ → A) (i : ℕ) (d : A) → i < n → get_or (tabulate n f) i d ≡ f i
  get_or-tabulate zero f i d h = absurd (not-suc-le-zero h)
  get_or-tabulate (suc n) f i d h =
      ⊎_elim
      (λ (e : i ≡ n). rw e (get_or_at (tabulate n f) (f n) [] d n (length-tabulate n f)))
      (λ (l : i < n). get_or-append (tabulate n f) (f n ∷ []) d i (rw (length-tabulate n f) l) ∙ get_or-tabulate n f i d l)
      (eq-or-lt_of_le (le_of_suc-le-suc h))

  pub tabulate-same : (n : ℕ) (f g : ℕ → A) → ((i : ℕ) → i < n → f i ≡ g i) → tabulate n f ≡ tabulate n g
  tabulate-same zero f g h = refl
  tabulate-same (suc n) f g h = ap₂ (λ xs x. xs ++ (x ∷ [])) (tabulate-same n f g (λ i l. h i (omega arith))) (h n (omega arith))

  pub tabulate-constant : (n : ℕ) (a : A) → tabulate n (λ i. a) ≡ replicate n a
  tabulate-constant zero a = refl
  tabulate-constant (suc n) a =
      ap (λ xs. xs ++ (a ∷ [])) (tabulate-constant n a) ∙ replicate-append-replicate n 1 a ∙ ap (λ m. replicate m a) (add-one n)

  -- ---- replicate

  -- in each place, and where there is none
  pub same_at : (n j : ℕ) (v : A) → get_or (replicate n v) j v ≡ v
  same_at zero j v = refl
  same_at (suc n) zero v = refl
  same_at (suc n) (suc j) v = same_at n j v

  -- ---- sum_over

  pub sum-append : (g : A → ℕ) (xs ys : List A) → sum_over (xs ++ ys) g ≡ sum_over xs g + sum_over ys g
  sum-append g [] ys = sym (zero-add (sum_over ys g))
  sum-append g (x ∷ xs) ys = omega (arith, sum-append g xs ys)

  -- one element more
  pub sum-take-suc : (g : A → ℕ) (xs : List A) (j : ℕ) (d : A) → j < length xs → sum_over (take (suc j) xs) g ≡ sum_over (take j xs) g + g (get_or xs j d)
  sum-take-suc g xs j d h = ap (λ ys. sum_over ys g) (take-suc xs j d h) ∙ omega (arith, sum-append g (take j xs) (get_or xs j d ∷ []))

  -- ---- a test of every element, and its passing at each place

  pub every-at : (p : A → Bool) (xs : List A) (d : A) → every p xs ≡ true → (j : ℕ) → j < length xs → p (get_or xs j d) ≡ true
  every-at p [] d e j h = absurd (not-suc-le-zero h)
  every-at p (x ∷ xs) d e zero h = ((and-eq-true_iff (p x) (every p xs)).0 e).0
  every-at p (x ∷ xs) d e (suc j) h = every-at p xs d ((and-eq-true_iff (p x) (every p xs)).0 e).1 j (le_of_suc-le-suc h)

  pub every-passes : (p : A → Bool) (xs : List A) (d : A) → ((j : ℕ) → j < length xs → p (get_or xs j d) ≡ true) → every p xs ≡ true
  every-passes p [] d h = refl
  every-passes p (x ∷ xs) d h =
      (and-eq-true_iff (p x) (every p xs)).1 (h zero (zero-lt-suc _), every-passes p xs d (λ j l. h (suc j) (suc-le-suc l)))

-- the same for the numbers below n

pub every_to-at : (n : ℕ) (p : ℕ → Bool) → every_to n p ≡ true → (i : ℕ) → i < n → p i ≡ true
every_to-at zero p e i h = absurd (not-suc-le-zero h)
every_to-at (suc n) p e i h =
    let both = (and-eq-true_iff (every_to n p) (p n)).0 e in
    ⊎_elim (λ (q : i ≡ n). ap p q ∙ both.1) (every_to-at n p both.0 i) (eq-or-lt_of_le (le_of_suc-le-suc h))

pub every_to-passes : (n : ℕ) (p : ℕ → Bool) → ((i : ℕ) → i < n → p i ≡ true) → every_to n p ≡ true
every_to-passes zero p h = refl
every_to-passes (suc n) p h = (and-eq-true_iff (every_to n p) (p n)).1 (every_to-passes n p (λ i l. h i (omega arith)), h n (omega arith))

-- a test of two numbers, from 1 to m and from 1 to n, passed everywhere: how a small table is held to its rule
pub grid-at :
    (m n : ℕ) (p : ℕ → ℕ → Bool) → every_to m (λ i. every_to n (λ j. p (suc i) (suc j))) ≡ true
    → (i j : ℕ) → 1 ≤ i → i ≤ m → 1 ≤ j → j ≤ n → p i j ≡ true
grid-at m n p e zero j low high low' high' = absurd (not-suc-le-zero low)
grid-at m n p e (suc i) zero low high low' high' = absurd (not-suc-le-zero low')
grid-at m n p e (suc i) (suc j) low high low' high' =
    every_to-at n (λ j. p (suc i) (suc j)) (every_to-at m (λ i. every_to n (λ j. p (suc i) (suc j))) e i high) j high'

-- ---- each element, along the list

abbrev pub All {ℓ} : {A : Type ℓ} → (A → Type 0) → List A → Type 0
All P [] = Unit {0}
All P (x ∷ xs) = P x × All P xs

-- ---- each entry, by its place

abbrev pub Each : (ℕ → Type 0) → List ℕ → Type 0
Each P xs = (j : ℕ) → j < length xs → P (get_or xs j 0)

module _ (P : ℕ → Type 0) where
  pub each-cons : (x : ℕ) (xs : List ℕ) → P x → Each P xs → Each P (x ∷ xs)
  each-cons x xs first rest zero h = first
  each-cons x xs first rest (suc j) h = rest j (le_of_suc-le-suc h)

  pub each_append : (xs ys : List ℕ) → Each P xs → Each P ys → Each P (xs ++ ys)
  each_append [] ys h k = k
  each_append (x ∷ xs) ys h k = each-cons x (xs ++ ys) (h zero (zero-lt-suc _)) (each_append xs ys (λ j l. h (suc j) (suc-le-suc l)) k)

  pub each-tabulate : (n : ℕ) (f : ℕ → ℕ) → ((i : ℕ) → i < n → P (f i)) → Each P (tabulate n f)
  each-tabulate n f h j l =
      let l' : j < n = rw length-tabulate at l in
      rw (get_or-tabulate n f j 0 l') (h j l')

  -- what is kept passes the test
  pub each_keep : (p : ℕ → Bool) (xs : List ℕ) → Each (λ x. p x ≡ true → P x) xs → Each P (keep p xs)
  each_keep p [] h = λ j l. absurd (not-suc-le-zero l)
  each_keep p (x ∷ xs) h = go (each_keep p xs (λ j l. h (suc j) (suc-le-suc l))) (p x) refl
    where
      go : Each P (keep p xs) → (b : Bool) → p x ≡ b → Each P (cond b (x ∷ keep p xs) (keep p xs))
      go rest true e = each-cons x (keep p xs) (h zero (zero-lt-suc _) e) rest
      go rest false e = rest

  pub each_take : (k : ℕ) (xs : List ℕ) → Each P xs → Each P (take k xs)
  each_take k xs h j l =
      let k' : j < k = omega (arith, length-take k xs) in
      rw get_or-take (h j (omega (arith, length-take k xs)))

-- ---- each two entries in their order

abbrev pub Pairwise : (ℕ → ℕ → Type 0) → List ℕ → Type 0
Pairwise R xs = (i j : ℕ) → i < j → j < length xs → R (get_or xs i 0) (get_or xs j 0)

-- neighbours in order, tested
abbrev pub chained : (ℕ → ℕ → Bool) → List ℕ → Bool
chained r [] = true
chained r (x ∷ []) = true
chained r (x ∷ y ∷ ys) = r x y && chained r (y ∷ ys)

module _ (R : ℕ → ℕ → Type 0) where
  pub pairs-cons : (x : ℕ) (xs : List ℕ) → Each (R x) xs → Pairwise R xs → Pairwise R (x ∷ xs)
  pairs-cons x xs first rest i zero h l = absurd (not-suc-le-zero h)
  pairs-cons x xs first rest zero (suc j) h l = first j (le_of_suc-le-suc l)
  pairs-cons x xs first rest (suc i) (suc j) h l = rest i j (le_of_suc-le-suc h) (le_of_suc-le-suc l)

  pub pairs-head : (x : ℕ) (xs : List ℕ) → Pairwise R (x ∷ xs) → Each (R x) xs
  pairs-head x xs h j l = h zero (suc j) (zero-lt-suc _) (suc-le-suc l)

  pub pairs-tail : (x : ℕ) (xs : List ℕ) → Pairwise R (x ∷ xs) → Pairwise R xs
  pairs-tail x xs h i j l m = h (suc i) (suc j) (suc-le-suc l) (suc-le-suc m)

  pub pairs-append : (xs ys : List ℕ) → Pairwise R xs → Pairwise R ys → Each (λ x. Each (R x) ys) xs → Pairwise R (xs ++ ys)
  pairs-append [] ys h k across = k
  pairs-append (x ∷ xs) ys h k across =
      pairs-cons x (xs ++ ys) (each_append (R x) xs ys (pairs-head x xs h) (across zero (zero-lt-suc _)))
      (pairs-append xs ys (pairs-tail x xs h) k (λ j l. across (suc j) (suc-le-suc l)))

  pub pairs-tabulate : (n : ℕ) (f : ℕ → ℕ) → ((i j : ℕ) → i < j → j < n → R (f i) (f j)) → Pairwise R (tabulate n f)
  pairs-tabulate n f h i j l m =
      let j' : j < n = rw length-tabulate at m in
      let i' : i < n = omega arith in
      rw (get_or-tabulate n f i, get_or-tabulate n f j) (h i j l j')

  pub pairs-keep : (p : ℕ → Bool) (xs : List ℕ) → Pairwise R xs → Pairwise R (keep p xs)
  pairs-keep p [] h = λ i j l m. absurd (not-suc-le-zero m)
  pairs-keep p (x ∷ xs) h = go (pairs-keep p xs (pairs-tail x xs h)) (p x)
    where
      go : Pairwise R (keep p xs) → (b : Bool) → Pairwise R (cond b (x ∷ keep p xs) (keep p xs))
      go rest true = pairs-cons x (keep p xs) (each_keep (R x) p xs (λ j l e. pairs-head x xs h j l)) rest
      go rest false = rest

  pub pairs-take : (k : ℕ) (xs : List ℕ) → Pairwise R xs → Pairwise R (take k xs)
  pairs-take k xs h i j l m =
      let k' : j < k = omega (arith, length-take k xs) in
      let i' : i < k = omega arith in
      rw (get_or-take k xs i, get_or-take k xs j) (h i j l (omega (arith, length-take k xs)))

  -- a relation that goes on from neighbour to neighbour holds of each two, if it does of each two neighbours
  pub chained-pairs :
      ((x y z : ℕ) → R x y → R y z → R x z) → (r : ℕ → ℕ → Bool) → ((x y : ℕ) → r x y ≡ true → R x y)
      → (xs : List ℕ) → chained r xs ≡ true → Pairwise R xs
  chained-pairs trans r sound [] e = λ i j l m. absurd (not-suc-le-zero m)
  chained-pairs trans r sound (x ∷ []) e = λ i j l m. absurd (omega arith)
  chained-pairs trans r sound (x ∷ y ∷ ys) e =
      let both = (and-eq-true_iff (r x y) (chained r (y ∷ ys))).0 e in
      let first : R x y = sound x y both.0 in
      let rest : Pairwise R (y ∷ ys) = chained-pairs trans r sound (y ∷ ys) both.1 in
      pairs-cons x (y ∷ ys) (each-cons (R x) y ys first (λ j l. trans x y _ first (pairs-head y ys rest j l))) rest

  -- of a list in order, an entry is among the first k or each of those stands before it
  pub among-take : (c k : ℕ) (xs : List ℕ) → Pairwise R xs → Among c xs → Among c (take k xs) ⊎ Each (λ x. R x c) (take k xs)
  among-take c k xs h (i, l, e) = go (ltb i k) refl
    where
      go : (b : Bool) → ltb i k ≡ b → Among c (take k xs) ⊎ Each (λ x. R x c) (take k xs)
      go true q =
          let i' : i < k = ltb-true i k q in
          inl (i, omega (arith, length-take k xs), rw get_or-take e)
      go false q =
          inr λ j m.
          let j' : j < k = omega (arith, length-take k xs) in
          rw (get_or-take, ← e) (h j i (omega (arith, ltb-false i k q)) l)

-- ---- all that pass the test

pub keep_all : (p : ℕ → Bool) (xs : List ℕ) → Each (λ x. p x ≡ true) xs → keep p xs ≡ xs
keep_all p [] h = refl
keep_all p (x ∷ xs) h = rw (h zero (zero-lt-suc _)) (ap (λ ys. x ∷ ys) (keep_all p xs (λ j l. h (suc j) (suc-le-suc l))))

-- ---- one among them

pub among-append-left : (c : ℕ) (xs ys : List ℕ) → Among c xs → Among c (xs ++ ys)
among-append-left c xs ys a = (a.0, omega (arith, length-append xs ys), get_or-append xs ys 0 a.0 a.1 ∙ a.2)

pub among-append-right : (c : ℕ) (xs ys : List ℕ) → Among c ys → Among c (xs ++ ys)
among-append-right c xs ys a = (length xs + a.0, omega (arith, length-append xs ys), get_or-append-add xs ys a.0 0 ∙ a.2)

pub among-tabulate : (n : ℕ) (f : ℕ → ℕ) (i : ℕ) → i < n → Among (f i) (tabulate n f)
among-tabulate n f i h = (i, rw length-tabulate h, get_or-tabulate n f i 0 h)

pub among-joined : (c n : ℕ) (f : ℕ → List ℕ) (w : ℕ) → w < n → Among c (f w) → Among c (joined n f)
among-joined c zero f w h a = absurd (not-suc-le-zero h)
among-joined c (suc n) f w h a =
    ⊎_elim
    (λ (e : w ≡ n). among-append-right c (joined n f) (f n) (rw e at a))
    (λ (l : w < n). among-append-left c (joined n f) (f n) (among-joined c n f w l a))
    (eq-or-lt_of_le (le_of_suc-le-suc h))

pub among-keep : (c : ℕ) (p : ℕ → Bool) (xs : List ℕ) → p c ≡ true → Among c xs → Among c (keep p xs)
among-keep c p [] e a = absurd (not-suc-le-zero a.1)
among-keep c p (x ∷ xs) e (zero, l, q) = rw (ap p q ∙ e) (zero, zero-lt-suc _, q)
among-keep c p (x ∷ xs) e (suc i, l, q) = go (p x) (among-keep c p xs e (i, le_of_suc-le-suc l, q))
  where
    go : (b : Bool) → Among c (keep p xs) → Among c (cond b (x ∷ keep p xs) (keep p xs))
    go true a = (suc a.0, suc-le-suc a.1, a.2)
    go false a = a

-- ---- in how many places two lists differ: where in none, they are equal

pub differences-zero : (xs ys : List ℕ) → differences xs ys ≡ 0 → xs ≡ ys
differences-zero [] [] e = refl
differences-zero [] (y ∷ ys) e = absurd (omega arith)
differences-zero (x ∷ xs) [] e = absurd (omega arith)
differences-zero (x ∷ xs) (y ∷ ys) e = go (differences-zero xs ys) (eqb x y) refl e
  where
    go : (differences xs ys ≡ 0 → xs ≡ ys) → (b : Bool) → eqb x y ≡ b → cond b (differences xs ys) (suc (differences xs ys)) ≡ 0 → x ∷ xs ≡ y ∷ ys
    go rest true q d = ap₂ (λ (z : ℕ) (zs : List ℕ). z ∷ zs) (eqb-true x y q) (rest d)
    go rest false q d = absurd (omega arith)

-- one place more of both
pub differences-next :
    (xs ys : List ℕ) (i : ℕ) → i < length xs → i < length ys → (b : Bool) → eqb (get_or xs i 0) (get_or ys i 0) ≡ b
    → differences (take (suc i) xs) (take (suc i) ys) ≡ differences (take i xs) (take i ys) + cond b 0 1
differences-next [] ys i h k b e = absurd (not-suc-le-zero h)
differences-next (x ∷ xs) [] i h k b e = absurd (not-suc-le-zero k)
differences-next (x ∷ xs) (y ∷ ys) zero h k b e = ap more e ∙ sym (zero-add (more b))
  where
    more : Bool → ℕ
    more t = cond t 0 1
differences-next (x ∷ xs) (y ∷ ys) (suc i) h k b e = go (eqb x y) _ _ _ (differences-next xs ys i (le_of_suc-le-suc h) (le_of_suc-le-suc k) b e)
  where
    go : (t : Bool) (old new more : ℕ) → new ≡ old + more → cond t new (suc new) ≡ cond t old (suc old) + more
    go true old new more same = same
    go false old new more same = omega arith
