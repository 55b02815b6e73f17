-- The first no to a call: the questions on the shape, which `check_shape` answers, come first, then those that are asked after them, one by one.
-- Assumes nothing.
use mathlib.Core.Path.{◌≡◌, refl, sym, ◌∙◌, ap}
use mathlib.Core.Bool.{Bool, true, false, cond, ◌&&◌, and-eq-true_iff, true≢false}
use Rattle.std.specs.Prelude.{⊤, IsErrAnd}
use Rattle.std.proofs.lemmas.Result.{err_from_is_err_and}
use mathlib.Core.List.{List, [], ◌∷◌, ◌++◌}
use Prim.Native.Nat.{ℕ, zero, suc, ◌<◌}
use native.Mathlib.Omega.{arith}
use lib.Dec.{eqb, ltb, lit<}
use borrow.Author.Tests.{ltb-true}
use lib.ListN.{length, get_or}
use Rattle.parity.specs.Lists.{every, alongside}
use Rattle.parity.specs.Shape.{levels}
use Rattle.parity.specs.Questions.{Question, first_no, shape_questions, shape_refusal, Taken, lengths_question, call_questions}
use Rattle.parity.specs.declared.Shape.{Shape}
use Rattle.parity.proofs.Alongside.{alongside-equal, alongside-append}
use Rattle.parity.proofs.Taken.{first-yes}
use Rattle.shape.specs.declared.sizes.Sizes.{Sizes}
use Rattle.std.specs.declared.result.Result.{Result as Answer}
use Rattle.std.specs.declared.result.Result.TheVariants.{Ok, Err}
use Rattle.shape.specs.declared.answer.Refusal.{Refusal}
use Rattle.shape.specs.declared.answer.Refusal.TheVariants as refusals
use Rattle.shape.specs.Refusals.{number_of, unless_holds, asked}
use Rattle.shape.specs.Answers.{Said, accepted, refused, answering, says, outcome_says}
use Rattle.shape.specs.Shapes.{sizes_of, no_sizes, checked_says, sizes_if, shape_says, Passed}

-- ---- one list of questions after another

-- no question has the number 0, which means none
abbrev pub numbered : List Question → Bool
numbered qs = every (λ q. ltb 0 q.number) qs

pub first_rest : (qs more : List Question) → numbered qs ≡ true → first_no qs ≡ 0 → first_no (qs ++ more) ≡ first_no more
first_rest [] more n e = refl
first_rest (q ∷ qs) more n e =
    let both = (and-eq-true_iff (ltb 0 q.number) (numbered qs)).0 n in
    let yes = first-yes q.holds (first_no qs) q.number (ltb-true 0 q.number both.0) e in
    ap (λ t. cond t (first_no (qs ++ more)) q.number) yes.0 ∙ first_rest qs more both.1 yes.1

-- where none fails, none fails of either
pub first-none : (qs more : List Question) → numbered qs ≡ true → first_no (qs ++ more) ≡ 0 → (first_no qs ≡ 0) × (first_no more ≡ 0)
first-none [] more n e = (refl, e)
first-none (q ∷ qs) more n e =
    let both = (and-eq-true_iff (ltb 0 q.number) (numbered qs)).0 n in
    let yes = first-yes q.holds (first_no (qs ++ more)) q.number (ltb-true 0 q.number both.0) e in
    let rest = first-none qs more both.1 yes.1 in
    (ap (λ t. cond t (first_no qs) q.number) yes.0 ∙ rest.0, rest.1)

pub first_found : (qs more : List Question) (n : ℕ) → 0 < n → first_no qs ≡ n → first_no (qs ++ more) ≡ n
first_found [] more n pos e = absurd (omega arith)
first_found (q ∷ qs) more n pos e = go q.holds (first_found qs more n pos) e
  where
    go :
        (t : Bool) → (first_no qs ≡ n → first_no (qs ++ more) ≡ n) → cond t (first_no qs) q.number ≡ n
        → cond t (first_no (qs ++ more)) q.number ≡ n
    go true rest e = rest e
    go false rest e = e

-- after the same questions the first no is that of what follows
pub first-after : (qs xs ys : List Question) → first_no xs ≡ first_no ys → first_no (qs ++ xs) ≡ first_no (qs ++ ys)
first-after [] xs ys e = e
first-after (q ∷ qs) xs ys e = ap (λ n. cond q.holds n q.number) (first-after qs xs ys e)

-- question 6 on two lists of buffers, one after the other, is question 6 on each
pub lengths-apart :
    (xs xs' ys ys' : List ℕ) (more : List Question) → length xs ≡ length xs'
    → first_no (lengths_question (xs ++ ys) (xs' ++ ys') ∷ more) ≡ first_no (lengths_question xs xs' ∷ lengths_question ys ys' ∷ more)
lengths-apart xs xs' ys ys' more e =
    ap (λ t. cond t (first_no more) 6) (alongside-append xs xs' ys ys' e) ∙ both (alongside eqb xs xs') (alongside eqb ys ys')
  where
    both : (a b : Bool) → cond (a && b) (first_no more) 6 ≡ cond a (cond b (first_no more) 6) 6
    both true b = refl
    both false b = refl

-- where it holds, each length that is lent is the one wanted in its place
pub length-lent : (lent wanted : List ℕ) → (lengths_question lent wanted).holds ≡ true → (i : ℕ) → get_or lent i 0 ≡ get_or wanted i 0
length-lent lent wanted e i = ap (λ lengths. get_or lengths i 0) (alongside-equal lent wanted e)

-- ---- what an answer tells of the first no

module _ {A : Type 0} (nothing value : A) where
  -- an answer with a value: there is no no
  pub said-value : (n : ℕ) (v : A) → accepted v ≡ answering nothing n value → (n ≡ 0) × (v ≡ value)
  said-value zero v e = (refl, ap (λ a. a.value) e)
  said-value (suc n) v e = absurd (true≢false (ap (λ a. a.taken) e))

  -- a refusal: its number is that of the first no
  pub said-number : (n m : ℕ) → refused nothing m ≡ answering nothing n value → (n ≡ m) × (0 < m)
  said-number zero m e = absurd (true≢false (sym (ap (λ a. a.taken) e)))
  said-number (suc n) m e = let same : m ≡ suc n = ap (λ a. a.number) e in (sym same, omega arith)

-- every refusal has a number
pub numbered-refusal : (refusal : Refusal) → 0 < number_of refusal
numbered-refusal refusals.Radix = lit< tt
numbered-refusal refusals.Digits = lit< tt
numbered-refusal refusals.Errors = lit< tt
numbered-refusal refusals.Width = lit< tt
numbered-refusal refusals.Rows = lit< tt
numbered-refusal refusals.Length = lit< tt
numbered-refusal refusals.Place = lit< tt
numbered-refusal refusals.Level = lit< tt
numbered-refusal refusals.Record = lit< tt
numbered-refusal refusals.JobSize = lit< tt
numbered-refusal refusals.JobVersion = lit< tt
numbered-refusal refusals.JobLength = lit< tt
numbered-refusal refusals.JobCells = lit< tt
numbered-refusal refusals.JobFields = lit< tt
numbered-refusal refusals.Skip = lit< tt
numbered-refusal refusals.Line = lit< tt
numbered-refusal refusals.Finished = lit< tt
numbered-refusal refusals.Features = lit< tt
numbered-refusal refusals.Range = lit< tt

-- .. and so it is said
module _ {A : Type 0} (nothing value : A) where
  pub refuses : {n : ℕ} → (refusal : Refusal) → n ≡ number_of refusal → refused nothing (number_of refusal) ≡ answering nothing n value
  refuses refusal e = go (number_of refusal) (numbered-refusal refusal) ∙ ap (λ n. answering nothing n value) (sym e)
    where
      go : (n : ℕ) → 0 < n → refused nothing n ≡ answering nothing n value
      go zero pos = absurd (omega arith)
      go (suc n) pos = refl

module _ (questions : List Question) (s : Shape) where
  -- where the sizes are given, no question fails; a refusal's number is that of the first no
  pub passes : (z : Sizes) → accepted z ≡ sizes_if (first_no questions) s → Passed questions s z
  passes z e = let both = said-value no_sizes (sizes_of s) (first_no questions) z e in record { none = both.0; sizes = both.1 }

  pub fails : (n : ℕ) → refused no_sizes n ≡ sizes_if (first_no questions) s → (first_no questions ≡ n) × (0 < n)
  fails n e = said-number no_sizes (sizes_of s) (first_no questions) n e

  -- .. and so it is said
  pub says-sizes : {z : Sizes} → Passed questions s z → accepted z ≡ sizes_if (first_no questions) s
  says-sizes p = ap accepted p.sizes ∙ ap (λ n. sizes_if n s) (sym p.none)

  pub says-number : (n : ℕ) → (first_no questions ≡ n) × (0 < n) → refused no_sizes n ≡ sizes_if (first_no questions) s
  says-number zero e = absurd (omega arith)
  says-number (suc n) e = ap (λ n. sizes_if n s) (sym e.0)

-- ---- the answer to some questions, by its cases
module _ {answer : Answer Sizes Refusal} (questions : List Question) (s : Shape) (e : checked_says answer ≡ sizes_if (first_no questions) s) where
  pub answer-taken : {z : Sizes} → answer ≡ Ok z → Passed questions s z
  answer-taken {z} is = passes questions s z (ap checked_says (sym is) ∙ e)

  pub answer-refused : {refusal : Refusal} → answer ≡ Err refusal → (first_no questions ≡ number_of refusal) × (0 < number_of refusal)
  answer-refused {refusal} is = fails questions s (number_of refusal) (ap checked_says (sym is) ∙ e)

  -- a refusal stays, whatever is asked after it
  pub stays :
      {refusal : Refusal} → answer ≡ Err refusal → (more : List Question)
      → refused no_sizes (number_of refusal) ≡ sizes_if (first_no (questions ++ more)) s
  stays {refusal} is more =
      let no = answer-refused is in
      says-number (questions ++ more) s (number_of refusal) (first_found questions more (number_of refusal) no.1 no.0, no.1)

-- what is handed on of a refusal
pub handed :
    {A V : Type 0} (nothing : V) (value : A → V) (answer : Answer A Refusal) (refusal : Refusal) {told : Said V}
    → IsErrAnd answer (λ y. y ≡ refusal) → refused nothing (number_of refusal) ≡ told → says nothing value answer ≡ told
handed nothing value answer refusal on e =
    let p = err_from_is_err_and answer on in
    ap (says nothing value) (p.1 ∙ ap Err p.2) ∙ e

-- an answer to the questions on a shape
pub shape-asked : (s : Shape) {answer : Said Sizes} → answer ≡ shape_says s → answer ≡ sizes_if (first_no (shape_questions s)) s
unfolding shape_refusal
shape-asked s e = e

-- ---- a question more

-- whether it held, and the refusal that is told, or the one in hand where none is
held : Answer ⊤ Refusal → Bool
held (Ok _) = true
held (Err _) = false

told_or : Refusal → Answer ⊤ Refusal → Refusal
told_or refusal (Ok _) = refusal
told_or refusal (Err told) = told

-- what an answer to it tells
pub yes-told :
    (refusal : Refusal) (holds : Bool) {answer : Answer ⊤ Refusal} → answer ≡ unless_holds refusal holds → answer ≡ Ok tt → holds ≡ true
unfolding held
yes-told refusal true e is = refl
yes-told refusal false e is = absurd (true≢false (ap held (sym is ∙ e)))

pub no-told :
    (refusal : Refusal) {told : Refusal} (holds : Bool) {answer : Answer ⊤ Refusal} → answer ≡ unless_holds refusal holds → answer ≡ Err told
    → (holds ≡ false) × (told ≡ refusal)
unfolding held told_or
no-told refusal true e is = absurd (true≢false (ap held (sym e ∙ is)))
no-told refusal false e is = (refl, ap (told_or refusal) (sym is ∙ e))

-- one question, asked by itself
pub one-asked :
    (refusal : Refusal) (holds : Bool) {answer : Answer ⊤ Refusal} → answer ≡ unless_holds refusal holds
    → outcome_says answer ≡ answering 0 (first_no (asked ((refusal, holds) ∷ []))) 0
one-asked refusal true e = ap outcome_says e
one-asked refusal false e = ap outcome_says e ∙ refuses 0 0 refusal refl

-- further questions, by the code's tests, of which the first no is that of the questions themselves
module _
    {qs : List Question} {s : Shape} {z : Sizes} (numbers : numbered qs ≡ true) (p : Passed qs s z) (more : List Question)
    {answer : Answer ⊤ Refusal} {n : ℕ} (e : outcome_says answer ≡ answering 0 n 0) (same : n ≡ first_no more) where
  pub asked-yes : answer ≡ Ok tt → Passed (qs ++ more) s z
  asked-yes is =
      let none = (said-value 0 0 n 0 (ap outcome_says (sym is) ∙ e)).0 in
      record { none = first_rest qs more numbers p.none ∙ sym same ∙ none; sizes = p.sizes }

  pub asked-no :
      {told : Refusal} → answer ≡ Err told → (last : Answer Sizes Refusal) → IsErrAnd last (λ y. y ≡ told) → (later : List Question)
      → checked_says last ≡ sizes_if (first_no ((qs ++ more) ++ later)) s
  asked-no {told} is last on later =
      let found = said-number 0 0 n (number_of told) (ap outcome_says (sym is) ∙ e) in
      handed no_sizes (λ z. z) last told on
      (says-number ((qs ++ more) ++ later) s (number_of told)
      (first_found (qs ++ more) later (number_of told) found.1 (first_rest qs more numbers p.none ∙ sym same ∙ found.0), found.1))

-- the questions on the shape
module _ (s : Shape) {answer : Answer Sizes Refusal} (e : checked_says answer ≡ shape_says s) where
  pub shape-yes : {z : Sizes} → answer ≡ Ok z → Passed (shape_questions s) s z
  shape-yes is = answer-taken (shape_questions s) s (shape-asked s e) is

  pub shape-no :
      {told : Refusal} → answer ≡ Err told → (last : Answer Sizes Refusal) → IsErrAnd last (λ y. y ≡ told) → (more : List Question)
      → checked_says last ≡ sizes_if (first_no (shape_questions s ++ more)) s
  shape-no {told} is last on more = handed no_sizes (λ z. z) last told on (stays (shape_questions s) s (shape-asked s e) is more)

-- of a shape that is taken, the first no is that of the other questions
pub taken-rest : (s : Shape) → Taken s → (more : List Question) → first_no (shape_questions s ++ more) ≡ first_no more
unfolding shape_refusal
taken-rest s t more = first_rest (shape_questions s) more refl t

-- .. and where none fails, the shape is taken
pub rest-taken : (s : Shape) (more : List Question) → first_no (shape_questions s ++ more) ≡ 0 → Taken s × (first_no more ≡ 0)
unfolding shape_refusal
rest-taken s more none = first-none (shape_questions s) more refl none

-- ---- all the questions of a call

module _ (s : Shape) (ns : List Question) (lq : Question) (more : List Question) where
  -- where none fails
  pub record CallPassed : Type 0 where
    pub taken : Taken s
    pub numbers : first_no ns ≡ 0
    pub lent : lq.holds ≡ true
    pub arguments : first_no more ≡ 0

  pub call-passed : numbered ns ≡ true → 0 < lq.number → first_no (call_questions s ns lq more) ≡ 0 → CallPassed
  call-passed n pos none =
      let shape = rest-taken s (ns ++ lq ∷ more) none in
      let parts = first-none ns (lq ∷ more) n shape.1 in
      let last = first-yes lq.holds (first_no more) lq.number pos parts.1 in
      record { taken = shape.0; numbers = parts.0; lent = last.0; arguments = last.1 }

  -- of a shape that is taken, and buffers of their lengths, the first no is that to the numbers and the other arguments
  pub call-rest : Taken s → lq.holds ≡ true → first_no (call_questions s ns lq more) ≡ first_no (ns ++ more)
  call-rest t sized =
      taken-rest s t (ns ++ lq ∷ more) ∙ first-after ns (lq ∷ more) more (ap (λ b. cond b (first_no more) lq.number) sized)

-- ---- question 8: its test, where the number of levels in hand is the shape's
pub levels-tested :
    {q : ℕ} {result : Bool} (s : Shape) → q ≡ levels s → (given : List ℕ) → result ≡ every (λ v. ltb v q) given
    → every (λ v. ltb v (levels s)) given ≡ result
levels-tested s e given tested = ap (λ q. every (λ v. ltb v q) given) (sym e) ∙ sym tested
