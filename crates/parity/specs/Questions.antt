-- Document 01's questions: how they are asked, those on a shape, and those on what a call is given.
use Rattle.std.specs.Prelude.{◌≡◌, Bool, cond, ◌&&◌, List, [], ◌∷◌, ◌++◌, ℕ, zero, suc, leb, ltb, eqb}
use Rattle.parity.specs.Lists.{every, alongside}
use Rattle.parity.specs.Shape.{levels, limit}
use Rattle.parity.specs.Codeword.{is_codeword}
use Rattle.parity.specs.declared.Shape.{Shape}

-- a question: the number that a no gives, and whether the answer is yes
pub record Question : Type 0 where
  pub number : ℕ
  pub holds : Bool

abbrev pub question : ℕ → Bool → Question
question number holds = record { number = number; holds = holds }

-- the number of the first no of a list of questions, asked in order; 0 where each answer is yes
abbrev pub first_no : List Question → ℕ
first_no [] = 0
first_no (q ∷ qs) = cond q.holds (first_no qs) q.number

-- one thing where the first no has number 0, which means none, and another where there is one
abbrev pub if_taken {ℓ} : {A : Type ℓ} → ℕ → A → A → A
if_taken zero taken refused = taken
if_taken (suc number) taken refused = refused

-- 1: is ρ from 2 to 255?
abbrev pub radix_question : Shape → Question
radix_question s = question 1 (leb 2 s.radix && leb s.radix 255)

-- 2: is b at least 1 and q at most 256?
abbrev pub digits_question : Shape → Question
digits_question s = question 2 (leb 1 s.digits && leb (levels s) 256)

-- 3: is τ 1, 2 or 3?
abbrev pub errors_question : Shape → Question
errors_question s = question 3 (leb 1 s.errors && leb s.errors 3)

-- 4: is k from 1 to the limit for τ?
abbrev pub width_question : Shape → Question
width_question s = question 4 (leb 1 s.width && leb s.width (limit s.errors))

-- 5: is m from 1 to 4,096?
abbrev pub rows_question : Shape → Question
rows_question s = question 5 (leb 1 s.rows && leb s.rows 4096)

-- the questions on a shape, in their order: those on its levels, then those on its columns and rows
abbrev pub column_questions : Shape → List Question
column_questions s = errors_question s ∷ width_question s ∷ rows_question s ∷ []

abbrev pub shape_questions : Shape → List Question
shape_questions s = radix_question s ∷ digits_question s ∷ column_questions s

-- the number of the first question that a shape fails; 0 where it is taken
unfoldable pub shape_refusal : Shape → ℕ
shape_refusal s = first_no (shape_questions s)

-- a shape that is taken
abbrev pub Taken : Shape → Type 0
Taken s = shape_refusal s ≡ 0

-- 15: is the number z of low digits to skip below b?
abbrev pub skip_question : Shape → ℕ → Question
skip_question s z = question 15 (ltb z s.digits)

-- 6: has each lent buffer exactly its length? The lengths lent, and beside them those wanted.
abbrev pub lengths_question : List ℕ → List ℕ → Question
lengths_question lent wanted = question 6 (alongside eqb lent wanted)

-- 7: is a row's or a column's number below its count?
abbrev pub place_question : ℕ → ℕ → Question
place_question place count = question 7 (ltb place count)

-- 8: is every given level below q?
abbrev pub levels_question : ℕ → List ℕ → Question
levels_question q given = question 8 (every (λ v. ltb v q) given)

-- 8: is every input at most q?
abbrev pub inputs_question : ℕ → List ℕ → Question
inputs_question q inputs = question 8 (every (λ v. leb v q) inputs)

-- 16: is a line byte to set 0, sound, 1, dead, or 2, shorted?
abbrev pub line_question : ℕ → Question
line_question byte = question 16 (leb byte 2)

-- 17: is a finished row sound?
abbrev pub sound_question : Shape → List ℕ → Question
sound_question s row = question 17 (is_codeword s row)

-- The questions of a call, in their order: those on the shape; on further numbers; 6 on what is lent of the memory; and those on its other arguments,
-- of which 6 on the buffers among them comes first.
abbrev pub call_questions : Shape → List Question → Question → List Question → List Question
call_questions s numbers lent arguments = shape_questions s ++ numbers ++ lent ∷ arguments
