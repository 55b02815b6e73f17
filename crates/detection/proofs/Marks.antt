-- What a list's log keeps by itself: where document 01's mark is off, so is the weaker one; and where no line is set, every line is sound.
-- Assumes nothing.
use mathlib.Core.Path.{◌≡◌, refl, ap, ◌∙◌}
use mathlib.Core.Logic.{◌≢◌}
use mathlib.Core.Bool.{false, true≢false}
use mathlib.Core.List.{List, [], ◌∷◌}
use Prim.Native.Nat.{ℕ}
use lib.ListN.{get_or, replicate}
use Rattle.parity.specs.Questions.{first_no}
use Rattle.parity.specs.declared.Shape.{Shape}
use Rattle.parity.proofs.Followed.{followed-holds}
use Rattle.parity.proofs.ListLaws.{same_at}
use Rattle.shape.proofs.Calling.{if-either}
use Rattle.call_lists.specs.Run.{Call, clear, start, program, ask, commit, drift, line, lookup, step}
use Rattle.detection.specs.Log.{Course, none, open-cycle, ended, Log, blank, log_step, while_open, log_taken, arguments_of, log_call, log_from, log}
use Rattle.detection.specs.Claims.{UnmarkedClaim, SetsNoLine, SoundLinesClaim}

-- what a call keeps that is taken it keeps refused
call-keeps : (s : Shape) (P : Log → Type 0) (l : Log) (c : Call) → P l → P (log_taken s l c) → P (log_call s l c)
call-keeps s P l c old new = if-either P (first_no (arguments_of s c)) (log_taken s l c) l new old

-- what a step keeps it keeps where no cycle is open
open-keeps : (P : Log → Type 0) (k : Course) (stepped l : Log) → P l → P stepped → P (while_open k stepped l)
open-keeps P none stepped l old new = old
open-keeps P open-cycle stepped l old new = new
open-keeps P ended stepped l old new = old

-- ---- the marks

-- the one off, the other off
abbrev Weaker : Log → Type 0
Weaker l = l.marks.mark ≡ false → l.marks.changed ≡ false

weaker-blank : (s : Shape) → Weaker (blank s)
unfolding blank
weaker-blank s off = refl

weaker-taken : (s : Shape) (l : Log) (c : Call) → Weaker l → Weaker (log_taken s l c)
weaker-taken s l clear h = weaker-blank s
weaker-taken s l (start z) h = λ off. refl
weaker-taken s l (program row given) h = h
weaker-taken s l (ask row given buffer) h = h
weaker-taken s l (commit row finished) h = h
weaker-taken s l (drift row column level) h = λ off. absurd (true≢false off)
weaker-taken s l (line row byte) h = λ off. absurd (true≢false off)
weaker-taken s l (lookup inputs matches) h = h
weaker-taken s l (step matches) h = open-keeps Weaker l.cycle.course (log_step s l) l h h

pub unmarked_claim : UnmarkedClaim
unfolding log
unmarked_claim s calls (is, off) =
    (is, followed-holds (log_call s) Weaker (λ l c h. call-keeps s Weaker l c h (weaker-taken s l c h)) calls (blank s) (weaker-blank s) off)

-- ---- the lines

module _ (s : Shape) where
  abbrev Sound : Log → Type 0
  Sound l = l.rows.lines ≡ replicate s.rows 0

  sound-blank : Sound (blank s)
  unfolding blank
  sound-blank = refl

  sound-taken : (l : Log) (c : Call) → ((row byte : ℕ) → c ≢ line row byte) → Sound l → Sound (log_taken s l c)
  sound-taken l clear other h = sound-blank
  sound-taken l (start z) other h = h
  sound-taken l (program row given) other h = h
  sound-taken l (ask row given buffer) other h = h
  sound-taken l (commit row finished) other h = h
  sound-taken l (drift row column level) other h = h
  sound-taken l (line row byte) other h = absurd (other row byte refl)
  sound-taken l (lookup inputs matches) other h = h
  sound-taken l (step matches) other h = open-keeps Sound l.cycle.course (log_step s l) l h h

  sound-run : (calls : List Call) (l : Log) → SetsNoLine calls → Sound l → Sound (log_from s l calls)
  sound-run [] l unset h = h
  sound-run (c ∷ calls) l unset h =
      sound-run calls (log_call s l c) (λ before rest row byte e. unset (c ∷ before) rest row byte (ap (λ cs. c ∷ cs) e))
      (call-keeps s Sound l c h (sound-taken l c (λ row byte e. unset [] calls row byte (ap (λ c. c ∷ calls) e)) h))

pub sound_lines_claim : SoundLinesClaim
unfolding log
sound_lines_claim s calls unset i = ap (λ lines. get_or lines i 0) (sound-run s calls (blank s) unset (sound-blank s)) ∙ same_at {A = ℕ} s.rows i 0
