-- Laws of `written` and `Wrote`: one text after another is the two as one text, and a text copied into its part is written. Assumes nothing.
use mathlib.Core.Path.{◌≡◌, sym, ◌∙◌, ap₂}
use mathlib.Core.List.{List, [], ◌∷◌, ◌++◌, append-nil, append_assoc}
use Prim.Native.Nat.{ℕ, suc, ◌+◌, ◌-◌, ◌≤◌, ◌<◌}
use native.Mathlib.Nat.{le_of_lt, suc-add, add-zero, add-suc, add_assoc}
use native.Mathlib.Omega.{arith}
use lib.ListN.{length, get_or, take, drop, set, length-append, take-append-drop}
use lib.Seq.{length-take-le, take-suc, take_at, drop_at, drop-drop, append_snoc, set_at}
use borrow.Rule.Slice.PartMut.{put_mid, Post-is}
use Rattle.job_text.specs.Written.{written, Wrote}

pub written_none : (at : ℕ) (out : List ℕ) → written at [] out ≡ out
unfolding written
written_none at out = rw (add-zero, append-nil, take-append-drop)

module _ (at : ℕ) (a out : List ℕ) (fits : at + length a ≤ length out) where
  -- what stands up to the end of the text
  upto : length (take at out ++ a) ≡ at + length a
  upto = omega (arith, length-append (take at out) a, length-take-le at out (omega arith))

  pub written-append : (b : List ℕ) → written (at + length a) b (written at a out) ≡ written at (a ++ b) out
  unfolding written
  written-append b =
      let front = take at out ++ a in
      let rest = drop (at + length a) out in
      rw (
        take_at front rest (at + length a) upto,
        ← drop-drop (length b) (at + length a) (front ++ rest),
        drop_at front rest (at + length a) upto,
        drop-drop,
        length-append,
        ← add_assoc,
        ← append_assoc,
      )

-- one byte in front of a text
pub written-front : (at byte : ℕ) (text out : List ℕ) → at < length out → set (written (suc at) text out) at byte ≡ written at (byte ∷ text) out
unfolding written
written-front at byte text out h =
    let front = take at out in
    let old = get_or out at 0 in
    let rest = text ++ drop (suc at + length text) out in
    rw (
      take-suc out at 0,
      append_assoc (front ++ (old ∷ [])),
      append_snoc,
      set_at front old rest byte at (length-take-le at out (le_of_lt h)),
      append_assoc front,
      suc-add,
      add-suc,
    )

-- a text in the part of its place
pub written-part : (at : ℕ) (text out : List ℕ) → at + length text ≤ length out → put_mid at (at + length text - at) out text ≡ written at text out
unfolding written
written-part at text out fits = rw (Post-is at (at + length text) out (omega arith), append_assoc)

-- ---- what a function that writes a text gives

pub wrote_none : (at : ℕ) (out : List ℕ) → Wrote at [] out at out
wrote_none at out = record { place = omega arith; bytes = sym (written_none at out) }

-- one text after another
pub wrote-append :
    {at mid end : ℕ} {a b out now now' : List ℕ} → mid ≤ length out → Wrote at a out mid now → Wrote mid b now end now'
    → Wrote at (a ++ b) out end now'
wrote-append {at} {mid} {end} {a} {b} {out} fits first second =
    record {
      place = omega (arith, length-append a b);
      bytes = second.bytes ∙ ap₂ (λ n. written n b) first.place first.bytes ∙ written-append at a out (omega arith) b;
    }
