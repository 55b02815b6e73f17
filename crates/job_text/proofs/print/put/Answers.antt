-- `job_text::print::put` meets its contract: the word is copied into the part of its own length. Assumes nothing.
use mathlib.Core.Path.{refl, ◌∙◌, ap}
use Prim.Native.Nat.{◌+◌, ◌-◌}
use lib.ListN.{length}
use borrow.Rule.Slice.PartMut.{put_mid}
use Rattle.job_text.proofs.Written.{written-part}
use Rattle.job_text.proofs.print.put.Goals as goal

pub returns : goal.returns
returns c =
    let at = c.args.at in
    let word = c.args.word.now in
    let out = c.args.out.now in
    record {
      place = refl;
      bytes = ap (put_mid at (at + length word - at) out) c.copy_from_slice.ensures.after ∙ written-part at word out c.requires;
    }
