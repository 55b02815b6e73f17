-- `job_text::print::put_refusal` meets its contract: the end of the line is written after the word and the number. Assumes nothing.
use native.Mathlib.Omega.{arith}
use Rattle.job_text.specs.Text.{refused_word, refused_text}
use Rattle.job_text.proofs.Lengths.{item-short}
use Rattle.job_text.proofs.Written.{wrote-append}
use Rattle.job_text.proofs.print.put_refusal.Goals as goal

pub returns : goal.returns
unfolding refused_text
returns c =
    let short = item-short refused_word c.from.result in
    rw (← c.from.ensures) (wrote-append (omega arith) c.put_item-end.ensures c.put.ensures)
