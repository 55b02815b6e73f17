-- `job_text::print::put_item` meets its contract: the number is written after the word. Assumes nothing.
use native.Mathlib.Omega.{arith}
use Rattle.job_text.proofs.Written.{wrote-append}
use Rattle.job_text.proofs.print.put_item.Goals as goal

pub returns : goal.returns
returns c = wrote-append (omega arith) c.put-end.ensures c.put_number.ensures
