-- `array::lines::line_lent` meets its contract: the row is one of the lines, and its byte is set. Assumes nothing.
use mathlib.Core.List.{[]}
use Rattle.shape.proofs.Calling.{call-done}
use Rattle.array_memory.specs.Memory.{with_lines}
use Rattle.array.specs.Calls.{line_set, line_call}
use Rattle.array.proofs.lines.line_lent.Goals as goal

-- the byte stands
pub returns : goal.returns
unfolding line_call line_set
returns c = λ mem. call-done _ [] (with_lines c.args.lines.now mem) _ c.requires.none
