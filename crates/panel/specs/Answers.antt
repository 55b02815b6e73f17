-- What the panel's answer in the code says.
use Rattle.std.specs.declared.result.Result.{Result as Answer}
use Rattle.shape.specs.declared.answer.Refusal.{Refusal}
use Rattle.shape.specs.Answers.{Said, none, found_of, says}
use Rattle.panel.specs.Panel.{Reading, reading}
use Rattle.panel.specs.declared.Summary.{Summary}

abbrev pub summary_says : Summary → Reading
summary_says p = reading p.total (found_of p.first) p.read

-- a refusal has no row, and both its numbers are 0
abbrev pub panel_says : Answer Summary Refusal → Said Reading
panel_says = says (reading 0 none 0) summary_says
