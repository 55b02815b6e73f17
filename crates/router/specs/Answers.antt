-- What the router's answers in the code say.
use Rattle.std.specs.Prelude.{ℕ}
use Rattle.std.specs.declared.option.Option.{Option}
use Rattle.std.specs.declared.option.Option.TheVariants as options
use Rattle.std.specs.declared.result.Result.{Result as Answer}
use Rattle.shape.specs.Answers.{Said, says}
use Rattle.shape.specs.declared.answer.Refusal.{Refusal}
use Rattle.router.specs.Routes.{Destination, to, nowhere}
use Rattle.router.specs.declared.route.Sent.{Sent}

-- a row and its belt, or none
abbrev pub sent_to : Option Sent → Destination
sent_to (options.Some sent) = to sent.row sent.belt
sent_to options.None = nowhere

abbrev pub routed_says : Answer (Option Sent) Refusal → Said Destination
routed_says = says nowhere sent_to

-- a belt; that of a refusal is 0
abbrev pub belt_says : Answer ℕ Refusal → Said ℕ
belt_says = says 0 (λ belt. belt)
