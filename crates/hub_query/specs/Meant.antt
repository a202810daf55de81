-- What an answer says of its pair (pruned landmark labelling, SIGMOD 2013).
use Rattle.std.specs.Prelude.{ℕ, Option, Some, None}
use Rattle.walk_laws.specs.Meet.{IsMeet}
use Rattle.hub_index.specs.HubIndex.{HubIndex}
use Rattle.hub_query.specs.declared.answer.Answer.{Answer}
use Rattle.hub_query.specs.declared.answer.Answer.TheVariants.{Far, Near}

-- the distance and the hub, or None where the two nodes share no hub
abbrev pub meant : Answer → Option (ℕ × ℕ)
meant Far = None
meant (Near hub dist) = Some (dist, hub)

-- the answer is what the rows of the pair's nodes say
abbrev pub IsMeetOf : HubIndex → ℕ × ℕ → Answer → Type 0
IsMeetOf index pair answer = IsMeet index.order index.rows pair.0 pair.1 (meant answer)
