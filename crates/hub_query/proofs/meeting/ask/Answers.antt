use Rattle.std.proofs.Common.{rules, length, Some, None}
use Rattle.walk_laws.specs.Labelling.{label_row}
use Rattle.walk_laws.specs.Meet.{IsLeastSum, IsMeet}
use Rattle.walk_laws.proofs.AnswersOfPairs.{IsMeet-IsAnswer}
use Rattle.hub_query.proofs.RowFacts.{row_positions, HasSum-position}
use Rattle.hub_query.proofs.meeting.ask.Goals as goal

pub at-requires : goal.at-requires
at-requires c =
    let index = c.args.index.now in
    let first = label_row index.rows c.args.u in
    let second = label_row index.rows c.args.v in
    let found : IsLeastSum first second c.in-Some.pos c.in-Some.dist = c.in-Some.ensures in
    rw c.ranking-ranking.ensures.value
    (HasSum-position first second c.in-Some.pos c.in-Some.dist (length index.order) found.sum
    (row_positions index.order index.rows c.args.u c.ranking-ranking.ensures.well_formed c.requires.first c.requires.first_within))

pub returns-in-None-clause-meet : goal.returns-in-None-clause-meet
returns-in-None-clause-meet c = c.in-None.ensures

pub returns-in-Some-clause-meet : goal.returns-in-Some-clause-meet
returns-in-Some-clause-meet c = search rules

pub returns-in-None-clause-answer : goal.returns-in-None-clause-answer
returns-in-None-clause-answer c =
    let index = c.args.index.now in
    let meet : IsMeet index.order index.rows c.args.u c.args.v None = returns-in-None-clause-meet c in
    λ edges weights chl.
    (IsMeet-IsAnswer edges weights index.order c.ranking-ranking.ensures.well_formed.ranking c.args.u c.args.v c.requires.first c.requires.first_within c.requires.second c.requires.second_within index.rows chl None).0 meet

pub returns-in-Some-clause-answer : goal.returns-in-Some-clause-answer
returns-in-Some-clause-answer c =
    let index = c.args.index.now in
    let meet : IsMeet index.order index.rows c.args.u c.args.v (Some (c.in-Some.dist, c.at.result)) = returns-in-Some-clause-meet c in
    λ edges weights chl.
    (IsMeet-IsAnswer edges weights index.order c.ranking-ranking.ensures.well_formed.ranking c.args.u c.args.v c.requires.first c.requires.first_within c.requires.second c.requires.second_within index.rows chl (Some (c.in-Some.dist, c.at.result))).0 meet
