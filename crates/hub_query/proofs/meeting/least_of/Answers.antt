use Rattle.hub_query.proofs.meeting.least_of.Goals as goal

pub returns-then-is_short : goal.returns-then-is_short
returns-then-is_short c = rw (c.row.ensures.value, c.row-then-is_short.ensures.value) at c.least_short_sum.ensures

pub returns-else-is_short : goal.returns-else-is_short
returns-else-is_short c = rw (c.row-else-is_short.ensures.value, c.row-else-is_short-2.ensures.value) at c.least_sum.ensures
