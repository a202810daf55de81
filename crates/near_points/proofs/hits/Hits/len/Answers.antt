use Rattle.std.proofs.Common.{◌≡◌, length, sym, rules, ◌∙◌}
use Rattle.near_points.proofs.HitLists.{length-lists}
use Rattle.near_points.proofs.hits.Hits.len.Goals as goal

pub returns : goal.returns
returns c =
    let whole : length c.self.inside.ends.items ≡ c.len.result = search rules in
    rw (← c.self.view_is) (sym whole ∙ sym (length-lists 0 c.self.inside.hits.items c.self.inside.ends.items))
