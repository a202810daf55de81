use Rattle.std.proofs.Common.{◌≡◌, ◌-◌, ◌/◌, ◌<◌, ◌++◌, length, set, ap, ◌∙◌, rules}
use Rattle.std.proofs.lemmas.Result.{err_from_is_err_and}
use Rattle.hub_index.specs.NodeEntries.{entry_if}
use Rattle.entry_sinks.specs.Sunk.{range_of, sunk_at}
use Rattle.std.proofs.lemmas.List.{set-get_or}
use Rattle.entry_sinks.proofs.SunkEntries.{sunk_after}
use Rattle.entry_sinks.proofs.entry_sink.EntrySink.push.Goals as goal

pub returns-clause-put : goal.returns-clause-put
returns-clause-put c v =
    let inside = c.self.inside in
    let k = (c.args.node - 1) / c.range_width.result in
    let in_range : (c.args.node - 1) / c.range_width.result ≡ range_of c.self.inside.n c.args.node = ap (λ w. (c.args.node - 1) / w) c.range_width.ensures.value in
    let lt : (c.args.node - 1) / c.range_width.result < length c.self.inside.ranges.items = search rules in
    sunk_after inside.n inside.ranges.items k c.args.node v c.args.entry c.index_mut.result.now c.push.new.self in_range lt c.index_mut.ensures.value c.in_ok-push.ensures.ok
    ∙ ap (λ s. sunk_at s v ++ entry_if c.args.node v c.args.entry) c.self.view_is

pub returns-in_err-push-clause-err : goal.returns-in_err-push-clause-err
returns-in_err-push-clause-err c =
    let p = err_from_is_err_and c.from_residual.result c.from_residual.ensures.1 in
    let inside = c.self.inside in
    let stay = ap (set inside.ranges.items ((c.args.node - 1) / c.range_width.result)) (c.in_err-push.ensures.err ∙ c.index_mut.ensures.value) ∙ set-get_or inside.ranges.items ((c.args.node - 1) / c.range_width.result) c.index_mut.result.now in
    rw p.1 (ap (λ ranges. record { n = inside.n; ranges = ranges }) stay ∙ c.self.view_is)
