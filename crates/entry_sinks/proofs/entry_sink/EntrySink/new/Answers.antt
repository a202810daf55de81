use Rattle.std.proofs.Common.{◌≡◌, ℕ, ◌/◌, zero, suc, List, [], ◌∷◌, ◌++◌, length, get_or, replicate, refl, ap, ◌∙◌, arith}
use Rattle.std.proofs.lemmas.List.{length-replicate, replicate-append-replicate}
use Rattle.hub_index.specs.declared.node_entry.NodeEntry.{NodeEntry}
use Rattle.hub_index.specs.NodeEntries.{entries_of_node}
use Rattle.entry_sinks.specs.Sunk.{range_of}
use Rattle.entry_sinks.proofs.entry_sink.EntrySink.new.Goals as goal

abbrev nothing : List NodeEntry
nothing = []

-- no range has an entry
none_there : (count r : ℕ) → get_or (replicate count nothing) r nothing ≡ nothing
none_there zero r = refl
none_there (suc count) zero = refl
none_there (suc count) (suc r) = none_there count r

pub loop-preserved : goal.loop-preserved
loop-preserved c =
    c.in_ok-push.ensures.items
    ∙ ap (λ lists. lists ++ c.new.result ∷ []) c.loop.invariant
    ∙ ap (λ list. replicate c.loop.counter nothing ++ list ∷ []) c.new.ensures
    ∙ replicate-append-replicate c.loop.counter 1 nothing

pub invariant_of-result : goal.invariant_of-result
invariant_of-result c = omega (arith, ap length c.loop.invariant, length-replicate c.loop.counter nothing, ap (λ width. c.args.n / width) c.range_width.ensures.value)

pub returns-clause-empty : goal.returns-clause-empty
returns-clause-empty c v =
    ap (λ ranges. entries_of_node (get_or ranges (range_of c.args.n v) nothing) v) c.loop.invariant
    ∙ ap (λ entries. entries_of_node entries v) (none_there c.loop.counter (range_of c.args.n v))
