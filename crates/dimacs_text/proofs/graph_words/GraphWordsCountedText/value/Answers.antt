use Rattle.std.proofs.Common.{◌≡◌, ◌<◌, Ok, length, get_or, sym, ◌∙◌, arith}
use Rattle.std.proofs.lemmas.List.{get_or_default}
use Rattle.dimacs_text.proofs.ArcFacts.{accepted_graph, edges_back}
use Rattle.dimacs_text.proofs.graph_words.GraphWordsCountedText.value.Goals as goal

pub new-requires : goal.new-requires
new-requires c =
    let some : 0 < length c.args.counts.items = omega (arith, c.requires.counted) in
    let n_is : c.index.result.now ≡ get_or c.args.counts.items 0 0 = c.index.ensures ∙ get_or_default c.args.counts.items 0 c.index.result.now 0 some in
    rw n_is (accepted_graph c.args.self c.args.counts.items c.args.items.items c.requires)

pub returns-clause-ok : goal.returns-clause-ok
returns-clause-ok c =
    let some : 0 < length c.args.counts.items = omega (arith, c.requires.counted) in
    let n_is : c.index.result.now ≡ get_or c.args.counts.items 0 0 = c.index.ensures ∙ get_or_default c.args.counts.items 0 c.index.result.now 0 some in
    λ i. Ok (record { n = sym (c.in_ok-graph.ensures.n ∙ n_is) i; edges = (edges_back c.args.items.items ∙ sym c.in_ok-graph.ensures.edges) i })
