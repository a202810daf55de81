use Rattle.std.proofs.Common.{◌≡◌, ◌∷◌, ◌++◌, Global, Vec, map, replicate, ap, ◌∙◌, List, [], length, arith}
use Rattle.std.proofs.lemmas.List.{length-map, length-replicate, map_push, replicate-append-replicate}
use Rattle.walk_laws.specs.declared.entry.Entry.{Entry}
use Rattle.hub_index.proofs.row_list.RowList.new.Goals as goal

abbrev items_of : Vec Entry Global → List Entry
items_of row = row.items

abbrev nothing : List Entry
nothing = []

pub loop-preserved : goal.loop-preserved
loop-preserved c =
    ap (map items_of) c.in_ok-push.ensures.items
    ∙ map_push items_of c.loop.rows.items c.new.result
    ∙ ap (λ rows. rows ++ items_of c.new.result ∷ []) c.loop.invariant
    ∙ ap (λ row. replicate c.loop.counter nothing ++ row ∷ []) c.new.ensures.items
    ∙ replicate-append-replicate c.loop.counter 1 nothing

pub invariant_of-result : goal.invariant_of-result
invariant_of-result c = omega (arith, length-map c.loop.rows.items items_of, ap length c.loop.invariant, length-replicate c.loop.counter nothing, c.ranges.n.fits)

pub returns : goal.returns
returns c =
    let all : c.loop.counter ≡ c.args.n = omega arith in
    c.loop.invariant ∙ ap (λ n. replicate n nothing) all
