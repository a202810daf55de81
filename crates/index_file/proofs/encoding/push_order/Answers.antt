use Rattle.std.proofs.Common.{◌≡◌, ◌∙◌, ap, sym, get_or, arith}
use Rattle.std.proofs.lemmas.Option.{get_or_from_slice_get}
use Rattle.index_file.specs.Layout.{word}
use Rattle.index_file.proofs.PutAfter.{put_after}
use Rattle.index_file.proofs.encoding.push_order.Goals as goal

pub loop-p-preserved : goal.loop-p-preserved
loop-p-preserved c =
    let order = c.args.index.now.order in
    let node : get_or order c.loop-p.p 0 ≡ c.at.result = ap (λ at. get_or at c.loop-p.p 0) (sym c.ranking.ensures.value) ∙ get_or_from_slice_get c.ranking.result.now c.loop-p.p c.at.result 0 c.at.ensures.value in
    put_after word order c.loop-p.p c.at.result 0 c.args.out.now.items c.loop-p.out.items c.push_word.new.out.items (omega (arith, c.n-p-end.ensures.value)) node c.loop-p.invariant c.in_ok-push_word.ensures
