use Rattle.std.proofs.Common.{◌≡◌, get_or, length, replicate, ap, ◌∙◌, rules}
use Rattle.std.proofs.lemmas.List.{get_or-replicate, length-replicate}
use Rattle.pool_view.proofs.chains.Chains.new.Goals as goal

pub returns : goal.returns
returns c =
    let heads : c.in_ok-vec.field-0.items ≡ replicate c.args.n 0 = c.in_ok-vec.ensures.items_if_clones_equal (λ y same. search rules) in
    record {
      size = ap length heads ∙ length-replicate c.args.n 0;
      none = λ k within. ap (λ hs. get_or hs k 0) heads ∙ get_or-replicate c.args.n k 0 0 within;
    }
