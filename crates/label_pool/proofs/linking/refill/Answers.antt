use Rattle.std.proofs.Common.{◌≡◌, inl, inr, refl, ℕ, suc, ◌+◌, ◌-◌, ◌*◌, ◌<◌, ◌≤◌, ◌∷◌, [], ◌++◌, lt_of_mul-lt-mul_right, mul-le-mul_right, suc-mul, sym, ap, ◌∙◌, arith}
use Rattle.std.specs.List.{range_with_len}
use Rattle.table_seats.specs.Seats.{knowing}
use Rattle.table_seats.specs.Numbers.{numbers}
use Rattle.label_pool.specs.Fillings.{block_cells}
use Rattle.label_pool.proofs.Allowed.{draws_one}
use Rattle.label_pool.proofs.Calls.{drew-block}
use Rattle.label_pool.proofs.linking.refill.Goals as goal

pub returns-then-next-end-clause-ok : goal.returns-then-next-end-clause-ok
returns-then-next-end-clause-ok g c =
    let me = c.args.seat.now.me in
    let has = c.requires.reserve in
    record {
      blocks = me.0.knows.blocks;
      drew = inl (has.reserve, refl);
      after_is = λ k. (knowing me.0 (record me.0.knows { reserve = has.reserve k }), me.1);
      some = c.if-next-end.true;
      most = has.most;
      within = has.within;
    }

-- from a number up to none that is greater there are none
no-numbers : (next end : ℕ) → end ≤ next → numbers next end ≡ []
no-numbers next end least = let nothing : end - next ≡ 0 = omega (arith, least) in ap (range_with_len next) nothing

pub fetch_add-drawn-requires : goal.fetch_add-drawn-requires
fetch_add-drawn-requires g c =
    let empty = c.requires.reserve.reserve ∙ no-numbers c.args.next.now c.args.end.now c.if-next-end.false in
    (c.requires.table, c.requires.counter, draws_one _ _ _ _ _ c.requires.live empty c.requires.past)

pub returns-clause-ok : goal.returns-clause-ok
returns-clause-ok g c =
    let me = c.args.seat.now.me in
    let e = c.fetch_add-drawn.ensures.2 in
    let number = c.fetch_add-drawn.result in
    let size = c.args.block in
    let blocks = c.requires.whole.0 in
    let first_is : number * me.0.knows.block ≡ number * c.from.result = (λ k. number * (c.requires.block.0 ∙ sym c.from.ensures) k) in
    let start_is : number * c.from.result ≡ number * size = ap (λ k. number * k) c.from.ensures in
    let below : number * me.0.knows.block < me.0.knows.cells = omega (arith, first_is, c.if-first-from.false, c.from-2.ensures, c.requires.cells.0) in
    let low : number * size < blocks * size = omega (arith, start_is, c.if-first-from.false, c.from-2.ensures, c.requires.whole.1) in
    let few : suc number ≤ blocks = let f = lt_of_mul-lt-mul_right size low in omega (arith, f) in
    let most : suc number * size ≤ blocks * size = mul-le-mul_right size few in
    let next = suc-mul number size in
    let start : ℕ = number * c.from.result in
    let width : me.0.knows.block ≡ start + size - start = omega (arith, c.requires.block.0) in
    let reserve : block_cells me.0.knows.block number ≡ numbers start (start + size) = λ k. range_with_len (first_is k) (width k) in
    let view = e.0 ∙ ap (knowing me.0) (drew-block me.0.knows number below) ∙ (λ k. knowing me.0 (record me.0.knows { blocks = me.0.knows.blocks ++ number ∷ []; reserve = reserve k })) in
    record {
      blocks = me.0.knows.blocks ++ number ∷ [];
      drew = inr (c.requires.reserve.reserve ∙ no-numbers c.args.next.now c.args.end.now c.if-next-end.false, (number, refl, reserve));
      after_is = λ k. (view k, e.1 k);
      some = omega (arith, c.requires.block.1);
      most = omega (arith, c.requires.block.0);
      within = omega (arith, start_is, most, next, c.requires.whole.1, c.requires.cells.0);
    }
