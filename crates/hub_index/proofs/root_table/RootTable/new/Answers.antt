use Rattle.std.proofs.Common.{◌≡◌, ℕ, ◌-◌, ◌^◌, Option, None, replicate, rules}
use Rattle.hub_index.proofs.TouchedPositions.{HasTouched-new, clamped-none}
use Rattle.hub_index.proofs.root_table.RootTable.new.Goals as goal

pub invariant_of-result : goal.invariant_of-result
invariant_of-result c =
    let none : Option ℕ = None in
    let dists : c.in_ok-vec.field-0.items ≡ replicate c.args.n none = c.in_ok-vec.ensures.items_if_clones_equal (λ y same. search rules) in
    let clamped : c.in_ok-vec-2.field-0.items ≡ replicate c.args.n (2 ^ 32 - 1) = c.in_ok-vec-2.ensures.items_if_clones_equal (λ y same. search rules) in
    let touched : c.in_ok-vec-3.field-0.items ≡ replicate c.args.n 0 = c.in_ok-vec-3.ensures.items_if_clones_equal (λ y same. search rules) in
    rw (dists, clamped, touched) (HasTouched-new c.args.n, clamped-none c.args.n)
