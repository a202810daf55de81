use Rattle.std.proofs.Common.{◌≡◌, length, replicate, ap, ap₂, refl, sym, ◌∙◌, rules, arith}
use Rattle.std.proofs.lemmas.List.{length-replicate}
use Rattle.frontier.specs.declared.places.Place.{Place}
use Rattle.frontier.specs.Places.{told_all}
use Rattle.frontier.proofs.PlaceLemmas.{told-none}
use Rattle.frontier.proofs.places.Places.new.Goals as goal

pub invariant_of-result : goal.invariant_of-result
invariant_of-result g c =
    let blank : Place g.row.C.Denot = record { word = 0; carried = c.blank.result } in
    let all : c.loop.counter ≡ c.args.size = omega (arith, c.loop-test.false, c.loop.auto.counter-end) in
    let apart : c.in_ok-vec.field-0.items ≡ replicate c.args.size 0 = c.in_ok-vec.ensures.items_if_clones_equal (λ y same. search rules) in
    ap length apart ∙ length-replicate c.args.size 0 ∙ sym (ap length c.loop.invariant ∙ length-replicate c.loop.counter blank ∙ all)

pub returns : goal.returns
returns g c =
    let blank : Place g.row.C.Denot = record { word = 0; carried = c.blank.result } in
    let all : c.loop.counter ≡ c.args.size = omega (arith, c.loop-test.false, c.loop.auto.counter-end) in
    let apart : c.in_ok-vec.field-0.items ≡ replicate c.args.size 0 = c.in_ok-vec.ensures.items_if_clones_equal (λ y same. search rules) in
    ap₂ told_all (c.loop.invariant ∙ ap (λ n. replicate n blank) all) apart ∙ told-none blank 0 c.args.size refl
