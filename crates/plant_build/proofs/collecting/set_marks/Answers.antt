use Rattle.std.proofs.Common.{◌≡◌, ℕ, ◌<◌, false, List, length, take, get_or, inl, inr, refl, subst, rules}
use Rattle.std.proofs.lemmas.List.{take_more, take_all}
use Rattle.std.proofs.lemmas.List.Elements.{Contains-get_or}
use Rattle.plant_build.specs.Marks.{mark, Adds}
use Rattle.plant_build.proofs.HeldParts.{Adds-none, Adds-more, both_false, unmarked}
use Rattle.plant_build.proofs.Harvests.{not_before}
use Rattle.plant_build.proofs.collecting.set_marks.Goals as goal

pub loop-number-init : goal.loop-number-init
loop-number-init c = Adds-none c.args.come.now c.args.come.now refl

pub loop-number-preserved : goal.loop-number-preserved
loop-number-preserved c =
    let i = c.loop-number.number-index in
    let numbers = c.args.numbers.now in
    let x = get_or numbers i 0 in
    let so_far = c.loop-number.invariant in
    let within : c.loop-number.number-index < length c.args.numbers.now = c.loop-number-test.true in
    let inside : get_or c.args.numbers.now c.loop-number.number-index 0 < length c.loop-number.come = search rules in
    let free : mark c.loop-number.come x ≡ false = unmarked (mark c.loop-number.come x)
    (λ marked. elim ((so_far.now x).0 marked) [
      | inl was ↦ both_false (mark c.args.come.now x) was (c.requires.fresh x (Contains-get_or numbers i 0 within))
      | inr there ↦ not_before numbers i c.requires.once within there
    ]) in
    rw (take_more numbers i 0 within) (Adds-more c.args.come.now c.loop-number.come (take i numbers) x so_far inside free)

pub returns : goal.returns
returns c = subst (λ (xs : List ℕ). Adds c.args.come.now xs c.loop-number.come) (take_all c.loop-number.number-index c.args.numbers.now c.loop-number-test.false) c.loop-number.invariant
