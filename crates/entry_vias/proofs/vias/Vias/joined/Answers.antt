use Rattle.std.proofs.Common.{◌≡◌, ◌+◌, ◌-◌, ◌^◌, ◌<◌, ◌≤◌, ◌++◌, ℕ, List, All, length, map, take, drop, ap, subst, sym, ◌∙◌, arith}
use Rattle.std.proofs.lemmas.List.{length-append, length-map, length-drop}
use Rattle.std.proofs.lemmas.List.Elements.{All-weaker}
use Rattle.entry_vias.specs.ViaLists.{lists_of, RiseUpTo}
use Rattle.entry_vias.proofs.Lists.{length-lists, lists-join, rise-join, starts-within, without_first}
use Rattle.entry_vias.proofs.vias.Vias.joined.Goals as goal
use Rattle.entry_vias.proofs.vias.Vias.joined.Goals.{In_ok-push_after}

pub push_after-requires : goal.push_after-requires
push_after-requires c =
    let others = c.others.inside.starts.items in
    let more = c.others.inside.flat.items in
    let within : All (λ s. s ≤ length c.others.inside.flat.items) (drop 1 c.others.inside.starts.items) = starts-within others (length more) c.others.invariant.0 in
    let held : take (length c.deref-2.result.now - 1) (drop 1 c.deref-2.result.now) ≡ drop 1 c.others.inside.starts.items = without_first c.deref-2.result.now ∙ ap (drop 1) c.deref-2.ensures.value in
    let grown : c.len.result ≡ length c.self.inside.flat.items + length more = omega (arith, c.len.ensures, c.extend_from_slice.new.self.ok.0, ap length (c.in_ok-extend_from_slice.ensures.items ∙ ap (λ xs. c.self.inside.flat.items ++ xs) c.deref.ensures.value), length-append c.self.inside.flat.items more) in
    subst (All (λ s. s + (c.len.result - c.len-2.result) < 2 ^ 64)) (sym held)
    (All-weaker (λ s. s ≤ length c.others.inside.flat.items) (λ s. s + (c.len.result - c.len-2.result) < 2 ^ 64) (λ s le. omega (arith, le, grown, c.len.type_inv, c.len-2.ensures, c.others.inside.flat.ok.0)) (drop 1 others) within)

-- the vias of both
flat_is : (c : In_ok-push_after) → c.extend_from_slice.new.self.items ≡ c.self.inside.flat.items ++ c.others.inside.flat.items
flat_is c = c.in_ok-extend_from_slice.ensures.items ∙ ap (λ xs. c.self.inside.flat.items ++ xs) c.deref.ensures.value

-- and their places
places_are : (c : In_ok-push_after) → c.push_after.new.starts.items ≡ c.self.inside.starts.items ++ map (λ s. s + length c.self.inside.flat.items) (drop 1 c.others.inside.starts.items)
places_are c =
    let held : take (length c.deref-2.result.now - 1) (drop 1 c.deref-2.result.now) ≡ drop 1 c.others.inside.starts.items = without_first c.deref-2.result.now ∙ ap (drop 1) c.deref-2.ensures.value in
    let by : c.len.result - c.len-2.result ≡ length c.self.inside.flat.items = omega (arith, c.len.ensures, c.extend_from_slice.new.self.ok.0, ap length (flat_is c), length-append c.self.inside.flat.items c.others.inside.flat.items, c.len-2.ensures, c.others.inside.flat.ok.0) in
    c.in_ok-push_after.ensures
    ∙ ap (λ (xs : List ℕ). c.self.inside.starts.items ++ map (λ s. s + (c.len.result - c.len-2.result)) xs) held
    ∙ ap (λ n. c.self.inside.starts.items ++ map (λ s. s + n) (drop 1 c.others.inside.starts.items)) by

pub invariant_of-result : goal.invariant_of-result
invariant_of-result c =
    let flat = c.self.inside.flat.items in
    let starts = c.self.inside.starts.items in
    let more = c.others.inside.flat.items in
    let others = c.others.inside.starts.items in
    let moved = map (λ s. s + length c.self.inside.flat.items) (drop 1 c.others.inside.starts.items) in
    let up : RiseUpTo (starts ++ moved) (length (flat ++ more)) = rise-join flat starts more others c.self.invariant.0 c.others.invariant.0 in (
      subst (λ xs. RiseUpTo c.push_after.new.starts.items (length xs)) (sym (flat_is c)) (subst (λ xs. RiseUpTo xs (length (flat ++ more))) (sym (places_are c)) up),
      omega (
        arith,
        ap length (places_are c),
        length-append starts moved,
        length-map (drop 1 others) (λ s. s + length flat),
        length-drop 1 others,
        length-lists flat starts (length flat) c.self.invariant.0,
        length-lists more others (length more) c.others.invariant.0,
        ap length c.self.view_is,
        ap length c.others.view_is,
        c.requires,
      ),
    )

pub returns : goal.returns
returns c =
    let flat = c.self.inside.flat.items in
    let starts = c.self.inside.starts.items in
    let more = c.others.inside.flat.items in
    let others = c.others.inside.starts.items in
    let up = (goal.at.returns c).In_ok-push_after in
    ap (λ xs. lists_of xs c.push_after.new.starts.items) (flat_is up)
    ∙ ap (lists_of (flat ++ more)) (places_are up)
    ∙ lists-join flat starts more others c.self.invariant.0 c.others.invariant.0
    ∙ ap (λ ls. ls ++ lists_of more others) c.self.view_is
    ∙ ap (λ ls. c.args.self ++ ls) c.others.view_is
