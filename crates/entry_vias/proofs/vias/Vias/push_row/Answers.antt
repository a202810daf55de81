use Rattle.std.proofs.Common.{◌≡◌, ◌+◌, ◌∷◌, ◌++◌, [], length, ap, subst, sym, ◌∙◌, arith}
use Rattle.std.proofs.lemmas.List.{length-append}
use Rattle.entry_vias.specs.ViaLists.{lists_of, RiseUpTo}
use Rattle.entry_vias.proofs.Lists.{length-lists, lists-push, rise-push}
use Rattle.entry_vias.proofs.vias.Vias.push_row.Goals as goal
use Rattle.entry_vias.proofs.vias.Vias.push_row.Goals.{In_ok-push}

-- the list ends where all lists end
end_is : (c : In_ok-push) → c.len-end.result ≡ length c.self.inside.flat.items + length c.args.row.now
end_is c = omega (arith, c.len-end.ensures, c.extend_from_slice.new.self.ok.0, ap length c.in_ok-extend_from_slice.ensures.items, length-append c.self.inside.flat.items c.args.row.now)

pub invariant_of-self-2 : goal.invariant_of-self-2
invariant_of-self-2 c =
    let flat = c.self.inside.flat.items in
    let starts = c.self.inside.starts.items in
    let end = c.len-end.result in
    let places : c.push.new.self.items ≡ c.self.inside.starts.items ++ c.len-end.result ∷ [] = c.in_ok-push.ensures.items ∙ ap (λ xs. xs ++ end ∷ []) c.in_ok-reserve.ensures.items in
    let all : c.len-end.result ≡ length c.extend_from_slice.new.self.items = omega (arith, c.len-end.ensures, c.extend_from_slice.new.self.ok.0) in
    let up : RiseUpTo (starts ++ end ∷ []) end = rise-push flat c.args.row.now starts end (end_is c) c.self.invariant.0 in (
      subst (RiseUpTo c.push.new.self.items) all (subst (λ xs. RiseUpTo xs end) (sym places) up),
      omega (arith, ap length places, length-append starts (end ∷ []), length-lists flat starts (length flat) c.self.invariant.0, ap length c.self.view_is, c.requires),
    )

pub returns-clause-ok : goal.returns-clause-ok
returns-clause-ok c =
    let flat = c.self.inside.flat.items in
    let starts = c.self.inside.starts.items in
    let end = c.len-end.result in
    let row = c.args.row.now in
    let places : c.push.new.self.items ≡ c.self.inside.starts.items ++ c.len-end.result ∷ [] = c.in_ok-push.ensures.items ∙ ap (λ xs. xs ++ end ∷ []) c.in_ok-reserve.ensures.items in
    ap (λ xs. lists_of xs c.push.new.self.items) c.in_ok-extend_from_slice.ensures.items
    ∙ ap (lists_of (flat ++ row)) places
    ∙ lists-push flat row starts end (end_is c) c.self.invariant.0
    ∙ ap (λ ls. ls ++ row ∷ []) c.self.view_is
