use Rattle.std.proofs.Common.{◌≡◌, ◌+◌, ◌++◌, ◌∷◌, [], ◌∙◌, ℕ, List, length, sym, ap, ap₂, subst, refl, rules, arith}
use Rattle.std.proofs.lemmas.List.{length-append}
use Rattle.near_points.specs.declared.hit.Hit.{Hit}
use Rattle.near_points.specs.HitLists.{lists_from, AreEnds}
use Rattle.near_points.proofs.HitLists.{AreEnds-push, lists_push}
use Rattle.near_points.proofs.hits.Hits.push.Goals as goal

-- the end of one more list is where all hits end
pushed : (hits more now : List Hit) (ends then : List ℕ) (end : ℕ) → AreEnds 0 ends (length hits) → now ≡ hits ++ more → then ≡ ends ++ end ∷ [] → end ≡ length now → AreEnds 0 then (length now)
pushed hits more now ends then end are is grown last =
    let long : length now ≡ length hits + length more = ap length is ∙ length-append hits more in
    let all = AreEnds-push 0 ends (length hits) end are (omega (arith, last, long)) in
    subst (λ l. AreEnds 0 then l) last (subst (λ es. AreEnds 0 es end) (sym grown) all)

-- and the lists have one more
pushed_list : (hits more now : List Hit) (ends then : List ℕ) (end : ℕ) → AreEnds 0 ends (length hits) → now ≡ hits ++ more → then ≡ ends ++ end ∷ [] → end ≡ length now → lists_from 0 now then ≡ lists_from 0 hits ends ++ more ∷ []
pushed_list hits more now ends then end are is grown last =
    let long : end ≡ length hits + length more = last ∙ ap length is ∙ length-append hits more in
    ap₂ (lists_from 0) is (grown ∙ ap (λ e. ends ++ e ∷ []) long) ∙ lists_push 0 hits more ends (length hits) are refl

pub invariant_of-self-2 : goal.invariant_of-self-2
invariant_of-self-2 c =
    let last : c.len.result ≡ length c.extend_from_slice.new.self.items = search rules in
    pushed c.self.inside.hits.items c.args.hits.now c.extend_from_slice.new.self.items c.self.inside.ends.items c.push.new.self.items c.len.result c.self.invariant c.in_ok-extend_from_slice.ensures.items (c.in_ok-push.ensures.items ∙ ap (λ es. es ++ c.len.result ∷ []) c.reserve.ensures.items) last

pub returns : goal.returns
returns c =
    let last : c.len.result ≡ length c.extend_from_slice.new.self.items = search rules in
    record {
      ok = rw (← c.self.view_is) (pushed_list c.self.inside.hits.items c.args.hits.now c.extend_from_slice.new.self.items c.self.inside.ends.items c.push.new.self.items c.len.result c.self.invariant c.in_ok-extend_from_slice.ensures.items (c.in_ok-push.ensures.items ∙ ap (λ es. es ++ c.len.result ∷ []) c.reserve.ensures.items) last);
      err = tt;
    }
