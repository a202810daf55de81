use Rattle.std.specs.Prelude.{Ok}
use Rattle.std.proofs.Common.{◌≡◌, List, [], ◌∷◌, ◌++◌, length, refl, ap, sym, subst, ◌∙◌, append_assoc, arith}
use Rattle.std.proofs.lemmas.List.{append-nil}
use Rattle.near_points.specs.declared.hit.Hit.{Hit}
use Rattle.hub_query.specs.Parts.{AreJoined}
use Rattle.near_points.proofs.asking.join_parts.Goals as goal

abbrev whole : List (List Hit) → List (List Hit)
whole part = part

pub loop-part-preserved : goal.loop-part-preserved
loop-part-preserved c =
    let hits = c.loop-part.hits in
    let part = c.in_ok-part.field-0 in
    let seen : c.loop-part.part-iterator.rest.items ≡ Ok part ∷ c.next.new.self.rest.items = c.in-Some.ensures.steps.0 ∙ ap (λ x. x ∷ c.next.new.self.rest.items) c.in_ok-part.was in
    let grown : c.append.new.self ≡ hits ++ part = c.in_ok-append.ensures in
    λ rest j.
    subst (AreJoined whole c.args.parts.items) (sym (ap (λ rs. rs ++ rest) grown ∙ append_assoc hits part rest))
    (c.loop-part.invariant (part ++ rest) (subst (λ ps. AreJoined whole ps (part ++ rest)) (sym seen) (rest, refl, j)))

none_left : {P : Type 0} (parts : List P) → length parts ≡ 0 → parts ≡ []
none_left [] none = refl
none_left (p ∷ parts) some = absurd (omega (arith, some))

pub returns : goal.returns
returns c =
    let none : c.loop-part.part-iterator.rest.items ≡ [] = none_left c.loop-part.part-iterator.rest.items (omega (arith, c.in-None.ensures.steps.0, c.loop-part.part-iterator.rest.ok.0)) in
    subst (AreJoined whole c.args.parts.items) (append-nil c.loop-part.hits) (c.loop-part.invariant [] (subst (λ ps. AreJoined whole ps []) (sym none) refl))
