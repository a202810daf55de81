use Rattle.std.specs.Prelude.{Result, Ok}
use Rattle.std.specs.declared.alloc.AllocError.{AllocError}
use Rattle.std.proofs.Common.{◌≡◌, List, [], ◌∷◌, ◌++◌, length, refl, ap, sym, subst, ◌∙◌, append_assoc, arith}
use Rattle.std.proofs.lemmas.List.{append-nil}
use Rattle.hub_query.specs.declared.answer.Answer.{Answer}
use Rattle.hub_query.specs.Parts.{AreJoined}
use Rattle.hub_query.proofs.asking.join_parts.Goals as goal

abbrev whole : List Answer → List Answer
whole part = part

pub loop-part-preserved : goal.loop-part-preserved
loop-part-preserved c =
    let answers = c.loop-part.answers.items in
    let part = c.in_ok-part.field-0 in
    let seen : c.loop-part.part-iterator.rest.items ≡ Ok part ∷ c.next.new.self.rest.items = c.in-Some.ensures.steps.0 ∙ ap (λ x. x ∷ c.next.new.self.rest.items) c.in_ok-part.was in
    let grown : c.extend_from_slice.new.self.items ≡ answers ++ part = c.in_ok-extend_from_slice.ensures.items ∙ ap (λ xs. answers ++ xs) c.list-in-loop-part.ensures in
    λ rest j.
    subst (AreJoined whole c.args.parts.items) (sym (ap (λ rs. rs ++ rest) grown ∙ append_assoc answers part rest))
    (c.loop-part.invariant (part ++ rest) (subst (λ ps. AreJoined whole ps (part ++ rest)) (sym seen) (rest, refl, j)))

none_left : (parts : List (Result (List Answer) AllocError)) → length parts ≡ 0 → parts ≡ []
none_left [] none = refl
none_left (p ∷ parts) some = absurd (omega (arith, some))

pub returns : goal.returns
returns c =
    let none : c.loop-part.part-iterator.rest.items ≡ [] = none_left c.loop-part.part-iterator.rest.items (omega (arith, c.in-None.ensures.steps.0, c.loop-part.part-iterator.rest.ok.0)) in
    subst (AreJoined whole c.args.parts.items) (append-nil c.loop-part.answers.items ∙ sym c.new.ensures) (c.loop-part.invariant [] (subst (λ ps. AreJoined whole ps []) (sym none) refl))
