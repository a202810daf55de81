use Rattle.std.specs.Prelude.{Ok}
use Rattle.std.proofs.Common.{◌≡◌, List, [], ◌∷◌, ◌++◌, length, refl, ap, sym, subst, ◌∙◌, append_assoc, arith}
use Rattle.std.proofs.lemmas.List.{append-nil}
use Rattle.hub_query.specs.Parts.{AreJoined}
use Rattle.chl_lines.proofs.printed.join_texts.Goals as goal

pub loop-part-preserved : goal.loop-part-preserved
loop-part-preserved c =
    let text = c.loop-part.text.items in
    let part = c.in_ok-part.field-0 in
    let seen : c.loop-part.part-iterator.rest.items ≡ Ok part ∷ c.next.new.self.rest.items = c.in-Some.ensures.steps.0 ∙ ap (λ x. x ∷ c.next.new.self.rest.items) c.in_ok-part.was in
    let grown : c.extend_from_slice.new.self.items ≡ text ++ part.items = c.in_ok-extend_from_slice.ensures.items ∙ ap (λ xs. text ++ xs) c.deref.ensures.value in
    λ rest j.
    subst (AreJoined (λ p. p.items) c.args.parts.items) (sym (ap (λ rs. rs ++ rest) grown ∙ append_assoc text part.items rest))
    (c.loop-part.invariant (part.items ++ rest) (subst (λ ps. AreJoined (λ p. p.items) ps (part.items ++ rest)) (sym seen) (rest, refl, j)))

none_left : {P : Type 0} (parts : List P) → length parts ≡ 0 → parts ≡ []
none_left [] none = refl
none_left (p ∷ parts) some = absurd (omega (arith, some))

pub returns : goal.returns
returns c =
    let none : c.loop-part.part-iterator.rest.items ≡ [] = none_left c.loop-part.part-iterator.rest.items (omega (arith, c.in-None.ensures.steps.0, c.loop-part.part-iterator.rest.ok.0)) in
    subst (AreJoined (λ p. p.items) c.args.parts.items) (append-nil c.loop-part.text.items) (c.loop-part.invariant [] (subst (λ ps. AreJoined (λ p. p.items) ps []) (sym none) refl))
