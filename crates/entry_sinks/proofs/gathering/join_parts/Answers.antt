use Rattle.std.proofs.Common.{◌≡◌, ◌+◌, ◌^◌, ◌<◌, List, [], ◌∷◌, ◌++◌, length, map, refl, subst, sym, ap, ◌∙◌, arith, append_assoc}
use Rattle.std.proofs.lemmas.List.{append-nil, length-append}
use Rattle.entry_sinks.specs.declared.gathering.Part.{Part}
use Rattle.entry_sinks.specs.Sunk.{AreJoined, rows_in}
use Rattle.entry_sinks.proofs.gathering.join_parts.Goals as goal

none_left : (parts : List Part) → length parts ≡ 0 → parts ≡ []
none_left [] none = refl
none_left (p ∷ parts) some = absurd (omega (arith, some))

pub returns : goal.returns
returns c =
    let none : c.loop-part.part-iterator.rest.items ≡ [] = none_left c.loop-part.part-iterator.rest.items (omega (arith, c.in-None.ensures.steps.0, c.loop-part.part-iterator.rest.ok.0)) in
    subst (AreJoined (map (λ (part : Part). part.rows) c.args.parts.items)) (append-nil c.loop-part.rows)
    (c.loop-part.invariant.joined [] (subst (λ (parts : List Part). AreJoined (map (λ (part : Part). part.rows) parts) []) (sym none) refl))

pub loop-part-preserved : goal.loop-part-preserved
loop-part-preserved c =
    let rows = c.loop-part.rows in
    let made = c.in_ok-made.made in
    let left = map (λ (part : Part). part.rows) c.next.new.self.rest.items in
    let parts = ap (map (λ (part : Part). part.rows)) c.in-Some.ensures.steps.0 ∙ ap (λ one. one ∷ left) c.in_ok-made.ensures.ok_part in
    let grown = c.in_ok-append.ensures.ok in
    let few : length rows + (length made + rows_in left) < 2 ^ 32 = subst (λ ps. length rows + rows_in ps < 2 ^ 32) parts c.loop-part.invariant.few in
    let long = ap length grown ∙ length-append rows made in
    record {
      few = omega (arith, few, long);
      joined = λ rest j.
          subst (AreJoined (map (λ (part : Part). part.rows) c.args.parts.items))
          (sym (append_assoc rows made rest) ∙ ap (λ rs. rs ++ rest) (sym grown))
          (c.loop-part.invariant.joined (made ++ rest) (subst (λ ps. AreJoined ps (made ++ rest)) (sym parts) (rest, refl, j)));
    }
