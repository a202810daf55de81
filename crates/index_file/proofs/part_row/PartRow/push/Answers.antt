use Rattle.std.proofs.Common.{◌≡◌, ◌≤◌, ◌^◌, All, true, false, ap, sym, subst, ◌∙◌, arith}
use Rattle.std.specs.Prelude.{◌+◌}
use Rattle.std.proofs.lemmas.Bool.{ltb-true}
use Rattle.std.proofs.lemmas.List.Elements.{All-push}
use Rattle.hub_index.specs.Reach.{IsBelow}
use Rattle.index_file.specs.Parts.{Part, least_after}
use Rattle.index_file.proofs.Rising.{least_after-push}
use Rattle.index_file.proofs.part_row.PartRow.push.Goals as goal
use Rattle.index_file.proofs.part_row.PartRow.push.Goals.{then-self, else-self}

-- the least position above the entries is that after the last one, and they are short where the last one is, too
pub invariant_of-self-2 : goal.invariant_of-self-2
invariant_of-self-2 c =
    let above : least_after c.self.inside.entries.items ≤ c.args.entry.pos = subst (λ (p : Part). least_after p.entries ≤ c.args.entry.pos) (sym c.self.view_is) c.requires in (
      ap (λ p. p + 1) c.from.ensures
          ∙ sym (ap least_after c.in_ok-push.ensures.items ∙ least_after-push c.self.inside.entries.items c.args.entry above),
      λ short. elim c.if-self.branch [
        | then-self w ↦
            subst (All (IsBelow (2 ^ 62))) (sym c.in_ok-push.ensures.items)
            (All-push (IsBelow (2 ^ 62)) c.self.inside.entries.items c.args.entry (c.self.invariant.1 w.if-self.true) (omega (arith, c.get-dist.ensures.value, ltb-true _ _ (sym w.self-is ∙ short))))
        | else-self w ↦ let no : c.if-self.self ≡ false = w.self-is ∙ w.if-self.false in let yes : c.if-self.self ≡ true = short in absurd cc
      ],
    )
