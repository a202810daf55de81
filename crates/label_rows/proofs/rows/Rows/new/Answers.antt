use Rattle.std.proofs.Common.{rules, ℕ, List, [], length, sym, ap, subst, ◌∙◌}
use Rattle.std.proofs.lemmas.List.{length-replicate}
use Rattle.atomic_table.specs.Table.{opening}
use Rattle.walk_laws.specs.declared.entry.Entry.{Entry}
use Rattle.label_rows.specs.declared.rule.About.{About}
use Rattle.label_rows.specs.Lawful.{IsLawful, first_view}
use Rattle.label_rows.proofs.Begins.{begins}
use Rattle.label_rows.proofs.rows.Rows.new.Goals as goal

pub new-requires : goal.new-requires
new-requires c =
    let about : About = record { graph = c.of.result; ranking = c.of-2.result; seats = c.args.seats } in
    let words = c.as_slice.ensures.value ∙ c.in_ok-words.ensures.items_if_clones_equal (λ y same. search rules) in
    subst (λ (t : List ℕ × List (List Entry)). IsLawful about (opening t.0 t.1 (first_view about))) (λ k. (sym words k, sym c.in_ok-slots.ensures k))
    (begins about c.n-n.result (ap length c.of-2.ensures ∙ sym c.n-n.ensures.value) c.requires.seats.0 c.requires.seats.1)

pub invariant_of-result : goal.invariant_of-result
invariant_of-result c =
    let made = c.in-Ok.ensures.ok in
    let none : List Entry = [] in (
      made.0 ∙ c.as_slice.ensures.len ∙ c.in_ok-words.ensures.len,
      made.1 ∙ ap length c.in_ok-slots.ensures ∙ length-replicate c.n-n.result none,
      ap (λ (about : About). length about.ranking.value) made.5 ∙ ap length c.of-2.ensures ∙ sym c.n-n.ensures.value,
    )
