use Rattle.std.proofs.Common.{rules, ℕ, ◌*◌, List, [], replicate, refl, sym, ap, subst, ◌∙◌}
use Rattle.atomic_table.specs.Table.{opening}
use Rattle.label_pool.specs.declared.rule.About.{About}
use Rattle.label_pool.specs.Lawful.{IsLawful, first_view}
use Rattle.label_pool.proofs.Seats.{begins}
use Rattle.label_pool.proofs.pool.Pool.in_blocks.Goals as goal

pub of_words-requires : goal.of_words-requires
of_words-requires g c =
    let about : About g.row.F.Denot = record { n = c.args.n; cells = c.args.blocks * c.args.block; blocks = c.args.blocks; block = c.args.block; seats = c.args.seats; fact = c.args.fact } in
    let words = c.as_slice.ensures.value ∙ c.in_ok-words.ensures.items_if_clones_equal (λ y same. search rules) ∙ ap (λ count. replicate count 0) c.count_words.ensures in
    subst (λ (ws : List ℕ). IsLawful g.F.LinkFact.fact about (opening ws [] (first_view about))) (sym words)
    (begins g.F.LinkFact.fact about c.requires.n c.requires.cells c.requires.blocks.1 refl c.requires.seats.0 c.requires.seats.1)
