use Rattle.std.proofs.Common.{◌+◌, [], ◌∷◌, ◌++◌, ap, ◌∙◌, sym, subst}
use Rattle.std.specs.Prelude.{None, slice_index}
use Rattle.label_pool.specs.declared.rule.Linked.{Linked}
use Rattle.label_pool.specs.Fillings.{linked_of}
use Rattle.label_pool.specs.Lawful.{IsLawful}
use Rattle.label_pool.specs.Layout.{head_at}
use Rattle.label_pool.specs.Laws.{with_step}
use Rattle.label_pool.proofs.Blocks.{got-once, open-at-hand}
use Rattle.label_pool.proofs.Cells.{chain-most, hand-unlinked, chains-apart}
use Rattle.label_pool.proofs.Seats as seats
use Rattle.label_pool.proofs.Steps as steps
use Rattle.label_pool.proofs.laws.the_rule_is_kept.Goals as goal

pub returns : goal.returns
returns g c =
    let fact = g.F.LinkFact.fact in
    record {
      first = λ about n cells block blocked some_seat few. seats.begins fact about n cells block blocked some_seat few;
      draw = λ about s id me lawful seat empty on. steps.draws fact about s id me seat.0 lawful seat.1 empty on;
      opened = λ about s id me cell rest x lawful seat empty is. steps.opens fact about s id me seat.0 lawful seat.1 cell rest x empty is;
      fill = λ about s id me f x lawful seat is. steps.fills_next fact about s id me seat.0 lawful seat.1 f is x;
      find = λ about s id me v lawful seat node. ((lawful.chains v node).0, (lawful.chains v node).1, steps.finds fact about s id me seat.0 lawful seat.1 v node);
      link = λ about s id me v cell next dist lawful seat node is names met.
          let chain = (lawful.chains v node).0 in
          let old = (lawful.chains v node).1 in
          let name_is = names ∙ old.head in (
            chain,
            old,
            subst (λ (l : Linked). IsLawful fact about (with_step s (head_at v) (cell + 1) id me (record me.knows { filling = None; puts = me.knows.puts ++ record { node = v; linked = l } ∷ []; marks = record { node = v; found = l ∷ chain } ∷ me.knows.marks })))
                (sym (ap linked_of is)) (steps.links fact about s id me seat.0 lawful seat.1 v node cell next dist is name_is met),
          );
      split = λ about s id me give lawful seat enough. seats.splits fact about s id me seat.0 lawful seat.1 give enough;
      join = λ about s id other me them lawful seat too apart empty empty_too. seats.joins fact about s id me seat.0 lawful seat.1 other them apart too.0 empty empty_too;
      short = λ about s v chain lawful old.
          let once = got-once about (slice_index s.words 0) s.views lawful.drawn lawful.got lawful.blocked in
          (chain-most about.cells s.views once v chain old.each_once, λ id seat f at is. hand-unlinked about.cells s.views once v chain old.each_once id seat f.cell at (open-at-hand seat.knows f is));
      apart = λ about s v u chain other lawful unlike old theirs. chains-apart about.cells s.views (got-once about (slice_index s.words 0) s.views lawful.drawn lawful.got lawful.blocked) v u chain other unlike old.each_once theirs.each_once;
    }
