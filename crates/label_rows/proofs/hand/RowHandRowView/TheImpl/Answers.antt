-- The calls of a hand keep what a view of rows promises.
use Rattle.std.proofs.Common.{refl, sym, ap, subst, ◌∙◌}
use Rattle.std.specs.Prelude.{None}
use Rattle.std.proofs.lemmas.List.{append-nil}
use mathlib.Core.Logic.{dite}
use native.Mathlib.Decide.{ℕ_discrete}
use Rattle.walk_laws.specs.Joined.{Joined}
use Rattle.walk_laws.specs.Labelling.{EntryFits}
use Rattle.hub_index.specs.RootDistances.{HoldsRow}
use Rattle.hub_index.specs.Views.{IsFound}
use Rattle.hub_index.proofs.FoundRows.{IsFound-onward}
use Rattle.label_rows.specs.declared.rule.Visit.{Visit}
use Rattle.label_rows.specs.Seats.{Seated, hand_kept}
use Rattle.label_rows.specs.Visits.{seen_of, puts_of, put_by, visit_of}
use Rattle.label_rows.proofs.SeenRows.{seen-else, puts-here, puts-else, put-after}
use Rattle.label_rows.proofs.hand.RowHandRowView.TheImpl.Goals as goal

pub load_root-tells : goal.load_root-tells
load_root-tells g c =
    let visit = c.ensures.visit in
    let old = c.args.self.now.visits in
    let made : Visit = visit_of c.args.h visit.0 None in
    let visits = ap (λ (seat : Seated). seat.visits) visit.3 in
    let fact = EntryFits (Joined c.args.self.now.rows.edges) c.args.self.now.rows.order c.args.h in
    record {
      edges = ap (λ (seat : Seated). seat.rows.edges) visit.3;
      order = ap (λ (seat : Seated). seat.rows.order) visit.3;
      kept = ap hand_kept visit.3;
      found = subst (IsFound fact (seen_of old c.args.h)) (sym visit.4) (IsFound-onward fact (seen_of old c.args.h) visit.0 visit.1);
      held = subst (HoldsRow c.new.table.now) (sym visit.4) visit.2;
      size = c.ensures.size;
      others = λ u _ other. ap (λ xs. seen_of xs u) visits ∙ seen-else old made u (λ is. other (sym is));
      puts = λ u. ap (λ xs. puts_of xs u) visits ∙ dite (ℕ_discrete c.args.h u) (λ here. puts-here old made u here ∙ append-nil (puts_of old u)) (λ other. puts-else old made u other);
    }

pub offer-tells : goal.offer-tells
offer-tells g c =
    let visit = c.ensures.visit in
    let old = c.args.self.now.visits in
    let made : Visit = visit_of c.args.v visit.0 (put_by c.args.entry c.result) in
    let visits = ap (λ (seat : Seated). seat.visits) visit.3 in
    record {
      edges = ap (λ (seat : Seated). seat.rows.edges) visit.3;
      order = ap (λ (seat : Seated). seat.rows.order) visit.3;
      kept = ap hand_kept visit.3;
      found = (
        visit.0,
        IsFound-onward (EntryFits (Joined c.args.self.now.rows.edges) c.args.self.now.rows.order c.args.v) (seen_of old c.args.v) visit.0 visit.1,
        visit.2,
        visit.4,
      );
      puts = ap (λ xs. puts_of xs c.args.v) visits ∙ puts-here old made c.args.v refl ∙ put-after (puts_of old c.args.v) c.args.entry c.result;
      others_seen = λ u _ other. ap (λ xs. seen_of xs u) visits ∙ seen-else old made u (λ is. other (sym is));
      others_puts = λ u _ other. ap (λ xs. puts_of xs u) visits ∙ puts-else old made u (λ is. other (sym is));
    }
