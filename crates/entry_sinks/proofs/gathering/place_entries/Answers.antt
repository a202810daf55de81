use Rattle.std.proofs.Common.{◌≡◌, ◌≢◌, ℕ, ◌+◌, ◌<◌, List, ◌++◌, length, map, get_or, take, sym, ap, ◌∙◌, append_assoc, arith}
use Rattle.std.proofs.Math.ListN.{length-set}
use Rattle.std.proofs.lemmas.List.{append-nil, get_or_default, get_or-map, length-map}
use Rattle.walk_laws.specs.Labelling.{label_row}
use Rattle.hub_index.specs.declared.node_entry.NodeEntry.{NodeEntry}
use Rattle.hub_index.specs.NodeEntries.{entries_of_node, entry_if, entry_of}
use Rattle.hub_index.proofs.GatheredRows.{entries_of_node-more, entry_if-other}
use Rattle.entry_sinks.proofs.SunkEntries.{row_after}
use Rattle.entry_sinks.proofs.gathering.place_entries.Given as given
use Rattle.entry_sinks.proofs.gathering.place_entries.Goals as goal
use Rattle.entry_sinks.proofs.gathering.place_entries.Goals.{After-widened-e}

abbrev nothing : NodeEntry
nothing = record { node = 0; pos = 0; dist = 0 }

-- the entries in full room
abbrev entries : (g : given.Over) (c : After-widened-e g) → List NodeEntry
entries g c = map (λ e. g.E.AnyNodeEntry.entry e) c.args.entries.now

-- that of the round stands there
within : (g : given.Over) (c : After-widened-e g) → c.loop-e.e-index < length (entries g c)
within g c = omega (arith, length-map c.args.entries.now (λ e. g.E.AnyNodeEntry.entry e), c.loop-e-test.true)

here : (g : given.Over) (c : After-widened-e g) → c.widened-e.result ≡ get_or (entries g c) c.loop-e.e-index nothing
here g c =
    c.widened-e.ensures
    ∙ ap (λ e. g.E.AnyNodeEntry.entry e) c.e-item.is
    ∙ sym (get_or-map (λ e. g.E.AnyNodeEntry.entry e) c.args.entries.now c.loop-e.e-index c.e-item.result c.widened-e.result c.loop-e-test.true)
    ∙ get_or_default (entries g c) c.loop-e.e-index c.widened-e.result nothing (within g c)

-- an entry of another node is passed over
passed_over : (es : List NodeEntry) (i w : ℕ) → i < length es → (get_or es i nothing).node ≢ w → entries_of_node (take (i + 1) es) w ≡ entries_of_node (take i es) w
passed_over es i w within other =
    entries_of_node-more es i w nothing within
    ∙ ap (λ ys. entries_of_node (take i es) w ++ ys) (entry_if-other (get_or es i nothing).node w (entry_of (get_or es i nothing)) other)
    ∙ append-nil (entries_of_node (take i es) w)

pub loop-e-preserved-then-e-before : goal.loop-e-preserved-then-e-before
loop-e-preserved-then-e-before g c =
    let up = (goal.at.loop-e-preserved-then-e-before g c).After-widened-e in
    let item = here g up in
    record {
      size = c.loop-e.invariant.size;
      gains = λ v from to.
          c.loop-e.invariant.gains v from to
          ∙ ap (λ es. label_row c.args.rows.now v ++ es) (sym (passed_over (entries g up) c.loop-e.e-index (c.args.before + v) (within g up) (λ same. absurd (omega (arith, ap (λ (y : NodeEntry). y.node) item, same, c.if-e-before.true, from)))));
    }

pub loop-e-preserved-then-place-n : goal.loop-e-preserved-then-place-n
loop-e-preserved-then-place-n g c =
    let up = (goal.at.loop-e-preserved-then-place-n g c).After-widened-e in
    let item = here g up in
    record {
      size = c.loop-e.invariant.size;
      gains = λ v from to.
          c.loop-e.invariant.gains v from to
          ∙ ap (λ es. label_row c.args.rows.now v ++ es) (sym (passed_over (entries g up) c.loop-e.e-index (c.args.before + v) (within g up) (λ same. absurd (omega (arith, ap (λ (y : NodeEntry). y.node) item, same, c.if-e-before.false, c.if-place-n.true, c.n.ensures, c.loop-e.invariant.size, to)))));
    }

pub loop-e-preserved : goal.loop-e-preserved
loop-e-preserved g c =
    let up = (goal.at.loop-e-preserved g c).After-widened-e in
    let x : NodeEntry = c.widened-e.result in
    let list = entries g up in
    record {
      size = ap length c.in_ok-push.ensures.ok ∙ length-set c.loop-e.rows _ _ ∙ c.loop-e.invariant.size;
      gains = λ v from to.
          ap (λ rows. label_row rows v) c.in_ok-push.ensures.ok
          ∙ row_after c.loop-e.rows c.args.before x.node v c.entry.result c.if-e-before.false (omega (arith, c.if-place-n.false, c.n.ensures)) from (omega (arith, to, c.loop-e.invariant.size))
          ∙ ap (λ e. label_row c.loop-e.rows v ++ entry_if x.node (c.args.before + v) e) c.entry.ensures
          ∙ ap (λ es. es ++ entry_if x.node (c.args.before + v) (entry_of x)) (c.loop-e.invariant.gains v from to)
          ∙ append_assoc (label_row c.args.rows.now v) (entries_of_node (take c.loop-e.e-index list) (c.args.before + v)) (entry_if x.node (c.args.before + v) (entry_of x))
          ∙ ap (λ (y : NodeEntry). label_row c.args.rows.now v ++ (entries_of_node (take c.loop-e.e-index list) (c.args.before + v) ++ entry_if y.node (c.args.before + v) (entry_of y))) (here g up)
          ∙ ap (λ ys. label_row c.args.rows.now v ++ ys) (sym (entries_of_node-more list c.loop-e.e-index (c.args.before + v) nothing (within g up)));
    }
