use Rattle.std.specs.Prelude.{Option, IfSome}
use Rattle.std.specs.Vec.{with_items}
use Rattle.std.proofs.Common.{◌≡◌, ℕ, ◌+◌, ◌<◌, ◌≤◌, List, [], ◌∷◌, length, map, get_or, subst, sym, ap, ◌∙◌, arith}
use Rattle.std.proofs.lemmas.List.{get_or-map, length-map, with_items_is}
use Rattle.std.proofs.lemmas.Result.{IfOk-weaker}
use Rattle.walk_laws.specs.declared.entry.Entry.{Entry}
use Rattle.walk_laws.specs.Labelling.{label_row}
use Rattle.entry_sinks.specs.declared.gathering.Part.{Part}
use Rattle.hub_index.specs.NodeEntries.{IsGatheredRow}
use Rattle.entry_sinks.specs.Sunk.{ranges_at, all_sunk, IsRangeOf, rows_in, AreJoined}
use Rattle.entry_sinks.proofs.Parts.{Made, parts_few, rows_of_parts}
use Rattle.entry_sinks.proofs.gathering.gather.Goals as goal
use Rattle.entry_sinks.proofs.gathering.gather.Goals.{After-for_each_mut}

abbrev rows_of : Part → Option (List (List Entry))
rows_of part = part.rows

-- what holds of the rows of each part
each_rows : (P : ℕ → Option (List (List Entry)) → Type 0) (parts : List Part) → ((i : ℕ) (d : Part) → i < length parts → P i (get_or parts i d).rows) → (i : ℕ) (e : Option (List (List Entry))) → i < length (map rows_of parts) → P i (get_or (map rows_of parts) i e)
each_rows P [] all i e lt = absurd (omega arith)
each_rows P (p ∷ parts) all i e lt =
    let within : i < length (p ∷ parts) = omega (arith, lt, length-map (p ∷ parts) rows_of) in
    subst (P i) (sym (get_or-map rows_of (p ∷ parts) i p e within)) (all i p within)

-- the part of each range was made of it
made : (g : _) (c : After-for_each_mut g) (i : ℕ) (d : Part) → i < length c.for_each_mut.new.s → Made c.args.sinks.items c.args.n i (get_or c.for_each_mut.new.s i d).rows
made g c i d lt =
    let sinks = c.args.sinks.items in
    let n = c.args.n in
    let changed = (c.for_each_mut.ensures i d (omega arith)).1 in
    let entries : changed.argument.now.entries.items ≡ ranges_at sinks i =
    ap (λ (p : Part). p.entries.items) changed.argument_is
    ∙ ap (λ (ps : List Part). (get_or ps i d).entries.items) c.deref_mut.ensures.value
    ∙ c.in_ok-parts.ensures.entries i d (omega arith) in
    subst (λ (p : Part). Made sinks n i p.rows) changed.left (changed.call.0, subst (λ lists. IfSome changed.after_call.now.rows (IsRangeOf lists n i)) entries changed.call.1)

-- so too as they stand after the threads
made_of : (g : _) (c : After-for_each_mut g) (i : ℕ) (e : Option (List (List Entry))) → i < length (map rows_of c.for_each_mut.new.s) → Made c.args.sinks.items c.args.n (0 + i) (get_or (map rows_of c.for_each_mut.new.s) i e)
made_of g c = each_rows (λ i part. Made c.args.sinks.items c.args.n (0 + i) part) c.for_each_mut.new.s (λ i d lt. let same : i ≡ 0 + i = omega arith in subst (λ k. Made c.args.sinks.items c.args.n k (get_or c.for_each_mut.new.s i d).rows) same (made g c i d lt))

pub join_parts-requires : goal.join_parts-requires
join_parts-requires g c =
    let kept = with_items_is c.in_ok-parts.parts c.for_each_mut.new.s (omega arith) in
    let few = parts_few c.args.sinks.items c.args.n (map rows_of c.for_each_mut.new.s) (made_of g (goal.at.join_parts-requires g c).After-for_each_mut) in
    omega (arith, c.ranges.n.fits, few, ap (λ (ps : List Part). rows_in (map rows_of ps)) kept)

-- the rows of all parts, joined, are those of all nodes
whole : (g : _) (c : After-for_each_mut g) (rows : List (List Entry)) → AreJoined (map rows_of (with_items c.in_ok-parts.parts c.for_each_mut.new.s).items) rows → (length rows ≡ c.args.n) × ((v : ℕ) → 1 ≤ v → v ≤ c.args.n → IsGatheredRow (all_sunk c.args.sinks.items v) (label_row rows v))
whole g c rows joined =
    let kept = with_items_is c.in_ok-parts.parts c.for_each_mut.new.s (omega arith) in
    rows_of_parts c.args.sinks.items c.args.n (map rows_of c.for_each_mut.new.s) rows c.requires (omega (arith, length-map c.for_each_mut.new.s rows_of, c.in_ok-parts.ensures.size, ap length c.deref_mut.ensures.value)) (made_of g c) (subst (λ (ps : List Part). AreJoined (map rows_of ps) rows) kept joined)

pub returns-clause-size : goal.returns-clause-size
returns-clause-size g c =
    IfOk-weaker c.join_parts.result _ (λ rows. length rows ≡ c.args.n) (λ rows joined. (whole g (goal.at.returns-clause-size g c).After-for_each_mut rows joined).0) c.join_parts.ensures

pub returns-clause-rows : goal.returns-clause-rows
returns-clause-rows g c =
    IfOk-weaker c.join_parts.result _ (λ rows. (v : ℕ) → 1 ≤ v → v ≤ c.args.n → IsGatheredRow (all_sunk c.args.sinks.items v) (label_row rows v)) (λ rows joined. (whole g (goal.at.returns-clause-rows g c).After-for_each_mut rows joined).1) c.join_parts.ensures
