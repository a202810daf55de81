use Rattle.std.proofs.Common.{◌≡◌, ◌-◌, ◌∷◌, ◌++◌, ℕ, List, length, take, drop, ap, sym, ◌∙◌, inl, inr, arith}
use Rattle.std.specs.Prelude.{slice_get, Some}
use Rattle.std.proofs.lemmas.List.{length-append, take_at}
use Rattle.via_trace.specs.Traces.{MeetBy}
use Rattle.via_trace.proofs.Ways.{meet_by, hub_is_node, both_ways}
use Rattle.via_trace.proofs.tracing.trace_by.Goals as goal
use Rattle.via_trace.proofs.tracing.trace_by.Goals.{After-pos-pos}

pub pos-pos-requires-clause-node : goal.pos-pos-requires-clause-node
pos-pos-requires-clause-node c = (hub_is_node c.args.traced.now c.args.u c.args.v c.args.hub c.args.dist c.requires.well_formed c.requires.meet).0

pub pos-pos-requires-clause-within : goal.pos-pos-requires-clause-within
pos-pos-requires-clause-within c = omega (arith, (hub_is_node c.args.traced.now c.args.u c.args.v c.args.hub c.args.dist c.requires.well_formed c.requires.meet).1, ap length c.requires.ranking)

-- the position is that of the hub
hub_place : (c : After-pos-pos) → slice_get c.args.traced.now.order c.pos-pos.result ≡ Some c.args.hub
hub_place c = ap (λ o. slice_get o c.pos-pos.result) (sym c.requires.ranking) ∙ c.pos-pos.ensures.inverse

-- so both rows have it
met : (c : After-pos-pos) → MeetBy c.args.traced.now c.args.u c.args.v c.args.hub c.pos-pos.result c.requires.meet.2.sum.before c.requires.meet.2.sum.after
met c = meet_by c.args.traced.now c.args.u c.args.v c.args.hub c.args.dist c.pos-pos.result c.requires.well_formed c.requires.meet (hub_place c)

pub returns-in-Some : goal.returns-in-Some
returns-in-Some c =
    let m = met (goal.at.returns-in-Some c).After-pos-pos in
    let broken = rw c.in-Some.is at c.in_ok-at.ensures in
    record { p = c.pos-pos.result; a = c.requires.meet.2.sum.before; b = c.requires.meet.2.sum.after; meet = m; breaks = inl (broken c.requires.meet.2.sum.before m.from_u) }

pub returns-in-Some-2 : goal.returns-in-Some-2
returns-in-Some-2 c =
    let up = (goal.at.returns-in-Some-2 c).After-pos-pos in
    let m = met up in
    let first = rw c.in_default.is at c.in_ok-at.ensures in
    let forth = first c.args.hub (hub_place up) c.requires.meet.2.sum.before m.from_u in
    let broken = rw c.in-Some-2.is at c.in_ok-at-2.ensures in
    record { p = c.pos-pos.result; a = c.requires.meet.2.sum.before; b = c.requires.meet.2.sum.after; meet = m; breaks = inr ((forth.0, forth.1), broken c.requires.meet.2.sum.after m.from_v) }

pub overflow_sub-len : goal.overflow_sub-len
overflow_sub-len c =
    let up = (goal.at.overflow_sub-len c).After-pos-pos in
    let second = rw c.in_default-2.is at c.in_ok-at-2.ensures in
    let back = second c.args.hub (hub_place up) c.requires.meet.2.sum.after (met up).from_v in
    let first = c.push_way.new.nodes.items in
    omega (arith, c.len.ensures, c.push_way-2.new.nodes.ok.0, ap length back.2, length-append c.push_way.new.nodes.items (c.args.v ∷ back.0))

pub turn_from-requires : goal.turn_from-requires
turn_from-requires c =
    let up = (goal.at.turn_from-requires c).After-pos-pos in
    let second = rw c.in_default-2.is at c.in_ok-at-2.ensures in
    let back = second c.args.hub (hub_place up) c.requires.meet.2.sum.after (met up).from_v in
    omega (
      arith,
      c.len-middle.ensures,
      c.push_way.new.nodes.ok.0,
      c.len.ensures,
      c.push_way-2.new.nodes.ok.0,
      ap length back.2,
      length-append c.push_way.new.nodes.items (c.args.v ∷ back.0),
      c.truncate.ensures.len,
      c.truncate.new.self.ok.0,
      ap length c.deref_mut.ensures.value,
    )

pub returns : goal.returns
returns c =
    let up = (goal.at.returns c).After-pos-pos in
    let m = met up in
    let first = rw c.in_default.is at c.in_ok-at.ensures in
    let forth = first c.args.hub (hub_place up) c.requires.meet.2.sum.before m.from_u in
    let second = rw c.in_default-2.is at c.in_ok-at-2.ensures in
    let back = second c.args.hub (hub_place up) c.requires.meet.2.sum.after m.from_v in
    let a = c.push_way.new.nodes in
    let b = c.push_way-2.new.nodes in
    let begun : c.push_way.new.nodes.items ≡ c.args.u ∷ forth.0 = forth.2 ∙ ap (λ (l : List ℕ). l ++ c.args.u ∷ forth.0) c.new-nodes.ensures.items in
    let long : c.len.result ≡ length c.push_way-2.new.nodes.items = omega (arith, c.len.ensures, b.ok.0) in
    let short : c.deref_mut.result.now ≡ take (length c.push_way-2.new.nodes.items - 1) c.push_way-2.new.nodes.items = c.deref_mut.ensures.value ∙ c.truncate.ensures.items ∙ ap (λ n. take (n - 1) c.push_way-2.new.nodes.items) long in
    let turned = c.turn_from.new.nodes in
    let kept : length c.turn_from.new.nodes ≡ c.truncate.new.self.len = omega (arith, c.turn_from.auto.nodes, ap length c.deref_mut.ensures.value, c.truncate.new.self.ok.0) in
    let written : c.new.result ≡ c.turn_from.new.nodes = c.new.ensures ∙ take_at turned (drop (length turned) c.truncate.new.self.items) c.truncate.new.self.len kept in
    record {
      hub = c.args.hub;
      p = c.pos-pos.result;
      a = c.requires.meet.2.sum.before;
      b = c.requires.meet.2.sum.after;
      meet = m;
      long = c.requires.meet.2.sum.long;
      forth = forth.0;
      back = back.0;
      to_hub = forth.1;
      from_hub = back.1;
      whole = both_ways c.args.u c.args.v forth.0 back.0 a.items b.items c.deref_mut.result.now c.new.result c.len-middle.result begun back.2 (omega (arith, c.len-middle.ensures, a.ok.0)) short (written ∙ c.turn_from.ensures);
    }
