use Rattle.std.proofs.Common.{◌≡◌, ◌≢◌, ℕ, ◌+◌, ◌-◌, ◌<◌, None, All, Contains, length, get_or, take, set, sym, ap, subst, ◌∙◌, arith}
use Rattle.std.proofs.Math.ListN.{length-set}
use Rattle.std.proofs.lemmas.List.{get_or_read}
use Rattle.hub_index.specs.RootDistances.{root_distance}
use Rattle.hub_index.specs.Touched.{HasTouched}
use Rattle.hub_index.proofs.TouchedPositions.{last_within, held-but_last, all_none, none_in, HasTouched-none, clamped-set, clamped-length}
use Rattle.hub_index.proofs.root_table.RootTable.clear.Goals as goal
use Rattle.hub_index.proofs.root_table.RootTable.clear.Goals.{In-loop-self, After-loop-self}

-- the last position that is still to come
record Last (c : In-loop-self) : Type 0 where
  pub room : c.loop-self.self-inside.count - 1 < length c.loop-self.self-inside.touched.items
  pub before : All (λ x. x < length c.loop-self.self-inside.dists.items) (take (c.loop-self.self-inside.count - 1) c.loop-self.self-inside.touched.items)
  pub inside : get_or c.loop-self.self-inside.touched.items (c.loop-self.self-inside.count - 1) 0 < length c.loop-self.self-inside.dists.items
  pub held : (p : ℕ) → root_distance c.loop-self.self-inside.dists.items p ≢ None → Contains (take (c.loop-self.self-inside.count - 1 + 1) c.loop-self.self-inside.touched.items) p

last_of : (c : In-loop-self) → Last c
last_of c =
    let was = c.loop-self.invariant in
    let one_more : c.loop-self.self-inside.count ≡ c.loop-self.self-inside.count - 1 + 1 = omega (arith, c.loop-self-test.true) in
    let room : c.loop-self.self-inside.count - 1 < length c.loop-self.self-inside.touched.items = omega (arith, c.loop-self-test.true, was.few) in
    let both = last_within (length c.loop-self.self-inside.dists.items) c.loop-self.self-inside.touched.items (c.loop-self.self-inside.count - 1) room (subst (λ k. All (λ x. x < length c.loop-self.self-inside.dists.items) (take k c.loop-self.self-inside.touched.items)) one_more was.within) in
    record {
      room = room;
      before = both.0;
      inside = both.1;
      held = λ p held. subst (λ k. Contains (take k c.loop-self.self-inside.touched.items) p) one_more (was.held p held);
    }

pub loop-self-preserved : goal.loop-self-preserved
loop-self-preserved c =
    let was = c.loop-self.invariant in
    let last = last_of (goal.at.loop-self-preserved c).In-loop-self in
    let now : length (set c.loop-self.self-inside.dists.items c.index-pos.result.now None) ≡ length c.loop-self.self-inside.dists.items = length-set c.loop-self.self-inside.dists.items c.index-pos.result.now None in
    let rest = held-but_last c.loop-self.self-inside.dists.items c.loop-self.self-inside.touched.items (c.loop-self.self-inside.count - 1) last.room last.inside last.held in
    record {
      size = now ∙ was.size;
      room = was.room ∙ sym now;
      few = omega (arith, last.room);
      within = subst (λ n. All (λ x. x < n) (take (c.loop-self.self-inside.count - 1) c.loop-self.self-inside.touched.items)) (sym now) last.before;
      tested = clamped-set c.loop-self.self-inside.dists.items c.loop-self.self-inside.clamped.items c.index-pos.result.now None was.tested;
      held = subst (λ x. (p : ℕ) → root_distance (set c.loop-self.self-inside.dists.items x None) p ≢ None → Contains (take (c.loop-self.self-inside.count - 1) c.loop-self.self-inside.touched.items) p) (sym (get_or_read c.loop-self.self-inside.touched.items (c.loop-self.self-inside.count - 1) _ last.room c.index-pos.ensures 0)) rest;
    }

-- no position has a distance in the end
emptied : (c : After-loop-self) → (p : ℕ) → root_distance c.loop-self.self-inside.dists.items p ≢ None → ⊥
emptied c p held =
    let over : c.loop-self.self-inside.count ≡ 0 = omega (arith, c.loop-self-test.false) in
    none_in p (subst (λ k. Contains (take k c.loop-self.self-inside.touched.items) p) over (c.loop-self.invariant.held p held))

pub invariant_of-self : goal.invariant_of-self
invariant_of-self c =
    let over : 0 ≡ c.loop-self.self-inside.count = omega (arith, c.loop-self-test.false) in (
      subst (HasTouched c.loop-self.self-inside.dists.items c.loop-self.self-inside.touched.items) over
          (HasTouched-none c.loop-self.self-inside.dists.items c.loop-self.self-inside.touched.items c.loop-self.invariant.room (emptied (goal.at.invariant_of-self c).After-loop-self)),
      c.loop-self.invariant.tested,
    )

pub returns : goal.returns
returns c = all_none c.loop-self.self-inside.dists.items (length c.args.self.now) (c.loop-self.invariant.size ∙ ap length c.self.view_is) (emptied (goal.at.returns c).After-loop-self)

pub index_mut-requires-in-loop-self : goal.index_mut-requires-in-loop-self
index_mut-requires-in-loop-self c =
    let was = c.loop-self.invariant in
    let last = last_of (goal.at.index_mut-requires-in-loop-self c).In-loop-self in
    let inside = subst (λ x. x < length c.loop-self.self-inside.dists.items) (sym (get_or_read c.loop-self.self-inside.touched.items (c.loop-self.self-inside.count - 1) _ last.room c.index-pos.ensures 0)) last.inside in
    omega (arith, inside, clamped-length c.loop-self.self-inside.dists.items c.loop-self.self-inside.clamped.items was.tested, c.loop-self.self-inside.clamped.ok.0)
