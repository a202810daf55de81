use Rattle.std.proofs.Common.{◌≡◌, inl, inr, ℕ, ◌+◌, ◌<◌, List, [], ◌∷◌, ◌++◌, length, get_or, set, sym, ap, ◌∙◌, arith}
use Rattle.std.proofs.Math.ListN.{length-set}
use Rattle.std.proofs.Math.Seq.{get_or-append_seam}
use Rattle.std.proofs.lemmas.Bool.{cases_eq}
use Rattle.std.proofs.lemmas.List.{get_or_default, get_or-set_other, get_or-set_same, get_or_append_left, length_push}
use Rattle.hub_index.specs.declared.node_entry.NodeEntry.{NodeEntry}
use Rattle.entry_sinks.specs.declared.gathering.Part.{Part}
use Rattle.entry_sinks.specs.Sunk.{range_at}
use Rattle.entry_sinks.proofs.gathering.add_sink.Goals as goal

-- what the last range and those before it hold
module _ (ranges left : List (List NodeEntry)) (last : List NodeEntry) (whole : ranges ≡ left ++ last ∷ []) where
  before_last : (r : ℕ) → r < length left → get_or left r [] ≡ get_or ranges r []
  before_last r low = sym (get_or_append_left left (last ∷ []) [] r low) ∙ ap (λ lists. get_or lists r []) (sym whole)

  at_last : (p : ℕ) → p ≡ length left → last ≡ get_or ranges p []
  at_last p is = sym (ap (λ lists. get_or lists p []) whole ∙ ap (λ k. get_or (left ++ last ∷ []) k []) is ∙ get_or-append_seam left last [] [])

pub loop-entries-preserved : goal.loop-entries-preserved
loop-entries-preserved c =
    let was = c.loop-entries.invariant in
    let parts = c.loop-entries.parts in
    let ranges = c.loop-entries.ranges.items in
    let left = c.pop.new.self.items in
    let p = c.len-range.result in
    let new : Part = record { entries = c.push.new.self; rows = (get_or c.loop-entries.parts c.len-range.result c.index-parts-range.result).rows } in
    let whole = c.in-Some.ensures.items in
    let one_less : length c.loop-entries.ranges.items ≡ length c.pop.new.self.items + 1 = ap length c.in-Some.ensures.items ∙ length_push left c.in-Some.entries in
    let p_is : c.len-range.result ≡ length c.pop.new.self.items = omega (arith, c.len-range.ensures, c.pop.new.self.ok.0) in
    let inside : c.len-range.result < length c.loop-entries.parts = omega (arith, one_less, p_is, was.few) in
    record {
      size = length-set parts p new ∙ was.size;
      few = omega (arith, length-set parts p new, one_less, was.few);
      left = λ r low. before_last ranges left c.in-Some.entries whole r low ∙ was.left r (omega (arith, low, one_less));
      same = λ r d low. get_or-set_other parts p r new d (λ is. absurd (omega (arith, is, p_is, low))) ∙ was.same r d (omega (arith, low, one_less));
      gained = λ r d high low. elim (cases_eq r p) [
        | inl here ↦ ap (λ (k : ℕ). (get_or (set c.loop-entries.parts c.len-range.result new) k d).entries.items) here
            ∙ ap (λ (x : Part). x.entries.items) (get_or-set_same parts p new d inside)
            ∙ c.in_ok-push.ensures.items
            ∙ ap (λ (x : Part). x.entries.items ++ c.in-Some.entries ∷ []) (get_or_default parts p c.index-parts-range.result d inside ∙ was.same p d (omega (arith, one_less, p_is)))
            ∙ ap (λ (list : List NodeEntry). (get_or c.args.parts.now c.len-range.result d).entries.items ++ list ∷ []) (at_last ranges left c.in-Some.entries whole p p_is ∙ was.left p (omega (arith, one_less, p_is)))
            ∙ ap (λ (k : ℕ). (get_or c.args.parts.now k d).entries.items ++ range_at c.args.sink k ∷ []) (sym here)
        | inr other ↦ ap (λ (x : Part). x.entries.items) (get_or-set_other parts p r new d other) ∙ was.gained r d (omega (arith, high, p_is, one_less, other)) (omega (arith, low, length-set parts p new))
      ];
    }
