use Rattle.std.proofs.Common.{◌≡◌, List, [], ◌∷◌, ◌++◌, All, length, get_or, subst, sym, ap, ◌∙◌, append_assoc, arith}
use Rattle.std.proofs.lemmas.List.{with_items_is}
use Rattle.std.proofs.lemmas.List.Elements.{All-tail}
use Rattle.entry_sinks.specs.declared.gathering.Part.{Part}
use Rattle.entry_sinks.specs.Sunk.{Sunk, range_at, ranges_at}
use Rattle.entry_sinks.proofs.gathering.by_ranges.Goals as goal

pub loop-sink-preserved : goal.loop-sink-preserved
loop-sink-preserved c =
    let so_far = c.loop-sink.invariant in
    let old = c.loop-sink.parts.items in
    let new = c.add_sink.new.parts in
    let sink = c.in-Some.sink in
    let rest = c.next.new.self.rest.items in
    let seen = c.in-Some.ensures.steps.0 in
    let kept = with_items_is c.loop-sink.parts new (omega arith) in
    record {
      sizes = All-tail (λ (s : Sunk). s.n ≡ c.args.n) sink rest (subst (All (λ s. s.n ≡ c.args.n)) seen so_far.sizes);
      size = ap length kept ∙ c.in_ok-add_sink.ensures.size ∙ ap length c.deref_mut.ensures.value ∙ so_far.size;
      entries = λ r d lt.
          let before = (get_or old r d).entries.items in
          ap (λ (ps : List Part). (get_or ps r d).entries.items ++ ranges_at rest r) kept
          ∙ ap (λ es. es ++ ranges_at rest r) (c.in_ok-add_sink.ensures.entries r d (omega (arith, lt, ap length kept, c.in_ok-add_sink.ensures.size)) ∙ ap (λ (ps : List Part). (get_or ps r d).entries.items ++ range_at sink r ∷ []) c.deref_mut.ensures.value)
          ∙ append_assoc before (range_at sink r ∷ []) (ranges_at rest r)
          ∙ ap (λ ss. before ++ ranges_at ss r) (sym seen)
          ∙ so_far.entries r d (omega (arith, lt, ap length kept, c.in_ok-add_sink.ensures.size, ap length c.deref_mut.ensures.value));
    }
