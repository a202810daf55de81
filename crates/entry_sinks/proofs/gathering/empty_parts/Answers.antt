use Rattle.std.proofs.Common.{◌≡◌, [], None, length, All, ap, sym, subst, arith}
use Rattle.std.proofs.lemmas.List.{length_push}
use Rattle.std.proofs.lemmas.List.Elements.{All-push}
use Rattle.entry_sinks.specs.declared.gathering.Part.{Part}
use Rattle.entry_sinks.proofs.gathering.empty_parts.Goals as goal

pub loop-preserved : goal.loop-preserved
loop-preserved c =
    let part : Part = record { entries = c.in_ok-entries.entries; rows = None } in
    record {
      size = omega (arith, ap length c.in_ok-push.ensures.items, length_push c.loop.parts.items part, c.loop.invariant.size);
      empty = subst (All (λ (p : Part). p.entries.items ≡ [])) (sym c.in_ok-push.ensures.items) (All-push (λ (p : Part). p.entries.items ≡ []) c.loop.parts.items part c.loop.invariant.empty c.in_ok-entries.ensures.items);
    }
