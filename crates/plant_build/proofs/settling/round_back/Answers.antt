use Rattle.std.proofs.Common.{◌≡◌, ◌+◌, ◌%◌, ◌<◌, List, length, get_or, sym, ap, ◌∙◌, subst, arith}
use Rattle.std.specs.Prelude.{slice_get, Some}
use Rattle.std.proofs.Math.Seq.{map-set_same}
use Rattle.std.proofs.Math.Nat.{mod-lt}
use Rattle.std.proofs.lemmas.List.{length-map}
use Rattle.std.proofs.lemmas.List.Sums.{sum_by-set, sum_by_push}
use Rattle.plant_build.specs.Hands.{Reached, Owned}
use Rattle.plant_build.specs.Balance.{times}
use Rattle.plant_build.specs.Rounds.{deques_of, got_from}
use Rattle.plant_build.specs.Settled.{kept_of, owned_deques, AreAfter}
use Rattle.plant_build.proofs.Balances.{times-append}
use Rattle.plant_build.proofs.Settlings.{kept_deques, owned_at, after_prefix, after_last}
use Rattle.plant_build.proofs.settling.round_back.Goals as goal

pub take_back-requires : goal.take_back-requires
take_back-requires c =
    let owns = c.loop-other.owns in
    let all = owned_deques c.args.owns.now in
    let os = c.pop.new.self.items in
    let d = c.index-owns-at.result in
    let after = subst (λ (rs : List Reached). AreAfter all c.args.place (deques_of rs)) c.in-Some.ensures.items c.loop-other.invariant.after in
    let last = after_last all c.args.place os c.in-Some.other after in
    let all_is : owned_deques owns ≡ all = kept_deques c.args.owns.now owns c.loop-other.invariant.kept in
    let size : length all ≡ length owns = ap length (sym all_is) ∙ length-map owns (λ (o : Owned). o.reached.deque) in
    let count : length c.pop.new.self.items ≡ c.len.result = omega (arith, c.len.ensures, c.pop.new.self.ok.0) in
    let at : (c.args.place + 1 + length os) % length all ≡ (c.args.place + 1 + c.len.result) % length owns = ap (λ n. (c.args.place + 1 + length os) % n) size ∙ ap (λ n. (c.args.place + 1 + n) % length owns) count in
    let within : (c.args.place + 1 + c.len.result) % length c.loop-other.owns < length c.loop-other.owns = mod-lt (c.args.place + 1 + c.len.result) (omega arith) in
    let found : Some c.in-Some.other.deque ≡ Some (get_or owns ((c.args.place + 1 + c.len.result) % length owns) d).reached.deque =
    sym last ∙ ap (slice_get all) at ∙ ap (λ ds. slice_get ds ((c.args.place + 1 + c.len.result) % length owns)) (sym all_is) ∙ owned_at owns ((c.args.place + 1 + c.len.result) % length owns) d within in
    cc

pub loop-other-preserved : goal.loop-other-preserved
loop-other-preserved c =
    let owns = c.loop-other.owns in
    let so_far = c.loop-other.invariant in
    let all = owned_deques c.args.owns.now in
    let os = c.pop.new.self.items in
    let o = c.in-Some.other in
    let d = c.index-owns-at.result in
    let at = (c.args.place + 1 + c.len.result) % length owns in
    let within : (c.args.place + 1 + c.len.result) % length c.loop-other.owns < length c.loop-other.owns = mod-lt (c.args.place + 1 + c.len.result) (omega arith) in
    let new = c.take_back.new.self in
    let told = c.take_back.ensures in
    record {
      kept = map-set_same kept_of owns at new d (λ j. (told.put j, told.lent.0 j, told.deque j)) ∙ so_far.kept;
      after = after_prefix all c.args.place os o (subst (λ (rs : List Reached). AreAfter all c.args.place (deques_of rs)) c.in-Some.ensures.items so_far.after);
      back = omega (arith, sum_by-set (λ (own : Owned). own.back) owns at new d within, told.lent.1, so_far.back, c.in-Some.ensures.len);
      got = λ x. omega (arith, sum_by-set (λ (own : Owned). times x own.reached.got) owns at new d within, ap (times x) told.got, times-append x (get_or owns at d).reached.got o.got, so_far.got x, ap (got_from x) c.in-Some.ensures.items, sum_by_push (λ (r : Reached). times x r.got) os o);
    }
