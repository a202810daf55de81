use Rattle.std.proofs.Common.{◌≡◌, ◌++◌, ◌∷◌, [], length, sym, subst, ap, arith}
use Rattle.std.proofs.lemmas.List.{length-append}
use Rattle.near_points.specs.PointWords.{AreStarts, IsStart}
use Rattle.near_points.proofs.PointLists.{AreStarts-more}
use Rattle.near_points.proofs.point_words.starts_of.Goals as goal

pub loop-pos-preserved : goal.loop-pos-preserved
loop-pos-preserved c =
    let words = c.args.words.now in
    let starts = c.loop-pos.starts.items in
    let start = c.start_from-start.result in
    let grown : c.push.new.self.items ≡ starts ++ start ∷ [] = c.in_ok-push.ensures.items in
    let size : length starts ≡ c.loop-pos.pos = c.loop-pos.invariant.size in
    let is : IsStart words (length starts) start = subst (λ p. IsStart words p start) (sym size) c.start_from-start.ensures in
    record {
      size = omega (arith, ap length grown, length-append starts (start ∷ []), size);
      starts = subst (AreStarts words) (sym grown) (AreStarts-more words starts start c.loop-pos.invariant.starts is);
      known = c.start_from-start.ensures.within;
      before = λ i lt. let less = c.start_from-start.ensures.before i lt in omega (arith, less);
    }
