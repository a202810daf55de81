use Rattle.std.proofs.Common.{◌≡◌, ℕ, cond, List, Result, Ok, Err}
use Rattle.std.specs.Prelude.{OnOk}
use Rattle.std.specs.Result.{is_ok}
use Rattle.index_file.proofs.encoding.push_entry.Goals as goal

when_ok : {E : Type 0} (r : Result (Unit {0}) E) (items x y : List ℕ) → items ≡ cond (is_ok r) x y → OnOk r (items ≡ x)
when_ok (Ok done) items x y is = is
when_ok (Err e) items x y is = tt

pub returns : goal.returns
returns c =
    let dist = rw c.write_u32.ensures at c.write_u64.ensures in
    let whole = rw c.write_u32.ensures at c.extend_from_slice.ensures.items in
    when_ok c.extend_from_slice.result _ _ _ (rw dist at whole)
