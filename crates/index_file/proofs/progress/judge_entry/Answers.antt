use Rattle.std.proofs.Common.{◌≡◌, ◌∙◌, ℕ, ◌-◌, true, List, length, take, drop, ap, inr, arith}
use Rattle.std.proofs.lemmas.List.{length-drop, take_all}
use Rattle.std.proofs.lemmas.Result.{err_from_is_err_and}
use Rattle.byteorder.specs.Endian.{big_number}
use Rattle.index_file.specs.Parts.{next_own, is_next_position}
use Rattle.index_file.proofs.Steps.{fed-no_position, fed-no_distance, fed-entry}
use Rattle.index_file.proofs.progress.judge_entry.Goals as goal

-- the bytes after the first four
dist_is : (head : List ℕ) (x : ℕ) → x ≡ big_number 8 (take (length head - 4) (drop 4 head)) → x ≡ big_number 8 (drop 4 head)
dist_is head x is = is ∙ ap (big_number 8) (take_all (length head - 4) (drop 4 head) (omega (arith, length-drop 4 head)))

pub returns-in_err-accept_position-clause-refused : goal.returns-in_err-accept_position-clause-refused
returns-in_err-accept_position-clause-refused c =
    let p = err_from_is_err_and c.from_residual.result c.from_residual.ensures.1 in
    let no = c.in_err-accept_position.ensures.refused in
    rw (p.1, p.2, no.1) (λ at. inr (fed-no_position c.args.done.now c.args.part.now at c.args.head.now c.requires.whole c.read_u32-pos.result c.read_u32-pos.ensures no.0))

pub returns-in_err-accept_distance-clause-refused : goal.returns-in_err-accept_distance-clause-refused
returns-in_err-accept_distance-clause-refused c =
    let p = err_from_is_err_and c.from_residual-in_err-accept_distance.result c.from_residual-in_err-accept_distance.ensures.1 in
    let no = c.in_err-accept_distance.ensures.refused in
    let position : is_next_position (next_own c.args.done.now) c.args.part.now c.read_u32-pos.result ≡ true = c.in_ok-accept_position.ensures.accepted in
    rw (p.1, p.2, no.1) (λ at. inr (fed-no_distance c.args.done.now c.args.part.now at c.args.head.now c.requires.whole c.read_u32-pos.result c.read_u32-pos.ensures position c.read_u64-dist.result (dist_is c.args.head.now c.read_u64-dist.result c.read_u64-dist.ensures) no.0))

pub returns-clause-taken : goal.returns-clause-taken
returns-clause-taken c = λ at.
    let position : is_next_position (next_own c.args.done.now) c.args.part.now c.read_u32-pos.result ≡ true = c.in_ok-accept_position.ensures.accepted in
    rw c.of_u64.ensures (fed-entry c.args.done.now c.args.part.now at c.args.head.now c.requires.whole c.read_u32-pos.result c.read_u32-pos.ensures position c.read_u64-dist.result (dist_is c.args.head.now c.read_u64-dist.result c.read_u64-dist.ensures) c.in_ok-accept_distance.ensures.accepted)
