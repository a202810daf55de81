use Rattle.std.proofs.Common.{◌≡◌, List, ℕ, refl, subst}
use Rattle.std.specs.Prelude.{Result, Ok, Err, OnOk, OnErr, is_ok, IsSome, if◌then◌else◌}
use Rattle.mem_desk.proofs.FileTables.{append-files_of, keep-files_of, no-files_of}
use Rattle.mem_desk.proofs.desk.append.Goals as goal

-- a choice by the answer, where it is Ok and where it is an error
at_ok : {T E P : Type 0} (r : Result T E) (xs ys zs : List ℕ) → xs ≡ (if is_ok r then ys else zs) → (xs ≡ ys → P) → OnOk r P
at_ok (Ok done) xs ys zs e h = h e
at_ok (Err fault) xs ys zs e h = tt

at_err : {T E P : Type 0} (r : Result T E) (xs ys zs : List ℕ) → xs ≡ (if is_ok r then ys else zs) → (xs ≡ zs → P) → OnErr r P
at_err (Ok done) xs ys zs e h = tt
at_err (Err fault) xs ys zs e h = h e

pub returns-in-Some-clause-ok : goal.returns-in-Some-clause-ok
returns-in-Some-clause-ok c =
    let found = c.in-Some.ensures.value in
    let file = c.extend_from_slice.new.self in
    let after = c.get_mut.follows.lender file in
    let updates = (c.get_mut.follows.holds file).3 (subst (λ o. IsSome o) found refl) in
    at_ok c.extend_from_slice.result _ _ _ c.extend_from_slice.ensures.items (append-files_of c.args.files.now after c.args.name.now c.args.bytes.now c.in-Some.held.now file found updates)

pub returns-in-Some-clause-err : goal.returns-in-Some-clause-err
returns-in-Some-clause-err c =
    let found = c.in-Some.ensures.value in
    let file = c.extend_from_slice.new.self in
    let after = c.get_mut.follows.lender file in
    let updates = (c.get_mut.follows.holds file).3 (subst (λ o. IsSome o) found refl) in
    at_err c.extend_from_slice.result _ _ _ c.extend_from_slice.ensures.items (keep-files_of c.args.files.now after c.args.name.now c.in-Some.held.now file found updates)

pub returns-in-None-clause-ok : goal.returns-in-None-clause-ok
returns-in-None-clause-ok c = no-files_of _ _ c.args.name.now c.args.bytes.now c.in-None.ensures.value c.get_mut.follows.holds-at-none
