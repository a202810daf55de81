-- What putting a file into a table of files and writing to its end do to it.
use Rattle.std.proofs.Common.{◌≡◌, ℕ, Bool, true, false, cond, List, [], ◌++◌, Some, None, refl, sym, ◌∙◌, ap, append_assoc}
use Rattle.std.specs.Option.{option_map_or}
use Rattle.std.specs.declared.cmp.Ordering.TheVariants.{Less, Equal, Greater}
use Rattle.std.specs.Ordering.{nat_cmp, eq_by_cmp, is_eq}
use Rattle.desk_io.specs.Contents.{Files, appended}
use Rattle.std.specs.Cmp.{eq_by_cmp_equiv}
use Rattle.std.specs.Cmp.Lexicographic.{slice_cmp, nat_list_cmp_total}
use Rattle.std.specs.FinMap.{get, insert, get-insert, get_tied, same_map, nat_cmp-IsAntisymmetric, slice_cmp-IsAntisymmetric}
use Rattle.std.proofs.lemmas.List.{append-nil}

-- two tables that have the same bytes at each name are one
same_files : (f g : Files) → ((q : List ℕ) → get f q ≡ get g q) → f ≡ g
same_files f g same = same_map nat_list_cmp_total (slice_cmp-IsAntisymmetric nat_cmp-IsAntisymmetric) f g same

-- of two choices by one test the first alone counts
first_alone : {A : Type 0} (b : Bool) (x y z : A) → cond b x (cond b y z) ≡ cond b x z
first_alone true x y z = refl
first_alone false x y z = refl

-- a file that is put twice
insert_twice : (f : Files) (name xs ys : List ℕ) → insert (insert f name xs) name ys ≡ insert f name ys
insert_twice f name xs ys = same_files _ _ (λ q.
    get-insert nat_list_cmp_total (insert f name xs) name ys q
    ∙ ap (cond (eq_by_cmp (slice_cmp nat_cmp) q name) (Some ys)) (get-insert nat_list_cmp_total f name xs q)
    ∙ first_alone (eq_by_cmp (slice_cmp nat_cmp) q name) _ _ _
    ∙ sym (get-insert nat_list_cmp_total f name ys q))

-- a file that is put with the bytes that it has
same_at : (f : Files) (name xs q : List ℕ) → get f name ≡ Some xs → cond (eq_by_cmp (slice_cmp nat_cmp) q name) (Some xs) (get f q) ≡ get f q
same_at f name xs q held =
    elim (slice_cmp nat_cmp q name) as (λ r. slice_cmp nat_cmp q name ≡ r → cond (is_eq r) (Some xs) (get f q) ≡ get f q) [
      | Less ↦ λ e. refl
      | Equal ↦ λ e. sym held ∙ get_tied nat_list_cmp_total f q name e
      | Greater ↦ λ e. refl
    ] refl

pub insert_held : (f : Files) (name xs : List ℕ) → get f name ≡ Some xs → insert f name xs ≡ f
insert_held f name xs held = same_files _ _ (λ q. get-insert nat_list_cmp_total f name xs q ∙ same_at f name xs q held)

-- what stands at a name after a file was put there
get_inserted : (f : Files) (name xs : List ℕ) → get (insert f name xs) name ≡ Some xs
get_inserted f name xs =
    get-insert nat_list_cmp_total f name xs name ∙ ap (λ b. cond b (Some xs) (get f name)) ((eq_by_cmp_equiv nat_list_cmp_total).refl name)

-- what bytes at the end of a file make of the table, where it has the file and where it has none
pub appended_held : (f : Files) (name bytes held : List ℕ) → get f name ≡ Some held → appended f name bytes ≡ insert f name (held ++ bytes)
appended_held f name bytes held e = ap (λ o. option_map_or (λ xs. insert f name (xs ++ bytes)) o f) e

pub appended_missing : (f : Files) (name bytes : List ℕ) → get f name ≡ None → appended f name bytes ≡ f
appended_missing f name bytes e = ap (λ o. option_map_or (λ xs. insert f name (xs ++ bytes)) o f) e

-- no bytes at the end change nothing
pub appended-nil : (f : Files) (name : List ℕ) → appended f name [] ≡ f
appended-nil f name =
    elim (get f name) as (λ o. get f name ≡ o → appended f name [] ≡ f) [
      | None ↦ λ e. appended_missing f name [] e
      | Some held ↦ λ e. appended_held f name [] held e ∙ ap (insert f name) (append-nil held) ∙ insert_held f name held e
    ] refl

-- some bytes at the end, and then others
pub appended-append : (f : Files) (name xs ys : List ℕ) → appended (appended f name xs) name ys ≡ appended f name (xs ++ ys)
appended-append f name xs ys =
    elim (get f name) as (λ o. get f name ≡ o → appended (appended f name xs) name ys ≡ appended f name (xs ++ ys)) [
      | None ↦ λ e.
          ap (λ g. appended g name ys) (appended_missing f name xs e) ∙ appended_missing f name ys e ∙ sym (appended_missing f name (xs ++ ys) e)
      | Some held ↦ λ e.
          ap (λ g. appended g name ys) (appended_held f name xs held e)
          ∙ appended_held _ name ys (held ++ xs) (get_inserted f name (held ++ xs))
          ∙ insert_twice f name (held ++ xs) ((held ++ xs) ++ ys)
          ∙ ap (insert f name) (append_assoc held xs ys)
          ∙ sym (appended_held f name (xs ++ ys) held e)
    ] refl

-- bytes at the end of an empty file are the file
pub appended-created : (f : Files) (name bytes : List ℕ) → appended (insert f name []) name bytes ≡ insert f name bytes
appended-created f name bytes = appended_held _ name bytes [] (get_inserted f name []) ∙ insert_twice f name [] bytes
