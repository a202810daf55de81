-- The row of a node whose lock is free.
use Rattle.std.proofs.Common.{◌≡◌, ⊎_elim, ℕ, List, [], ◌∷◌, ◌++◌, zero, suc, All, IsPermutation, length, refl, sym, ap, subst, ◌∙◌, arith}
use Rattle.label_rows.specs.declared.rule.About.{About}
use Rattle.walk_laws.specs.declared.entry.Entry.{Entry}
use Rattle.std.specs.Prelude.{slice_index, flat_map}
use Rattle.label_rows.specs.Lawful.{Table, IsFree, IsTaken, IsRowOf}
use Rattle.std.proofs.lemmas.Grind.{flat_map-append}
use Rattle.std.proofs.lemmas.List.Concat.{flat_map-cons}
use Rattle.std.proofs.lemmas.List.Elements.{All-nil, All-append}
use Rattle.hub_index.specs.Views.{GoesOnFrom}
use Rattle.table_seats.specs.Numbers.{numbers}
use Rattle.label_rows.specs.declared.rule.Visit.{Visit}
use Rattle.table_seats.specs.Seats.{Each}
use Rattle.table_seats.specs.declared.seat_view.SeatView.{SeatView}
use Rattle.label_rows.specs.declared.rule.View.{View}
use Rattle.label_rows.specs.Visits.{put_list, left_by, visits_of, puts_of, place_of}
use Rattle.label_rows.proofs.PutRows.{puts-row}

pub free_from : (about : About) (s : Table) (v : ℕ) (row : List Entry) → IsRowOf about s v row → slice_index s.words v ≡ 0 → IsFree s v row
free_from about s v row old is_free = ⊎_elim (λ (free : IsFree s v row). free) (λ (taken : IsTaken s v row). absurd (omega (arith, is_free, taken.word))) old.place

flat_map-nested : {X Y Z : Type 0} (g : Y → List Z) (f : X → List Y) (xs : List X) → flat_map (λ x. flat_map g (f x)) xs ≡ flat_map g (flat_map f xs)
flat_map-nested g f [] = refl
flat_map-nested g f (x ∷ xs) =
    flat_map-cons (λ y. flat_map g (f y)) x xs
    ∙ ap (λ zs. flat_map g (f x) ++ zs) (flat_map-nested g f xs)
    ∙ sym (ap (flat_map g) (flat_map-cons f x xs) ∙ flat_map-append g (f x) (flat_map f xs))

-- a fact of all visits of each seat is one of all visits
all_visits : (P : Visit → Type 0) (f : SeatView View → List Visit) (views : List (SeatView View)) → Each (λ seat. All P (f seat)) views → All P (flat_map f views)
all_visits P f [] each = All-nil P
all_visits P f (seat ∷ views) each =
    subst (All P) (sym (flat_map-cons f seat views)) (All-append P (f seat) (flat_map f views) (each zero seat refl) (all_visits P f views (λ id other there. each (suc id) other there)))

-- a row has all entries that seats put there
pub all_put : (about : About) (s : Table) (v : ℕ) (row : List Entry) → IsRowOf about s v row → IsPermutation (flat_map (λ seat. puts_of seat.knows.visits v) s.views) row
all_put about s v row old =
    let visits : SeatView View → List Visit = λ seat. visits_of seat.knows.visits v in
    let places = flat_map-nested (λ (x : Visit). place_of x.put (length x.found)) visits s.views in
    subst (λ entries. IsPermutation entries row) (sym (flat_map-nested (λ (x : Visit). put_list x.put) visits s.views))
    (puts-row row (flat_map visits s.views) (all_visits (λ x. GoesOnFrom (left_by x) row) visits s.views old.visited)
    (subst (λ ns. IsPermutation ns (numbers 0 (length row))) places old.each_once))
