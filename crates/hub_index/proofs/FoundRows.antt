-- Lists that stand in rows: what was seen of a row still stands in the row that is found.
use Rattle.std.proofs.Common.{◌≡◌, inl, inr, List, [], ◌∷◌, ◌++◌, All, Contains, refl, sym, subst}
use Rattle.std.proofs.lemmas.List.{append-nil}
use Rattle.std.proofs.lemmas.List.Elements.{All-nil, All-cons, All-head, All-tail, All-contains, All-contains_itself, All-weaker, Contains-append_left}
use Rattle.walk_laws.specs.declared.entry.Entry.{Entry}
use Rattle.hub_index.specs.declared.row_view.Offer.{Offer}
use Rattle.hub_index.specs.declared.row_view.Offer.TheVariants.{Put, Covered, NoMemory}
use Rattle.hub_index.specs.Views.{StandsIn, IsFound, GoesOnFrom, IsFoundOnward, with_put}

-- after one more entry, or before more
pub StandsIn-later : (x : Entry) (list row : List Entry) → StandsIn list row → StandsIn list (x ∷ row)
StandsIn-later x [] row stands = tt
StandsIn-later x (e ∷ es) row stands = inr stands

pub StandsIn-after : (prefix list row : List Entry) → StandsIn list row → StandsIn list (prefix ++ row)
StandsIn-after [] list row stands = stands
StandsIn-after (x ∷ prefix) list row stands = StandsIn-later x list (prefix ++ row) (StandsIn-after prefix list row stands)

-- two lists, each in its own part
pub StandsIn-both : (list row more part : List Entry) → StandsIn list row → StandsIn more part → StandsIn (list ++ more) (row ++ part)
StandsIn-both [] row more part stands other = StandsIn-after row more part other
StandsIn-both (e ∷ es) [] more part stands other = absurd stands
StandsIn-both (e ∷ es) (x ∷ row) more part (inl here) other = inl (here.0, StandsIn-both es row more part here.1 other)
StandsIn-both (e ∷ es) (x ∷ row) more part (inr later) other = inr (StandsIn-both (e ∷ es) row more part later other)

pub StandsIn-self : (list : List Entry) → StandsIn list list
StandsIn-self [] = tt
StandsIn-self (e ∷ es) = inl (refl, StandsIn-self es)

pub StandsIn-prefix : (list more : List Entry) → StandsIn list (list ++ more)
StandsIn-prefix list more = subst (λ xs. StandsIn xs (list ++ more)) (append-nil list) (StandsIn-both list list [] more (StandsIn-self list) tt)

-- what each entry of the row keeps, each of the list does
pub StandsIn-all : (P : Entry → Type 0) (list row : List Entry) → StandsIn list row → All P row → All P list
StandsIn-all P [] row stands all = All-nil P
StandsIn-all P (e ∷ es) [] stands all = absurd stands
StandsIn-all P (e ∷ es) (x ∷ row) (inl here) all = All-cons P e es (subst P here.0 (All-head P x row all)) (StandsIn-all P es row here.1 (All-tail P x row all))
StandsIn-all P (e ∷ es) (x ∷ row) (inr later) all = StandsIn-all P (e ∷ es) row later (All-tail P x row all)

pub StandsIn-still : (list row : List Entry) (e : Entry) → StandsIn list row → Contains list e → Contains row e
StandsIn-still list row e stands there = All-contains (Contains row) list e (StandsIn-all (Contains row) list row stands (All-contains_itself row)) there

pub StandsIn-of_prefix : (before row : List Entry) → GoesOnFrom before row → StandsIn before row
StandsIn-of_prefix before row goes_on = subst (StandsIn before) (sym goes_on.grown) (StandsIn-prefix before goes_on.more)

pub IsFound-onward : (fact : Entry → Type 0) (before row : List Entry) → IsFoundOnward fact before row → IsFound fact before row
IsFound-onward fact before row found = record { still = StandsIn-of_prefix before row found.goes_on; met = found.met }

pub IsFound-weaker : (P Q : Entry → Type 0) (before row : List Entry) → ((e : Entry) → P e → Q e) → IsFound P before row → IsFound Q before row
IsFound-weaker P Q before row weaker found = record { still = found.still; met = All-weaker P Q weaker row found.met }

-- the row that was found still stands after the answer to an offer
pub with_put-still : (row : List Entry) (e : Entry) (answer : Offer) (seen : List Entry) → seen ≡ with_put row e answer → (x : Entry) → Contains row x → Contains seen x
with_put-still row e Put seen after x there = subst (λ xs. Contains xs x) (sym after) (Contains-append_left row (e ∷ []) x there)
with_put-still row e (Covered pos dist) seen after x there = subst (λ xs. Contains xs x) (sym after) there
with_put-still row e NoMemory seen after x there = subst (λ xs. Contains xs x) (sym after) there
