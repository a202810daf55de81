-- Rows as lists of entries, and as vectors of entries.
use Rattle.std.proofs.Common.{◌≡◌, ℕ, ◌+◌, ◌-◌, ◌<◌, ◌≤◌, List, [], ◌∷◌, ◌++◌, Vec, Global, All, Contains, length, map, get_or, take, drop, sym, ap, subst, ◌∙◌, arith}
use Rattle.std.proofs.lemmas.List.{append-nil, drop_all, get_or-map, length-map, take_all}
use Rattle.std.proofs.lemmas.List.Elements.{All-contains, All-contains_itself, All-weaker, Contains-append_left, Contains-append_right}
use Rattle.walk_laws.specs.declared.entry.Entry.{Entry}
use Rattle.walk_laws.specs.Labelling.{label_row}
use Rattle.walk_laws.proofs.Members.{Contains-first}

abbrev pub items_of : List (Vec Entry Global) → List (List Entry)
items_of rows = map (λ row. row.items) rows

-- the row of a node is the vector at its place
pub row_at : (rows : List (Vec Entry Global)) (i : ℕ) (d : Vec Entry Global) → i < length rows → label_row (items_of rows) (i + 1) ≡ (get_or rows i d).items
row_at rows i d within =
    let place : i + 1 - 1 ≡ i = omega arith in
    ap (λ k. get_or (items_of rows) k []) place ∙ get_or-map (λ row. row.items) rows i d [] within

-- what holds of the row at each place holds of the row of each node
pub each_node : (P : ℕ → List Entry → Type 0) (rows : List (List Entry)) → ((i : ℕ) → i < length rows → P (i + 1) (label_row rows (i + 1))) → (v : ℕ) → 1 ≤ v → v ≤ length rows → P v (label_row rows v)
each_node P rows all v from_one up_to_n =
    let same : v - 1 + 1 ≡ v = omega arith in
    subst (λ x. P x (label_row rows x)) same (all (v - 1) (omega arith))

-- rows that are changed place by place are changed node by node
pub each_changed : (P : ℕ → List Entry → List Entry → Type 0) (before after : List (Vec Entry Global)) → length after ≡ length before → ((i : ℕ) (d : Vec Entry Global) → i < length before → P (i + 1) (get_or before i d).items (get_or after i d).items) → (v : ℕ) → 1 ≤ v → v ≤ length (items_of before) → P v (label_row (items_of before) v) (label_row (items_of after) v)
each_changed P [] after size each v from_one up_to_n = absurd (omega (arith, from_one, up_to_n))
each_changed P (x ∷ xs) after size each v from_one up_to_n =
    let before = x ∷ xs in
    let within : v - 1 < length before = omega (arith, from_one, up_to_n, length-map before (λ row. row.items)) in
    let first = row_at before (v - 1) x within in
    let second = row_at after (v - 1) x (omega (arith, within, size)) in
    let node : v - 1 + 1 ≡ v = omega arith in
    subst (λ k. P k (label_row (items_of before) k) (label_row (items_of after) k)) node
    (subst (λ row. P (v - 1 + 1) row (label_row (items_of after) (v - 1 + 1))) (sym first)
    (subst (P (v - 1 + 1) (get_or before (v - 1) x).items) (sym second) (each (v - 1) x within)))

-- a vector whose slice was lent whole has what the slice has then
pub take_filled : {X : Type 0} (n : ℕ) (now old : List X) → length now ≡ length old → length old ≡ n → take n (now ++ drop (length now) old) ≡ now
take_filled n now old size whole =
    ap (λ rest. take n (now ++ rest)) (drop_all (length now) old (omega (arith, size))) ∙ ap (take n) (append-nil now) ∙ take_all n now (omega (arith, size, whole))

-- a list whose last element is taken away
pub last_apart : {X : Type 0} (P : X → Type 0) (xs ys : List X) (x : X) → xs ≡ ys ++ x ∷ [] → All P xs → All P ys × P x
last_apart P xs ys x is all = (
  All-weaker (Contains ys) P (λ y here. All-contains P xs y all (subst (λ zs. Contains zs y) (sym is) (Contains-append_left ys (x ∷ []) y here))) ys (All-contains_itself ys),
  All-contains P xs x all (subst (λ zs. Contains zs x) (sym is) (Contains-append_right ys (x ∷ []) x (Contains-first x []))),
)
