-- A table in which the entries of a row are noted holds the least distance of each of its positions.
use Rattle.std.proofs.Common.{◌≡◌, ◌≢◌, ◌↔◌, ℕ, ◌+◌, ◌<◌, min, inl, inr, Option, Some, None, List, [], ◌∷◌, ◌++◌, Contains, length, All, get_or, take, replicate, get_or-set_other, get_or-set_same, refl, sym, ap, subst, ◌∙◌, add-one, append_assoc, arith}
use Rattle.std.proofs.Math.ListN.{length-set}
use Rattle.std.proofs.Math.Seq.{take-suc}
use Rattle.std.proofs.lemmas.Bool.{cases_eq, cases_lt}
use Rattle.std.proofs.lemmas.List.{append-nil, length-replicate}
use Rattle.std.proofs.lemmas.List.Elements.{All-head, All-tail, Contains-append_left, Contains-append_right, Contains-append_cases}
use Rattle.walk_laws.specs.declared.entry.Entry.{Entry}
use Rattle.hub_index.specs.RootDistances.{root_distance, lesser, noted, with_noted, IsLeastAt, HoldsRow}
use Rattle.hub_index.proofs.TouchedPositions.{one_of, none_in, nothing_noted}

-- the entry of a position and a distance
abbrev pub at_position : ℕ → ℕ → Entry
at_position p d = record { pos = p; dist = d }

-- the distance at the position p is the least of the row, and none where the row has no such entry
abbrev pub HoldsAt : List Entry → ℕ → Option ℕ → Type 0
HoldsAt row p None = (d : ℕ) → Contains row (at_position p d) → ⊥
HoldsAt row p (Some d) = IsLeastAt row p d

abbrev pub HoldsEach : List (Option ℕ) → List Entry → Type 0
HoldsEach table row = (p : ℕ) → HoldsAt row p (root_distance table p)

row_from_at : (row : List Entry) (p d : ℕ) (o : Option ℕ) → HoldsAt row p o → (o ≡ Some d) ↔ IsLeastAt row p d
row_from_at row p d None empty = (λ e. absurd cc, λ least. absurd (empty d least.there))
row_from_at row p d (Some k) least = (
  λ e. let same : k ≡ d = cc in subst (IsLeastAt row p) same least,
  λ other. let same : k ≡ d = omega (arith, least.least d other.there, other.least k least.there) in ap Some same,
)

pub HoldsRow-from_each : (table : List (Option ℕ)) (row : List Entry) → HoldsEach table row → HoldsRow table row
HoldsRow-from_each table row each p d = row_from_at row p d (root_distance table p) (each p)

pub HoldsEach-none : (n : ℕ) (table : List (Option ℕ)) → table ≡ replicate n None → HoldsEach table []
HoldsEach-none n table is p = subst (HoldsAt [] p) (sym (ap (λ t. root_distance t p) is ∙ nothing_noted n p)) (λ d there. none_in (at_position p d) there)

-- an entry at another position tells nothing of this one
other_position : (row : List Entry) (e : Entry) (p d : ℕ) → p ≢ e.pos → Contains (row ++ e ∷ []) (at_position p d) → Contains row (at_position p d)
other_position row e p d other there = elim (Contains-append_cases row (e ∷ []) (at_position p d) there) [
  | inl before ↦ before
  | inr last ↦ absurd (other (sym (ap (λ (x : Entry). x.pos) (one_of e (at_position p d) last))))
]

kept_at : (row : List Entry) (e : Entry) (p : ℕ) (o : Option ℕ) → p ≢ e.pos → HoldsAt row p o → HoldsAt (row ++ e ∷ []) p o
kept_at row e p None other empty = λ d there. empty d (other_position row e p d other there)
kept_at row e p (Some k) other least = record {
  there = Contains-append_left row (e ∷ []) (at_position p k) least.there;
  least = λ d there. least.least d (other_position row e p d other there);
}

-- at its own position an entry may lower the distance
noted_at : (row : List Entry) (e : Entry) (o : Option ℕ) → HoldsAt row e.pos o → IsLeastAt (row ++ e ∷ []) e.pos (lesser o e.dist)
noted_at row e None empty = record {
  there = Contains-append_right row (e ∷ []) e (0, omega arith, refl);
  least = λ d there. elim (Contains-append_cases row (e ∷ []) (at_position e.pos d) there) [
    | inl before ↦ absurd (empty d before)
    | inr last ↦ let same = ap (λ (x : Entry). x.dist) (one_of e (at_position e.pos d) last) in omega (arith, same)
  ];
}
noted_at row e (Some k) least = record {
  there = elim (cases_lt e.dist k) [
    | inl lower ↦
        let same : e.dist ≡ min k e.dist = omega arith in
        subst (λ d. Contains (row ++ e ∷ []) (at_position e.pos d)) same (Contains-append_right row (e ∷ []) e (0, omega arith, refl))
    | inr higher ↦
        let same : k ≡ min k e.dist = omega arith in
        subst (λ d. Contains (row ++ e ∷ []) (at_position e.pos d)) same (Contains-append_left row (e ∷ []) (at_position e.pos k) least.there)
  ];
  least = λ d there. elim (Contains-append_cases row (e ∷ []) (at_position e.pos d) there) [
    | inl before ↦ omega (arith, least.least d before)
    | inr last ↦ let same = ap (λ (x : Entry). x.dist) (one_of e (at_position e.pos d) last) in omega (arith, same)
  ];
}

-- one more entry is noted
pub HoldsEach-noted : (table : List (Option ℕ)) (row : List Entry) (e : Entry) → e.pos < length table → HoldsEach table row → HoldsEach (with_noted table e) (row ++ e ∷ [])
HoldsEach-noted table row e inside each p = elim (cases_eq p e.pos) [
  | inl here ↦
      let now : root_distance (with_noted table e) e.pos ≡ Some (lesser (root_distance table e.pos) e.dist) = get_or-set_same table e.pos _ None inside in
      let P : ℕ → Type 0 = λ q. HoldsAt (row ++ e ∷ []) q (root_distance (with_noted table e) q) in
      subst P (sym here) (subst (HoldsAt (row ++ e ∷ []) e.pos) (sym now) (noted_at row e (root_distance table e.pos) (each e.pos)))
  | inr other ↦
      let same : root_distance (with_noted table e) p ≡ root_distance table p = get_or-set_other table e.pos p _ None other in
      subst (HoldsAt (row ++ e ∷ []) p) (sym same) (kept_at row e p (root_distance table p) other (each p))
]

pub length-noted : (table : List (Option ℕ)) (es : List Entry) → length (noted table es) ≡ length table
length-noted table [] = refl
length-noted table (e ∷ es) = length-noted (with_noted table e) es ∙ length-set table e.pos _

pub noted-append : (table : List (Option ℕ)) (es fs : List Entry) → noted table (es ++ fs) ≡ noted (noted table es) fs
noted-append table [] fs = refl
noted-append table (e ∷ es) fs = noted-append (with_noted table e) es fs

-- along a row
pub noted-next : (table : List (Option ℕ)) (row : List Entry) (i : ℕ) (d : Entry) → i < length row → noted table (take (i + 1) row) ≡ with_noted (noted table (take i row)) (get_or row i d)
noted-next table row i d lt =
    let cut : take (i + 1) row ≡ take i row ++ get_or row i d ∷ [] = rw add-one (take-suc row i d lt) in
    ap (noted table) cut ∙ noted-append table (take i row) (get_or row i d ∷ [])

-- a table that held a row holds it with the entries after it
pub HoldsEach-noted_all : (table : List (Option ℕ)) (row es : List Entry) → All (λ e. e.pos < length table) es → HoldsEach table row → HoldsEach (noted table es) (row ++ es)
HoldsEach-noted_all table row [] inside each = subst (HoldsEach table) (sym (append-nil row)) each
HoldsEach-noted_all table row (e ∷ es) inside each =
    let here = All-head (λ f. f.pos < length table) e es inside in
    let rest : All (λ f. f.pos < length (with_noted table e)) es = subst (λ n. All (λ f. f.pos < n) es) (sym (length-set table e.pos _)) (All-tail (λ f. f.pos < length table) e es inside) in
    subst (HoldsEach (noted (with_noted table e) es)) (append_assoc row (e ∷ []) es)
    (HoldsEach-noted_all (with_noted table e) (row ++ e ∷ []) es rest (HoldsEach-noted table row e here each))

-- an empty table in which a row is noted holds it
pub HoldsRow-noted : (n : ℕ) (empty table : List (Option ℕ)) (row : List Entry) → empty ≡ replicate n None → All (λ e. e.pos < n) row → table ≡ noted empty row → HoldsRow table row
HoldsRow-noted n empty table row none inside is =
    let size : length empty ≡ n = ap length none ∙ length-replicate n None in
    subst (λ t. HoldsRow t row) (sym is)
    (HoldsRow-from_each (noted empty row) row (HoldsEach-noted_all empty [] row (subst (λ k. All (λ e. e.pos < k) row) (sym size) inside) (HoldsEach-none n empty none)))
