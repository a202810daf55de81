-- Rows whose positions rise.
use Rattle.std.proofs.Common.{◌≡◌, ℕ, zero, suc, ◌+◌, ◌<◌, ◌≤◌, List, [], ◌∷◌, ◌++◌, length, map, get_or, Contains, sym, ap, subst, ◌∙◌, inl, inr, arith}
use Rattle.std.specs.List.Sorted.{IsStrictlyIncreasing}
use Rattle.std.proofs.Math.ListN.{get_or-append}
use Rattle.std.proofs.Math.Seq.{get_or-append_seam}
use Rattle.std.proofs.lemmas.Bool.{cases_lt}
use Rattle.std.proofs.lemmas.List.{map_push, length-map, length-append, get_or-map}
use Rattle.walk_laws.specs.declared.entry.Entry.{Entry}
use Rattle.walk_laws.specs.Ranking.{position_of}
use Rattle.walk_laws.proofs.Members.{Contains-first, Contains-next}
use Rattle.walk_laws.proofs.LabelRows.{Rises, Rises-first, Rises-rest}
use Rattle.hub_index.specs.WellFormed.{own_entry, IsWellFormedRow}
use Rattle.index_file.specs.Parts.{Part, least_after}
use Rattle.index_file.specs.Sound.{IsPart}

abbrev pub pos_of : Entry → ℕ
pos_of e = e.pos

-- the least position above the entries, once there is one entry more
pub least_after-push : (xs : List Entry) (e : Entry) → least_after xs ≤ e.pos → least_after (xs ++ e ∷ []) ≡ e.pos + 1
least_after-push [] e above = omega arith
least_after-push (x ∷ xs) e above = let rest = least_after-push xs e (omega arith) in omega (arith, rest)

below_least : (xs : List Entry) (k : ℕ) (d : Entry) → k < length xs → pos_of (get_or xs k d) < least_after xs
below_least [] k d within = absurd (omega arith)
below_least (x ∷ xs) zero d within = omega arith
below_least (x ∷ xs) (suc k) d within = let rest = below_least xs k d (omega arith) in omega (arith, rest)

increasing_push : (ys : List ℕ) (y : ℕ) → IsStrictlyIncreasing ys → ((k : ℕ) → k < length ys → get_or ys k 0 < y) → IsStrictlyIncreasing (ys ++ y ∷ [])
increasing_push ys y rising below k within =
    let long = length-append ys (y ∷ []) in
    let before : k < length ys = omega (arith, long) in
    let first : get_or (ys ++ y ∷ []) k 0 ≡ get_or ys k 0 = get_or-append ys (y ∷ []) 0 k before in
    elim (cases_lt (k + 1) (length ys)) [
      | inl inside ↦ let second : get_or (ys ++ y ∷ []) (k + 1) 0 ≡ get_or ys (k + 1) 0 = get_or-append ys (y ∷ []) 0 (k + 1) inside in omega (arith, rising k inside, first, second)
      | inr last ↦
          let end : length ys ≡ k + 1 = omega (arith, long) in
          let second : get_or (ys ++ y ∷ []) (k + 1) 0 ≡ y = subst (λ i. get_or (ys ++ y ∷ []) i 0 ≡ y) end (get_or-append_seam ys y [] 0) in
          omega (arith, below k before, first, second)
    ]

-- positions still rise with a greater one after them
pub rising_push : (xs : List Entry) (e : Entry) → IsStrictlyIncreasing (map pos_of xs) → least_after xs ≤ e.pos → IsStrictlyIncreasing (map pos_of (xs ++ e ∷ []))
rising_push xs e rising above =
    subst IsStrictlyIncreasing (sym (map_push pos_of xs e)) (increasing_push (map pos_of xs) e.pos rising below)
  where
    below : (k : ℕ) → k < length (map pos_of xs) → get_or (map pos_of xs) k 0 < e.pos
    below k within =
        let inside : k < length xs = omega (arith, length-map xs pos_of) in
        omega (arith, get_or-map pos_of xs k e 0 inside, below_least xs k e inside)

-- the entries of a row with its last one are well formed
pub IsWellFormedRow-last : (at : List ℕ) (v pos dist : ℕ) (part : Part) → IsPart (position_of at v) part → pos ≡ position_of at v → dist ≡ 0 → IsWellFormedRow at v (part.entries ++ record { pos = pos; dist = dist } ∷ [])
IsWellFormedRow-last at v pos dist part is own none =
    let e : Entry = record { pos = pos; dist = dist } in
    let same : e ≡ own_entry at v = ap (λ p. record { pos = p; dist = dist }) own ∙ ap (λ d. record { pos = position_of at v; dist = d }) none in
    record {
      rising = rising_push part.entries e is.rising (omega (arith, is.below));
      others = part.entries;
      ends = ap (λ x. part.entries ++ x ∷ []) same;
      far = is.far;
    }

-- ---- the other way round

Rises-after : (prefix xs : List Entry) → Rises pos_of (prefix ++ xs) → Rises pos_of xs
Rises-after [] xs up = up
Rises-after (x ∷ prefix) xs up = Rises-after prefix xs (Rises-rest pos_of x (prefix ++ xs) up)

pub Contains-after : (prefix : List Entry) (e : Entry) (xs : List Entry) → Contains (prefix ++ e ∷ xs) e
Contains-after [] e xs = Contains-first e xs
Contains-after (x ∷ prefix) e xs = Contains-next x e (prefix ++ e ∷ xs) (Contains-after prefix e xs)

-- in rising rows each entry is above those before it
pub least_after-prefix : (prefix : List Entry) (e : Entry) (xs : List Entry) → Rises pos_of (prefix ++ e ∷ xs) → least_after prefix ≤ e.pos
least_after-prefix [] e xs up = omega arith
least_after-prefix (x ∷ prefix) e xs up =
    let first = Rises-first pos_of x e (prefix ++ e ∷ xs) up (Contains-after prefix e xs) in
    let rest = least_after-prefix prefix e xs (Rises-rest pos_of x (prefix ++ e ∷ xs) up) in
    omega (arith, first, rest)

-- and below those after it
pub below_after : (prefix : List Entry) (e : Entry) (xs : List Entry) (last : Entry) → Rises pos_of (prefix ++ (e ∷ (xs ++ last ∷ []))) → e.pos < last.pos
below_after prefix e xs last up =
    Rises-first pos_of e last (xs ++ last ∷ []) (Rises-after prefix (e ∷ (xs ++ last ∷ [])) up) (Contains-after xs last [])

after_first : (x : Entry) (xs : List Entry) → Rises pos_of (x ∷ xs) → x.pos + 1 + length xs ≤ least_after (x ∷ xs)
after_first x [] up = omega arith
after_first x (y ∷ ys) up =
    let rest = after_first y ys (Rises-rest pos_of x (y ∷ ys) up) in
    omega (arith, rest, Rises-first pos_of x y (y ∷ ys) up (Contains-first y ys))

-- rising entries are no more than the least position above them
pub length-le-least : (xs : List Entry) → Rises pos_of xs → length xs ≤ least_after xs
length-le-least [] up = omega arith
length-le-least (x ∷ xs) up = let all = after_first x xs up in omega (arith, all)
