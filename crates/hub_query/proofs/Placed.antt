-- Answers that are put at the places of their pairs, in any order, and parts of answers one after another.
use Rattle.std.specs.Prelude.{Result, Ok, Err, IfOk}
use Rattle.std.specs.declared.alloc.AllocError.{AllocError}
use Rattle.std.specs.List.{AllZip}
use Rattle.std.proofs.Common.{◌≡◌, ℕ, zero, suc, ◌+◌, ◌<◌, ◌≤◌, List, [], ◌∷◌, ◌++◌, All, Contains, flat_map, length, take, drop, get_or, set, get_or-set_other, get_or-set_same, refl, sym, ap, subst, ◌∙◌, inl, inr, arith}
use Rattle.std.proofs.Math.ListN.{length-set}
use Rattle.std.proofs.lemmas.Bool.{cases_eq, cases_lt}
use Rattle.std.proofs.lemmas.List.{length-append, get_or_append_left, get_or-append-add}
use Rattle.std.specs.List.Sorted.{IsPermutation}
use Rattle.std.proofs.lemmas.List.Sorted.{All-permutation, Contains-permutation}
use Rattle.std.proofs.lemmas.List.Elements.{All-cons, All-nil, All-take, All-drop, All-contains, Contains-get_or}
use Rattle.rayon.specs.Lists.{chunks_of, chunks_from}
use Rattle.hub_query.specs.declared.answer.Answer.{Answer}
use Rattle.hub_query.specs.declared.answer.Answer.TheVariants.{Far}
use Rattle.walk_laws.specs.Labelling.{label_row}
use Rattle.hub_index.specs.HubIndex.{HubIndex}
use Rattle.hub_index.proofs.CoveredEntries.{All-one_more, All-whole}
use Rattle.hub_query.specs.HubTables.{HoldsRow, ArePlaces}
use Rattle.hub_query.specs.Parts.{AreJoined}
use Rattle.hub_query.specs.Meant.{IsMeetOf}

-- a read past the end, where none is made
abbrev pub unasked : Answer
unasked = Far

module _ {X : Type 0} (R : X → Answer → Type 0) where
  -- what holds at each place holds of the two lists
  pub AllZip-from_places : (xs : List X) (ys : List Answer) (d : X) → length ys ≡ length xs → ((k : ℕ) → k < length xs → R (get_or xs k d) (get_or ys k unasked)) → AllZip R xs ys
  AllZip-from_places [] [] d long each = tt
  AllZip-from_places [] (y ∷ ys) d long each = absurd (omega (arith, long))
  AllZip-from_places (x ∷ xs) [] d long each = absurd (omega (arith, long))
  AllZip-from_places (x ∷ xs) (y ∷ ys) d long each = (each 0 (omega arith), AllZip-from_places xs ys d (omega (arith, long)) (λ k lt. each (suc k) (omega (arith, lt))))

  AllZip-both : (xs us : List X) (ys vs : List Answer) → AllZip R xs ys → AllZip R us vs → AllZip R (xs ++ us) (ys ++ vs)
  AllZip-both [] us [] vs h rest = rest
  AllZip-both [] us (y ∷ ys) vs h rest = absurd h
  AllZip-both (x ∷ xs) us [] vs h rest = absurd h
  AllZip-both (x ∷ xs) us (y ∷ ys) vs h rest = (h.0, AllZip-both xs us ys vs h.1 rest)

  -- one more on each side
  pub AllZip-one_more : (xs : List X) (ys : List Answer) (x : X) (y : Answer) → AllZip R xs ys → R x y → AllZip R (xs ++ x ∷ []) (ys ++ y ∷ [])
  AllZip-one_more xs ys x y h this = AllZip-both xs (x ∷ []) ys (y ∷ []) h (this, tt)

  -- the parts side by side have the answers one after another
  pub AllZip-joined : (parts : List (List X)) (results : List (Result (List Answer) AllocError)) (answers : List Answer) → AllZip (λ xs r. IfOk r (AllZip R xs)) parts results → AreJoined (λ (part : List Answer). part) results answers → AllZip R (flat_map (λ l. l) parts) answers
  AllZip-joined [] [] answers h joined = subst (AllZip R []) (sym joined) tt
  AllZip-joined [] (r ∷ results) answers h joined = absurd h
  AllZip-joined (xs ∷ parts) [] answers h joined = absurd h
  AllZip-joined (xs ∷ parts) (Err e ∷ results) answers h joined = absurd joined
  AllZip-joined (xs ∷ parts) (Ok ys ∷ results) answers h joined =
      subst (AllZip R (xs ++ flat_map (λ l. l) parts)) (sym joined.1) (AllZip-both xs (flat_map (λ l. l) parts) ys joined.0 h.0 (AllZip-joined parts results joined.0 h.1 joined.2))

  pub told_here : (xs : List X) (ys : List Answer) (d : X) (p : ℕ) (y : Answer) → p < length ys → R (get_or xs p d) y → R (get_or xs p d) (get_or (set ys p y) p unasked)
  told_here xs ys d p y inside right = subst (R (get_or xs p d)) (sym (get_or-set_same ys p y unasked inside)) right

  -- a right answer put at its place leaves each other right
  pub told_still : {Z : Type 0} (xs : List X) (ys : List Answer) (d : X) (places : List (Z × ℕ)) (p : ℕ) (y : Answer) → p < length ys → R (get_or xs p d) y → All (λ (x : Z × ℕ). R (get_or xs x.1 d) (get_or ys x.1 unasked)) places → All (λ (x : Z × ℕ). R (get_or xs x.1 d) (get_or (set ys p y) x.1 unasked)) places
  told_still xs ys d places p y inside right told k e lt =
      let q = (get_or places k e).1 in
      elim (cases_eq q p) [
        | inl same ↦ subst (λ i. R (get_or xs i d) (get_or (set ys p y) i unasked)) (sym same) (told_here xs ys d p y inside right)
        | inr other ↦ subst (R (get_or xs q d)) (sym (get_or-set_other ys p q y unasked other)) (told k e lt)
      ]

module _ {X : Type 0} (P : X → Type 0) (size : ℕ) where
  chunks_each : (fuel : ℕ) (xs : List X) → All P xs → All (All P) (chunks_from fuel size xs)
  chunks_each zero xs all = All-nil (All P)
  chunks_each (suc n) [] all = All-nil (All P)
  chunks_each (suc n) (x ∷ xs) all =
      All-cons (All P) (take size (x ∷ xs)) (chunks_from n size (drop size (x ∷ xs))) (All-take P size (x ∷ xs) all)
      (chunks_each n (drop size (x ∷ xs)) (All-drop P size (x ∷ xs) all))

  -- what holds of each element holds of those of each chunk
  pub chunks_of-each : (xs : List X) → All P xs → All (All P) (chunks_of size xs)
  chunks_of-each xs all = chunks_each (length xs) xs all

-- a pair and its place
abbrev pub Placed : Type 0
Placed = (ℕ × ℕ) × ℕ

-- the first n pairs with their places, in order
pub record InOrder (pairs : List (ℕ × ℕ)) (places : List Placed) (n : ℕ) : Type 0 where
  pub size : length places ≡ n
  pub within : n ≤ length pairs
  pub each : (k : ℕ) (d : Placed) → k < length places → get_or places k d ≡ (get_or pairs k (0, 0), k)

pub InOrder-start : (pairs : List (ℕ × ℕ)) → InOrder pairs [] 0
InOrder-start pairs = record { size = refl; within = omega arith; each = λ k d lt. absurd (omega (arith, lt)) }

pub InOrder-next : (pairs : List (ℕ × ℕ)) (places : List Placed) (n : ℕ) → n < length pairs → InOrder pairs places n → InOrder pairs (places ++ (get_or pairs n (0, 0), n) ∷ []) (n + 1)
InOrder-next pairs places n lt was =
    let last : Placed = (get_or pairs n (0, 0), n) in
    let long : length (places ++ last ∷ []) ≡ length places + length (last ∷ []) = length-append places (last ∷ []) in
    record {
      size = omega (arith, long, was.size);
      within = omega (arith, lt);
      each = λ k d inside. elim (cases_lt k (length places)) [
        | inl before ↦ get_or_append_left places (last ∷ []) d k before ∙ was.each k d before
        | inr here ↦
            let at_end : k ≡ length places + 0 = omega (arith, here, inside, long) in
            let same : n ≡ k = omega (arith, here, inside, long, was.size) in
            ap (λ i. get_or (places ++ last ∷ []) i d) at_end ∙ get_or-append-add places (last ∷ []) 0 d ∙ ap (λ i. (get_or pairs i (0, 0), i)) same
      ];
    }

-- a read past the end, where none is made
abbrev pub nowhere : Placed
nowhere = ((0, 0), 0)

-- and then in any order
module _ (pairs : List (ℕ × ℕ)) (places sorted : List Placed) (n : ℕ) (over : length pairs ≤ n) (was : InOrder pairs places n) (moved : IsPermutation places sorted) where
  pub ArePlaces-sorted : ArePlaces pairs sorted
  ArePlaces-sorted = record {
    within = All-permutation (λ (x : Placed). x.1 < length pairs) places sorted moved (λ k d lt.
        subst (λ (x : Placed). x.1 < length pairs) (sym (was.each k d lt)) (omega (arith, lt, was.size, was.within)));
    same = All-permutation (λ (x : Placed). get_or pairs x.1 (0, 0) ≡ x.0) places sorted moved (λ k d lt.
        subst (λ (x : Placed). get_or pairs x.1 (0, 0) ≡ x.0) (sym (was.each k d lt)) refl);
    each = λ k lt.
        let within : k < length places = omega (arith, lt, was.size, over) in
        Contains-permutation places sorted (get_or pairs k (0, 0), k) moved
        (subst (Contains places) (was.each k nowhere within) (Contains-get_or places k nowhere within));
  }

-- the table holds the row of a node, and the pairs at the first k places have their answers
pub record Asked (index : HubIndex) (pairs : List (ℕ × ℕ)) (places : List Placed) (answers : List Answer) (table : List ℕ) (held k : ℕ) : Type 0 where
  pub from_one : 1 ≤ held
  pub up_to_n : held ≤ length index.order
  pub size : length table ≡ length index.order
  pub row : HoldsRow (label_row index.rows held) table
  pub long : length answers ≡ length pairs
  pub told : All (λ (x : Placed). IsMeetOf index (get_or pairs x.1 (0, 0)) (get_or answers x.1 unasked)) (take k places)

module _ (index : HubIndex) (pairs : List (ℕ × ℕ)) (places : List Placed) (answers : List Answer) (table : List ℕ) (held k : ℕ) (was : Asked index pairs places answers table held k) where
  abbrev next : Placed
  next = get_or places k nowhere

  pub Asked-next : (y : Answer) (turned : List ℕ) → ArePlaces pairs places → k < length places → 1 ≤ (get_or places k nowhere).0.0 → (get_or places k nowhere).0.0 ≤ length index.order → length turned ≡ length index.order → HoldsRow (label_row index.rows (get_or places k nowhere).0.0) turned
      → IsMeetOf index (get_or places k nowhere).0 y
      → Asked index pairs places (set answers (get_or places k nowhere).1 y) turned (get_or places k nowhere).0.0 (k + 1)
  Asked-next y turned are lt from_one up_to_n size row meet =
      let inside : next.1 < length answers = omega (arith, are.within k nowhere lt, was.long) in
      let right : IsMeetOf index (get_or pairs next.1 (0, 0)) y = subst (λ pair. IsMeetOf index pair y) (sym (are.same k nowhere lt)) meet in
      record {
        from_one = from_one;
        up_to_n = up_to_n;
        size = size;
        row = row;
        long = length-set answers next.1 y ∙ was.long;
        told = All-one_more (λ (x : Placed). IsMeetOf index (get_or pairs x.1 (0, 0)) (get_or (set answers next.1 y) x.1 unasked)) places k nowhere lt
            (told_still (IsMeetOf index) pairs answers (0, 0) (take k places) next.1 y inside right was.told)
            (told_here (IsMeetOf index) pairs answers (0, 0) next.1 y inside right);
      }

  pub Asked-all : ArePlaces pairs places → length places ≤ k → AllZip (IsMeetOf index) pairs answers
  Asked-all are over =
      AllZip-from_places (IsMeetOf index) pairs answers (0, 0) was.long (λ i lt.
      All-contains (λ (x : Placed). IsMeetOf index (get_or pairs x.1 (0, 0)) (get_or answers x.1 unasked)) places (get_or pairs i (0, 0), i)
      (All-whole (λ (x : Placed). IsMeetOf index (get_or pairs x.1 (0, 0)) (get_or answers x.1 unasked)) places k over was.told) (are.each i lt))
