-- What was seen of a row and put there by visits, of which one more is made.
use Rattle.std.proofs.Common.{◌≡◌, ℕ, ◌<◌, ◌≤◌, Bool, true, false, cond, List, [], ◌∷◌, ◌++◌, All, length, ◌≢◌, eq-eqb, ne_eqb, refl, sym, ap, ◌∙◌, arith}
use Rattle.std.specs.Prelude.{Option, Some, None, map, flat_map, nat_eq, nat_lt, if◌then◌else◌}
use mathlib.Core.Logic.{dite}
use native.Mathlib.Decide.{dec_lt}
use Rattle.std.proofs.lemmas.Grind.{flat_map-append}
use Rattle.std.proofs.lemmas.Bool.{le-ltb, lt-ltb}
use Rattle.std.proofs.lemmas.List.{length-append, append_assoc, append-nil, map-append}
use Rattle.std.proofs.lemmas.List.Elements.{All-head, All-tail, filter-append}
use native.Mathlib.Decide.{ℕ_discrete}
use Rattle.table_seats.proofs.Counting.{times, once, times-append, times-cons}
use Rattle.walk_laws.specs.declared.entry.Entry.{Entry}
use Rattle.hub_index.specs.Views.{GoesOnFrom, with_put}
use Rattle.hub_index.specs.declared.row_view.Offer.{Offer}
use Rattle.hub_index.specs.declared.row_view.Offer.TheVariants.{Put, Covered, NoMemory}
use Rattle.label_rows.specs.declared.rule.Visit.{Visit}
use Rattle.label_rows.specs.Visits.{put_list, put_by, left_by, visits_of, longer, longest, seen_of, puts_of, place_of, places_of}

pub goes_on-self : (row : List Entry) → GoesOnFrom row row
goes_on-self row = record { more = []; grown = sym (append-nil row) }

pub goes_on-nothing : (row : List Entry) → GoesOnFrom [] row
goes_on-nothing row = record { more = row; grown = refl }

pub goes_on-further : (before row more : List Entry) → GoesOnFrom before row → GoesOnFrom before (row ++ more)
goes_on-further before row more g = record { more = g.more ++ more; grown = ap (λ xs. xs ++ more) g.grown ∙ append_assoc before g.more more }

no_longer : (before row : List Entry) → GoesOnFrom before row → length before ≤ length row
no_longer before row g = let a = ap length g.grown ∙ length-append before g.more in omega arith

longer-of : (P : List Entry → Type 0) (a b : List Entry) → P a → P b → P (longer a b)
longer-of P a b p q = by_test (nat_lt (length b) (length a))
  where
    by_test : (t : Bool) → P (if t then a else b)
    by_test true = p
    by_test false = q

-- where each list still stands in the row, so does the longest
pub longest-still : (row : List Entry) (xs : List (List Entry)) → All (λ x. GoesOnFrom x row) xs → GoesOnFrom (longest xs) row
longest-still row [] all = goes_on-nothing row
longest-still row (x ∷ xs) all = longer-of (λ y. GoesOnFrom y row) x (longest xs) (All-head (λ y. GoesOnFrom y row) x xs all) (longest-still row xs (All-tail (λ y. GoesOnFrom y row) x xs all))

alone : (row : List Entry) → longer row [] ≡ row
alone [] = refl
alone (e ∷ es) =
    let some : 0 < length (e ∷ es) = omega arith in
    ap (λ t. if t then e ∷ es else []) (lt-ltb 0 (length (e ∷ es)) some)

longer-length : (a b : List Entry) → (length a ≤ length (longer a b)) × (length b ≤ length (longer a b))
longer-length a b = dite (dec_lt (length b) (length a))
    (λ less. let is = ap (λ t. length (if t then a else b)) (lt-ltb (length b) (length a) less) in (omega arith, omega arith))
    (λ more. let is = ap (λ t. length (if t then a else b)) (le-ltb (length b) (length a) (omega arith)) in (omega arith, omega arith))

-- where an entry was put after k others, the longest row that was left has more than k
pub longest-places : (k : ℕ) (xs : List Visit) → 0 < times k (flat_map (λ x. place_of x.put (length x.found)) xs) → k < length (longest (map left_by xs))
longest-places k [] some = absurd (omega arith)
longest-places k (x ∷ xs) some =
    let n = longer-length (left_by x) (longest (map left_by xs)) in
    let parted = times-append k (place_of x.put (length x.found)) (flat_map (λ y. place_of y.put (length y.found)) xs) in
    dite (dec_lt 0 (times k (flat_map (λ y. place_of y.put (length y.found)) xs)))
    (λ later. let r = longest-places k xs later in omega (arith, n.1))
    (λ none. let here = put_here x.put (omega (arith, none, parted)) in omega (arith, n.0, here))
  where
    put_here : (put : Option Entry) → 0 < times k (place_of put (length x.found)) → k < length (x.found ++ put_list put)
    put_here None one = absurd (omega arith)
    put_here (Some e) one = dite (ℕ_discrete (length x.found) k)
        (λ is. let l = length-append x.found (e ∷ []) in omega (arith, is))
        (λ other.
        let o : once k (length x.found) ≡ 0 = ap (λ b. cond b 1 0) (ne_eqb (length x.found) k other) in
        let none : times k [] ≡ 0 = refl in
        absurd (omega (arith, one, times-cons k (length x.found) [], o, none)))

-- a list that is no shorter than the longest before it is the longest
pub longest-last : (row : List Entry) (xs : List (List Entry)) → length (longest xs) ≤ length row → longest (xs ++ row ∷ []) ≡ row
longest-last row [] most = alone row
longest-last row (x ∷ xs) most =
    let n = longer-length x (longest xs) in
    ap (longer x) (longest-last row xs (omega (arith, n.1))) ∙ ap (λ t. if t then x else row) (le-ltb (length row) (length x) (omega (arith, n.0)))

module _ (visits : List Visit) (x : Visit) where
  -- one more visit of a node is the last of it
  pub visits-here : (v : ℕ) → x.node ≡ v → visits_of (visits ++ x ∷ []) v ≡ visits_of visits v ++ x ∷ []
  visits-here v is =
      filter-append (λ y. nat_eq y.node v) visits (x ∷ [])
      ∙ ap (λ t. visits_of visits v ++ (if t then x ∷ [] else [])) (eq-eqb x.node v is)

  -- and no visit of another node
  pub visits-else : (v : ℕ) → x.node ≢ v → visits_of (visits ++ x ∷ []) v ≡ visits_of visits v
  visits-else v other =
      filter-append (λ y. nat_eq y.node v) visits (x ∷ [])
      ∙ ap (λ t. visits_of visits v ++ (if t then x ∷ [] else [])) (ne_eqb x.node v other)
      ∙ append-nil (visits_of visits v)

  -- what was seen of a node is then the row that its last visit left, where that goes on from what had been seen
  pub seen-here : (v : ℕ) → x.node ≡ v → GoesOnFrom (seen_of visits v) (left_by x) → seen_of (visits ++ x ∷ []) v ≡ left_by x
  seen-here v is goes_on =
      ap (λ xs. longest (map left_by xs)) (visits-here v is)
      ∙ ap longest (map-append left_by (visits_of visits v) (x ∷ []))
      ∙ longest-last (left_by x) (map left_by (visits_of visits v)) (no_longer (seen_of visits v) (left_by x) goes_on)

  pub puts-here : (v : ℕ) → x.node ≡ v → puts_of (visits ++ x ∷ []) v ≡ puts_of visits v ++ put_list x.put
  puts-here v is =
      ap (flat_map (λ y. put_list y.put)) (visits-here v is)
      ∙ flat_map-append (λ y. put_list y.put) (visits_of visits v) (x ∷ [])
      ∙ ap (λ es. puts_of visits v ++ es) (append-nil (put_list x.put))

  pub places-here : (v : ℕ) → x.node ≡ v → places_of (visits ++ x ∷ []) v ≡ places_of visits v ++ place_of x.put (length x.found)
  places-here v is =
      ap (flat_map (λ y. place_of y.put (length y.found))) (visits-here v is)
      ∙ flat_map-append (λ y. place_of y.put (length y.found)) (visits_of visits v) (x ∷ [])
      ∙ ap (λ ns. places_of visits v ++ ns) (append-nil (place_of x.put (length x.found)))

module _ (visits : List Visit) (x : Visit) (u : ℕ) (other : x.node ≢ u) where
  pub seen-else : seen_of (visits ++ x ∷ []) u ≡ seen_of visits u
  seen-else = ap (λ xs. longest (map left_by xs)) (visits-else visits x u other)

  pub puts-else : puts_of (visits ++ x ∷ []) u ≡ puts_of visits u
  puts-else = ap (flat_map (λ y. put_list y.put)) (visits-else visits x u other)

-- the list with the entry after it where it was put
pub put-after : (entries : List Entry) (e : Entry) (answer : Offer) → entries ++ put_list (put_by e answer) ≡ with_put entries e answer
put-after entries e Put = refl
put-after entries e (Covered pos dist) = append-nil entries
put-after entries e NoMemory = append-nil entries
