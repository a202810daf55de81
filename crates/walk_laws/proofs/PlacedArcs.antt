-- Arcs that are placed one by one, each where the next one of its node is to stand.
use Rattle.std.specs.Prelude.{◌≡◌, ◌≢◌, ℕ, zero, suc, Bool, true, false, ◌+◌, ◌-◌, ◌*◌, ◌/◌, ◌^◌, ◌≤◌, ◌<◌, ◌==◌, List, [], ◌∷◌, ◌++◌, length, nat_lt, slice_index, slice_range, set, if◌then◌else◌, refl}
use Rattle.std.proofs.Common.{◌∙◌, ap, sym, subst, inl, inr, arith, take, drop, get_or, append_assoc}
use Rattle.std.proofs.lemmas.Bool.{cases_lt, eq-eqb, ne_eqb, cases_eq}
use Rattle.std.proofs.lemmas.Bool.Decides.{nat_tests}
use Rattle.std.proofs.lemmas.List.{ext_get_or, take_more, take-append-drop, get_or-take, get_or-drop, length-take, length-drop, length-append, length-set, get_or-set_same, get_or-set_other, append-nil}
use Rattle.std.proofs.Math.Pow.{shr_mono}
use Rattle.walk_laws.specs.declared.graph.Edge.{Edge}
use Rattle.walk_laws.specs.declared.graph.Arc.{Arc}
use Rattle.walk_laws.specs.Graph.{arcs_at}
use Rattle.walk_laws.specs.Rows.{IsPlaced, arcs_before, rows_before}
use Rattle.walk_laws.proofs.Arcs.{arcs_at-append}

-- lists that agree between two places have the same part there
pub slice_range-same : {X : Type 0} (d : X) (xs ys : List X) (a b : ℕ) → length xs ≡ length ys → ((i : ℕ) → a ≤ i → i < b → get_or xs i d ≡ get_or ys i d) → slice_range xs a b ≡ slice_range ys a b
slice_range-same d xs ys a b long same =
    ext_get_or d _ _ (omega (arith, length-take (b - a) (drop a xs), length-take (b - a) (drop a ys), length-drop a xs, length-drop a ys))
    (λ i lt.
    let low : i < b - a = omega (arith, length-take (b - a) (drop a xs)) in
    get_or-take (b - a) (drop a xs) i d low ∙ get_or-drop a xs i d ∙ same (a + i) (omega arith) (omega arith) ∙ sym (get_or-take (b - a) (drop a ys) i d low ∙ get_or-drop a ys i d))

-- one more element after a part
slice_range-more : {X : Type 0} (xs : List X) (a i : ℕ) (y : X) → a ≤ i → i < length xs → slice_range (set xs i y) a (i + 1) ≡ slice_range xs a i ++ y ∷ []
slice_range-more xs a i y low lt =
    let placed = set xs i y in
    let long = length-set xs i y in
    let next : i + 1 - a ≡ i - a + 1 = omega arith in
    ap (λ n. take n (drop a placed)) next
    ∙ take_more (drop a placed) (i - a) y (omega (arith, length-drop a placed))
    ∙ ap (λ z. take (i - a) (drop a placed) ++ z ∷ []) (get_or-drop a placed (i - a) y ∙ ap (λ n. get_or placed n y) (omega arith) ∙ get_or-set_same xs i y y lt)
    ∙ ap (λ l. l ++ y ∷ []) (slice_range-same y placed xs a i long (λ k _ less. get_or-set_other xs i k y y (λ e. omega arith)))

-- the arcs of earlier nodes end where those of a later one begin, or before
before_rises : (edges : List Edge) (u v : ℕ) → u ≤ v → arcs_before edges u ≤ arcs_before edges v
before_rises edges u zero le =
    let same : u ≡ zero = omega arith in
    subst (λ k. arcs_before edges k ≤ arcs_before edges zero) (sym same) (omega arith)
before_rises edges u (suc v) le =
    elim (cases_eq u (suc v)) [
      | inl same ↦ subst (λ k. arcs_before edges k ≤ arcs_before edges (suc v)) (sym same) (omega arith)
      | inr other ↦ omega (arith, before_rises edges u v (omega (arith, other)))
    ]

pub arcs_before_rises : (edges : List Edge) (u v : ℕ) → u < v → arcs_before edges u + length (arcs_at edges u) ≤ arcs_before edges v
arcs_before_rises edges u v lt = before_rises edges (suc u) v lt

-- one if the node u lies before v
abbrev passed : ℕ → ℕ → ℕ
passed u v = if nat_lt u v then 1 else 0

abbrev here : ℕ → ℕ → ℕ
here u v = if u == v then 1 else 0

passed_more : (u v : ℕ) → passed u (suc v) ≡ passed u v + here u v
passed_more u v = grind (arith, nat_tests)

degree_more : (e : Edge) (edges : List Edge) (v : ℕ) → length (arcs_at (e ∷ edges) v) ≡ here e.u v + here e.v v + length (arcs_at edges v)
degree_more e edges v = grind (arith, length-append)

before_more : (e : Edge) (edges : List Edge) (v : ℕ) → arcs_before (e ∷ edges) v ≡ passed e.u v + passed e.v v + arcs_before edges v
before_more e edges zero = grind (arith, nat_tests)
before_more e edges (suc v) = omega (arith, before_more e edges v, degree_more e edges v, passed_more e.u v, passed_more e.v v)

here_once : (u v : ℕ) → here u v ≤ 1
here_once u v = grind arith

passed_once : (u v : ℕ) → passed u v ≤ 1
passed_once u v = grind arith

before_none : (v : ℕ) → arcs_before [] v ≡ 0
before_none zero = refl
before_none (suc v) = omega (arith, before_none v)

-- each edge has two arcs
pub arcs_before_most : (edges : List Edge) (v : ℕ) → arcs_before edges v ≤ 2 * length edges
arcs_before_most [] v = omega (arith, before_none v)
arcs_before_most (e ∷ edges) v = omega (arith, before_more e edges v, passed_once e.u v, passed_once e.v v, arcs_before_most edges v)

-- the first edges have no more arcs than all
pub degree_of_first : (edges : List Edge) (i v : ℕ) → length (arcs_at (take i edges) v) ≤ length (arcs_at edges v)
degree_of_first edges i v =
    let parts : arcs_at edges v ≡ arcs_at (take i edges) v ++ arcs_at (drop i edges) v = ap (λ l. arcs_at l v) (sym (take-append-drop i edges)) ∙ arcs_at-append (take i edges) (drop i edges) v in
    omega (arith, ap length parts, length-append (arcs_at (take i edges) v) (arcs_at (drop i edges) v))

-- what an arc of the node v adds to the row of u
abbrev pub added : (ℕ → List Arc) → ℕ → Arc → ℕ → List Arc
added row v a u = row u ++ (if v == u then a ∷ [] else [])

pub arcs_at_more : (edges : List Edge) (i : ℕ) (d : Edge) (v : ℕ) → i < length edges → added (added (arcs_at (take i edges)) (get_or edges i d).u (record { to = (get_or edges i d).v; w = (get_or edges i d).w })) (get_or edges i d).v (record { to = (get_or edges i d).u; w = (get_or edges i d).w }) v ≡ arcs_at (take (i + 1) edges) v
arcs_at_more edges i d v lt =
    sym (ap (λ l. arcs_at l v) (take_more edges i d lt) ∙ arcs_at-append (take i edges) (get_or edges i d ∷ []) v ∙ simp (append_assoc, append-nil))

-- there is room for one more arc of a node that has not all of its arcs yet
pub placed_room : (edges : List Edge) (row : ℕ → List Arc) (arcs : List Arc) (next : List ℕ) (v : ℕ) → IsPlaced edges row arcs next → v < length next → length (row v) < length (arcs_at edges v) → slice_index next v < length arcs
placed_room edges row arcs next v placed lt less =
    omega (arith, placed.ends v lt, arcs_before_rises edges v (length next) lt, placed.room)

-- the arc of one node more
pub IsPlaced-more : (edges : List Edge) (row : ℕ → List Arc) (arcs : List Arc) (next : List ℕ) (v : ℕ) (a : Arc) → IsPlaced edges row arcs next → v < length next → length (row v) < length (arcs_at edges v) → ((u : ℕ) → length (row u) ≤ length (arcs_at edges u)) → IsPlaced edges (added row v a) (set arcs (slice_index next v) a) (set next v (slice_index next v + 1))
IsPlaced-more edges row arcs next v a placed lt less few =
    let at = slice_index next v in
    let room = placed_room edges row arcs next v placed lt less in
    let moved = set next v (at + 1) in
    let long = length-set next v (at + 1) in
    let longer = length-set arcs at a in
    let is_at = placed.ends v lt in
    let end_here : slice_index moved v ≡ at + 1 = get_or-set_same next v (at + 1) 0 lt in
    let end_there : (u : ℕ) → u ≢ v → slice_index moved u ≡ slice_index next u = λ u other. get_or-set_other next v u (at + 1) 0 other in
    let row_here : added row v a v ≡ row v ++ a ∷ [] = rw (eq-eqb v v refl) refl in
    let row_there : (u : ℕ) → u ≢ v → added row v a u ≡ row u = λ u other. rw (ne_eqb v u (λ e. other (sym e))) (append-nil (row u)) in
    record {
      room = subst (λ k. arcs_before edges k ≤ length (set arcs at a)) (sym long) (omega (arith, placed.room, longer));
      ends = λ u within. elim (cases_eq u v) [
        | inl same ↦ subst (λ k. slice_index moved k ≡ arcs_before edges k + length (added row v a k)) (sym same) (omega (arith, end_here, is_at, ap length row_here, length-append (row v) (a ∷ [])))
        | inr other ↦ omega (arith, end_there u other, placed.ends u (omega arith), ap length (row_there u other))
      ];
      rows = λ u within. elim (cases_eq u v) [
        | inl same ↦ subst (λ k. slice_range (set arcs at a) (arcs_before edges k) (slice_index moved k) ≡ added row v a k) (sym same) (ap (slice_range (set arcs at a) (arcs_before edges v)) end_here ∙ slice_range-more arcs (arcs_before edges v) at a (omega arith) room ∙ ap (λ l. l ++ a ∷ []) (placed.rows v lt) ∙ sym row_here)
        | inr other ↦ ap (slice_range (set arcs at a) (arcs_before edges u)) (end_there u other)
            ∙ slice_range-same a (set arcs at a) arcs (arcs_before edges u) (slice_index next u) longer (λ k low high. get_or-set_other arcs at k a a (λ e. elim (cases_lt u v) [
              | inl before ↦ omega (arith, placed.ends u (omega arith), few u, arcs_before_rises edges u v before)
              | inr after ↦ omega (arith, other, arcs_before_rises edges v u (omega (arith, other)))
            ]))
            ∙ placed.rows u (omega arith)
            ∙ sym (row_there u other)
      ];
    }

pub IsPlaced-same : (edges : List Edge) (row other : ℕ → List Arc) (arcs : List Arc) (next : List ℕ) → ((u : ℕ) → u < length next → row u ≡ other u) → IsPlaced edges row arcs next → IsPlaced edges other arcs next
IsPlaced-same edges row other arcs next same placed = record {
  room = placed.room;
  ends = λ v lt. placed.ends v lt ∙ ap (λ l. arcs_before edges v + length l) (same v lt);
  rows = λ v lt. placed.rows v lt ∙ same v lt;
}

-- a row with one more arc of the node v, if it is to be placed now
abbrev added_if : Bool → (ℕ → List Arc) → ℕ → Arc → ℕ → List Arc
added_if is_now row v a u = if is_now then added row v a u else row u

IsPlaced-if : (edges : List Edge) (row : ℕ → List Arc) (arcs : List Arc) (next : List ℕ) (v : ℕ) (a : Arc) (is_now : Bool) → IsPlaced edges row arcs next → v < length next → (is_now ≡ true → length (row v) < length (arcs_at edges v)) → ((u : ℕ) → length (row u) ≤ length (arcs_at edges u)) → IsPlaced edges (added_if is_now row v a) (if is_now then set arcs (slice_index next v) a else arcs) (if is_now then set next v (slice_index next v + 1) else next)
IsPlaced-if edges row arcs next v a true placed lt less few = IsPlaced-more edges row arcs next v a placed lt (less refl) few
IsPlaced-if edges row arcs next v a false placed lt less few = placed

-- the rows while a range is placed: whole ones before it, and such as they are so far in it
abbrev pub rows_within : (ℕ → List Arc) → (ℕ → List Arc) → ℕ → ℕ → ℕ → List Arc
rows_within whole row shift range v = if nat_lt (v / 2 ^ shift) range then whole v else (if v / 2 ^ shift == range then row v else [])

abbrev in_range : ℕ → ℕ → ℕ → Bool
in_range shift range v = v / 2 ^ shift == range

-- by cases: before, in or after the range
within_added : (whole row : ℕ → List Arc) (shift range v : ℕ) (a : Arc) (u : ℕ) → added_if (in_range shift range v) (rows_within whole row shift range) v a u ≡ rows_within whole (added row v a) shift range u
within_added whole row shift range v a u =
    elim (cases_eq v u) [
      | inl same ↦ subst (λ k. added_if (in_range shift range v) (rows_within whole row shift range) v a k ≡ rows_within whole (added row v a) shift range k) same (rw (eq-eqb v v refl) (grind (arith, nat_tests)))
      | inr other ↦ rw (ne_eqb v u other) (grind (arith, nat_tests, append-nil))
    ]

within_here : (whole row : ℕ → List Arc) (shift range v : ℕ) → in_range shift range v ≡ true → rows_within whole row shift range v ≡ row v
within_here whole row shift range v is = grind (arith, nat_tests)

within_few : (edges : List Edge) (row : ℕ → List Arc) (shift range : ℕ) → ((u : ℕ) → length (row u) ≤ length (arcs_at edges u)) → (u : ℕ) → length (rows_within (arcs_at edges) row shift range u) ≤ length (arcs_at edges u)
within_few edges row shift range few u = let most = few u in grind (arith, nat_tests)

-- one more arc, if its node is in the range
IsPlaced-within : (edges : List Edge) (row : ℕ → List Arc) (arcs : List Arc) (next : List ℕ) (shift range v : ℕ) (a : Arc) → IsPlaced edges (rows_within (arcs_at edges) row shift range) arcs next → v < length next → length (row v) < length (arcs_at edges v) → ((u : ℕ) → length (row u) ≤ length (arcs_at edges u)) → IsPlaced edges (rows_within (arcs_at edges) (added row v a) shift range) (if v / 2 ^ shift == range then set arcs (slice_index next v) a else arcs) (if v / 2 ^ shift == range then set next v (slice_index next v + 1) else next)
IsPlaced-within edges row arcs next shift range v a placed lt less few =
    let whole = arcs_at edges in
    let rows = rows_within whole row shift range in
    IsPlaced-same edges (added_if (in_range shift range v) rows v a) (rows_within whole (added row v a) shift range) _ _ (λ u _. within_added whole row shift range v a u)
    (IsPlaced-if edges rows arcs next v a (in_range shift range v) placed lt (λ is. omega (arith, ap length (within_here whole row shift range v is), less)) (within_few edges row shift range few))

-- there is room for one more arc of a node in the range
pub room_within : (edges : List Edge) (row : ℕ → List Arc) (arcs : List Arc) (next : List ℕ) (shift range v : ℕ) → IsPlaced edges (rows_within (arcs_at edges) row shift range) arcs next → v < length next → length (row v) < length (arcs_at edges v) → (v / 2 ^ shift == range) ≡ true → slice_index next v < length arcs
room_within edges row arcs next shift range v placed lt less is =
    placed_room edges (rows_within (arcs_at edges) row shift range) arcs next v placed lt (omega (arith, ap length (within_here (arcs_at edges) row shift range v is), less))

-- a range begins with the rows before it
pub IsPlaced-begun : (edges : List Edge) (arcs : List Arc) (next : List ℕ) (shift range : ℕ) → IsPlaced edges (rows_before (arcs_at edges) shift range) arcs next → IsPlaced edges (rows_within (arcs_at edges) (arcs_at []) shift range) arcs next
IsPlaced-begun edges arcs next shift range placed =
    IsPlaced-same edges (rows_before (arcs_at edges) shift range) (rows_within (arcs_at edges) (arcs_at []) shift range) arcs next (λ u _. grind (arith, nat_tests)) placed

-- and ends with those before the next one
pub IsPlaced-ended : (edges : List Edge) (arcs : List Arc) (next : List ℕ) (shift range : ℕ) → IsPlaced edges (rows_within (arcs_at edges) (arcs_at edges) shift range) arcs next → IsPlaced edges (rows_before (arcs_at edges) shift (range + 1)) arcs next
IsPlaced-ended edges arcs next shift range placed =
    IsPlaced-same edges (rows_within (arcs_at edges) (arcs_at edges) shift range) (rows_before (arcs_at edges) shift (range + 1)) arcs next (λ u _. grind (arith, nat_tests)) placed

-- after the last range all rows are whole
pub IsPlaced-all : (edges : List Edge) (arcs : List Arc) (next : List ℕ) (shift range : ℕ) → length next / 2 ^ shift < range → IsPlaced edges (rows_before (arcs_at edges) shift range) arcs next → IsPlaced edges (arcs_at edges) arcs next
IsPlaced-all edges arcs next shift range past placed =
    IsPlaced-same edges (rows_before (arcs_at edges) shift range) (arcs_at edges) arcs next (λ u lt. let low = shr_mono {a = u} {b = length next} shift (omega arith) in let before : u / 2 ^ shift < range = omega (arith, low, past) in grind (arith, nat_tests)) placed

none_before : (row : ℕ → List Arc) (shift v : ℕ) → rows_before row shift 0 v ≡ []
none_before row shift v = grind (arith, nat_tests)

-- no arc stands yet
pub IsPlaced-none : (edges : List Edge) (arcs : List Arc) (next : List ℕ) (shift : ℕ) → 2 * length edges ≤ length arcs → ((v : ℕ) → v < length next → slice_index next v ≡ arcs_before edges v) → IsPlaced edges (rows_before (arcs_at edges) shift 0) arcs next
IsPlaced-none edges arcs next shift room starts =
    let none : (a : ℕ) → slice_range arcs a a ≡ [] =
    λ a.
    let nothing : a - a ≡ 0 = omega arith in
    ap (λ n. take n (drop a arcs)) nothing in
    let empty : IsPlaced edges (λ _. []) arcs next =
    record {
      room = omega (arith, arcs_before_most edges (length next));
      ends = λ v lt. omega (arith, starts v lt);
      rows = λ v lt. ap (slice_range arcs (arcs_before edges v)) (starts v lt) ∙ none (arcs_before edges v);
    } in
    IsPlaced-same edges (λ _. []) (rows_before (arcs_at edges) shift 0) arcs next (λ u _. sym (none_before (arcs_at edges) shift u)) empty

-- an edge as it leaves its first end, and its second
abbrev pub first_arc : Edge → Arc
first_arc e = record { to = e.v; w = e.w }

abbrev pub second_arc : Edge → Arc
second_arc e = record { to = e.u; w = e.w }

added_here : (row : ℕ → List Arc) (v : ℕ) (a : Arc) → length (added row v a v) ≡ length (row v) + 1
added_here row v a = rw (eq-eqb v v refl) (length-append (row v) (a ∷ []))

added_more : (row : ℕ → List Arc) (v : ℕ) (a : Arc) (u : ℕ) → length (row u) ≤ length (added row v a u)
added_more row v a u = omega (arith, length-append (row u) (if v == u then a ∷ [] else []))

-- with both arcs of one more edge no node has more than all its arcs
both_fit : (edges : List Edge) (i : ℕ) (d : Edge) (v : ℕ) → i < length edges → length (added (added (arcs_at (take i edges)) (get_or edges i d).u (first_arc (get_or edges i d))) (get_or edges i d).v (second_arc (get_or edges i d)) v) ≤ length (arcs_at edges v)
both_fit edges i d v lt = omega (arith, ap length (arcs_at_more edges i d v lt), degree_of_first edges (i + 1) v)

-- the first arc of one more edge has room, and then the second
pub first_fits : (edges : List Edge) (i : ℕ) (d : Edge) → i < length edges → length (arcs_at (take i edges) (get_or edges i d).u) < length (arcs_at edges (get_or edges i d).u)
first_fits edges i d lt =
    let e = get_or edges i d in
    let row = arcs_at (take i edges) in
    omega (arith, both_fit edges i d e.u lt, added_more (added row e.u (first_arc e)) e.v (second_arc e) e.u, added_here row e.u (first_arc e))

pub second_fits : (edges : List Edge) (i : ℕ) (d : Edge) → i < length edges → length (added (arcs_at (take i edges)) (get_or edges i d).u (first_arc (get_or edges i d)) (get_or edges i d).v) < length (arcs_at edges (get_or edges i d).v)
second_fits edges i d lt =
    let e = get_or edges i d in
    omega (arith, both_fit edges i d e.v lt, added_here (added (arcs_at (take i edges)) e.u (first_arc e)) e.v (second_arc e))

pub IsPlaced-first : (edges : List Edge) (i : ℕ) (d : Edge) (arcs : List Arc) (next : List ℕ) (shift range : ℕ) → i < length edges → (get_or edges i d).u < length next → IsPlaced edges (rows_within (arcs_at edges) (arcs_at (take i edges)) shift range) arcs next → IsPlaced edges (rows_within (arcs_at edges) (added (arcs_at (take i edges)) (get_or edges i d).u (first_arc (get_or edges i d))) shift range) (if (get_or edges i d).u / 2 ^ shift == range then set arcs (slice_index next (get_or edges i d).u) (first_arc (get_or edges i d)) else arcs) (if (get_or edges i d).u / 2 ^ shift == range then set next (get_or edges i d).u (slice_index next (get_or edges i d).u + 1) else next)
IsPlaced-first edges i d arcs next shift range lt within placed =
    let e = get_or edges i d in
    IsPlaced-within edges (arcs_at (take i edges)) arcs next shift range e.u (first_arc e) placed within (first_fits edges i d lt) (degree_of_first edges i)

pub IsPlaced-second : (edges : List Edge) (i : ℕ) (d : Edge) (arcs : List Arc) (next : List ℕ) (shift range : ℕ) → i < length edges → (get_or edges i d).v < length next → IsPlaced edges (rows_within (arcs_at edges) (added (arcs_at (take i edges)) (get_or edges i d).u (first_arc (get_or edges i d))) shift range) arcs next → IsPlaced edges (rows_within (arcs_at edges) (arcs_at (take (i + 1) edges)) shift range) (if (get_or edges i d).v / 2 ^ shift == range then set arcs (slice_index next (get_or edges i d).v) (second_arc (get_or edges i d)) else arcs) (if (get_or edges i d).v / 2 ^ shift == range then set next (get_or edges i d).v (slice_index next (get_or edges i d).v + 1) else next)
IsPlaced-second edges i d arcs next shift range lt within placed =
    let e = get_or edges i d in
    let row = added (arcs_at (take i edges)) e.u (first_arc e) in
    let few : (u : ℕ) → length (row u) ≤ length (arcs_at edges u) = λ u. omega (arith, both_fit edges i d u lt, added_more row e.v (second_arc e) u) in
    IsPlaced-same edges (rows_within (arcs_at edges) (added row e.v (second_arc e)) shift range) (rows_within (arcs_at edges) (arcs_at (take (i + 1) edges)) shift range) _ _ (λ u _. rw (← arcs_at_more edges i d u lt) refl) (IsPlaced-within edges row arcs next shift range e.v (second_arc e) placed within (second_fits edges i d lt) few)

-- no node has more arcs than two for each edge
pub degree_most : (edges : List Edge) (v : ℕ) → length (arcs_at edges v) ≤ 2 * length edges
degree_most edges v = omega (arith, arcs_before_most edges (suc v))

-- a count goes up by one at one place
bumped : (xs : List ℕ) (u v : ℕ) → u < length xs → slice_index (set xs u (slice_index xs u + 1)) v ≡ slice_index xs v + here u v
bumped xs u v lt =
    elim (cases_eq v u) [
      | inl same ↦ subst (λ k. slice_index (set xs u (slice_index xs u + 1)) k ≡ slice_index xs k + here u k) (sym same) (rw (eq-eqb u u refl) (get_or-set_same xs u (slice_index xs u + 1) 0 lt))
      | inr other ↦ rw (ne_eqb u v (λ e. other (sym e))) (omega (arith, get_or-set_other xs u v (slice_index xs u + 1) 0 other))
    ]

pub counted_once : (xs : List ℕ) (u v x : ℕ) → u < length xs → x ≡ slice_index xs u → slice_index (set xs u (x + 1)) v ≤ slice_index xs v + 1
counted_once xs u v x lt is = rw is (omega (arith, bumped xs u v lt, here_once u v))

length-added : (row : ℕ → List Arc) (u : ℕ) (a : Arc) (v : ℕ) → length (added row u a v) ≡ length (row v) + here u v
length-added row u a v = grind (arith, length-append)

-- the arcs of one more edge are counted at its ends
pub counted_more : (edges : List Edge) (i : ℕ) (d : Edge) (degrees : List ℕ) (x y : ℕ) → i < length edges → (get_or edges i d).u < length degrees → (get_or edges i d).v < length degrees → x ≡ slice_index degrees (get_or edges i d).u → y ≡ slice_index (set degrees (get_or edges i d).u (x + 1)) (get_or edges i d).v → ((v : ℕ) → v < length degrees → slice_index degrees v ≡ length (arcs_at (take i edges) v)) → (v : ℕ) → v < length degrees → slice_index (set (set degrees (get_or edges i d).u (x + 1)) (get_or edges i d).v (y + 1)) v ≡ length (arcs_at (take (i + 1) edges) v)
counted_more edges i d degrees x y lt first second x_is y_is each v within =
    let e = get_or edges i d in
    let row = arcs_at (take i edges) in
    let once = set degrees e.u (slice_index degrees e.u + 1) in
    rw (y_is, x_is) (omega (arith, bumped once e.v v (omega (arith, second, length-set degrees e.u (slice_index degrees e.u + 1))), bumped degrees e.u v first, each v within, ap length (arcs_at_more edges i d v lt), length-added (added row e.u (first_arc e)) e.v (second_arc e) v, length-added row e.u (first_arc e) v))
