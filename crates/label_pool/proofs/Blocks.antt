-- The cells that seats got are those of the blocks that they drew, each once.
use Rattle.std.proofs.Common.{◌≡◌, ℕ, zero, suc, ◌+◌, ◌-◌, ◌*◌, ◌<◌, ◌≤◌, List, [], ◌∷◌, ◌++◌, IsPermutation, cond, eq-eqb, ne_eqb, map, min, mul-le-mul_right, suc-mul, zero-mul, refl, sym, ap, ◌∙◌, arith}
use Rattle.std.specs.Prelude.{Some}
use Rattle.std.specs.List.{flat_map, range_with_len, sum_by}
use Rattle.std.proofs.lemmas.Grind.{flat_map-append}
use Rattle.std.proofs.lemmas.List.{append-nil}
use Rattle.std.proofs.lemmas.List.Concat.{flat_map-cons}
use Rattle.std.proofs.lemmas.List.Sorted.{sum_by-IsPermutation}
use Rattle.std.proofs.lemmas.List.Sums.{sum_by-cons}
use mathlib.Core.Option.{some}
use lib.ListN.{get_elem?}
use mathlib.Core.Logic.{dite}
use native.Mathlib.Decide.{ℕ_discrete}
use Rattle.table_seats.specs.declared.seat_view.SeatView.{SeatView}
use Rattle.table_seats.specs.Draws.{IsDrawn}
use Rattle.table_seats.specs.Numbers.{numbers}
use Rattle.table_seats.specs.Seats.{Each}
use Rattle.table_seats.proofs.EachSeat.{one_within}
use Rattle.table_seats.proofs.Counting.{times, once, times-cons, times-append, times-flat_map, times-permutation, times-push, permutation-times, numbers-push}
use Rattle.label_pool.specs.declared.rule.About.{About}
use Rattle.label_pool.specs.declared.rule.Filling.{Filling}
use Rattle.label_pool.specs.declared.rule.Put.{Put}
use Rattle.label_pool.specs.declared.rule.View.{View}
use Rattle.label_pool.specs.Fillings.{block_cells, open_cell}
use Rattle.label_pool.specs.Lawful.{HasGot, at_hand, drawn_by, got_by, is_past}

-- numbers in a row are those of two rows
numbers-parts : (x first more : ℕ) → times x (numbers 0 (first + more)) ≡ times x (numbers 0 first) + times x (numbers first (first + more))
numbers-parts x first zero =
    let same : first + 0 ≡ first = omega arith in
    let nothing : first + 0 - first ≡ 0 = omega arith in
    let none : times x [] ≡ 0 = refl in
    let a = ap (λ k. times x (numbers 0 k)) same in
    let b = ap (λ k. times x (range_with_len first k)) nothing in
    omega (arith, a, b, none)
numbers-parts x first (suc more) =
    let r = numbers-parts x first more in
    let next : first + suc more ≡ first + more + 1 = omega arith in
    let a = ap (λ k. times x (numbers 0 k)) next ∙ ap (times x) (numbers-push 0 (first + more) (omega arith)) ∙ times-push x (numbers 0 (first + more)) (first + more) in
    let b = ap (λ k. times x (numbers first k)) next ∙ ap (times x) (numbers-push first (first + more) (omega arith)) ∙ times-push x (numbers first (first + more)) (first + more) in
    omega (arith, r, a, b)

-- the cells of the first so many blocks are the first so many cells
blocks-in-row : (x size count : ℕ) → times x (flat_map (block_cells size) (numbers 0 count)) ≡ times x (numbers 0 (count * size))
blocks-in-row x size zero = let none : times x [] ≡ 0 = refl in ap (λ k. times x (numbers 0 k)) (sym (zero-mul size))
blocks-in-row x size (suc count) =
    let r = blocks-in-row x size count in
    let next : suc count ≡ count + 1 = omega arith in
    let start : ℕ = count * size in
    let width : size ≡ start + size - start = omega arith in
    let pushed = ap (λ k. times x (flat_map (block_cells size) (numbers 0 k))) next ∙ ap (λ bs. times x (flat_map (block_cells size) bs)) (numbers-push 0 count (omega arith))
    ∙ ap (times x) (flat_map-append (block_cells size) (numbers 0 count) (count ∷ [])) ∙ times-append x (flat_map (block_cells size) (numbers 0 count)) (flat_map (block_cells size) (count ∷ [])) in
    let last = ap (times x) (flat_map-cons (block_cells size) count [] ∙ append-nil (block_cells size count)) ∙ ap (λ k. times x (range_with_len start k)) width in
    let parts = numbers-parts x start size in
    let whole = ap (λ k. times x (numbers 0 k)) (suc-mul count size) in
    omega (arith, r, pushed, last, parts, whole)

-- a number in a row is below the next one
times-within : (x first count : ℕ) → 1 ≤ times x (range_with_len first count) → x < first + count
times-within x first zero there = let none : times x [] ≡ 0 = refl in absurd (omega (arith, there, none))
times-within x first (suc count) there =
    let a = times-cons x first (range_with_len (first + 1) count) in
    dite (ℕ_discrete first x)
    (λ is. omega (arith, is))
    (λ not.
    let o : once x first ≡ 0 = ap (λ b. cond b 1 0) (ne_eqb first x not) in
    let r = times-within x (first + 1) count (omega (arith, a, o, there)) in
    omega (arith, r))

sum_by-same : {X : Type 0} (f g : X → ℕ) (xs : List X) → ((j : ℕ) (y : X) → get_elem? xs j ≡ some y → f y ≡ g y) → sum_by f xs ≡ sum_by g xs
sum_by-same f g [] same = refl
sum_by-same f g (x ∷ xs) same =
    sum_by-cons f x xs ∙ (λ k. same 0 x refl k + sum_by-same f g xs (λ j y at. same (suc j) y at) k) ∙ sym (sum_by-cons g x xs)

-- how often a number stands in what lists of lists make
times-flat_twice : {X : Type 0} (bs : X → List ℕ) (f : ℕ → List ℕ) (x : ℕ) (xs : List X) → sum_by (λ v. times x (flat_map f (bs v))) xs ≡ times x (flat_map f (flat_map bs xs))
times-flat_twice bs f x [] = refl
times-flat_twice bs f x (v ∷ vs) =
    let a = sum_by-cons (λ w. times x (flat_map f (bs w))) v vs in
    let r = times-flat_twice bs f x vs in
    let b = ap (λ ys. times x (flat_map f ys)) (flat_map-cons bs v vs) ∙ ap (times x) (flat_map-append f (bs v) (flat_map bs vs)) ∙ times-append x (flat_map f (bs v)) (flat_map f (flat_map bs vs)) in
    omega (arith, a, r, b)

-- the cells that all seats got are the first so many, each once
abbrev pub GotOnce : {F : Type 0} → ℕ → List (SeatView (View F)) → Type 0
GotOnce {F} cells views = (top : ℕ) × (top ≤ cells) × IsPermutation (flat_map (λ (v : SeatView (View F)). got_by v.knows) views) (numbers 0 top)

module _ {F : Type 0} (about : About F) (counter : ℕ) (views : List (SeatView (View F))) where
  pub got-once : IsDrawn drawn_by is_past 0 about.blocks about.seats counter views → Each (λ seat. HasGot about seat.knows) views → about.cells ≡ about.blocks * about.block → GotOnce about.cells views
  got-once drawn got blocked =
      let count : ℕ = min counter about.blocks in
      let few : count ≤ about.blocks = omega arith in
      let most = mul-le-mul_right about.block few in (
        count * about.block,
        omega (arith, most, blocked),
        permutation-times _ _ (λ x.
            let cells : ℕ → List ℕ = block_cells about.block in
            times-flat_map (λ (v : SeatView (View F)). got_by v.knows) x views
            ∙ sum_by-same (λ (v : SeatView (View F)). times x (got_by v.knows)) (λ v. times x (flat_map cells v.knows.blocks)) views (λ j v at. times-permutation x _ _ (got j v at))
            ∙ times-flat_twice (λ (v : SeatView (View F)). v.knows.blocks) cells x views
            ∙ times-flat_map cells x (flat_map (λ (v : SeatView (View F)). v.knows.blocks) views)
            ∙ sym (sum_by-IsPermutation (λ b. times x (cells b)) _ _ drawn.each_once)
            ∙ sym (times-flat_map cells x (numbers 0 count))
            ∙ blocks-in-row x about.block count),
      )

module _ {F : Type 0} where
  -- how often a cell stands among those that a seat got
  pub got-times : (v : View F) (x : ℕ) → times x (got_by v) ≡ times x (map (λ (p : Put). p.linked.cell) v.puts) + (times x (open_cell v.filling) + times x v.reserve + times x v.spare)
  got-times v x =
      let a = times-append x (map (λ (p : Put). p.linked.cell) v.puts) (at_hand v ++ v.spare) in
      let b = times-append x (at_hand v) v.spare in
      let c = times-append x (open_cell v.filling) v.reserve in
      omega (arith, a, b, c)

  -- an open cell is at hand
  pub open-at-hand : (v : View F) (f : Filling) → v.filling ≡ Some f → 1 ≤ times f.cell (at_hand v)
  open-at-hand v f is =
      let a = times-append f.cell (open_cell v.filling) v.reserve in
      let b = ap (λ o. times f.cell (open_cell o)) is ∙ times-cons f.cell f.cell [] in
      let o : once f.cell f.cell ≡ 1 = ap (λ b. cond b 1 0) (eq-eqb f.cell f.cell refl) in
      omega (arith, a, b, o)

  -- and so is the first one in reserve
  pub first-at-hand : (v : View F) (cell : ℕ) (rest : List ℕ) → v.reserve ≡ cell ∷ rest → 1 ≤ times cell (at_hand v)
  first-at-hand v cell rest is =
      let a = times-append cell (open_cell v.filling) v.reserve in
      let b = ap (times cell) is ∙ times-cons cell cell rest in
      let o : once cell cell ≡ 1 = ap (λ b. cond b 1 0) (eq-eqb cell cell refl) in
      omega (arith, a, b, o)

module _ {F : Type 0} (about : About F) (views : List (SeatView (View F))) where
  -- a cell that a seat got is one of those that there are
  pub got-within : GotOnce about.cells views → (id : ℕ) (me : SeatView (View F)) (x : ℕ) → get_elem? views id ≡ some me → 1 ≤ times x (got_by me.knows) → x < about.cells
  got-within each_once id me x at there =
      let here = one_within (λ (v : SeatView (View F)). times x (got_by v.knows)) views id me at in
      let all = times-flat_map (λ (v : SeatView (View F)). got_by v.knows) x views in
      let e = times-permutation x _ _ each_once.2 in
      let low = times-within x 0 (each_once.0 - 0) (omega (arith, here, all, e, there)) in
      omega (arith, low, each_once.1)
