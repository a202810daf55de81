-- A list in which a number stands twice is not distinct.
use Rattle.std.proofs.Common.{◌≡◌, ℕ, ◌<◌, true, eqb, List, length, take, get_or, sym, ◌∙◌, arith}
use Rattle.std.specs.List.{list_any, IsDistinct}
use Rattle.std.proofs.lemmas.Bool.{eq-eqb, false≢true}
use Rattle.std.proofs.lemmas.List.{length-take, get_or-take}
use Rattle.std.proofs.lemmas.Map.Keys.{apart_from_distinct}
use Rattle.walk_laws.specs.Ranking.{position_of}
use Rattle.walk_laws.proofs.Positions.{position-lt_from_any, get_or-position}

-- a number that stands before a place too keeps the list from being distinct
pub repeated : (at : List ℕ) (i : ℕ) → i < length at → list_any (eqb (get_or at i 0)) (take i at) ≡ true → IsDistinct eqb at → ⊥
repeated at i inside seen once =
    let place : position_of (take i at) (get_or at i 0) < length (take i at) = position-lt_from_any (take i at) (get_or at i 0) seen in
    let before : position_of (take i at) (get_or at i 0) < i = omega (arith, length-take i at) in
    let is : get_or at (position_of (take i at) (get_or at i 0)) 0 ≡ get_or at i 0 =
    sym (get_or-take i at (position_of (take i at) (get_or at i 0)) 0 before) ∙ get_or-position (take i at) (get_or at i 0) 0 place in
    let apart = apart_from_distinct eqb at (position_of (take i at) (get_or at i 0)) i 0 once before inside in
    false≢true (sym apart ∙ eq-eqb _ _ is)
