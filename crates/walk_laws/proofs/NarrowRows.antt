-- A part of the arcs in half the room is the same part of the arcs.
use Rattle.std.proofs.Common.{◌≡◌, ◌-◌, ℕ, ◌<◌, List, drop, get_or, inl, inr, length, map, take, sym, ap, ◌∙◌, arith}
use Rattle.std.specs.Prelude.{slice_range}
use Rattle.std.proofs.lemmas.List.{drop-map, get_or-map, length-map, take-map}
use Rattle.walk_laws.specs.declared.graph.Arc.{Arc}
use Rattle.walk_laws.specs.declared.arc_row.NarrowArc.{NarrowArc}
use Rattle.walk_laws.specs.ArcRows.{widened, AreNarrowed}

-- where there are starts, they are the starts of the arcs
pub all_narrowed : (narrow : List NarrowArc) (narrow_starts : List ℕ) (arcs : List Arc) (starts : List ℕ) → AreNarrowed narrow narrow_starts arcs starts → 0 < length narrow_starts → (map (λ a. widened a) narrow ≡ arcs) × (narrow_starts ≡ starts)
all_narrowed narrow narrow_starts arcs starts narrowed some = elim narrowed [ inl none ↦ absurd (omega (arith, ap length none, some)) | inr same ↦ same ]

pub part_narrowed : (narrow : List NarrowArc) (arcs : List Arc) (start end : ℕ) → map (λ a. widened a) narrow ≡ arcs → map (λ a. widened a) (slice_range narrow start end) ≡ slice_range arcs start end
part_narrowed narrow arcs start end same =
    sym (take-map (λ a. widened a) (end - start) (drop start narrow))
    ∙ ap (take (end - start)) (sym (drop-map (λ a. widened a) start narrow) ∙ ap (drop start) same)

-- the arc at a place of a row in whatever room
pub arc_in_row : {A : Type 0} (whole : A → Arc) (row : List A) (k : ℕ) (x : A) (a : Arc) → k < length row → x ≡ get_or row k x → a ≡ whole x → (k < length (map whole row)) × (get_or (map whole row) k a ≡ a)
arc_in_row whole row k x a inside at is =
    (rw length-map inside, get_or-map whole row k x a inside ∙ ap whole (sym at) ∙ sym is)
