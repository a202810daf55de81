-- What a tree that is gone on with leaves of the rows, from what it has left at each moment.
use Rattle.std.proofs.Common.{◌≡◌, ℕ, ◌+◌, ◌<◌, List, Contains, length}
use Rattle.std.specs.Prelude.{Some, slice_get, Result, IfOk}
use Rattle.std.specs.declared.alloc.AllocError.{AllocError}
use Rattle.std.proofs.lemmas.Option.{slice_get-get_or}
use Rattle.walk_laws.specs.declared.entry.Entry.{Entry}
use Rattle.walk_laws.specs.declared.graph.Edge.{Edge}
use Rattle.walk_laws.specs.Canonical.{IsCanonical}
use Rattle.walk_laws.specs.Joined.{Joined}
use Rattle.resumed_tree.specs.declared.resuming.Start.{Start}
use Rattle.resumed_tree.specs.Resumed.{Has, CameToHave, IsResumed}
use Rattle.resumed_tree.proofs.KeptRows.{AreKept}

-- where the tree is whole: the starts, and the neighbours of nodes whose canonical entries came
abbrev pub HasReached : List Edge → List ℕ → ℕ → List Start → List (List Entry) → Type 0
HasReached edges at p starts after = (h : ℕ) (s : Start) → slice_get at p ≡ Some h → Contains starts s → IsCanonical (Joined edges) at h s.node s.dist → Has after s.node p s.dist

abbrev pub IsClosed : List Edge → List ℕ → ℕ → List (List Entry) → List (List Entry) → Type 0
IsClosed edges at p before after = (h v d u w : ℕ) → slice_get at p ≡ Some h → IsCanonical (Joined edges) at h v d → CameToHave before after v p d → Joined edges v u w → IsCanonical (Joined edges) at h u (d + w) → Has after u p (d + w)

pub IsResumed-kept : (edges : List Edge) (at : List ℕ) (p : ℕ) (starts : List Start) (before after : List (List Entry)) (result : Result (Unit {0}) AllocError) → p < length at → ((h : ℕ) → slice_get at p ≡ Some h → AreKept (Joined edges) at h p before after)
    → IfOk result (λ _. HasReached edges at p starts after) → IfOk result (λ _. IsClosed edges at p before after) → IsResumed edges at p starts before after result
IsResumed-kept edges at p starts before after result within kept reached closed =
    let of_root = kept _ (slice_get-get_or at p 0 within) in
    record {
      walks = of_root.walks;
      others = of_root.others;
      lessens = of_root.lessens;
      apart = λ h v d q s root from_one came sum above. (kept h root).apart v d q s from_one came sum above;
      reached = reached;
      closed = closed;
    }
