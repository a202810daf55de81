-- Rows whose entries went on along arcs (dynamic pruned landmark labelling, WWW 2014).
use Rattle.std.specs.Prelude.{◌≡◌, ◌⊎◌, ℕ, ◌+◌, ◌<◌, List, Some, Contains, length, slice_get}
use Rattle.walk_laws.specs.declared.entry.Entry.{Entry}
use Rattle.walk_laws.specs.Canonical.{IsCanonical}
use Rattle.resumed_tree.specs.Resumed.{AreWalks, Has, IsStart}
use Rattle.resumed_tree.specs.declared.resuming.Start.{Start}

-- the tree of a hub of the ranking may go on there
pub record IsHubStart (J : ℕ → ℕ → ℕ → Type 0) (at : List ℕ) (s : Start) : Type 0 where
  pub within : s.hub < length at
  pub may : IsStart J at s.hub s

-- the entry of x at the position p and the distance d went on along an arc of the weight w to y: where its hub is canonical so for x, and for y at d + w, y has it there
abbrev pub WentOn : (ℕ → ℕ → ℕ → Type 0) → List ℕ → List (List Entry) → ℕ → ℕ → ℕ → ℕ → ℕ → Type 0
WentOn J at rows x y w p d = (h : ℕ) → slice_get at p ≡ Some h → IsCanonical J at h x d → IsCanonical J at h y (d + w) → Has rows y p (d + w)

-- it is to go on there by one of the starts that are left, or it went on
abbrev pub GoesOn : List Start → (ℕ → ℕ → ℕ → Type 0) → List ℕ → List (List Entry) → ℕ → ℕ → ℕ → ℕ → ℕ → Type 0
GoesOn left J at rows x y w p d = Contains left (record { hub = p; node = y; dist = d + w }) ⊎ WentOn J at rows x y w p d

-- the arc of the weight w from x to y is open but for the starts that are left: each entry of x went on along it, or is to
abbrev pub IsOpenBut : List Start → (ℕ → ℕ → ℕ → Type 0) → List ℕ → List (List Entry) → ℕ → ℕ → ℕ → Type 0
IsOpenBut left J at rows x y w = (p d : ℕ) → Has rows x p d → GoesOn left J at rows x y w p d

-- the entries are lengths of walks, each node has its own, and the arcs of K are open but for the starts that are left
pub record AreOpenBut (left : List Start) (J K : ℕ → ℕ → ℕ → Type 0) (at : List ℕ) (rows : List (List Entry)) : Type 0 where
  pub walks : AreWalks J at rows
  pub own : (h p : ℕ) → slice_get at p ≡ Some h → Has rows h p 0
  pub arcs : (x y w : ℕ) → K x y w → IsOpenBut left J at rows x y w
