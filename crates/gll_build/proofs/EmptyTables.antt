-- A table with no entry is the labelling up to no position.
use Rattle.std.proofs.Common.{◌≡◌, ℕ, List, [], length, replicate, sym, subst, ◌∙◌, arith}
use Rattle.std.proofs.lemmas.List.{length-replicate}
use Rattle.walk_laws.specs.declared.graph.Edge.{Edge}
use Rattle.walk_laws.specs.declared.entry.Entry.{Entry}
use Rattle.walk_laws.proofs.Members.{Contains-empty}
use Rattle.label_clean.specs.Below.{IsChlBelow, IsRowBelow}
use Rattle.label_clean.proofs.RowFacts.{label_row-replicate}

pub IsChlBelow-none : (edges : List Edge) (at : List ℕ) (n : ℕ) → n ≡ length at → IsChlBelow edges at 0 (replicate n [])
IsChlBelow-none edges at n is = record {
  size = let none : List Entry = [] in length-replicate n none ∙ is;
  row = λ v from_one up_to_n.
      subst (IsRowBelow edges at 0 v) (sym (label_row-replicate n v from_one (omega (arith, up_to_n, is))))
      (record { rising = λ k within. absurd (omega (arith, within)); each = λ e. (λ here. absurd (Contains-empty e here), λ hub. absurd (omega (arith, hub.1))) });
}
