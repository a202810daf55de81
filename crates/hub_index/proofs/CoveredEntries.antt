-- What holds of the entries that a loop over a row has come past.
use Rattle.std.proofs.Common.{◌≡◌, ℕ, ◌+◌, ◌<◌, ◌≤◌, List, [], ◌∷◌, ◌++◌, All, length, get_or, take, sym, subst, add-one}
use Rattle.std.proofs.Math.Seq.{take-suc}
use Rattle.std.proofs.lemmas.List.{take_all}
use Rattle.std.proofs.lemmas.List.Elements.{All-push}

pub All-one_more : {X : Type 0} (P : X → Type 0) (row : List X) (i : ℕ) (d : X) → i < length row → All P (take i row) → P (get_or row i d) → All P (take (i + 1) row)
All-one_more P row i d lt before here =
    let cut : take (i + 1) row ≡ take i row ++ get_or row i d ∷ [] = rw add-one (take-suc row i d lt) in
    subst (λ xs. All P xs) (sym cut) (All-push P (take i row) (get_or row i d) before here)

pub All-whole : {X : Type 0} (P : X → Type 0) (row : List X) (i : ℕ) → length row ≤ i → All P (take i row) → All P row
All-whole P row i over all = subst (λ xs. All P xs) (take_all i row over) all
