-- The parts of each worker are one for each shard.
use Rattle.std.proofs.Common.{◌≡◌, ℕ, List, Vec, Global, All, length, map, sym, subst, arith}
use Rattle.std.proofs.lemmas.List.{get_or-map, length-map}
use Rattle.std.proofs.lemmas.List.Elements.{All-map}
use Rattle.walk_laws.specs.declared.graph.Edge.{Edge}
use Rattle.hub_index.specs.Shards.{shard_count}
use Rattle.label_clean.specs.declared.runs.RunList.{RunList}
use Rattle.gll_table.specs.Outputs.{IsOutput, Output}

pub parts_long : (edges : List Edge) (at : List ℕ) (shift : ℕ) (outputs : List Output) (parts : List (Vec RunList Global)) → All (IsOutput edges at shift) outputs → map (λ d. d.items) parts ≡ map (λ s. s.parts) outputs → All (λ d. length d.items ≡ shard_count shift (length at)) parts
parts_long edges at shift outputs parts are same k d within =
    let long : All (λ (lists : List RunList). length lists ≡ shard_count shift (length at)) (map (λ s. s.parts) outputs) = All-map (λ (lists : List RunList). length lists ≡ shard_count shift (length at)) (λ (s : Output). s.parts) outputs (λ i s i_within. (are i s i_within).are_parts.size) in
    subst (λ (lists : List RunList). length lists ≡ shard_count shift (length at)) (get_or-map (λ (v : Vec RunList Global). v.items) parts k d d.items within)
    (subst (All (λ (lists : List RunList). length lists ≡ shard_count shift (length at))) (sym same) long k d.items (omega (arith, within, length-map parts (λ (v : Vec RunList Global). v.items))))
