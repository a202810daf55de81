-- What becomes of a stage when a worker asks for a task or hands in what it has done, and with what the next one begins.
use Rattle.std.specs.Prelude.{◌≡◌, ℕ, ◌<◌, ◌≤◌, ⊤, List, [], ◌∷◌, ◌++◌, Option, None, Some, Result, Ok, Err, All, map, replicate}
use Rattle.std.specs.declared.alloc.AllocError.{AllocError}
use Rattle.walk_laws.specs.declared.entry.Entry.{Entry}
use Rattle.gll_table.specs.Outputs.{Output}
use Rattle.gll_table.specs.Tables.{ShardedTable}
use Rattle.gll_table.specs.Tasks.{IsTakenFrom}
use Rattle.gll_superstep.specs.Workers.{SuperstepView}
use Rattle.gll_merge.specs.Merging.{AreTasksFrom, MergingView, OneMerged, OneShard, with_shard}
use Rattle.gll_build.specs.declared.scheduler.Stage.{Stage}
use Rattle.gll_build.specs.declared.scheduler.Stage.TheVariants.{Advancing, Growing, Merging, Over}
use Rattle.gll_build.specs.declared.scheduler.Task.{Task}
use Rattle.gll_build.specs.declared.scheduler.Task.TheVariants.{End, Grow, Merge, Wait}

-- a task goes out of its place; a worker waits only where no task is left, or another worker makes the next stage, and ends only where the build is over
abbrev pub Answers : {B : Type 0} → Stage B → Task B → Stage B → Type 0
Answers (Growing was) (Grow task) (Growing now) = IsTakenFrom was.tasks task now.tasks × (now.outputs ≡ was.outputs)
Answers (Growing was) Wait (Growing now) = All (λ place. place ≡ None) was.tasks × (now.tasks ≡ was.tasks) × (now.outputs ≡ was.outputs)
Answers (Merging was) (Merge task) (Merging now) = IsTakenFrom was.tasks task now.tasks × (now.places ≡ was.places) × (now.next ≡ was.next) × (now.workspaces ≡ was.workspaces)
Answers (Merging was) Wait (Merging now) = All (λ place. place ≡ None) was.tasks × (now.tasks ≡ was.tasks) × (now.places ≡ was.places) × (now.next ≡ was.next) × (now.workspaces ≡ was.workspaces)
Answers Advancing Wait Advancing = ⊤
Answers (Over was) End (Over now) = now ≡ was
Answers _ _ _ = ⊥

-- what a worker has put stands after what others handed in, and the tasks stay; where it is the last, all of it goes out, and whoever gets it makes the next stage. At any other stage nothing changes
abbrev pub AddsGrown : {B : Type 0} → Stage B → Result Output AllocError → Option (Result (List (Result Output AllocError)) AllocError) → Stage B → Type 0
AddsGrown (Growing was) one (Some (Ok all)) Advancing = all ≡ was.outputs ++ one ∷ []
AddsGrown (Growing _) _ (Some (Err _)) Advancing = ⊤
AddsGrown (Growing was) one None (Growing now) = (now.outputs ≡ was.outputs ++ one ∷ []) × (now.tasks ≡ was.tasks)
AddsGrown (Merging was) _ None now = now ≡ Merging was
AddsGrown Advancing _ None now = now ≡ Advancing
AddsGrown (Over was) _ None now = now ≡ Over was
AddsGrown _ _ _ _ = ⊥

-- the shard stands at its place, if it has one
abbrev pub IsWithShard : MergingView → OneMerged → List (Option (List (List Entry))) → Type 0
IsWithShard was one places = (shard : OneShard) × (one.shard ≡ Ok shard) × (places ≡ with_shard was.next was.places shard)

-- a shard that is merged stands at its place, and the tasks stay; where it is the last, all go out, and whoever gets them makes the next stage. At any other stage nothing changes
abbrev pub AddsMerged : {B : Type 0} → Stage B → OneMerged → Option (Result MergingView AllocError) → Stage B → Type 0
AddsMerged (Merging was) one (Some (Ok all)) Advancing = IsWithShard was one all.places × (all.next ≡ was.next) × (all.workspaces ≡ was.workspaces)
AddsMerged (Merging _) _ (Some (Err _)) Advancing = ⊤
AddsMerged (Merging was) one None (Merging now) = IsWithShard was one now.places × (now.tasks ≡ was.tasks) × (now.next ≡ was.next) × (now.workspaces ≡ was.workspaces)
AddsMerged (Growing was) _ None now = now ≡ Growing was
AddsMerged Advancing _ None now = now ≡ Advancing
AddsMerged (Over was) _ None now = now ≡ Over was
AddsMerged _ _ _ _ = ⊥

-- what the build has come to goes out, where it is over; else nothing changes
abbrev pub Ends : {B : Type 0} → Stage B → Option (Result ShardedTable AllocError) → Stage B → Type 0
Ends (Over was) (Some table) _ = table ≡ was
Ends (Growing was) None now = now ≡ Growing was
Ends (Merging was) None now = now ≡ Merging was
Ends Advancing None now = now ≡ Advancing
Ends _ _ _ = ⊥

-- trees are to grow over the table where it doesn't reach the goal: the task of each of so many workers is there, and nobody has handed in; else the build is over with it
abbrev pub Begins : {B : Type 0} → ℕ → ℕ → ShardedTable → Stage B → Type 0
Begins goal workers table (Growing growing) = (table.first < goal) × ((superstep : SuperstepView) × (superstep.table ≡ table) × (growing.tasks ≡ replicate workers (Some superstep))) × (growing.outputs ≡ [])
Begins goal workers table (Over (Ok last)) = (goal ≤ table.first) × (last ≡ table)
Begins _ _ _ _ = ⊥

-- there is the task of each shard, in which all that workers have handed in is merged, none left out, and no shard of so many is merged yet
abbrev pub BeginsMerging : {B : Type 0} → ℕ → List (Result Output AllocError) → Stage B → Type 0
BeginsMerging count outputs (Merging merging) = ((table : ShardedTable) × (all : List Output) × (map (λ o. Ok o) all ≡ outputs) × AreTasksFrom 0 table.first merging.next table.shards (map (λ o. o.parts) all) merging.tasks) × (merging.places ≡ replicate count None)
BeginsMerging _ _ _ = ⊥
