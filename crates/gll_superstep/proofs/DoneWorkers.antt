-- What a worker has done, who grew trees from nothing on.
use Rattle.std.proofs.Common.{◌≡◌, ℕ, List, [], ◌++◌, All, length, refl, sym, ap, subst, ◌∙◌}
use Rattle.std.specs.Prelude.{Result, Ok, Err, IsOk, IfOk, OnOk}
use Rattle.std.specs.Result.{result_and}
use Rattle.std.specs.declared.alloc.AllocError.{AllocError}
use Rattle.walk_laws.specs.declared.graph.Edge.{Edge}
use Rattle.walk_laws.specs.declared.entry.Entry.{Entry}
use Rattle.hub_index.specs.declared.node_entry.NodeEntry.{NodeEntry}
use Rattle.hub_index.specs.NodeEntries.{entries_of_node}
use Rattle.hub_index.specs.Views.{IsNode}
use Rattle.pruned_tree.specs.GrownBy.{IsGrownBy, HasGrown}
use Rattle.label_pool.specs.Seats.{PoolId}
use Rattle.pool_view.specs.Fitting.{Fitting}
use Rattle.gll_superstep.specs.declared.growing.Seats.{Seats}
use Rattle.gll_superstep.specs.Workers.{AreUncovered, HavePut, IsDone}
use Rattle.gll_table.proofs.PutBy.{IsPutBy-from_grown}

pub grown_from_nothing : (edges : List Edge) (at : List ℕ) (whole : Type 0) (old now : List ℕ) (before after entries : ℕ → List Entry) → HasGrown edges at whole old now before after → old ≡ [] → ((v : ℕ) → IsNode (length at) v → before v ≡ []) → ((v : ℕ) → after v ≡ entries v)
    → (v : ℕ) → IsNode (length at) v → IsGrownBy edges at now whole v [] (entries v)
grown_from_nothing edges at whole old now before after entries grown none empty same v node =
    let roots : grown.0 ≡ now = sym (grown.1 ∙ ap (λ got. got ++ grown.0) none) in
    subst (λ got. IsGrownBy edges at got whole v [] (entries v)) roots
    (subst (λ es. IsGrownBy edges at grown.0 whole v es (entries v)) (empty v node)
    (subst (IsGrownBy edges at grown.0 whole v (before v)) (same v) (grown.2 v node)))

-- where memory sufficed for the trees, the list is what they put
pub sufficed_by : {A : Type 0} (edges : List Edge) (at : List ℕ) (global : List (List Entry)) (roots : List ℕ) (list : List NodeEntry) (memory : Result A AllocError) → All (λ e. IsNode (length at) e.node) list
    → ((v : ℕ) → IsNode (length at) v → IsGrownBy edges at roots (IsOk memory) v [] (entries_of_node list v)) → ((v : ℕ) → IsNode (length at) v → AreUncovered at global v (entries_of_node list v))
    → IfOk memory (λ _. HavePut edges at global roots list)
sufficed_by {A = A} edges at global roots list (Ok t) nodes grown apart = record { nodes = nodes; put = λ v node. IsPutBy-from_grown edges at roots (IsOk {T = A} {E = AllocError} (Ok t)) v (entries_of_node list v) refl (grown v node); apart = apart }
sufficed_by edges at global roots list (Err fault) nodes grown apart = tt

-- what holds where one of two sufficed holds where both did
pub where_both-first : {A B : Type 0} (P : Type 0) (first : Result A AllocError) (second : Result B AllocError) → IfOk first (λ _. P) → IfOk (result_and first second) (λ _. P)
where_both-first P (Ok a) (Ok b) holds = holds
where_both-first P (Ok a) (Err fault) holds = tt
where_both-first P (Err fault) second holds = tt

pub where_both-second : {A B : Type 0} (P : Type 0) (first : Result A AllocError) (second : Result B AllocError) → IfOk second (λ _. P) → IfOk (result_and first second) (λ _. P)
where_both-second P (Ok a) second holds = holds
where_both-second P (Err fault) second holds = tt

-- what is told where memory sufficed, of what is so
pub listed_by : {A E : Type 0} (P Q : Type 0) (memory : Result A E) → OnOk memory (P → Q) → P → IfOk memory (λ _. Q)
listed_by P Q (Ok t) told p = told p
listed_by P Q (Err fault) told p = tt

-- the same by other names of the graph's edges and the ranking
pub IsDone-there : {pool : PoolId Fitting} {global : List (List Entry)} {seats : Seats} {list : List NodeEntry} {listed : List ℕ} {memory : Result (Unit {0}) AllocError} (edges : List Edge) (at : List ℕ) (graph : List Edge) (order : List ℕ) → graph ≡ edges → order ≡ at
    → IsDone graph order pool global seats list listed memory → IsDone edges at pool global seats list listed memory
IsDone-there {pool = pool} {global = global} {seats = seats} {list = list} {listed = listed} {memory = memory} edges at graph order graph_is order_is done =
    subst (λ es. IsDone es at pool global seats list listed memory) graph_is (subst (λ os. IsDone graph os pool global seats list listed memory) order_is done)
