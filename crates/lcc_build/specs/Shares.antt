-- The shares of workers, before and after they have grown trees, and of several workers together.
use Rattle.std.specs.Prelude.{◌≡◌, ℕ, true, false, List, [], Some, IsOk, OnOk, length}
use Rattle.walk_laws.specs.declared.graph.Edge.{Edge}
use Rattle.hub_index.specs.Views.{IsNode}
use Rattle.root_claims.specs.Seats.{IsSeatOf as IsClaimSeatOf}
use Rattle.label_rows.specs.Seats.{IsSeatOf}
use Rattle.label_rows.specs.Visits.{puts_of}
use Rattle.lcc_build.specs.declared.ground.Ground.{Ground}
use Rattle.lcc_build.specs.declared.share.Share.{Share}
use Rattle.lcc_build.specs.declared.workers.Worker.{Worker}
use Rattle.pruned_tree.specs.GrownBy.{IsGrownBy}

-- the claims and the rows are of the nodes of the build's graph, and the rows are those of its edges under its ranking
pub record IsSoundGround (ground : Ground) : Type 0 where
  pub claims : ground.claims.now.n ≡ ground.job.now.graph.now.n
  pub edges : ground.rows.now.edges ≡ ground.job.now.graph.now.edges
  pub order : ground.rows.now.order ≡ ground.job.now.ranking.now

-- the seats of the share are of the build's claims and rows, and so many may still be split from each
pub record IsShareOf (ground : Ground) (left : ℕ) (share : Share) : Type 0 where
  pub claim_seat : IsClaimSeatOf ground.claims.now share.claims
  pub row_seat : IsSeatOf ground.rows.now share.rows
  pub claim_left : share.claims.left ≡ left
  pub row_left : share.rows.left ≡ left

-- nothing was done with the share yet
pub record IsNew (share : Share) : Type 0 where
  pub over : share.claims.over ≡ false
  pub got : share.claims.got ≡ []
  pub visits : share.rows.visits ≡ []

-- the trees of all roots that were claimed with the share are grown, and where memory sufficed none is left to claim
pub record IsDone (edges : List Edge) (at : List ℕ) (share : Share) : Type 0 where
  pub over : OnOk share.memory (share.claims.over ≡ true)
  pub grown : (v : ℕ) → IsNode (length at) v → IsGrownBy edges at share.claims.got (IsOk share.memory) v [] (puts_of share.rows.visits v)

-- a worker with a new share, and memory for trees of the build's graph
pub record IsReady (ground : Ground) (worker : Worker) : Type 0 where
  pub share : Share
  pub there : worker.share ≡ Some share
  pub of : IsShareOf ground 0 share
  pub new : IsNew share
  pub work : worker.work ≡ ground.job.now.graph.now.n

-- a worker that has grown all trees of its share
pub record HasWorked (ground : Ground) (worker : Worker) : Type 0 where
  pub share : Share
  pub there : worker.share ≡ Some share
  pub of : IsShareOf ground 0 share
  pub done : IsDone ground.job.now.graph.now.edges ground.job.now.ranking.now share
