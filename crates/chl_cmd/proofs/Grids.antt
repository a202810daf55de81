-- The lines of a grid: what each construction came to is what the rows of the labelling come to.
use Rattle.std.proofs.Common.{◌≡◌, ℕ, ◌*◌, List, length, ap, ap₂, subst, ◌∙◌}
use Rattle.grid_work.specs.Grid.{grid, grid_edges}
use Rattle.grid_work.specs.Totals.{totals_of}
use Rattle.grid_work.specs.declared.totals.Totals.{Totals}
use Rattle.chl_lines.specs.PrintedGrids.{grid_lines}
use Rattle.chl_lines.specs.declared.grid.GridReport.{GridReport}
use Rattle.rank_table.specs.ByDegree.{IsByDegree}
use Rattle.walk_laws.specs.declared.entry.Entry.{Entry}
use Rattle.walk_laws.specs.Graph.{WeightedGraph}
use Rattle.walk_laws.specs.Joined.{Joined}
use Rattle.walk_laws.specs.Labelling.{IsChl}
use Rattle.walk_laws.proofs.LabelRows.{IsChl-unique}
use Rattle.chl_answers.specs.Commands.{IsGridText}

-- totals are those of the labelling of a graph
abbrev AreTotalsOf : WeightedGraph → List ℕ → Totals → Type 0
AreTotalsOf graph at totals = (rows : List (List Entry)) × IsChl (Joined graph.edges) at rows × (totals ≡ totals_of rows)

same_totals : (graph : WeightedGraph) (at : List ℕ) (rows : List (List Entry)) (totals : Totals) → IsChl (Joined graph.edges) at rows → AreTotalsOf graph at totals → totals ≡ totals_of rows
same_totals graph at rows totals chl known = known.2 ∙ ap totals_of (IsChl-unique (Joined graph.edges) at known.0 rows known.1 chl)

abbrev pub reported : ℕ → ℕ → ℕ → ℕ → Totals → Totals → Totals → GridReport
reported side seed nodes edges plant lcc gll = record { side = side; seed = seed; nodes = nodes; edges = edges; plant = plant; lcc = lcc; gll = gll }

module _ (side seed : ℕ) (graph : WeightedGraph) (n_is : graph.n ≡ side * side) (edges_are : graph.edges ≡ grid_edges side seed) (at : List ℕ) (ranked : IsByDegree graph at) where
  same_graph : graph ≡ grid side seed
  same_graph = ap₂ (λ n e. record { n = n; edges = e }) n_is edges_are

  pub grid_told : (plant lcc gll : Totals) (text : List ℕ) → AreTotalsOf graph at plant → AreTotalsOf graph at lcc → AreTotalsOf graph at gll
      → text ≡ grid_lines (reported side seed graph.n (length graph.edges) plant lcc gll) → IsGridText side seed text
  grid_told plant lcc gll text p l g is =
      let r = totals_of p.0 in
      let numbers = ap₂ (λ n m. reported side seed n m plant lcc gll) n_is (ap length edges_are) in
      let one = ap (λ t. reported side seed (side * side) (length (grid_edges side seed)) t lcc gll) p.2 in
      let others = ap₂ (λ t u. reported side seed (side * side) (length (grid_edges side seed)) r t u) (same_totals graph at p.0 lcc p.1 l) (same_totals graph at p.0 gll p.1 g) in
      let ranks = subst (λ x. IsByDegree x at) same_graph ranked in
      let chl = subst (λ x. IsChl (Joined x.edges) at p.0) same_graph p.1 in
      (at, ranks, (p.0, chl, is ∙ ap grid_lines (numbers ∙ one ∙ others)))
