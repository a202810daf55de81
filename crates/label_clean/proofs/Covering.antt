-- Entries that rows cover, and what a table of a row tells of them.
use Rattle.std.proofs.Common.{◌≡◌, ℕ, ◌+◌, ◌<◌, ◌≤◌, Option, Some, List, Contains, length, sym, subst, ◌∙◌, arith}
use Rattle.std.specs.Prelude.{slice_get}
use Rattle.std.proofs.lemmas.Option.{same_Some}
use Rattle.walk_laws.specs.declared.entry.Entry.{Entry}
use Rattle.walk_laws.specs.Labelling.{label_row}
use Rattle.hub_index.specs.RootDistances.{IsCover}
use Rattle.label_clean.specs.Needless.{IsCovered, IsNeedless}
use Rattle.label_clean.specs.Tested.{HoldsLeast, HasCover}

abbrev pub pos_of : Entry → ℕ
pos_of e = e.pos

abbrev pub entry : ℕ → ℕ → Entry
entry p d = record { pos = p; dist = d }

-- a cover by entries of the rows
pub covered : (first second : List Entry) (p d q a b : ℕ) → q < p → Contains first (entry q a) → Contains second (entry q b) → a + b ≤ d → IsCovered first second p d
covered first second p d q a b above in_first in_second short = record {
  position = q;
  sum = a + b;
  above = above;
  shared = record { before = a; after = b; in_first = in_first; in_second = in_second; long = omega arith };
  short = short;
}

-- rows with more entries cover as much
pub IsCovered-more : (xs ys first second : List Entry) (p d : ℕ) → ((e : Entry) → Contains xs e → Contains first e) → ((e : Entry) → Contains ys e → Contains second e) → IsCovered xs ys p d → IsCovered first second p d
IsCovered-more xs ys first second p d first_has second_has c =
    covered first second p d c.position c.shared.before c.shared.after c.above
    (first_has (entry c.position c.shared.before) c.shared.in_first)
    (second_has (entry c.position c.shared.after) c.shared.in_second)
    (omega (arith, c.shared.long, c.short))

module _ (table : List (Option ℕ)) (first second : List Entry) (p d : ℕ) (held : HoldsLeast table second) where
  -- an entry that covers by way of the table shares its position with the row of the table
  pub IsCovered-from_cover : (e : Entry) → Contains first e → IsCover table p d e → IsCovered first second p d
  IsCovered-from_cover e there cover =
      covered first second p d e.pos e.dist cover.root cover.above there (held.there e.pos cover.root cover.held) (omega (arith, cover.short))

  -- and two entries that share one cover by way of the table
  pub HasCover-from_covered : p ≤ length table → IsCovered first second p d → HasCover table p d first
  HasCover-from_covered within c =
      let least = held.least (entry c.position c.shared.after) c.shared.in_second (omega (arith, c.above, within)) in (
        entry c.position c.shared.before,
        c.shared.in_first,
        record { above = c.above; root = least.0; held = least.1; short = omega (arith, least.2, c.shared.long, c.short) },
      )

-- an entry is needless where an entry of its hub's row covers it by way of the table of its node's row
module _ (at : List ℕ) (tested : List (List Entry)) (v : ℕ) (e : Entry) (table : List (Option ℕ)) (held : HoldsLeast table (label_row tested v)) (hub : ℕ) (hub_is : slice_get at e.pos ≡ Some hub) where
  pub IsNeedless-from_cover : HasCover table e.pos e.dist (label_row tested hub) → IsNeedless at tested v e
  IsNeedless-from_cover (other, there, cover) = record {
    hub = hub;
    hub_is = hub_is;
    covered = IsCovered-from_cover table (label_row tested hub) (label_row tested v) e.pos e.dist held other there cover;
  }

  pub HasCover-from_needless : e.pos ≤ length table → IsNeedless at tested v e → HasCover table e.pos e.dist (label_row tested hub)
  HasCover-from_needless within n =
      subst (λ h. HasCover table e.pos e.dist (label_row tested h)) (same_Some n.hub hub (sym n.hub_is ∙ hub_is))
      (HasCover-from_covered table (label_row tested n.hub) (label_row tested v) e.pos e.dist held within n.covered)
