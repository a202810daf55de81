-- What one call did, as contracts see a seat before and after.
use Rattle.std.proofs.Common.{◌≡◌, ℕ, ◌*◌, ◌<◌, ◌≤◌, Bool, List, [], ◌∷◌, ◌++◌, All, length, refl, ap, ◌∙◌, subst}
use Rattle.std.specs.Prelude.{Option, Some, None, Contains, if◌then◌else◌}
use Rattle.std.proofs.lemmas.Bool.{lt-ltb, le-ltb}
use Rattle.atomic_table.specs.Seated.{TableId}
use Rattle.walk_laws.specs.declared.entry.Entry.{Entry}
use Rattle.table_seats.specs.declared.seat_view.SeatView.{SeatView}
use Rattle.table_seats.specs.Seats.{knowing}
use Rattle.label_pool.specs.declared.rule.Filling.{Filling}
use Rattle.label_pool.specs.declared.rule.Linked.{Linked}
use Rattle.label_pool.specs.declared.rule.View.{View}
use Rattle.label_pool.specs.Chains.{IsTailOf, puts_at, seen_of}
use Rattle.label_pool.specs.Fillings.{block_cells, linked_of, with_next}
use Rattle.label_pool.specs.Seats.{PoolId, Seated, seated, IsMet, HasFound, HasPut, HasTaken}
use Rattle.label_pool.specs.Steps.{with_drawn, with_look, with_link}

-- the name of a next cell that was stored before counts no more
pub next-again : (x y : Option ℕ) (o : Option Filling) → with_next x (with_next y o) ≡ with_next x o
next-again x y None = refl
next-again x y (Some f) = refl

module _ {F : Type 0} where
  -- the number of a block was drawn, or one past them
  pub drew-block : (v : View F) (number : ℕ) → number * v.block < v.cells → with_drawn v number ≡ record v { blocks = v.blocks ++ number ∷ []; reserve = block_cells v.block number }
  drew-block v number below = ap (λ (b : Bool). if b then record v { blocks = v.blocks ++ number ∷ []; reserve = block_cells v.block number } else record v { past = Some (number * v.block) }) (lt-ltb (number * v.block) v.cells below)

  pub drew-past : (v : View F) (number : ℕ) → v.cells ≤ number * v.block → with_drawn v number ≡ record v { past = Some (number * v.block) }
  drew-past v number above = ap (λ (b : Bool). if b then record v { blocks = v.blocks ++ number ∷ []; reserve = block_cells v.block number } else record v { past = Some (number * v.block) }) (le-ltb (number * v.block) v.cells above)

  module _ (id id' : TableId) (left : ℕ) (me after : SeatView (View F)) (before : Seated F) (is : seated id left me.knows ≡ before) (same : id' ≡ id) where
    pub has-found : (fact : F → ℕ → Entry → Type 0) (pool : PoolId F) → before.pool ≡ pool → (v : ℕ) (found : List Linked) → IsTailOf (seen_of me.knows.marks v) found → All (λ l. IsMet fact me.knows.fact v l.entry) found → length found ≤ me.knows.cells
        → All (λ look. look.node ≡ v → IsTailOf look.found found) me.knows.looks → All (Contains found) (puts_at me.knows.puts v)
        → after ≡ knowing me (with_look me.knows v found) → HasFound fact pool before v found (seated id' left after.knows)
    has-found fact pool whose v found goes_on met most known all_put after_is = record {
      goes_on = subst (λ marks. IsTailOf (seen_of marks v) found) (ap (λ b. b.marks) is) goes_on;
      met = subst (λ value. All (λ l. IsMet fact value v l.entry) found) (ap (λ b. b.pool.fact) is ∙ ap (λ p. p.fact) whose) met;
      most = subst (λ cells. length found ≤ cells) (ap (λ b. b.pool.cells) is ∙ ap (λ p. p.cells) whose) most;
      known = subst (λ looks. All (λ look. look.node ≡ v → IsTailOf look.found found) looks) (ap (λ b. b.looks) is) known;
      all_put = subst (λ puts. All (Contains found) (puts_at puts v)) (ap (λ b. b.puts) is) all_put;
      after_is = (λ k. seated (same k) left (after_is k).knows) ∙ ap (λ (b : Seated F). record b { looks = b.looks ++ record { node = v; found = found } ∷ []; marks = record { node = v; found = found } ∷ b.marks }) is;
    }

    pub has-put : (v : ℕ) (e : Entry) (cell : ℕ) (blocks reserve : List ℕ) → HasTaken me.knows.block me.knows.blocks me.knows.reserve cell blocks reserve → cell < me.knows.cells → (older : List Linked) → IsTailOf (seen_of me.knows.marks v) older → (filling : Option Filling) → linked_of filling ≡ record { cell = cell; entry = e }
        → after ≡ knowing me (with_link (record me.knows { blocks = blocks; reserve = reserve; filling = filling }) v older) → HasPut before v e (seated id' left after.knows)
    has-put v e cell blocks reserve took within older goes_on filling linked after_is = record {
      cell = cell;
      blocks = blocks;
      reserve = reserve;
      took = subst (λ (b : Seated F). HasTaken b.pool.block b.blocks b.reserve cell blocks reserve) is took;
      within = subst (λ (b : Seated F). cell < b.pool.cells) is within;
      older = older;
      goes_on = subst (λ marks. IsTailOf (seen_of marks v) older) (ap (λ b. b.marks) is) goes_on;
      after_is =
          (λ k. seated (same k) left (after_is k).knows)
          ∙ ap (λ (l : Linked). seated id left (record me.knows { blocks = blocks; reserve = reserve; filling = None; puts = me.knows.puts ++ record { node = v; linked = l } ∷ []; marks = record { node = v; found = l ∷ older } ∷ me.knows.marks })) linked
          ∙ ap (λ (b : Seated F). record b { blocks = blocks; reserve = reserve; puts = b.puts ++ record { node = v; linked = record { cell = cell; entry = e } } ∷ []; marks = record { node = v; found = record { cell = cell; entry = e } ∷ older } ∷ b.marks }) is;
    }
