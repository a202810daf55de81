-- The laws of the rule: it holds at first, each step of a seat keeps it, whichever seats there are beside, and of a chain it says what may be relied on.
use Rattle.std.specs.Prelude.{◌≡◌, ◌≢◌, ℕ, ◌+◌, ◌*◌, ◌^◌, ◌<◌, ◌≤◌, Some, None, List, [], ◌∷◌, ◌++◌, All, length, replicate, slice_index, slice_set}
use mathlib.Core.Option.{some}
use lib.ListN.{get_elem?}
use Rattle.atomic_table.specs.Table.{Step, opening}
use Rattle.walk_laws.specs.declared.entry.Entry.{Entry}
use Rattle.hub_index.specs.Views.{IsNode}
use Rattle.table_seats.specs.declared.seat_view.SeatView.{SeatView}
use Rattle.table_seats.specs.Seats.{IsSeat, knowing, kept_of, given_of, joined, spent}
use Rattle.label_pool.specs.declared.rule.About.{About}
use Rattle.label_pool.specs.declared.rule.Filling.{Filling}
use Rattle.label_pool.specs.declared.rule.Linked.{Linked}
use Rattle.label_pool.specs.declared.rule.View.{View}
use Rattle.label_pool.specs.Fillings.{filled}
use Rattle.label_pool.specs.Layout.{head_at, next_at, dist_at, name_in, pos_in, word_count}
use Rattle.label_pool.specs.Lawful.{Table, Sitter, IsChainOf, IsLawful, first_view, given, both, nothing}
use Rattle.label_pool.specs.Steps.{with_drawn, with_filling, with_opened, with_look, with_link}

module _ {F : Type 0} where
  -- the table where one word has changed, and what one seat knows
  abbrev pub with_step : Table F → ℕ → ℕ → ℕ → SeatView (View F) → View F → Table F
  with_step s word x id me w = record { words = slice_set s.words word x; homes = s.homes; views = slice_set s.views id (knowing me w) }

  -- the table where no word has changed
  abbrev pub with_view : Table F → ℕ → SeatView (View F) → View F → Table F
  with_view s id me w = record { words = s.words; homes = s.homes; views = slice_set s.views id (knowing me w) }

module _ {F : Type 0} (fact : F → ℕ → Entry → Type 0) where
  -- no cell is drawn, all chains are empty, and there is one seat
  abbrev pub HoldsAtFirst : Type 0
  HoldsAtFirst = (about : About F) → about.n ≤ 2 ^ 30 → about.cells ≤ 2 ^ 31 → 1 ≤ about.block → about.cells ≡ about.blocks * about.block → 1 ≤ about.seats → about.seats ≤ 64 → IsLawful fact about (opening (replicate (word_count about.n about.cells) 0) [] (first_view about))

  -- a seat that has no cell in reserve and is not past the cells draws the number at which the counter stands
  abbrev pub DrawsKeep : Type 0
  DrawsKeep = (about : About F) (s : Table F) (id : ℕ) (me : SeatView (View F)) → IsLawful fact about s → IsSeat s.views id me → me.knows.reserve ≡ [] → me.knows.past ≡ None
      → IsLawful fact about (with_step s 0 (slice_index s.words 0 + 1) id me (with_drawn me.knows (slice_index s.words 0)))

  -- a seat stores into the word of the next and the position of its open cell
  abbrev pub FillsKeep : Type 0
  FillsKeep = (about : About F) (s : Table F) (id : ℕ) (me : SeatView (View F)) (f : Filling) (x : ℕ) → IsLawful fact about s → IsSeat s.views id me → me.knows.filling ≡ Some f
      → IsLawful fact about (with_step s (next_at about.n f.cell) x id me (with_filling me.knows (Some (record f { next = Some x }))))

  -- a seat that has no open cell opens the first one of its reserve, and stores a distance there
  abbrev pub OpensKeep : Type 0
  OpensKeep = (about : About F) (s : Table F) (id : ℕ) (me : SeatView (View F)) (cell : ℕ) (rest : List ℕ) (x : ℕ) → IsLawful fact about s → IsSeat s.views id me → me.knows.filling ≡ None → me.knows.reserve ≡ cell ∷ rest
      → IsLawful fact about (with_step s (dist_at about.n cell) x id me (with_opened me.knows cell rest x))

  -- a seat loads a head, and finds its chain
  abbrev pub FindsKeep : Type 0
  FindsKeep = (about : About F) (s : Table F) (id : ℕ) (me : SeatView (View F)) (v : ℕ) → IsLawful fact about s → IsSeat s.views id me → IsNode about.n v
      → (chain : List Linked) × IsChainOf fact about s v chain × IsLawful fact about (with_view s id me (with_look me.knows v chain))

  -- a seat that loads a head and learns what the step tells has found the whole chain that stands there then, with all that was put there, by whichever seat
  abbrev pub FindsAll : (Step (Unit {0}) → Sitter F → ℕ → Sitter F → Type 0) → Type 0
  FindsAll tells = (about : About F) (s : Table F) (id v : ℕ) (step : Step (Unit {0})) (me after : Sitter F) → IsLawful fact about s → IsSeat s.views id me.0 → IsNode about.n v → step.word ≡ head_at v
      → tells step me (slice_index s.words (head_at v)) after → IsLawful fact about (record { words = s.words; homes = s.homes; views = slice_set s.views id after.0 })
      → (chain : List Linked) × IsChainOf fact about s v chain × (after.0 ≡ knowing me.0 (with_look me.0.knows v chain))

  -- a seat links its filled cell, which names the head that it finds, before the chain
  abbrev pub LinksKeep : Type 0
  LinksKeep = (about : About F) (s : Table F) (id : ℕ) (me : SeatView (View F)) (v cell next dist : ℕ) → IsLawful fact about s → IsSeat s.views id me → IsNode about.n v
      → me.knows.filling ≡ Some (filled cell (Some next) dist) → name_in next ≡ slice_index s.words (head_at v) → fact about.fact v (record { pos = pos_in next; dist = dist })
      → (chain : List Linked) × IsChainOf fact about s v chain × IsLawful fact about (with_step s (head_at v) (cell + 1) id me (with_link me.knows v chain))

  -- a new seat is split from a seat that has as many
  abbrev pub SplitsKeep : Type 0
  SplitsKeep = (about : About F) (s : Table F) (id : ℕ) (me : SeatView (View F)) (give : ℕ) → IsLawful fact about s → IsSeat s.views id me → give + 1 < me.seats
      → IsLawful fact about (record { words = s.words; homes = s.homes; views = slice_set s.views id (kept_of give me) ++ given_of given give me ∷ [] })

  -- a seat is joined into another, where neither has an open cell
  abbrev pub JoinsKeep : Type 0
  JoinsKeep = (about : About F) (s : Table F) (id other : ℕ) (me them : SeatView (View F)) → IsLawful fact about s → IsSeat s.views id me → IsSeat s.views other them → other ≢ id → me.knows.filling ≡ None → them.knows.filling ≡ None
      → IsLawful fact about (record { words = s.words; homes = s.homes; views = slice_set (slice_set s.views id (joined both me them)) other (spent nothing) })

  -- a chain has no more cells than there are, and none of them is open for a seat
  abbrev pub ChainsAreShort : Type 0
  ChainsAreShort = (about : About F) (s : Table F) (v : ℕ) (chain : List Linked) → IsLawful fact about s → IsChainOf fact about s v chain
      → (length chain ≤ about.cells) × ((id : ℕ) (seat : SeatView (View F)) (f : Filling) → get_elem? s.views id ≡ some seat → seat.knows.filling ≡ Some f → All (λ l. f.cell ≢ l.cell) chain)

  -- no cell stands in two chains
  abbrev pub ChainsAreApart : Type 0
  ChainsAreApart = (about : About F) (s : Table F) (v u : ℕ) (chain other : List Linked) → IsLawful fact about s → v ≢ u → IsChainOf fact about s v chain → IsChainOf fact about s u other
      → All (λ l. All (λ m. l.cell ≢ m.cell) other) chain
