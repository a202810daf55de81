-- A view that is made of a seat, a global table and what the worker put, and what one entry more changes of it.
use Rattle.std.proofs.Common.{◌≡◌, ◌≢◌, ◌⊎◌, inl, inr, Bool, true, false, true≢false, ℕ, ◌^◌, ◌≤◌, List, [], ◌∷◌, ◌++◌, append_assoc, All, length, map, refl, sym, ap, subst, ◌∙◌}
use Rattle.std.specs.Prelude.{None, Option, Result, Ok, Err, OnErr, OnOk}
use Rattle.std.proofs.lemmas.Bool.{cases_eq}
use Rattle.std.proofs.lemmas.List.{append-nil, map-append}
use Rattle.std.proofs.lemmas.Option.{none-some}
use Rattle.std.proofs.lemmas.List.Elements.{All-push}
use Rattle.walk_laws.specs.declared.entry.Entry.{Entry}
use Rattle.walk_laws.specs.Labelling.{label_row}
use Rattle.hub_index.specs.declared.node_entry.NodeEntry.{NodeEntry}
use Rattle.hub_index.specs.PlainRows.{IsGathered}
use Rattle.hub_index.specs.NodeEntries.{entries_of_node}
use Rattle.hub_index.specs.Views.{IsNode}
use Rattle.hub_index.proofs.RowsGathered.{IsGathered-gains}
use Rattle.label_pool.specs.declared.rule.Put.{Put}
use Rattle.label_pool.specs.Seats.{Seated, HasPut}
use Rattle.pool_view.specs.Fitting.{Fitting, edges_of, order_of}
use Rattle.pool_view.specs.Putting.{AreFar, BeginsFar, Putting, IsListOf, IsPooledBy, listed, own_rows, put_entry}
use Rattle.pool_view.specs.Viewing.{Viewing, IsForOwn, IsOpen, IsViewing, HasGained, fact_of}
use Rattle.pool_view.proofs.KeptViews.{stays_pooled, viewing-put}
use Rattle.pool_view.proofs.Offered.{listed-here, listed-else}
use Rattle.pool_view.proofs.PutRows.{length-own, own_row, own-more}

abbrev pub view_of : Seated Fitting → List (List Entry) → Putting → Viewing
view_of seat global puts = record { seat = seat; global = global; own = own_rows puts; list = puts.list }

-- with one entry more, that the worker keeps
abbrev pub keeping : Putting → ℕ → Entry → Putting
keeping puts v e = record puts { list = listed puts.list v e; kept = listed puts.kept v e }

-- and one that is in the pool
abbrev pub pooling : Putting → ℕ → Entry → Putting
pooling puts v e = record puts { list = listed puts.list v e }

-- what is kept goes on from an entry too far for a cell
BeginsFar-push : (es : List Entry) (e : Entry) → BeginsFar es → (2 ^ 64 ≤ e.dist) ⊎ (es ≢ []) → BeginsFar (es ++ e ∷ [])
BeginsFar-push [] e begins (inl far) = far
BeginsFar-push [] e begins (inr some) = absurd (some refl)
BeginsFar-push (x ∷ es) e begins why = begins

AreFar-more : (kept : List NodeEntry) (v : ℕ) (e : Entry) → AreFar kept → (2 ^ 64 ≤ e.dist) ⊎ (entries_of_node kept v ≢ []) → AreFar (listed kept v e)
AreFar-more kept v e far why u = elim (cases_eq v u) [
  | inl here ↦ subst (λ w. BeginsFar (entries_of_node (listed kept v e) w)) here (subst BeginsFar (sym (listed-here kept v e)) (BeginsFar-push (entries_of_node kept v) e (far v) why))
  | inr other ↦ subst BeginsFar (sym (listed-else kept v u e other)) (far u)
]

-- whether the seat is past the last cell
pub not_past : (past : Bool) (seat : Seated Fitting) (puts : Putting) → past ≡ false → IsOpen past seat puts → (seat.past ≡ None) × AreFar puts.kept
not_past true seat puts is opened = absurd (true≢false is)
not_past false seat puts is opened = opened

-- an entry more in the pool, at a node where nothing is kept
pub pooled-more : (seat now : Seated Fitting) (puts : Putting) (v : ℕ) (e : Entry) → HasPut seat v e now → entries_of_node puts.kept v ≡ [] → IsPooledBy seat puts → IsPooledBy now (pooling puts v e)
pooled-more seat now puts v e put none by u =
    let one : Put = record { node = v; linked = record { cell = put.cell; entry = e } } in
    let was = map put_entry seat.puts in
    let is : map put_entry now.puts ≡ listed was v e = ap (λ (s : Seated Fitting). map put_entry s.puts) put.after_is ∙ map-append put_entry seat.puts (one ∷ []) in
    elim (cases_eq v u) [
      | inl here ↦
          subst (λ w. entries_of_node (listed puts.list v e) w ≡ entries_of_node (map put_entry now.puts) w ++ entries_of_node puts.kept w) here
          (listed-here puts.list v e
          ∙ ap (λ es. es ++ e ∷ []) (by v ∙ ap (λ es. entries_of_node was v ++ es) none ∙ append-nil (entries_of_node was v))
          ∙ sym (ap (λ list. entries_of_node list v ++ entries_of_node puts.kept v) is ∙ ap (λ es. entries_of_node (listed was v e) v ++ es) none ∙ append-nil (entries_of_node (listed was v e) v) ∙ listed-here was v e))
      | inr other ↦
          listed-else puts.list v u e other ∙ by u ∙ sym (ap (λ list. entries_of_node list u ++ entries_of_node puts.kept u) is ∙ ap (λ es. es ++ entries_of_node puts.kept u) (listed-else was v u e other))
    ]

-- an entry that the worker keeps, or none
kept-more : (seat : Seated Fitting) (puts : Putting) (v : ℕ) (e : Entry) → IsPooledBy seat puts → IsPooledBy seat (keeping puts v e)
kept-more seat puts v e by u =
    let was = map put_entry seat.puts in
    elim (cases_eq v u) [
      | inl here ↦
          subst (λ w. entries_of_node (listed puts.list v e) w ≡ entries_of_node was w ++ entries_of_node (listed puts.kept v e) w) here
          (listed-here puts.list v e ∙ ap (λ es. es ++ e ∷ []) (by v) ∙ append_assoc (entries_of_node was v) (entries_of_node puts.kept v) (e ∷ []) ∙ ap (λ es. entries_of_node was v ++ es) (sym (listed-here puts.kept v e)))
      | inr other ↦ listed-else puts.list v u e other ∙ by u ∙ ap (λ es. entries_of_node was u ++ es) (sym (listed-else puts.kept v u e other))
    ]

pub pooled-kept : {E : Type 0} (seat now : Seated Fitting) (puts new : Putting) (v : ℕ) (e : Entry) (r : Result (Unit {0}) E) → OnOk r (new ≡ keeping puts v e) → OnErr r (new ≡ puts) → now.puts ≡ seat.puts → IsPooledBy seat puts → IsPooledBy now new
pooled-kept seat now puts new v e (Ok t) ok err same by = subst (λ w. IsPooledBy now w) (sym ok) (stays_pooled seat now (keeping puts v e) same (kept-more seat puts v e by))
pooled-kept seat now puts new v e (Err t) ok err same by = subst (λ w. IsPooledBy now w) (sym err) (stays_pooled seat now puts same by)

-- the list of a view
far_kept : (past : Bool) (seat : Seated Fitting) (puts : Putting) → IsOpen past seat puts → seat.past ≡ None → AreFar puts.kept
far_kept false seat puts opened none = opened.1
far_kept true seat puts opened none = absurd (none-some opened.0 (sym none ∙ opened.1))

pub list_of : (past : Bool) (seat : Seated Fitting) (puts : Putting) → IsOpen past seat puts → IsPooledBy seat puts → IsListOf seat puts.list
list_of past seat puts opened by = record { kept = puts.kept; list_is = by; far = far_kept past seat puts opened }

module _ (seat : Seated Fitting) (global : List (List Entry)) (puts : Putting) (viewing : IsViewing (view_of seat global puts)) (kept : All (λ e. IsNode puts.n e.node) puts.kept) where
  pub nodes_are : puts.n ≡ length (order_of seat.pool.fact)
  nodes_are = sym (length-own puts) ∙ viewing.own.size

  pub is_node : (v : ℕ) → IsNode (length (order_of seat.pool.fact)) v → IsNode puts.n v
  is_node v node = subst (λ n. IsNode n v) (sym nodes_are) node

  pub own_is : (v : ℕ) → IsNode (length (order_of seat.pool.fact)) v → label_row (own_rows puts) v ≡ entries_of_node puts.kept v
  own_is v node = own_row puts kept v (is_node v node)

  module _ (v : ℕ) (e : Entry) (node : IsNode (length (order_of seat.pool.fact)) v) (fits : fact_of (view_of seat global puts) v e) where
    abbrev x : NodeEntry
    x = record { node = v; pos = e.pos; dist = e.dist }

    -- an entry is put in the pool
    pub viewing-pooled : (now : Seated Fitting) → HasPut seat v e now → IsViewing (view_of now global (pooling puts v e))
    viewing-pooled now put =
        let was = viewing-put (view_of seat global puts) now v e viewing put fits in
        let P : NodeEntry → Type 0 = λ y. IsNode (length (order_of now.pool.fact)) y.node in
        let there : P x = subst (λ (s : Seated Fitting). IsNode (length (order_of s.pool.fact)) v) (sym put.after_is) node in
        record { pool = was.pool; global = was.global; own = was.own; seen = was.seen; nodes = All-push P puts.list x was.nodes there }

    -- an entry is kept by the worker, or memory runs out for that
    viewing-more : (past : Option ℕ) → IsViewing (view_of (record seat { past = past }) global (keeping puts v e))
    viewing-more past = record {
      pool = viewing.pool;
      global = viewing.global;
      own = subst (IsGathered (edges_of seat.pool.fact) (order_of seat.pool.fact)) (sym (own-more puts v e)) (IsGathered-gains (edges_of seat.pool.fact) (order_of seat.pool.fact) (own_rows puts) v e viewing.own node fits);
      seen = viewing.seen;
      nodes = All-push (λ y. IsNode (length (order_of seat.pool.fact)) y.node) puts.list x viewing.nodes node;
    }

    gained-more : (past : Option ℕ) → IsForOwn (view_of seat global puts) v e.dist past → HasGained (view_of seat global puts) v e (view_of (record seat { past = past }) global (keeping puts v e))
    gained-more past for_own = inr (record {
      within = subst (λ n. v ≤ n) (sym viewing.own.size) node.up_to_n;
      past = past;
      for_own = for_own;
      same = ap (λ rows. record { seat = record seat { past = past }; global = global; own = rows; list = listed puts.list v e }) (own-more puts v e);
    })

    viewing-either : {E : Type 0} (r : Result (Unit {0}) E) (new : Putting) (past : Option ℕ) → OnOk r (new ≡ keeping puts v e) → OnErr r (new ≡ puts) → IsViewing (view_of (record seat { past = past }) global new)
    viewing-either (Ok t) new past ok err = subst (λ w. IsViewing (view_of (record seat { past = past }) global w)) (sym ok) (viewing-more past)
    viewing-either (Err t) new past ok err = subst (λ w. IsViewing (view_of (record seat { past = past }) global w)) (sym err)
        (record { pool = viewing.pool; global = viewing.global; own = viewing.own; seen = viewing.seen; nodes = viewing.nodes })

    pub viewing-kept : {E : Type 0} (r : Result (Unit {0}) E) (new : Putting) → OnOk r (new ≡ keeping puts v e) → OnErr r (new ≡ puts) → (now : Seated Fitting) (past : Option ℕ) → now ≡ record seat { past = past } → IsViewing (view_of now global new)
    viewing-kept r new ok err now past is = subst (λ s. IsViewing (view_of s global new)) (sym is) (viewing-either r new past ok err)

    pub gained-kept : {E : Type 0} (r : Result (Unit {0}) E) (new : Putting) → OnOk r (new ≡ keeping puts v e) → (now : Seated Fitting) (past : Option ℕ) → now ≡ record seat { past = past } → IsForOwn (view_of seat global puts) v e.dist past → OnOk r (HasGained (view_of seat global puts) v e (view_of now global new))
    gained-kept (Ok t) new ok now past is for_own =
        subst (λ w. HasGained (view_of seat global puts) v e (view_of now global w)) (sym ok) (subst (λ s. HasGained (view_of seat global puts) v e (view_of s global (keeping puts v e))) (sym is) (gained-more past for_own))
    gained-kept (Err t) new ok now past is for_own = tt

    -- what is kept is of nodes
    pub nodes-kept : {E : Type 0} (r : Result (Unit {0}) E) (new : Putting) → OnOk r (new ≡ keeping puts v e) → OnErr r (new ≡ puts) → All (λ y. IsNode new.n y.node) new.kept
    nodes-kept (Ok t) new ok err = subst (λ (w : Putting). All (λ (y : NodeEntry). IsNode w.n y.node) w.kept) (sym ok) (All-push (λ y. IsNode puts.n y.node) puts.kept x kept (is_node v node))
    nodes-kept (Err t) new ok err = subst (λ (w : Putting). All (λ (y : NodeEntry). IsNode w.n y.node) w.kept) (sym err) kept

    -- the entry was one for the own row
    opened-more : (past : Bool) → IsForOwn (view_of seat global puts) v e.dist seat.past → IsOpen past seat puts → IsOpen past seat (keeping puts v e)
    opened-more true for_own opened = opened
    opened-more false (inl gone) opened = absurd (none-some gone.0 (sym opened.0 ∙ gone.1))
    opened-more false (inr (same, inl far)) opened = (opened.0, AreFar-more puts.kept v e opened.1 (inl far))
    opened-more false (inr (same, inr some)) opened = (opened.0, AreFar-more puts.kept v e opened.1 (inr (λ none. some (own_is v node ∙ none))))

    pub opened-kept : {E : Type 0} (r : Result (Unit {0}) E) (new : Putting) → OnOk r (new ≡ keeping puts v e) → OnErr r (new ≡ puts) → (past : Bool) → IsForOwn (view_of seat global puts) v e.dist seat.past → IsOpen past seat puts → IsOpen past seat new
    opened-kept (Ok t) new ok err past for_own opened = subst (λ w. IsOpen past seat w) (sym ok) (opened-more past for_own opened)
    opened-kept (Err t) new ok err past for_own opened = subst (λ w. IsOpen past seat w) (sym err) opened
