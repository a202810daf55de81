-- The whole row of a node: of the global table, the pool and the worker's own.
use Rattle.std.proofs.Common.{inl, inr, ℕ, Option, List, [], ◌∷◌, ◌++◌, All, Contains, length, sym, subst}
use Rattle.std.specs.Prelude.{Some, None, reverse}
use Rattle.std.proofs.lemmas.List.{reverse-append, append-nil}
use Rattle.std.proofs.lemmas.List.Elements.{All-append, All-weaker, All-contains, All-contains_itself, All-map, Contains-append_left, Contains-append_right, Contains-append_cases}
use Rattle.walk_laws.specs.declared.entry.Entry.{Entry}
use Rattle.walk_laws.specs.Joined.{Joined}
use Rattle.walk_laws.specs.Labelling.{EntryFits, label_row}
use Rattle.hub_index.specs.Views.{StandsIn, IsFound, IsNode}
use Rattle.hub_index.proofs.FoundRows.{StandsIn-both, StandsIn-self}
use Rattle.hub_index.proofs.Backwards.{Contains-backwards}
use Rattle.label_pool.specs.declared.rule.Linked.{Linked}
use Rattle.label_pool.specs.Chains.{entries_of, seen_of, IsTailOf}
use Rattle.label_pool.specs.Seats.{IsMet}
use Rattle.pool_view.specs.Fitting.{Fitting, MayStand, edges_of, order_of}
use Rattle.pool_view.specs.Seen.{seen_chain}
use Rattle.pool_view.specs.Viewing.{Viewing, IsViewing, fact_of, whole_row, seen_row}
use Rattle.pool_view.proofs.SeenChains.{tail-entries}

pub Contains-reversed : (xs : List Entry) (e : Entry) → Contains xs e → Contains (reverse xs) e
Contains-reversed xs e there = (Contains-backwards xs e).0 there

pub Contains-unreversed : (xs : List Entry) (e : Entry) → Contains (reverse xs) e → Contains xs e
Contains-unreversed xs e there = (Contains-backwards xs e).1 there

pub All-reversed : (P : Entry → Type 0) (xs : List Entry) → All P xs → All P (reverse xs)
All-reversed P xs all = All-weaker (Contains (reverse xs)) P (λ e there. All-contains P xs e all (Contains-unreversed xs e there)) (reverse xs) (All-contains_itself (reverse xs))

pub StandsIn-reversed : (list row : List Entry) → StandsIn list row → StandsIn (reverse list) (reverse row)
StandsIn-reversed [] row stands = tt
StandsIn-reversed (e ∷ es) [] stands = absurd stands
StandsIn-reversed (e ∷ es) (x ∷ row) (inl here) =
    subst (λ (t : List Entry × List Entry). StandsIn t.0 t.1) (λ k. (sym (reverse-append (e ∷ []) es) k, sym (reverse-append (x ∷ []) row) k))
    (StandsIn-both (reverse es) (reverse row) (e ∷ []) (x ∷ []) (StandsIn-reversed es row here.1) (inl (here.0, tt)))
StandsIn-reversed (e ∷ es) (x ∷ row) (inr later) =
    subst (StandsIn (reverse (e ∷ es))) (sym (reverse-append (x ∷ []) row))
    (subst (λ xs. StandsIn xs (reverse row ++ x ∷ [])) (append-nil (reverse (e ∷ es))) (StandsIn-both (reverse (e ∷ es)) (reverse row) [] (x ∷ []) (StandsIn-reversed (e ∷ es) row later) tt))

-- what the entries of a pool meet is that they may stand
pub met-stands : (of : Option Fitting) (v : ℕ) (e : Entry) → IsMet MayStand of v e → EntryFits (Joined (edges_of of)) (order_of of) v e
met-stands None v e met = absurd met
met-stands (Some of) v e met = met

module _ (view : Viewing) (found : List Linked) (v : ℕ) where
  abbrev Global : List Entry
  Global = label_row view.global v

  abbrev Chain : List Entry
  Chain = reverse (entries_of found)

  abbrev Own : List Entry
  Own = label_row view.own v

  -- the parts of the whole row
  pub of_global : (e : Entry) → Contains (label_row view.global v) e → Contains (whole_row view found v) e
  of_global e there = Contains-append_left (Global ++ Chain) Own e (Contains-append_left Global Chain e there)

  pub of_chain : (e : Entry) → Contains (entries_of found) e → Contains (whole_row view found v) e
  of_chain e there = Contains-append_left (Global ++ Chain) Own e (Contains-append_right Global Chain e (Contains-reversed (entries_of found) e there))

  pub of_own : (e : Entry) → Contains (label_row view.own v) e → Contains (whole_row view found v) e
  of_own e there = Contains-append_right (Global ++ Chain) Own e there

  -- what holds of all parts holds of the whole row
  pub whole-all : (P : Entry → Type 0) → All P (label_row view.global v) → All P (entries_of found) → All P (label_row view.own v) → All P (whole_row view found v)
  whole-all P global chain own = All-append P (Global ++ Chain) Own (All-append P Global Chain global (All-reversed P (entries_of found) chain)) own

  -- in the order in which they are noted: the chain, the own row from its end on, and the global one
  abbrev pub Noting : List Entry
  Noting = (entries_of found ++ reverse Own) ++ Global

  pub noting-whole : (e : Entry) → Contains Noting e → Contains (whole_row view found v) e
  noting-whole e there = elim (Contains-append_cases (entries_of found ++ reverse Own) Global e there) [
    | inl others ↦ elim (Contains-append_cases (entries_of found) (reverse Own) e others) [
      | inl chain ↦ of_chain e chain
      | inr own ↦ of_own e (Contains-unreversed Own e own)
    ]
    | inr global ↦ of_global e global
  ]

  pub whole-noting : (e : Entry) → Contains (whole_row view found v) e → Contains Noting e
  whole-noting e there = elim (Contains-append_cases (Global ++ Chain) Own e there) [
    | inl others ↦ elim (Contains-append_cases Global Chain e others) [
      | inl global ↦ Contains-append_right (entries_of found ++ reverse Own) Global e global
      | inr chain ↦ Contains-append_left (entries_of found ++ reverse Own) Global e (Contains-append_left (entries_of found) (reverse Own) e (Contains-unreversed (entries_of found) e chain))
    ]
    | inr own ↦ Contains-append_left (entries_of found ++ reverse Own) Global e (Contains-append_right (entries_of found) (reverse Own) e (Contains-reversed Own e own))
  ]

  -- each entry of a chain that was found may stand there
  pub chain-stands : All (λ l. IsMet MayStand view.seat.pool.fact v l.entry) found → All (fact_of view v) (entries_of found)
  chain-stands met = All-map (fact_of view v) (λ l. l.entry) found (All-weaker (λ l. IsMet MayStand view.seat.pool.fact v l.entry) (λ l. fact_of view v l.entry) (λ l. met-stands view.seat.pool.fact v l.entry) found met)

  -- and so each entry of the whole row
  pub whole-stands : IsViewing view → IsNode (length (order_of view.seat.pool.fact)) v → All (λ l. IsMet MayStand view.seat.pool.fact v l.entry) found → All (fact_of view v) (whole_row view found v)
  whole-stands viewing node met = whole-all (fact_of view v) (viewing.global.fit v node.from_one node.up_to_n) (chain-stands met) (viewing.own.fit v node.from_one node.up_to_n)

  -- what was seen before still stands in it
  pub seen-stands : IsViewing view → IsTailOf (seen_of view.seat.marks v) found → StandsIn (seen_row view v) (whole_row view found v)
  seen-stands viewing tail =
      let seen = seen_chain view.seat.looks view.seat.marks v in
      StandsIn-both (Global ++ reverse seen) (Global ++ Chain) Own Own
      (StandsIn-both Global Global (reverse seen) Chain (StandsIn-self Global) (StandsIn-reversed seen (entries_of found) (tail-entries (seen_of view.seat.marks v) found seen tail (viewing.seen v).stands)))
      (StandsIn-self Own)

  pub whole-found : IsViewing view → IsNode (length (order_of view.seat.pool.fact)) v → IsTailOf (seen_of view.seat.marks v) found → All (λ l. IsMet MayStand view.seat.pool.fact v l.entry) found → IsFound (fact_of view v) (seen_row view v) (whole_row view found v)
  whole-found viewing node tail met = record { still = seen-stands viewing tail; met = whole-stands viewing node met }

-- the list seen is itself a row that may be found, where nothing is asked of the pool
pub seen-found : (view : Viewing) (v : ℕ) → IsViewing view → IsNode (length (order_of view.seat.pool.fact)) v → IsFound (fact_of view v) (seen_row view v) (seen_row view v)
seen-found view v viewing node = record {
  still = StandsIn-self (seen_row view v);
  met = All-append (fact_of view v) (label_row view.global v ++ reverse (seen_chain view.seat.looks view.seat.marks v)) (label_row view.own v)
      (All-append (fact_of view v) (label_row view.global v) (reverse (seen_chain view.seat.looks view.seat.marks v)) (viewing.global.fit v node.from_one node.up_to_n) (All-reversed (fact_of view v) (seen_chain view.seat.looks view.seat.marks v) (viewing.seen v).met))
      (viewing.own.fit v node.from_one node.up_to_n);
}

-- the global row is part of what was seen
pub global-seen : (view : Viewing) (v : ℕ) (e : Entry) → Contains (label_row view.global v) e → Contains (seen_row view v) e
global-seen view v e there =
    let chain = reverse (seen_chain view.seat.looks view.seat.marks v) in
    Contains-append_left (label_row view.global v ++ chain) (label_row view.own v) e (Contains-append_left (label_row view.global v) chain e there)
