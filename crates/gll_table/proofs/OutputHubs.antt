-- What is listed for the next roots of what all workers hand in.
use Rattle.std.proofs.Common.{◌≡◌, ℕ, ◌+◌, ◌<◌, ◌≤◌, List, [], ◌∷◌, ◌++◌, All, flat_map, get_or, length, take, sym, ap, ◌∙◌, arith}
use Rattle.std.proofs.lemmas.Grind.{flat_map-append}
use Rattle.std.proofs.lemmas.List.{append-nil, take_more}
use Rattle.std.proofs.lemmas.List.Concat.{flat_map-cons}
use Rattle.std.proofs.lemmas.List.Elements.{All-contains}
use Rattle.walk_laws.specs.Ranking.{IsRanking}
use Rattle.hub_index.specs.declared.node_entry.NodeEntry.{NodeEntry}
use Rattle.hub_index.specs.NodeEntries.{entries_of_node}
use Rattle.hub_index.specs.Views.{IsNode}
use Rattle.hub_index.proofs.GatheredRows.{entries_of_node-append}
use Rattle.label_clean.specs.declared.hub_rows.HubEntry.{HubEntry}
use Rattle.label_clean.specs.HubRows.{entries_of_hub}
use Rattle.label_clean.proofs.GatheredHubs.{entries_of_hub-append}
use Rattle.gll_table.specs.Partition.{ListsHubs, entries_below, hub_entries}
use Rattle.gll_table.specs.Outputs.{Output, all_put}
use Rattle.gll_table.proofs.ListedHubs.{below-append, listed_of_hub}

-- what is listed of the workers up to one, and of that one
pub one_more : {X : Type 0} (f : Output → List X) (outputs : List Output) (i : ℕ) (s : Output) → i < length outputs → s ≡ get_or outputs i s → flat_map f (take (i + 1) outputs) ≡ flat_map f (take i outputs) ++ f s
one_more f outputs i s within is =
    ap (flat_map f) (take_more outputs i s within ∙ ap (λ t. take i outputs ++ t ∷ []) (sym is))
    ∙ flat_map-append f (take i outputs) (s ∷ [])
    ∙ ap (λ list. flat_map f (take i outputs) ++ list) (flat_map-cons f s [] ∙ append-nil (f s))

module _ (at : List ℕ) (next : ℕ) where
  -- what is listed up to a position past the next root's, or at it
  pub ListsHubs-listed : (far : ℕ) (list : List NodeEntry) → IsRanking at → next ≤ far → All (λ (e : NodeEntry). IsNode (length at) e.node) list → ListsHubs at next list (hub_entries at far list)
  ListsHubs-listed far list ranking past nodes q h low is = listed_of_hub at far ranking q h (omega (arith, low, past)) is list (λ x there. All-contains (λ (e : NodeEntry). IsNode (length at) e.node) list x nodes there)

  -- of two lists
  ListsHubs-both : (xs ys : List NodeEntry) (hs ks : List HubEntry) → ListsHubs at next xs hs → ListsHubs at next ys ks → ListsHubs at next (xs ++ ys) (hs ++ ks)
  ListsHubs-both xs ys hs ks first second q h low is =
      entries_of_hub-append hs ks q
      ∙ ap (λ es. es ++ entries_of_hub ks q) (first q h low is)
      ∙ ap (λ es. entries_below q (entries_of_node xs h) ++ es) (second q h low is)
      ∙ sym (ap (entries_below q) (entries_of_node-append xs ys h) ∙ below-append q (entries_of_node xs h) (entries_of_node ys h))

  -- of one more worker
  pub ListsHubs-more : (outputs : List Output) (i : ℕ) (s : Output) (before more after : List HubEntry) → i < length outputs → s ≡ get_or outputs i s → ListsHubs at next (all_put (take i outputs)) before → ListsHubs at next s.list more → after ≡ before ++ more → ListsHubs at next (all_put (take (i + 1) outputs)) after
  ListsHubs-more outputs i s before more after within is first second added q h low there =
      ap (λ hs. entries_of_hub hs q) added
      ∙ ListsHubs-both (all_put (take i outputs)) s.list before more first second q h low there
      ∙ ap (λ list. entries_below q (entries_of_node list h)) (sym (one_more (λ (t : Output). t.list) outputs i s within is))
