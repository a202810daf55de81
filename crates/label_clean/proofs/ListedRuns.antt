-- The runs of a list of entries.
use Rattle.std.proofs.Common.{◌≡◌, ℕ, ◌+◌, ◌-◌, ◌<◌, ◌≤◌, List, [], ◌∷◌, ◌++◌, length, get_or, take, drop, flat_map, sym, ap, ◌∙◌, arith}
use Rattle.std.proofs.Math.Seq.{take-add}
use Rattle.std.proofs.lemmas.Grind.{flat_map-append}
use Rattle.std.proofs.lemmas.List.{append-nil, get_or-take, get_or-drop, length-take, length-drop}
use Rattle.std.proofs.lemmas.List.Concat.{flat_map-cons}
use Rattle.std.proofs.lemmas.List.Elements.{All-from_get_or}
use Rattle.hub_index.specs.declared.node_entry.NodeEntry.{NodeEntry}
use Rattle.label_clean.specs.declared.runs.Run.{Run}
use Rattle.label_clean.specs.RootRuns.{IsRunIn, entries_of_run}

module _ (entries : List NodeEntry) (run : Run) (d : NodeEntry) (ordered : run.from < run.to) (within : run.to ≤ length entries) where
  length-run : length (entries_of_run entries run) ≡ run.to - run.from
  length-run = omega (arith, ordered, within, length-take (run.to - run.from) (drop run.from entries), length-drop run.from entries)

  -- entries of one position side by side are a run
  pub IsRunIn-made : run.pos ≡ (get_or entries run.from d).pos → ((k : ℕ) (d : NodeEntry) → run.from ≤ k → k < run.to → (get_or entries k d).pos ≡ (get_or entries run.from d).pos) → IsRunIn entries run
  IsRunIn-made is one = record {
    some = ordered;
    within = within;
    one = All-from_get_or (λ e. e.pos ≡ run.pos) (entries_of_run entries run) d (λ i lt.
        let here = get_or-take (run.to - run.from) (drop run.from entries) i d (omega (arith, lt, length-run)) ∙ get_or-drop run.from entries i d in
        ap (λ (e : NodeEntry). e.pos) here ∙ one (run.from + i) d (omega arith) (omega (arith, lt, length-run)) ∙ sym is);
  }

  -- and the list goes on by it
  pub whole-more : (runs : List Run) → flat_map (λ run. entries_of_run entries run) runs ≡ take run.from entries → flat_map (λ run. entries_of_run entries run) (runs ++ run ∷ []) ≡ take run.to entries
  whole-more runs so_far =
      let f : Run → List NodeEntry = λ run. entries_of_run entries run in
      let reach : run.from + (run.to - run.from) ≡ run.to = omega (arith, ordered) in
      flat_map-append f runs (run ∷ [])
      ∙ ap (λ es. es ++ flat_map f (run ∷ [])) so_far
      ∙ ap (λ es. take run.from entries ++ es) (flat_map-cons f run [] ∙ append-nil (f run))
      ∙ sym (take-add run.from (run.to - run.from) entries)
      ∙ ap (λ k. take k entries) reach
