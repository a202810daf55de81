-- What is wrong with the rows of neighbouring nodes, as ranges of them are joined.
use Rattle.std.proofs.Common.{◌≡◌, ℕ, ◌+◌, ◌<◌, ◌≤◌, List, Option, Some, None, length, slice_get, sym, subst, inl, inr, arith}
use Rattle.std.specs.Prelude.{MatchOption}
use Rattle.std.specs.Option.{option_or}
use Rattle.std.proofs.lemmas.Bool.{cases_lt, cases_eq}
use Rattle.std.proofs.lemmas.Option.{slice_get_within}
use Rattle.walk_laws.specs.declared.entry.Entry.{Entry}
use Rattle.walk_laws.specs.Graph.{WeightedGraph}
use Rattle.walk_laws.specs.Joined.{Joined}
use Rattle.walk_laws.specs.Labelling.{label_row}
use Rattle.hub_index.specs.HubIndex.{HubIndex}
use Rattle.entry_vias.specs.RowVias.{TracedHubIndex}
use Rattle.index_audit.specs.declared.answer.Audit.{Audit}
use Rattle.index_audit.specs.declared.answer.Audit.TheVariants.{Same}
use Rattle.index_audit.specs.Audited.{IsSoundAt, AreSoundUpTo, IsSoundRow, AreSoundBefore, IsFirstFault, IsFirstOfRow, IsOfOrder, IsAuditWith}
use Rattle.index_audit.specs.TracedAudits.{IsTracedAuditOf}
use Rattle.index_audit.specs.Ranges.{AreSoundBetween, IsFirstBetween}
use Rattle.index_audit.proofs.Decided.{answer_of_fault}

module _ (J : ℕ → ℕ → ℕ → Type 0) (at : List ℕ) (rows : List (List Entry)) (vias : Option (List (List ℕ))) where
  -- the entries of a row, one after the other
  pub AreSoundUpTo-none : (v : ℕ) → AreSoundUpTo J at rows vias v 0
  AreSoundUpTo-none v k e before there = absurd (omega (arith, before))

  pub AreSoundUpTo-one_more : (v end : ℕ) → AreSoundUpTo J at rows vias v end → ((e : Entry) → slice_get (label_row rows v) end ≡ Some e → IsSoundAt J at rows vias v end e) → AreSoundUpTo J at rows vias v (end + 1)
  AreSoundUpTo-one_more v end so_far here k e before there = elim (cases_eq k end) [
    | inl same ↦ subst (λ i. IsSoundAt J at rows vias v i e) (sym same) (here e (subst (λ i. slice_get (label_row rows v) i ≡ Some e) same there))
    | inr other ↦ so_far k e (omega (arith, before, other)) there
  ]

  pub IsSoundRow-all : (v end : ℕ) → length (label_row rows v) ≤ end → AreSoundUpTo J at rows vias v end → IsSoundRow J at rows vias v
  IsSoundRow-all v end over so_far k e there = so_far k e (omega (arith, over, slice_get_within (label_row rows v) k e there)) there

  pub AreSoundBetween-none : (from : ℕ) → AreSoundBetween J at rows vias from from
  AreSoundBetween-none from x after up_to = absurd (omega (arith, after, up_to))

  pub AreSoundBetween-one_more : (from to : ℕ) → AreSoundBetween J at rows vias from to → IsSoundRow J at rows vias (to + 1) → AreSoundBetween J at rows vias from (to + 1)
  AreSoundBetween-one_more from to before here x after up_to = elim (cases_eq x (to + 1)) [
    | inl same ↦ subst (IsSoundRow J at rows vias) (sym same) here
    | inr other ↦ before x after (omega (arith, up_to, other))
  ]

  pub IsFirstBetween-next : (from v to : ℕ) (fault : Audit) → from ≤ v → v < to → AreSoundBetween J at rows vias from v → IsFirstOfRow J at rows vias (v + 1) fault → IsFirstBetween J at rows vias from to fault
  IsFirstBetween-next from v to fault le lt before row = record { v = v + 1; after = omega (arith, le); up_to = omega (arith, lt); rows_before = λ x after less. before x after (omega (arith, less)); row = row }

  -- two ranges, one after the other
  AreSoundBetween-joined : (from mid to : ℕ) → AreSoundBetween J at rows vias from mid → AreSoundBetween J at rows vias mid to → AreSoundBetween J at rows vias from to
  AreSoundBetween-joined from mid to first second x after up_to = elim (cases_lt mid x) [
    | inl above ↦ second x above up_to
    | inr not_above ↦ first x after (omega (arith, not_above))
  ]

  in_first : (from mid to : ℕ) (fault : Audit) → mid ≤ to → IsFirstBetween J at rows vias from mid fault → IsFirstBetween J at rows vias from to fault
  in_first from mid to fault le f = record { v = f.v; after = f.after; up_to = omega (arith, f.up_to, le); rows_before = f.rows_before; row = f.row }

  in_second : (from mid to : ℕ) (fault : Audit) → from ≤ mid → AreSoundBetween J at rows vias from mid → IsFirstBetween J at rows vias mid to fault → IsFirstBetween J at rows vias from to fault
  in_second from mid to fault le sound f = record {
    v = f.v;
    after = omega (arith, f.after, le);
    up_to = f.up_to;
    rows_before = λ x after less. elim (cases_lt mid x) [
      | inl above ↦ f.rows_before x above less
      | inr not_above ↦ sound x after (omega (arith, not_above))
    ];
    row = f.row;
  }

  -- what is wrong first with the rows of a range
  abbrev pub IsFound : ℕ → ℕ → Option Audit → Type 0
  IsFound from to found = MatchOption found (AreSoundBetween J at rows vias from to) (λ fault. IsFirstBetween J at rows vias from to fault)

  pub found_joined : (from mid to : ℕ) (first second : Option Audit) → from ≤ mid → mid ≤ to → IsFound from mid first → IsFound mid to second → IsFound from to (option_or first second)
  found_joined from mid to (Some fault) second le up a b = in_first from mid to fault up a
  found_joined from mid to None (Some fault) le up a b = in_second from mid to fault le a b
  found_joined from mid to None None le up a b = AreSoundBetween-joined from mid to a b

-- what is wrong with all rows is what the audit answers
module _ (graph : WeightedGraph) (at : List ℕ) (index : HubIndex) (vias : Option (List (List ℕ))) (order : IsOfOrder graph at index) (n : ℕ) (size : n ≡ length index.order) where
  under : (fault : Audit) → IsFirstFault (Joined graph.edges) index.order index.rows vias fault → IsFirstFault (Joined graph.edges) at index.rows vias fault
  under fault = subst (λ o. IsFirstFault (Joined graph.edges) o index.rows vias fault) order.order

  pub answer_found : (fault : Audit) → IsFirstBetween (Joined graph.edges) index.order index.rows vias 0 n fault → IsAuditWith graph at index fault vias
  answer_found fault f =
      answer_of_fault graph at index vias fault order (under fault (record { v = f.v; from_one = omega (arith, f.after); up_to_n = omega (arith, f.up_to, size); rows_before = λ x from_one less. f.rows_before x (omega (arith, from_one)) less; row = f.row }))

  pub answer_none : AreSoundBetween (Joined graph.edges) index.order index.rows vias 0 n → IsAuditWith graph at index Same vias
  answer_none sound =
      let before : AreSoundBefore (Joined graph.edges) index.order index.rows vias (length index.order + 1) = λ x from_one less. sound x (omega (arith, from_one)) (omega (arith, less, size)) in
      (order, subst (λ o. AreSoundBefore (Joined graph.edges) o index.rows vias (length o + 1)) order.order before)

-- what is answered of the parts of an index with vias is answered of the whole
pub answer_of_parts : (graph : WeightedGraph) (at : List ℕ) (index : HubIndex) (vias : List (List ℕ)) (whole : TracedHubIndex) (answer : Audit) → index.order ≡ whole.order → index.rows ≡ whole.rows → vias ≡ whole.vias → IsAuditWith graph at index answer (Some vias) → IsTracedAuditOf graph at whole answer
answer_of_parts graph at index vias whole answer order rows same told =
    let parts : (List ℕ) → (List (List Entry)) → HubIndex = λ o r. record { order = o; rows = r } in
    subst (λ o. IsAuditWith graph at (parts o whole.rows) answer (Some whole.vias)) order
    (subst (λ r. IsAuditWith graph at (parts index.order r) answer (Some whole.vias)) rows
    (subst (λ s. IsAuditWith graph at index answer (Some s)) same told))
