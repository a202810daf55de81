-- What a visit and a put keep of a view.
use Rattle.std.proofs.Common.{◌≡◌, inl, inr, ℕ, Bool, true, false, List, [], ◌∷◌, ◌++◌, reverse, sym, ap, subst, ◌∙◌}
use Rattle.std.proofs.lemmas.Bool.{cases_eq}
use Rattle.std.proofs.lemmas.List.{append_assoc, append-nil, reverse-append}
use Rattle.walk_laws.specs.declared.entry.Entry.{Entry}
use Rattle.walk_laws.specs.Labelling.{label_row}
use Rattle.label_pool.specs.declared.rule.Linked.{Linked}
use Rattle.label_pool.specs.Seats.{Seated, HasPut, HasFound}
use Rattle.pool_view.specs.Fitting.{Fitting, MayStand}
use Rattle.pool_view.specs.Putting.{AreFar, Putting, IsListFrom, IsPooledBy}
use Rattle.pool_view.specs.Seen.{IsSeen, seen_chain}
use Rattle.pool_view.specs.Viewing.{Viewing, IsViewing, IsOpen, HasVisited, IsInPool, fact_of, seen_row, whole_row}
use Rattle.pool_view.proofs.SeenChains.{look_at, IsSeen-looked, IsSeen-looked_else, IsSeen-put, IsSeen-put_else, seen-looked, seen-put}
use Rattle.pool_view.proofs.Offered.{looked, pooled, visited-is, pooled-is}
use Rattle.pool_view.proofs.WholeRows.{chain-stands}

-- a visit
pub viewing-looked : (before : Viewing) (seat : Seated Fitting) (v : ℕ) (found : List Linked) → IsViewing before → HasFound MayStand before.seat.pool before.seat v found seat → IsViewing (record before { seat = seat })
viewing-looked before seat v found viewing visit =
    let looks = before.seat.looks in
    let marks = before.seat.marks in
    let then : IsViewing (looked before v found) = record {
      pool = viewing.pool;
      global = viewing.global;
      own = viewing.own;
      seen = λ u. elim (cases_eq v u) [
        | inl here ↦
            let there = IsSeen-looked (fact_of before v) looks marks v (viewing.seen v) found visit.goes_on (chain-stands before found v visit.met) in
            subst (λ x. IsSeen (fact_of before x) (looks ++ look_at v found ∷ []) (look_at v found ∷ marks) x) here there
        | inr other ↦ IsSeen-looked_else looks marks v u other found (fact_of before u) (viewing.seen u)
      ];
      nodes = viewing.nodes;
    } in
    subst (λ s. IsViewing (record before { seat = s })) (sym visit.after_is) then

-- a put in the pool
pub viewing-put : (before : Viewing) (seat : Seated Fitting) (v : ℕ) (e : Entry) → IsViewing before → HasPut before.seat v e seat → fact_of before v e → IsViewing (record before { seat = seat })
viewing-put before seat v e viewing put stands =
    let looks = before.seat.looks in
    let marks = before.seat.marks in
    let l : Linked = record { cell = put.cell; entry = e } in
    let then : IsViewing (pooled before v put.blocks put.reserve put.cell e put.older) = record {
      pool = viewing.pool;
      global = viewing.global;
      own = viewing.own;
      seen = λ u. elim (cases_eq v u) [
        | inl here ↦
            let there = IsSeen-put (fact_of before v) looks marks v (viewing.seen v) l put.older put.goes_on stands in
            subst (λ x. IsSeen (fact_of before x) looks (look_at v (l ∷ put.older) ∷ marks) x) here there
        | inr other ↦ IsSeen-put_else looks marks v u other (l ∷ put.older) (fact_of before u) (viewing.seen u)
      ];
      nodes = viewing.nodes;
    } in
    subst (λ s. IsViewing (record before { seat = s })) (sym put.after_is) then

-- nothing was put
pub stays_pooled : (before seat : Seated Fitting) (puts : Putting) → seat.puts ≡ before.puts → IsPooledBy before puts → IsPooledBy seat puts
stays_pooled before seat puts same by = subst (λ ps. IsListFrom ps puts.kept puts.list) (sym same) by

pub stays_open : (past : Bool) (before seat : Seated Fitting) (puts new : Putting) → seat.past ≡ before.past → new.kept ≡ puts.kept → IsOpen past before puts → IsOpen past seat new
stays_open false before seat puts new same none opened = (same ∙ opened.0, subst AreFar (sym none) opened.1)
stays_open true before seat puts new same none opened = (opened.0, same ∙ opened.1)

-- what is seen after a visit is what it found
pub visited-seen : (before after : Viewing) (v : ℕ) (found : List Linked) → IsViewing before → HasVisited before v found after → seen_row after v ≡ whole_row before found v
visited-seen before after v found viewing visit =
    ap (λ w. seen_row w v) (visited-is before after v found visit)
    ∙ ap (λ es. label_row before.global v ++ reverse es ++ label_row before.own v) (seen-looked (fact_of before v) before.seat.looks before.seat.marks v (viewing.seen v) found visit.0.goes_on)

-- and after a put in the pool that with the entry after it
pub pooled-seen : (before after : Viewing) (v : ℕ) (e : Entry) → IsSeen (fact_of before v) before.seat.looks before.seat.marks v → (put : IsInPool before v e after) → seen_row after v ≡ seen_row before v ++ e ∷ []
pooled-seen before after v e seen put =
    let G = label_row before.global v in
    let N = seen_chain before.seat.looks before.seat.marks v in
    let own_none : (es : List Entry) → es ++ label_row before.own v ≡ es = λ es. ap (λ xs. es ++ xs) put.none_own ∙ append-nil es in
    ap (λ w. seen_row w v) (pooled-is before after v e put)
    ∙ ap (λ es. G ++ reverse es ++ label_row before.own v) (seen-put (fact_of before v) before.seat.looks before.seat.marks v seen (record { cell = put.put.cell; entry = e }) put.put.older put.put.goes_on)
    ∙ own_none (G ++ reverse (e ∷ N))
    ∙ ap (λ es. G ++ es) (reverse-append (e ∷ []) N)
    ∙ sym (append_assoc G (reverse N) (e ∷ []))
    ∙ ap (λ es. es ++ e ∷ []) (sym (own_none (G ++ reverse N)))
