-- Each call's step is allowed: whatever the table is at that moment, it keeps the rule and tells what it should.
use Rattle.std.proofs.Common.{◌≡◌, ◌≢◌, ⊎_elim, ℕ, ◌+◌, ◌*◌, mul-le-mul_left, ◌%◌, ◌^◌, ◌<◌, ◌≤◌, List, [], ◌∷◌, ◌++◌, ◌==◌, All, get_or, set, refl, sym, ap, ◌∙◌, subst, arith}
use Rattle.std.specs.Prelude.{Some, None, Contains, drop, slice_index}
use Rattle.std.proofs.lemmas.List.{append_assoc, set-get_or}
use Rattle.std.proofs.lemmas.List.Elements.{All-contains, All-weaker, Contains-get_or}
use Rattle.std.proofs.lemmas.List.Sorted.{Contains-permutation}
use Rattle.label_pool.proofs.Permuted.{one-of-all}
use prog.Atomic.{either}
use mathlib.Core.Option.{none, some}
use lib.ListN.{get_elem?}
use Rattle.atomic_table.specs.Table.{Act, keeps, step, Valid, carried_after, stepped, Allows, Splits, Joins}
use Rattle.atomic_table.proofs.Lists.{at_set, set_again, exchanged}
use Rattle.walk_laws.specs.declared.entry.Entry.{Entry}
use Rattle.hub_index.specs.Views.{IsNode}
use Rattle.table_seats.specs.declared.seat_view.SeatView.{SeatView}
use Rattle.table_seats.specs.Seats.{knowing, kept_of, given_of, joined, spent, looked}
use Rattle.table_seats.proofs.Seating.{is_one}
use Rattle.table_seats.proofs.Drawing as drawing
use Rattle.label_pool.specs.declared.rule.About.{About}
use Rattle.label_pool.specs.declared.rule.Filling.{Filling}
use Rattle.label_pool.specs.declared.rule.Linked.{Linked}
use Rattle.label_pool.specs.declared.rule.Look.{Look}
use Rattle.label_pool.specs.declared.rule.View.{View}
use Rattle.label_pool.specs.Chains.{named, first_cell, IsChain, IsWithin, IsTailOf, puts_at}
use Rattle.label_pool.specs.Fillings.{linked_of, with_next}
use Rattle.label_pool.specs.Layout.{head_at, next_at, dist_at, name_in, pos_in}
use Rattle.label_pool.specs.Lawful.{Table, Sitter, IsSeated, IsChainOf, IsLawful, drawn_by, is_past, given, both, nothing}
use Rattle.label_pool.specs.Seats.{IsMet}
use Rattle.label_pool.specs.Steps.{Drew, FilledNext, Opened, Found, LinkedTo, Read, SeesNothing, TellsCell, IsFound, IsLink, with_drawn, with_look, with_opened}
use Rattle.label_pool.proofs.Cells.{chain-most}
use Rattle.label_pool.proofs.Seats as seats
use Rattle.label_pool.proofs.Steps as steps
use Rattle.label_pool.proofs.Tails.{named-small, seen-still, tail-further, cell-at, all-after}

-- lists that are the same begin with the same
same_first : (c : ℕ) (r : List ℕ) (d : ℕ) (t : List ℕ) → c ∷ r ≡ d ∷ t → (c ≡ d) × (r ≡ t)
same_first c r d t same = (ap (λ xs. get_or xs 0 c) same, ap (drop 1) same)

module _ {F : Type 0} (fact : F → ℕ → Entry → Type 0) (about : About F) (slots id : ℕ) where
  module _ (me : Sitter F) (live : 1 ≤ me.0.seats) where
    -- nothing changes
    same_lawful : (s : Table F) (word : ℕ) → IsLawful fact about s → get_elem? s.views id ≡ some me.0 → IsLawful fact about (stepped s word (slice_index s.words word) id me.1 me.0 keeps)
    same_lawful s word lawful at =
        subst (λ (t : List ℕ × List (SeatView (View F))). IsLawful fact about (record { words = t.0; homes = s.homes; views = t.1 })) (λ k. (sym (set-get_or s.words word 0) k, sym (set_again s.views id me.0 at) k)) lawful

    pub looks : Allows (IsLawful fact about) slots id me 0 (λ n. n) (looked SeesNothing (step slots 0 0 0 none) me)
    looks s lawful _ at _ = (me.0, keeps, tt, same_lawful s 0 lawful at, (refl, is_one about.seats (IsSeated about) nothing s.views id me.0 lawful.seating at, tt))

    -- a number is drawn
    pub draws_one : me.0.knows.reserve ≡ [] → me.0.knows.past ≡ None → Allows (IsLawful fact about) slots id me 0 (λ n. (n + 1) % 2 ^ 64) (Drew (step slots 0 1 0 none) me)
    draws_one empty on s lawful _ at _ =
        let count = slice_index s.words 0 in
        let most = drawing.counter_most drawn_by is_past 0 about.blocks about.seats count s.views id me.0 lawful.drawn at in
        let few : about.blocks * 1 ≤ about.blocks * about.block = mul-le-mul_left about.blocks lawful.limits.2 in
        let low : about.blocks ≤ 2 ^ 31 = omega (arith, few, lawful.blocked, lawful.limits.1) in
        let next : (count + 1) % 2 ^ 64 ≡ count + 1 = omega (arith, most, low, lawful.seating.few) in (
          knowing me.0 (with_drawn me.0.knows count),
          keeps,
          tt,
          subst (λ x. IsLawful fact about (record { words = set s.words 0 x; homes = s.homes; views = set s.views id (knowing me.0 (with_drawn me.0.knows count)) })) (sym next) (steps.draws fact about s id me.0 at lawful live empty on),
          (refl, refl, omega (arith, most, low, lawful.seating.few)),
        )

    module _ (f : Filling) (is : me.0.knows.filling ≡ Some f) where
      -- a word of the open cell is filled
      pub fills_next : (x : ℕ) → Allows (IsLawful fact about) slots id me (next_at me.0.knows.n f.cell) (λ _. x) (λ _. FilledNext (step slots (next_at me.0.knows.n f.cell) x 0 none) me x)
      fills_next x s lawful _ at _ =
          let n = (steps.seated_here fact about s id me.0 at lawful live).n in (
            knowing me.0 (record me.0.knows { filling = Some (record f { next = Some x }) }),
            keeps,
            tt,
            subst (λ k. IsLawful fact about (record { words = set s.words (next_at k f.cell) x; homes = s.homes; views = set s.views id (knowing me.0 (record me.0.knows { filling = Some (record f { next = Some x }) })) })) (sym n) (steps.fills_next fact about s id me.0 at lawful live f is x),
            (ap (λ o. knowing me.0 (record me.0.knows { filling = with_next (Some x) o })) (sym is), refl),
          )

    -- the first cell in reserve is opened
    pub opens_one : (cell : ℕ) (rest : List ℕ) (x : ℕ) → me.0.knows.filling ≡ None → me.0.knows.reserve ≡ cell ∷ rest → Allows (IsLawful fact about) slots id me (dist_at me.0.knows.n cell) (λ _. x) (λ _. Opened (step slots (dist_at me.0.knows.n cell) x 0 none) me x)
    opens_one cell rest x empty is s lawful _ at _ =
        let n = (steps.seated_here fact about s id me.0 at lawful live).n in (
          knowing me.0 (with_opened me.0.knows cell rest x),
          keeps,
          tt,
          subst (λ k. IsLawful fact about (record { words = set s.words (dist_at k cell) x; homes = s.homes; views = set s.views id (knowing me.0 (with_opened me.0.knows cell rest x)) })) (sym n) (steps.opens fact about s id me.0 at lawful live cell rest x empty is),
          λ c r same. let e = same_first cell rest c r (sym is ∙ same) in ((λ k. knowing me.0 (with_opened me.0.knows (e.0 k) (e.1 k) x)), refl),
        )

    module _ (v : ℕ) (node : IsNode me.0.knows.n v) where
      node_here : (s : Table F) → IsLawful fact about s → get_elem? s.views id ≡ some me.0 → IsNode about.n v
      node_here s lawful at = subst (λ n. IsNode n v) (steps.seated_here fact about s id me.0 at lawful live).n node

      -- a head is loaded
      pub finds_one : Allows (IsLawful fact about) slots id me (head_at v) (λ n. n) (Found fact (step slots (head_at v) 0 0 none) me)
      finds_one s lawful _ at _ =
          let seated = steps.seated_here fact about s id me.0 at lawful live in
          let here = node_here s lawful at in
          let chain = (lawful.chains v here).0 in
          let old = (lawful.chains v here).1 in
          let w = with_look me.0.knows v chain in (
            knowing me.0 w,
            keeps,
            tt,
            subst (λ words. IsLawful fact about (record { words = words; homes = s.homes; views = set s.views id (knowing me.0 w) })) (sym (set-get_or s.words (head_at v) 0)) (steps.finds fact about s id me.0 at lawful live v here),
            found s v chain old seated lawful at,
          )
        where
          found : (s : Table F) (v : ℕ) (chain : List Linked) → IsChainOf fact about s v chain → IsSeated about me.0.knows → IsLawful fact about s → get_elem? s.views id ≡ some me.0
              → Found fact (step slots (head_at v) 0 0 none) me (slice_index s.words (head_at v)) (knowing me.0 (with_look me.0.knows v chain), me.1)
          found s v chain old seated lawful at u same =
              let is : u ≡ v = omega (arith, same) in
              subst (λ x. IsFound fact me x (slice_index s.words (head_at v)) (knowing me.0 (with_look me.0.knows v chain), me.1)) (sym is)
              (record {
                found = chain;
                first = old.head;
                small = let small = named-small about.cells chain old.within in omega (arith, small, old.head, lawful.limits);
                most = let most = chain-most about.cells s.views (steps.once fact about s id me.0 at lawful live) v chain old.each_once in omega (arith, most, seated.cells);
                within = subst (λ k. All (λ l. l.cell < k) chain) (sym seated.cells) (All-weaker (IsWithin about.cells) (λ l. l.cell < about.cells) (λ l w. w.cell) chain old.within);
                met = subst (λ value. All (λ l. IsMet fact value v l.entry) chain) (sym seated.fact) old.met;
                goes_on = seen-still v chain me.0.knows.marks (old.seen id me.0 at);
                known = old.found id me.0 at;
                all_put = λ k d lt. Contains-permutation _ chain _ old.each_once (one-of-all (λ (seat : SeatView (View F)). puts_at seat.knows.puts v) s.views id me.0 _ at (Contains-get_or (puts_at me.0.knows.puts v) k d lt));
                view = refl;
                slots = refl;
              })

    -- a word of a cell is loaded
    pub reads_one : (word : ℕ) → Allows (IsLawful fact about) slots id me word (λ n. n) (Read (step slots word 0 0 none) me)
    reads_one word s lawful _ at _ = (me.0, keeps, tt, same_lawful s word lawful at, (refl, λ look l ls there tail. tells s word lawful at look l ls there tail))
      where
        tells : (s : Table F) (word : ℕ) → IsLawful fact about s → get_elem? s.views id ≡ some me.0 → (look : Look) (l : Linked) (ls : List Linked) → Contains me.0.knows.looks look → IsTailOf (l ∷ ls) look.found
            → TellsCell me.0.knows.n word (slice_index s.words word) l ls
        tells s word lawful at look l ls there tail =
            let n = (steps.seated_here fact about s id me.0 at lawful live).n in
            let node = All-contains (λ x. IsNode about.n x.node) me.0.knows.looks look (lawful.noded id me.0 at) there in
            let chain = (lawful.chains look.node node).0 in
            let old = (lawful.chains look.node node).1 in
            let still = All-contains (λ x. x.node ≡ look.node → IsTailOf x.found chain) me.0.knows.looks look (old.found id me.0 at) there refl in
            let whole = tail-further (l ∷ ls) look.found chain tail still in
            let holds = cell-at about.n s.words whole.prefix l ls (subst (IsChain about.n s.words) whole.parted old.linked) in
            let rest = named-small about.cells ls (all-after (IsWithin about.cells) (whole.prefix ++ l ∷ []) ls (subst (All (IsWithin about.cells)) (whole.parted ∙ sym (append_assoc whole.prefix (l ∷ []) ls)) old.within)) in
            record {
              next = λ is.
                  let read = ap (slice_index s.words) (is ∙ ap (λ k. next_at k l.cell) n) in
                  let same = ap name_in read ∙ holds.next in
                  (same, omega (arith, same, rest, lawful.limits), ap pos_in read ∙ holds.pos);
              dist = λ is. ap (slice_index s.words) (is ∙ ap (λ k. dist_at k l.cell) n) ∙ holds.dist;
            }

    -- the open cell is linked where the head is the expected one
    module _ (v : ℕ) (node : IsNode me.0.knows.n v) (cell next dist head : ℕ) (is : me.0.knows.filling ≡ Some (record { cell = cell; next = Some next; dist = Some dist })) (names : name_in next ≡ head % 2 ^ 32) (met : IsMet fact me.0.knows.fact v (record { pos = pos_in next; dist = dist })) where
      abbrev Conforms : Table F → ℕ → ℕ → Type 0
      Conforms s found x = (w : SeatView (View F)) × (a : Act (Unit {0})) × Valid s.homes me.1 a × IsLawful fact about (stepped s (head_at v) x id me.1 w a) × LinkedTo (step slots (head_at v) head (cell + 1) none) me found (w, carried_after me.1 a)

      hits : (s : Table F) → IsLawful fact about s → get_elem? s.views id ≡ some me.0 → slice_index s.words (head_at v) ≡ head → Conforms s (slice_index s.words (head_at v)) (cell + 1)
      hits s lawful at same =
          let seated = steps.seated_here fact about s id me.0 at lawful live in
          let here = node_here v node s lawful at in
          let chain = (lawful.chains v here).0 in
          let old = (lawful.chains v here).1 in
          let head_is : head ≡ named (first_cell chain) = sym same ∙ old.head in
          let small = named-small about.cells chain old.within in
          let name_is : name_in next ≡ named (first_cell chain) = omega (arith, names, head_is, small, lawful.limits) in
          let fact_here : fact about.fact v (record { pos = pos_in next; dist = dist }) = subst (λ value. IsMet fact value v (record { pos = pos_in next; dist = dist })) seated.fact met in (
            knowing me.0 (steps.linked fact about s id me.0 at lawful live v here cell next dist is name_is fact_here),
            keeps,
            tt,
            steps.links fact about s id me.0 at lawful live v here cell next dist is name_is fact_here,
            λ u word.
                let u_is : u ≡ v = omega (arith, word) in (
                  λ _. subst (λ x. IsLink me x (knowing me.0 (steps.linked fact about s id me.0 at lawful live v here cell next dist is name_is fact_here), me.1)) (sym u_is)
                      (record {
                        older = chain;
                        goes_on = seen-still v chain me.0.knows.marks (old.seen id me.0 at);
                        view = ap (λ (l : Linked). knowing me.0 (record me.0.knows { filling = None; puts = me.0.knows.puts ++ record { node = v; linked = l } ∷ []; marks = record { node = v; found = l ∷ chain } ∷ me.0.knows.marks })) (sym (ap linked_of is));
                        slots = refl;
                      }),
                  λ no. absurd (no same),
                ),
          )

      misses : (s : Table F) → IsLawful fact about s → get_elem? s.views id ≡ some me.0 → slice_index s.words (head_at v) ≢ head → Conforms s (slice_index s.words (head_at v)) (slice_index s.words (head_at v))
      misses s lawful at other = (me.0, keeps, tt, same_lawful s (head_at v) lawful at, λ u word. ((λ same. absurd (other same)), λ _. refl))

      pub links_one : Allows (IsLawful fact about) slots id me (head_at v) (λ k. either (k == head) (cell + 1) k) (LinkedTo (step slots (head_at v) head (cell + 1) none) me)
      links_one s lawful _ at _ = exchanged (slice_index s.words (head_at v)) head (cell + 1) (Conforms s (slice_index s.words (head_at v))) (hits s lawful at) (misses s lawful at)

  module _ (me : SeatView (View F)) where
    pub splits_off : (give : ℕ) → give + 1 < me.seats → Splits (IsLawful fact about) id me (kept_of give me) (given_of given give me)
    splits_off give enough s lawful at = seats.splits fact about s id me at lawful (omega (arith, enough)) give enough

    pub joins_in : (other : ℕ) (u : SeatView (View F)) → 1 ≤ me.seats → me.knows.filling ≡ None → u.knows.filling ≡ None → Joins (IsLawful fact about) id me other u (joined both me u) (spent nothing)
    joins_in other u live empty empty_too s lawful at apart there =
        let before : get_elem? s.views other ≡ some u = ⊎_elim (λ (t : (other ≡ id) × (joined both me u ≡ u)). absurd (apart t.0)) (λ (t : (other ≢ id) × (get_elem? s.views other ≡ some u)). t.1) (at_set s.views id other (joined both me u) u there) in
        seats.joins fact about s id me at lawful live other u apart before empty empty_too
