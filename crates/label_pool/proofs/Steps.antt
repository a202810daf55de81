-- Each step of one seat keeps the rule.
use Rattle.std.proofs.Common.{◌≡◌, ◌≢◌, ℕ, ◌+◌, ◌*◌, ◌<◌, ◌≤◌, lt_of_mul-lt-mul_right, le_of_mul-le-mul_right, Bool, true, false, List, [], ◌∷◌, ◌++◌, ⊎_elim, All, IsPermutation, length, set, map, get_or-set_other, get_or-set_same, refl, sym, ap, ◌∙◌, subst, arith}
use Rattle.std.specs.Prelude.{Some, None, nat_lt, slice_index, if◌then◌else◌}
use Rattle.std.proofs.Math.ListN.{length-set}
use Rattle.std.proofs.lemmas.Bool.{lt-ltb, le-ltb}
use Rattle.std.specs.List.{flat_map}
use Rattle.std.proofs.lemmas.Grind.{flat_map-append}
use Rattle.std.proofs.lemmas.List.Concat.{flat_map-cons}
use Rattle.std.proofs.lemmas.List.{append-nil, map-append}
use Rattle.std.proofs.lemmas.List.Elements.{All-cons, All-push, All-weaker}
use Rattle.std.proofs.lemmas.List.Sorted.{IsPermutation-cons, IsPermutation-trans}
use mathlib.Core.Logic.{dite}
use mathlib.Core.Option.{some}
use native.Mathlib.Decide.{dec_lt, ℕ_discrete}
use lib.ListN.{get_elem?}
use Rattle.atomic_table.proofs.Lists.{at_set}
use Rattle.walk_laws.specs.declared.entry.Entry.{Entry}
use Rattle.hub_index.specs.Views.{IsNode}
use Rattle.table_seats.specs.declared.seat_view.SeatView.{SeatView}
use Rattle.table_seats.specs.Seats.{Each, knowing}
use Rattle.table_seats.specs.Draws.{IsDrawn}
use Rattle.table_seats.proofs.Counting.{times, times-append, times-cons, times-permutation, permutation-times}
use Rattle.table_seats.proofs.EachSeat.{Each-set}
use Rattle.label_pool.proofs.Permuted.{flat_map-same, flat_map-more}
use Rattle.table_seats.proofs.Seating as seating
use Rattle.table_seats.proofs.Drawing as drawing
use Rattle.label_pool.specs.declared.rule.About.{About}
use Rattle.label_pool.specs.declared.rule.Filling.{Filling}
use Rattle.label_pool.specs.declared.rule.Linked.{Linked}
use Rattle.label_pool.specs.declared.rule.Look.{Look}
use Rattle.label_pool.specs.declared.rule.Put.{Put}
use Rattle.label_pool.specs.declared.rule.View.{View}
use Rattle.label_pool.specs.Chains.{named, first_cell, IsChain, IsWithin, IsTailOf, puts_at}
use Rattle.label_pool.specs.Fillings.{HoldsFilling, HoldsOpen, block_cells, open_cell}
use Rattle.label_pool.specs.Layout.{head_at, next_at, dist_at, name_in, pos_in, word_count}
use Rattle.label_pool.specs.Lawful.{Table, IsSeated, IsChainOf, IsLawful, StillIn, HasGot, at_hand, drawn_by, is_past, is_some, nothing}
use Rattle.label_pool.specs.Steps.{with_drawn, with_look, with_opened}
use Rattle.label_pool.proofs.Blocks.{GotOnce, first-at-hand, got-once, got-times, got-within, open-at-hand}
use Rattle.label_pool.proofs.Cells.{got-parts, hand-alone, hand-unlinked}
use Rattle.label_pool.proofs.Puts.{puts-here, puts-else}
use Rattle.label_pool.proofs.Tails.{tail-self, tail-under}
use Rattle.label_pool.proofs.Words.{IsApart, low-apart, next-apart, dist-apart, chain-else, open-else, filled-else}

module _ {F : Type 0} (fact : F → ℕ → Entry → Type 0) (about : About F) (s : Table F) (id : ℕ) (me : SeatView (View F)) (at : get_elem? s.views id ≡ some me) (lawful : IsLawful fact about s) (live : 1 ≤ me.seats) where
  abbrev Next : List ℕ → View F → Table F
  Next words w = record { words = words; homes = s.homes; views = set s.views id (knowing me w) }

  abbrev counter : ℕ
  counter = slice_index s.words 0

  abbrev Drawn : ℕ → View F → Type 0
  Drawn count w = IsDrawn drawn_by is_past 0 about.blocks about.seats count (set s.views id (knowing me w))

  got-set : (w : View F) → HasGot about w → Each (λ seat. HasGot about seat.knows) (set s.views id (knowing me w))
  got-set w here = Each-set (λ seat. HasGot about seat.knows) s.views id (knowing me w) lawful.got here

  -- the cells that all seats got are the first so many, each once
  pub once : GotOnce about.cells s.views
  once = got-once about counter s.views lawful.drawn lawful.got lawful.blocked

  abbrev Opened : List ℕ → SeatView (View F) → Type 0
  Opened words seat = HoldsOpen about.n about.cells words seat.knows.filling

  abbrev Noded : SeatView (View F) → Type 0
  Noded seat = All (λ look. IsNode about.n look.node) seat.knows.looks

  noded-set : (w : View F) → w.looks ≡ me.knows.looks → Each Noded (set s.views id (knowing me w))
  noded-set w same = Each-set Noded s.views id (knowing me w) lawful.noded (subst (All (λ look. IsNode about.n look.node)) (sym same) (lawful.noded id me at))

  pub seated_here : IsSeated about me.knows
  seated_here = seating.fixed_here about.seats (IsSeated about) nothing s.views id me lawful.seating at live

  -- the chain of a node where nothing changes but what is apart from it
  chain-same : (words : List ℕ) (w : View F) (v : ℕ) (chain : List Linked) → IsChainOf fact about s v chain → slice_index words (head_at v) ≡ slice_index s.words (head_at v) → IsChain about.n words chain
      → puts_at w.puts v ≡ puts_at me.knows.puts v → StillIn v chain w.looks → StillIn v chain w.marks → IsChainOf fact about (Next words w) v chain
  chain-same words w v chain old head linked puts looks marks = record {
    head = head ∙ old.head;
    linked = linked;
    within = old.within;
    met = old.met;
    each_once = subst (λ ls. IsPermutation ls chain) (sym (flat_map-same (λ (seat : SeatView (View F)). puts_at seat.knows.puts v) s.views id me (knowing me w) at puts)) old.each_once;
    found = Each-set (λ seat. StillIn v chain seat.knows.looks) s.views id (knowing me w) old.found looks;
    seen = Each-set (λ seat. StillIn v chain seat.knows.marks) s.views id (knowing me w) old.seen marks;
  }

  -- the store of a word that is no cell's leaves all chains
  chain-low : (word x v : ℕ) (chain : List Linked) → word < about.n + 32 → IsChainOf fact about s v chain → IsChain about.n (set s.words word x) chain
  chain-low word x v chain low old = chain-else about.n s.words word x chain (All-weaker (IsWithin about.cells) (λ l. IsApart about.n word l.cell) (λ l _. low-apart about.n word l.cell low) chain old.within) old.linked

  -- and all open cells
  open-low : (word x : ℕ) → word < about.n + 32 → Each (Opened (set s.words word x)) s.views
  open-low word x low j seat there = open-else about.n s.words word x about.cells seat.knows.filling (λ f _. low-apart about.n word f.cell low) (lawful.filled j seat there)

  module _ (empty : me.knows.reserve ≡ []) (on : me.knows.past ≡ None) where
    still_on : is_past me.knows ≡ false
    still_on = ap (λ past. is_past (record me.knows { past = past })) on

    counted : length s.words ≡ word_count about.n about.cells → slice_index (set s.words 0 (counter + 1)) 0 ≡ counter + 1
    counted size = get_or-set_same s.words 0 (counter + 1) 0 (omega (arith, size))

    after_draw : (w : View F) → IsSeated about w → w.puts ≡ me.knows.puts → w.looks ≡ me.knows.looks → w.marks ≡ me.knows.marks → w.filling ≡ me.knows.filling → HasGot about w → Drawn (counter + 1) w → IsLawful fact about (Next (set s.words 0 (counter + 1)) w)
    after_draw w seated puts looks marks filling got drawn = record {
      seating = seating.learns about.seats (IsSeated about) nothing s.views id me lawful.seating at w live seated;
      drawn = subst (λ count. Drawn count w) (sym (counted lawful.words)) drawn;
      got = got-set w got;
      blocked = lawful.blocked;
      limits = lawful.limits;
      words = length-set s.words 0 (counter + 1) ∙ lawful.words;
      filled = Each-set (Opened (set s.words 0 (counter + 1))) s.views id (knowing me w) (open-low 0 (counter + 1) (omega arith))
          (subst (HoldsOpen about.n about.cells (set s.words 0 (counter + 1))) (sym filling) (open-low 0 (counter + 1) (omega arith) id me at));
      noded = noded-set w looks;
      chains = λ v node.
          let old = lawful.chains v node in (
            old.0,
            chain-same (set s.words 0 (counter + 1)) w v old.0 old.1 (get_or-set_other s.words 0 (head_at v) (counter + 1) 0 (λ is. omega (arith, is))) (chain-low 0 (counter + 1) v old.0 (omega arith) old.1) (ap (λ ps. puts_at ps v) puts)
                (subst (StillIn v old.0) (sym looks) (old.1.found id me at)) (subst (StillIn v old.0) (sym marks) (old.1.seen id me at)),
          );
    }

    -- with the block of that number in reserve a seat has got the cells of its blocks
    drew-block : (w : View F) → w.puts ≡ me.knows.puts → w.filling ≡ me.knows.filling → w.spare ≡ me.knows.spare → w.reserve ≡ block_cells about.block counter → w.blocks ≡ me.knows.blocks ++ counter ∷ [] → HasGot about w
    drew-block w puts filling spare reserve blocks = permutation-times _ _ (λ x.
        let cells : ℕ → List ℕ = block_cells about.block in
        let now = got-times w x in
        let before = got-times me.knows x in
        let p = ap (λ ps. times x (map (λ (q : Put). q.linked.cell) ps)) puts in
        let f = ap (λ o. times x (open_cell o)) filling in
        let s = ap (times x) spare in
        let r = ap (times x) reserve in
        let none = ap (times x) empty in
        let nil : times x [] ≡ 0 = refl in
        let old = times-permutation x _ _ (lawful.got id me at) in
        let more = ap (λ bs. times x (flat_map cells bs)) blocks ∙ ap (times x) (flat_map-append cells me.knows.blocks (counter ∷ [])) ∙ times-append x (flat_map cells me.knows.blocks) (flat_map cells (counter ∷ [])) in
        let last = ap (times x) (flat_map-cons cells counter [] ∙ append-nil (cells counter)) in
        omega (arith, now, before, p, f, s, r, none, nil, old, more, last))

    -- a number is drawn
    pub draws : IsLawful fact about (Next (set s.words 0 (counter + 1)) (with_drawn me.knows counter))
    draws =
        let seated = seated_here in
        let becomes : Bool → View F =
        λ b. if b then record me.knows { blocks = me.knows.blocks ++ counter ∷ []; reserve = block_cells me.knows.block counter } else record me.knows { past = Some (counter * me.knows.block) } in
        let first_is : counter * me.knows.block ≡ counter * about.block = ap (λ k. counter * k) seated.block in
        dite (dec_lt (counter * about.block) about.cells)
        (λ below.
        let yes : nat_lt (counter * me.knows.block) me.knows.cells ≡ true = lt-ltb (counter * me.knows.block) me.knows.cells (omega (arith, seated.cells, first_is, below)) in
        let low : counter < about.blocks = lt_of_mul-lt-mul_right about.block (omega (arith, below, lawful.blocked)) in
        subst (λ (b : Bool). IsLawful fact about (Next (set s.words 0 (counter + 1)) (becomes b))) (sym yes)
        (after_draw (becomes true) (record { n = seated.n; cells = seated.cells; block = seated.block; all = seated.all; fact = seated.fact }) refl refl refl refl
        (drew-block (becomes true) refl refl refl (ap (λ k. block_cells k counter) seated.block) refl)
        (drawing.draws_number drawn_by is_past 0 about.blocks about.seats counter s.views id me lawful.drawn at (knowing me (becomes true)) refl still_on still_on refl low)))
        (λ above.
        let no : nat_lt (counter * me.knows.block) me.knows.cells ≡ false = le-ltb (counter * me.knows.block) me.knows.cells (omega (arith, seated.cells, first_is, above)) in
        let not_less : about.blocks * about.block ≤ counter * about.block = omega (arith, above, lawful.blocked) in
        let high : about.blocks ≤ counter = le_of_mul-le-mul_right not_less (omega (arith, lawful.limits)) in
        subst (λ (b : Bool). IsLawful fact about (Next (set s.words 0 (counter + 1)) (becomes b))) (sym no)
        (after_draw (becomes false) (record { n = seated.n; cells = seated.cells; block = seated.block; all = seated.all; fact = seated.fact }) refl refl refl refl (lawful.got id me at)
        (drawing.draws_end drawn_by is_past 0 about.blocks about.seats counter s.views id me lawful.drawn at (knowing me (becomes false)) live still_on refl refl high)))

  -- a word of a cell at hand is stored, which is the open one then
  module _ (cell : ℕ) (hand : 1 ≤ times cell (at_hand me.knows)) (word x : ℕ) (w : View F) (high : about.n + 32 ≤ word) (apart : (c : ℕ) → cell ≢ c → IsApart about.n word c) where
    others_at : (j : ℕ) (seat : SeatView (View F)) → j ≢ id → get_elem? s.views j ≡ some seat → Opened (set s.words word x) seat
    others_at j seat other there =
        open-else about.n s.words word x about.cells seat.knows.filling
        (λ h too. apart h.cell (λ same.
        let none = hand-alone about.cells s.views once id j me seat cell other at there hand in
        let some_there = open-at-hand seat.knows h too in
        let moved = ap (λ c. times c (at_hand seat.knows)) same in
        omega (arith, none, some_there, moved))) (lawful.filled j seat there)

    filled_at : HoldsOpen about.n about.cells (set s.words word x) w.filling → (j : ℕ) (seat : SeatView (View F)) → get_elem? (set s.views id (knowing me w)) j ≡ some seat → Opened (set s.words word x) seat
    filled_at holds j seat there = ⊎_elim
        (λ (t : (j ≡ id) × (knowing me w ≡ seat)). subst (Opened (set s.words word x)) t.1 holds)
        (λ (t : (j ≢ id) × (get_elem? s.views j ≡ some seat)). others_at j seat t.0 t.1)
        (at_set s.views id j (knowing me w) seat there)

    stores : IsSeated about w → w.blocks ≡ me.knows.blocks → w.past ≡ me.knows.past → w.puts ≡ me.knows.puts → w.looks ≡ me.knows.looks → w.marks ≡ me.knows.marks → HasGot about w → HoldsOpen about.n about.cells (set s.words word x) w.filling
        → IsLawful fact about (Next (set s.words word x) w)
    stores seated blocks past puts looks marks got holds =
        let count : slice_index (set s.words word x) 0 ≡ counter = get_or-set_other s.words word 0 x 0 (λ zero. omega (arith, zero, high)) in
        record {
          seating = seating.learns about.seats (IsSeated about) nothing s.views id me lawful.seating at w live seated;
          drawn = subst (λ c. Drawn c w) (sym count) (drawing.learns drawn_by is_past 0 about.blocks about.seats counter s.views id me lawful.drawn at (knowing me w) refl blocks (ap is_some past));
          got = got-set w got;
          blocked = lawful.blocked;
          limits = lawful.limits;
          words = length-set s.words word x ∙ lawful.words;
          filled = filled_at holds;
          noded = noded-set w looks;
          chains = λ v node.
              let old = lawful.chains v node in
              let others = hand-unlinked about.cells s.views once v old.0 old.1.each_once id me cell at hand in (
                old.0,
                chain-same (set s.words word x) w v old.0 old.1 (get_or-set_other s.words word (head_at v) x 0 (λ e. omega (arith, e, high, node.up_to_n)))
                    (chain-else about.n s.words word x old.0 (All-weaker (λ l. cell ≢ l.cell) (λ l. IsApart about.n word l.cell) (λ l other. apart l.cell other) old.0 others) old.1.linked)
                    (ap (λ ps. puts_at ps v) puts) (subst (StillIn v old.0) (sym looks) (old.1.found id me at)) (subst (StillIn v old.0) (sym marks) (old.1.seen id me at)),
              );
        }

  -- a cell has its words within
  inside : (cell word : ℕ) → cell < about.cells → word < word_count about.n (cell + 1) → word < length s.words
  inside cell word below low = omega (arith, low, below, lawful.words)

  -- the first cell in reserve is opened
  pub opens : (cell : ℕ) (rest : List ℕ) (x : ℕ) → me.knows.filling ≡ None → me.knows.reserve ≡ cell ∷ rest → IsLawful fact about (Next (set s.words (dist_at about.n cell) x) (with_opened me.knows cell rest x))
  opens cell rest x empty is =
      let w = with_opened me.knows cell rest x in
      let word : ℕ = dist_at about.n cell in
      let seated = seated_here in
      let hand = first-at-hand me.knows cell rest is in
      let parts = got-parts about.cells s.views once cell me in
      let below = got-within about s.views once id me cell at (omega (arith, hand, parts)) in
      let got : HasGot about w = permutation-times _ _ (λ y.
      let now = got-times w y in
      let before = got-times me.knows y in
      let none = ap (λ o. times y (open_cell o)) empty in
      let nil : times y [] ≡ 0 = refl in
      let first = ap (times y) is ∙ times-cons y cell rest in
      let one = times-cons y cell [] in
      let old = times-permutation y _ _ (lawful.got id me at) in
      omega (arith, now, before, none, nil, first, one, old)) in
      stores cell hand word x w (omega arith) (λ c other. dist-apart about.n cell c other) (record { n = seated.n; cells = seated.cells; block = seated.block; all = seated.all; fact = seated.fact }) refl refl refl refl refl got
      (record { below = below; next = tt; dist = get_or-set_same s.words word x 0 (inside cell word below (omega arith)) })

  module _ (f : Filling) (is : me.knows.filling ≡ Some f) where
    filling_holds : HoldsFilling about.n about.cells s.words f
    filling_holds = subst (HoldsOpen about.n about.cells s.words) is (lawful.filled id me at)

    -- the word of its next and its position is stored
    pub fills_next : (x : ℕ) → IsLawful fact about (Next (set s.words (next_at about.n f.cell) x) (record me.knows { filling = Some (record f { next = Some x }) }))
    fills_next x =
        let word : ℕ = next_at about.n f.cell in
        let w : View F = record me.knows { filling = Some (record f { next = Some x }) } in
        let seated = seated_here in
        let got : HasGot about w = subst (λ o. HasGot about (record me.knows { filling = o })) is (lawful.got id me at) in
        stores f.cell (open-at-hand me.knows f is) word x w (omega arith) (λ c other. next-apart about.n f.cell c other) (record { n = seated.n; cells = seated.cells; block = seated.block; all = seated.all; fact = seated.fact }) refl refl refl refl refl got
        (record {
          below = filling_holds.below;
          next = get_or-set_same s.words word x 0 (inside f.cell word filling_holds.below (omega arith));
          dist = filled-else about.n s.words word x f.dist (dist_at about.n f.cell) (λ e. omega (arith, e)) filling_holds.dist;
        })

  module _ (v : ℕ) (node : IsNode about.n v) where
    abbrev chain : List Linked
    chain = (lawful.chains v node).0

    abbrev old : IsChainOf fact about s v chain
    old = (lawful.chains v node).1

    -- a head is loaded, and its chain found
    pub finds : IsLawful fact about (Next s.words (with_look me.knows v chain))
    finds =
        let w : View F = with_look me.knows v chain in
        let seated = seated_here in
        record {
          seating = seating.learns about.seats (IsSeated about) nothing s.views id me lawful.seating at w live (record { n = seated.n; cells = seated.cells; block = seated.block; all = seated.all; fact = seated.fact });
          drawn = drawing.learns drawn_by is_past 0 about.blocks about.seats counter s.views id me lawful.drawn at (knowing me w) refl refl refl;
          got = got-set w (lawful.got id me at);
          blocked = lawful.blocked;
          limits = lawful.limits;
          words = lawful.words;
          filled = Each-set (Opened s.words) s.views id (knowing me w) lawful.filled (lawful.filled id me at);
          noded = Each-set Noded s.views id (knowing me w) lawful.noded (All-push (λ look. IsNode about.n look.node) me.knows.looks _ (lawful.noded id me at) node);
          chains = λ u node_u. dite (ℕ_discrete u v)
              (λ same. (
                chain,
                subst (λ x. IsChainOf fact about (Next s.words w) x chain) (sym same)
                    (chain-same s.words w v chain old refl old.linked refl
                    (All-push (λ look. look.node ≡ v → IsTailOf look.found chain) me.knows.looks _ (old.found id me at) (λ _. tail-self chain))
                    (All-cons (λ look. look.node ≡ v → IsTailOf look.found chain) _ me.knows.marks (λ _. tail-self chain) (old.seen id me at))),
              ))
              (λ other.
              let theirs = lawful.chains u node_u in (
                theirs.0,
                chain-same s.words w u theirs.0 theirs.1 refl theirs.1.linked refl
                    (All-push (λ look. look.node ≡ u → IsTailOf look.found theirs.0) me.knows.looks _ (theirs.1.found id me at) (λ is. absurd (other (sym is))))
                    (All-cons (λ look. look.node ≡ u → IsTailOf look.found theirs.0) _ me.knows.marks (λ is. absurd (other (sym is))) (theirs.1.seen id me at)),
              ));
        }

    module _ (cell next dist : ℕ) (is : me.knows.filling ≡ Some (record { cell = cell; next = Some next; dist = Some dist })) (named_next : name_in next ≡ named (first_cell chain)) (met : fact about.fact v (record { pos = pos_in next; dist = dist })) where
      abbrev mine : Linked
      mine = record { cell = cell; entry = record { pos = pos_in next; dist = dist } }

      abbrev pub linked : View F
      linked = record me.knows { filling = None; puts = me.knows.puts ++ record { node = v; linked = mine } ∷ []; marks = record { node = v; found = mine ∷ chain } ∷ me.knows.marks }

      abbrev After : List ℕ
      After = set s.words (head_at v) (cell + 1)

      holds_mine : HoldsFilling about.n about.cells s.words (record { cell = cell; next = Some next; dist = Some dist })
      holds_mine = filling_holds _ is

      low : head_at v < about.n + 32
      low = omega (arith, node.up_to_n)

      chain-linked : IsChainOf fact about (Next After linked) v (mine ∷ chain)
      chain-linked = record {
        head = get_or-set_same s.words (head_at v) (cell + 1) 0 (omega (arith, low, lawful.words));
        linked = chain-else about.n s.words (head_at v) (cell + 1) (mine ∷ chain)
            (All-cons (λ l. IsApart about.n (head_at v) l.cell) mine chain (low-apart about.n (head_at v) cell low) (All-weaker (IsWithin about.cells) (λ l. IsApart about.n (head_at v) l.cell) (λ l _. low-apart about.n (head_at v) l.cell low) chain old.within))
            (record { next = ap name_in holds_mine.next ∙ named_next; pos = ap pos_in holds_mine.next; dist = holds_mine.dist }, old.linked);
        within = All-cons (IsWithin about.cells) mine chain (record { cell = holds_mine.below; pos = omega arith }) old.within;
        met = All-cons (λ l. fact about.fact v l.entry) mine chain met old.met;
        each_once = IsPermutation-trans _ _ _ (flat_map-more (λ (seat : SeatView (View F)). puts_at seat.knows.puts v) s.views id me (knowing me linked) (mine ∷ []) at (puts-here me.knows.puts v mine)) (IsPermutation-cons mine _ _ old.each_once);
        found = Each-set (λ seat. StillIn v (mine ∷ chain) seat.knows.looks) s.views id (knowing me linked) (λ j seat there. further seat.knows.looks (old.found j seat there)) (further me.knows.looks (old.found id me at));
        seen = Each-set (λ seat. StillIn v (mine ∷ chain) seat.knows.marks) s.views id (knowing me linked) (λ j seat there. further seat.knows.marks (old.seen j seat there))
            (All-cons (λ look. look.node ≡ v → IsTailOf look.found (mine ∷ chain)) _ me.knows.marks (λ _. tail-self (mine ∷ chain)) (further me.knows.marks (old.seen id me at)));
      }
        where
          further : (looks : List Look) → StillIn v chain looks → StillIn v (mine ∷ chain) looks
          further looks still = All-weaker (λ look. look.node ≡ v → IsTailOf look.found chain) (λ look. look.node ≡ v → IsTailOf look.found (mine ∷ chain)) (λ look t node_is. tail-under look.found chain mine (t node_is)) looks still

      -- the open cell is linked before the chain
      pub links : IsLawful fact about (Next After linked)
      links =
          let seated = seated_here in
          let count : slice_index After 0 ≡ counter = get_or-set_other s.words (head_at v) 0 (cell + 1) 0 (λ zero. omega (arith, zero)) in
          let got : HasGot about linked = permutation-times _ _ (λ y.
          let now = got-times linked y in
          let before = got-times me.knows y in
          let put = ap (times y) (map-append (λ (p : Put). p.linked.cell) me.knows.puts (record { node = v; linked = mine } ∷ [])) ∙ times-append y (map (λ (p : Put). p.linked.cell) me.knows.puts) (cell ∷ []) in
          let opened = ap (λ o. times y (open_cell o)) is in
          let nil : times y [] ≡ 0 = refl in
          let same = times-permutation y _ _ (lawful.got id me at) in
          omega (arith, now, before, put, opened, nil, same)) in
          record {
            seating = seating.learns about.seats (IsSeated about) nothing s.views id me lawful.seating at linked live (record { n = seated.n; cells = seated.cells; block = seated.block; all = seated.all; fact = seated.fact });
            drawn = subst (λ c. Drawn c linked) (sym count) (drawing.learns drawn_by is_past 0 about.blocks about.seats counter s.views id me lawful.drawn at (knowing me linked) refl refl refl);
            got = got-set linked got;
            blocked = lawful.blocked;
            limits = lawful.limits;
            words = length-set s.words (head_at v) (cell + 1) ∙ lawful.words;
            filled = Each-set (Opened After) s.views id (knowing me linked) (open-low (head_at v) (cell + 1) low) tt;
            noded = noded-set linked refl;
            chains = λ u node_u. dite (ℕ_discrete u v)
                (λ same. (mine ∷ chain, subst (λ x. IsChainOf fact about (Next After linked) x (mine ∷ chain)) (sym same) chain-linked))
                (λ other.
                let theirs = lawful.chains u node_u in (
                  theirs.0,
                  chain-same After linked u theirs.0 theirs.1 (get_or-set_other s.words (head_at v) (head_at u) (cell + 1) 0 (λ e. other (omega (arith, e)))) (chain-low (head_at v) (cell + 1) u theirs.0 low theirs.1)
                      (puts-else me.knows.puts v u mine (λ e. other (sym e)))
                      (theirs.1.found id me at)
                      (All-cons (λ look. look.node ≡ u → IsTailOf look.found theirs.0) _ me.knows.marks (λ e. absurd (other (sym e))) (theirs.1.seen id me at)),
                ));
          }
