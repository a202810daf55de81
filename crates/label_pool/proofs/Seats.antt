-- A new pool keeps the rule, and so does a split and a join of its seats.
use Rattle.std.proofs.Common.{◌≡◌, ◌≢◌, ℕ, ◌+◌, ◌*◌, ◌^◌, ◌<◌, ◌≤◌, ◌||◌, List, [], ◌∷◌, ◌++◌, All, IsPermutation, map, set, replicate, refl, sym, ap, ◌∙◌, subst, arith}
use Rattle.std.specs.Prelude.{Option, Some, None, slice_index}
use Rattle.std.specs.List.{flat_map}
use Rattle.std.proofs.lemmas.Grind.{flat_map-append}
use Rattle.std.proofs.lemmas.List.{map-append, get_or-replicate, length-replicate}
use Rattle.std.proofs.lemmas.List.Elements.{All-nil, All-append}
use Rattle.std.proofs.lemmas.List.Sorted.{IsPermutation-refl, IsPermutation-trans}
use mathlib.Core.Option.{some}
use lib.ListN.{get_elem?}
use Rattle.atomic_table.specs.Table.{opening}
use Rattle.walk_laws.specs.declared.entry.Entry.{Entry}
use Rattle.hub_index.specs.Views.{IsNode}
use Rattle.table_seats.specs.declared.seat_view.SeatView.{SeatView}
use Rattle.table_seats.specs.Draws.{IsDrawn}
use Rattle.table_seats.specs.Seats.{kept_of, given_of, joined, spent}
use Rattle.table_seats.proofs.Counting.{times, times-append, times-permutation, permutation-times}
use Rattle.table_seats.proofs.EachSeat.{Each-one, Each-split, Each-join}
use Rattle.label_pool.proofs.Permuted.{flat_map-same, flat_map-none, flat_map-join}
use Rattle.table_seats.proofs.Seating as seating
use Rattle.table_seats.proofs.Drawing as drawing
use Rattle.label_pool.specs.declared.rule.About.{About}
use Rattle.label_pool.specs.declared.rule.Linked.{Linked}
use Rattle.label_pool.specs.declared.rule.Put.{Put}
use Rattle.label_pool.specs.declared.rule.View.{View}
use Rattle.label_pool.specs.Chains.{IsWithin, IsTailOf, puts_at}
use Rattle.label_pool.specs.Fillings.{HoldsOpen, block_cells, open_cell}
use Rattle.label_pool.specs.Layout.{head_at, word_count}
use Rattle.label_pool.specs.Lawful.{Table, IsSeated, IsChainOf, IsLawful, StillIn, HasGot, drawn_by, is_past, is_some, first_known, first_view, given, both, nothing}
use Rattle.label_pool.specs.Seats.{first_some}
use Rattle.label_pool.proofs.Blocks.{got-times}
use Rattle.label_pool.proofs.Puts.{puts-joined}

module _ {F : Type 0} (fact : F → ℕ → Entry → Type 0) (about : About F) where
  module _ (n : about.n ≤ 2 ^ 30) (cells : about.cells ≤ 2 ^ 31) (block : 1 ≤ about.block) (blocked : about.cells ≡ about.blocks * about.block) (some_seat : 1 ≤ about.seats) (few : about.seats ≤ 64) where
    abbrev zeros : List ℕ
    zeros = replicate (word_count about.n about.cells) 0

    abbrev Opened : Table F
    Opened = opening zeros [] (first_view about)

    word_of : (i : ℕ) → i < about.n + 32 → slice_index zeros i ≡ 0
    word_of i low = get_or-replicate (word_count about.n about.cells) i 0 0 (omega (arith, low))

    pub begins : IsLawful fact about (opening (replicate (word_count about.n about.cells) 0) [] (first_view about))
    begins = record {
      seating = seating.begins about.seats (IsSeated about) nothing (first_known about) some_seat few (record { n = refl; cells = refl; block = refl; all = refl; fact = refl });
      drawn = subst (λ c. IsDrawn drawn_by is_past 0 about.blocks about.seats c (first_view about ∷ [])) (sym (word_of 0 (omega arith))) (drawing.starts drawn_by is_past 0 about.blocks about.seats (first_view about) (omega arith) refl refl refl);
      got = Each-one (λ seat. HasGot about seat.knows) (first_view about) (IsPermutation-refl []);
      blocked = blocked;
      limits = (n, cells, block);
      words = length-replicate (word_count about.n about.cells) 0;
      filled = Each-one (λ seat. HoldsOpen about.n about.cells zeros seat.knows.filling) (first_view about) tt;
      noded = Each-one (λ seat. All (λ look. IsNode about.n look.node) seat.knows.looks) (first_view about) (All-nil (λ look. IsNode about.n look.node));
      chains = λ v node. (
        [],
        record {
          head = word_of (head_at v) (omega (arith, node.up_to_n));
          linked = tt;
          within = All-nil (IsWithin about.cells);
          met = All-nil (λ l. fact about.fact v l.entry);
          each_once = IsPermutation-refl [];
          found = Each-one (λ seat. StillIn v [] seat.knows.looks) (first_view about) (All-nil (λ look. look.node ≡ v → IsTailOf look.found []));
          seen = Each-one (λ seat. StillIn v [] seat.knows.marks) (first_view about) (All-nil (λ look. look.node ≡ v → IsTailOf look.found []));
        },
      );
    }

  module _ (s : Table F) (id : ℕ) (me : SeatView (View F)) (at : get_elem? s.views id ≡ some me) (lawful : IsLawful fact about s) (live : 1 ≤ me.seats) where
    seated_here : IsSeated about me.knows
    seated_here = seating.fixed_here about.seats (IsSeated about) nothing s.views id me lawful.seating at live

    -- another seat is split from it
    pub splits : (give : ℕ) → give + 1 < me.seats → IsLawful fact about (record { words = s.words; homes = s.homes; views = set s.views id (kept_of give me) ++ given_of given give me ∷ [] })
    splits give enough =
        let seated = seated_here in
        record {
          seating = seating.splits about.seats (IsSeated about) nothing s.views id me lawful.seating at given give enough seated (record { n = seated.n; cells = seated.cells; block = seated.block; all = seated.all; fact = seated.fact });
          drawn = drawing.splits drawn_by is_past 0 about.blocks about.seats (slice_index s.words 0) s.views id me lawful.drawn at given give enough refl refl;
          got = Each-split (λ seat. HasGot about seat.knows) s.views id (kept_of give me) (given_of given give me) lawful.got (lawful.got id me at) (IsPermutation-refl []);
          blocked = lawful.blocked;
          limits = lawful.limits;
          words = lawful.words;
          filled = Each-split (λ seat. HoldsOpen about.n about.cells s.words seat.knows.filling) s.views id (kept_of give me) (given_of given give me) lawful.filled (lawful.filled id me at) tt;
          noded = Each-split (λ seat. All (λ look. IsNode about.n look.node) seat.knows.looks) s.views id (kept_of give me) (given_of given give me) lawful.noded (lawful.noded id me at) (All-nil (λ look. IsNode about.n look.node));
          chains = λ v node. let old = lawful.chains v node in (old.0, chain-split give v old.0 old.1);
        }
      where
        chain-split : (give v : ℕ) (chain : List Linked) → IsChainOf fact about s v chain → IsChainOf fact about (record { words = s.words; homes = s.homes; views = set s.views id (kept_of give me) ++ given_of given give me ∷ [] }) v chain
        chain-split give v chain old = record {
          head = old.head;
          linked = old.linked;
          within = old.within;
          met = old.met;
          each_once = subst (λ ls. IsPermutation ls chain)
              (sym (flat_map-none (λ (seat : SeatView (View F)). puts_at seat.knows.puts v) (set s.views id (kept_of give me)) (given_of given give me) refl ∙ flat_map-same (λ (seat : SeatView (View F)). puts_at seat.knows.puts v) s.views id me (kept_of give me) at refl)) old.each_once;
          found = Each-split (λ seat. StillIn v chain seat.knows.looks) s.views id (kept_of give me) (given_of given give me) old.found (old.found id me at) (All-nil (λ look. look.node ≡ v → IsTailOf look.found chain));
          seen = Each-split (λ seat. StillIn v chain seat.knows.marks) s.views id (kept_of give me) (given_of given give me) old.seen (old.seen id me at) (old.seen id me at);
        }

    module _ (other : ℕ) (u : SeatView (View F)) (apart : other ≢ id) (there : get_elem? s.views other ≡ some u) (empty : me.knows.filling ≡ None) (empty_too : u.knows.filling ≡ None) where
      abbrev After : Table F
      After = record { words = s.words; homes = s.homes; views = set (set s.views id (joined both me u)) other (spent nothing) }

      -- together they got the cells of the blocks of both
      got_both : HasGot about (both me.knows u.knows)
      got_both = permutation-times _ _ (λ x.
          let v : View F = me.knows in
          let w : View F = u.knows in
          let cells : ℕ → List ℕ = block_cells about.block in
          let now = got-times (both v w) x in
          let a = got-times v x in
          let b = got-times w x in
          let puts = ap (times x) (map-append (λ (p : Put). p.linked.cell) v.puts w.puts) ∙ times-append x (map (λ (p : Put). p.linked.cell) v.puts) (map (λ (p : Put). p.linked.cell) w.puts) in
          let spare = times-append x v.spare (w.reserve ++ w.spare) in
          let left = times-append x w.reserve w.spare in
          let none = ap (λ o. times x (open_cell o)) empty_too in
          let nil : times x [] ≡ 0 = refl in
          let c = times-permutation x _ _ (lawful.got id me at) in
          let d = times-permutation x _ _ (lawful.got other u there) in
          let all = ap (times x) (flat_map-append cells v.blocks w.blocks) ∙ times-append x (flat_map cells v.blocks) (flat_map cells w.blocks) in
          omega (arith, now, a, b, puts, spare, left, none, nil, c, d, all))

      past_both : (a b : Option ℕ) → is_some (first_some a b) ≡ (is_some a || is_some b)
      past_both None b = refl
      past_both (Some a) b = refl

      chain-join : (v : ℕ) (chain : List Linked) → IsChainOf fact about s v chain → IsChainOf fact about After v chain
      chain-join v chain old = record {
        head = old.head;
        linked = old.linked;
        within = old.within;
        met = old.met;
        each_once = IsPermutation-trans _ _ _ (flat_map-join (λ (seat : SeatView (View F)). puts_at seat.knows.puts v) s.views id other me u (joined both me u) (spent nothing) apart at there (puts-joined me.knows.puts u.knows.puts v) refl) old.each_once;
        found = Each-join (λ seat. StillIn v chain seat.knows.looks) s.views id other (joined both me u) (spent nothing) old.found
            (All-append (λ look. look.node ≡ v → IsTailOf look.found chain) me.knows.looks u.knows.looks (old.found id me at) (old.found other u there)) (All-nil (λ look. look.node ≡ v → IsTailOf look.found chain));
        seen = Each-join (λ seat. StillIn v chain seat.knows.marks) s.views id other (joined both me u) (spent nothing) old.seen (old.seen id me at) (All-nil (λ look. look.node ≡ v → IsTailOf look.found chain));
      }

      -- another seat is joined into it
      pub joins : IsLawful fact about (record { words = s.words; homes = s.homes; views = set (set s.views id (joined both me u)) other (spent nothing) })
      joins =
          let seated = seated_here in
          record {
            seating = seating.joins about.seats (IsSeated about) nothing s.views id me lawful.seating at both other u apart there live (record { n = seated.n; cells = seated.cells; block = seated.block; all = seated.all; fact = seated.fact });
            drawn = drawing.joins drawn_by is_past 0 about.blocks about.seats (slice_index s.words 0) s.views id me lawful.drawn at both nothing other u apart there refl (past_both me.knows.past u.knows.past) refl refl;
            got = Each-join (λ seat. HasGot about seat.knows) s.views id other (joined both me u) (spent nothing) lawful.got got_both (IsPermutation-refl []);
            blocked = lawful.blocked;
            limits = lawful.limits;
            words = lawful.words;
            filled = Each-join (λ seat. HoldsOpen about.n about.cells s.words seat.knows.filling) s.views id other (joined both me u) (spent nothing) lawful.filled (lawful.filled id me at) tt;
            noded = Each-join (λ seat. All (λ look. IsNode about.n look.node) seat.knows.looks) s.views id other (joined both me u) (spent nothing) lawful.noded
                (All-append (λ look. IsNode about.n look.node) me.knows.looks u.knows.looks (lawful.noded id me at) (lawful.noded other u there)) (All-nil (λ look. IsNode about.n look.node));
            chains = λ v node. let old = lawful.chains v node in (old.0, chain-join v old.0 old.1);
          }
