-- What the last seat gets where the pool is closed.
use Rattle.std.proofs.Common.{◌≡◌, ℕ, ◌*◌, ◌-◌, ◌∙◌, List, All, IsPermutation, get_or, length, min, refl, sym, ap, subst, arith}
use Rattle.table_seats.specs.Numbers.{numbers}
use Rattle.std.proofs.lemmas.List.FromFn.{length-range_with_len}
use Rattle.std.specs.Prelude.{Result, Ok, Err, Some, IfOk, slice_index}
use Rattle.std.proofs.lemmas.List.{map-append}
use Rattle.std.proofs.lemmas.List.Elements.{All-map}
use Rattle.std.proofs.lemmas.List.Sorted.{IsPermutation-map, length_permutation}
use Rattle.atomic_table.specs.Table.{Final, Seen}
use Rattle.walk_laws.specs.declared.entry.Entry.{Entry}
use Rattle.hub_index.specs.Views.{IsNode}
use Rattle.table_seats.specs.declared.seat_view.SeatView.{SeatView}
use Rattle.label_pool.proofs.Permuted.{flat_map-one}
use Rattle.table_seats.proofs.Seating.{others_empty}
use Rattle.label_pool.specs.declared.rule.About.{About}
use Rattle.label_pool.specs.declared.rule.Linked.{Linked}
use Rattle.label_pool.specs.declared.rule.Look.{Look}
use Rattle.label_pool.specs.declared.rule.View.{View}
use Rattle.label_pool.specs.Chains.{EndsIn, IsTailOf, IsWritten, entries_of, entries_at, puts_at}
use Rattle.label_pool.specs.Lawful.{IsSeated, IsChainOf, IsLawful, is_some, nothing}
use Rattle.label_pool.proofs.Blocks.{got-once}
use Rattle.label_pool.proofs.Cells.{chain-most}

module _ {F : Type 0} (fact : F → ℕ → Entry → Type 0) (about : About F) (id : ℕ) (me : SeatView (View F)) (words : List ℕ) (slots : List (Unit {0})) (final : Final (Seen (IsLawful fact about) id me) words slots) where
  lawful : IsLawful fact about final.0
  lawful = final.1.0

  chain_of : (v : ℕ) → IsNode about.n v → (chain : List Linked) × IsChainOf fact about final.0 v chain
  chain_of v node = lawful.chains v node

  -- each node has a chain among the words
  pub written : (v : ℕ) → IsNode about.n v → (chain : List Linked) × IsWritten about.n about.cells words v chain
  unfolding chain_of lawful
  written v node =
      let c = chain_of v node in (
        c.0,
        subst (λ ws. IsWritten about.n about.cells ws v c.0) final.2 (record {
          head = c.1.head;
          linked = c.1.linked;
          within = c.1.within;
          most = chain-most about.cells final.0.views (got-once about (slice_index final.0.words 0) final.0.views lawful.drawn lawful.got lawful.blocked) v c.0 c.1.each_once;
        }),
      )

  -- the blocks that the last seat drew are the first so many, each once, and all where it drew past them
  pub drawn : me.seats ≡ about.seats → (IsPermutation me.knows.blocks (numbers 0 (length me.knows.blocks))) × ((cell : ℕ) → me.knows.past ≡ Some cell → length me.knows.blocks * about.block ≡ about.cells)
  unfolding lawful
  drawn last =
      let count : ℕ = slice_index final.0.words 0 in
      let alone = flat_map-one (λ (seat : SeatView (View F)). seat.knows.blocks) final.0.views id me final.1.1
      (λ j w apart there. ap (λ (k : View F). k.blocks) (others_empty about.seats (IsSeated about) nothing final.0.views id me lawful.seating final.1.1 last j w apart there)) in
      let all : IsPermutation me.knows.blocks (numbers 0 (min count about.blocks)) = subst (λ ls. IsPermutation ls (numbers 0 (min count about.blocks))) alone lawful.drawn.each_once in
      let len = length_permutation _ _ all in
      let as_many = length-range_with_len 0 (min count about.blocks - 0) in
      let long : length me.knows.blocks ≡ min count about.blocks = omega (arith, len, as_many) in (
        subst (λ k. IsPermutation me.knows.blocks (numbers 0 k)) (sym long) all,
        λ cell is.
            let ended = lawful.drawn.ended id me final.1.1 (ap is_some is) in
            let full : length me.knows.blocks ≡ about.blocks = omega (arith, long, ended) in
            ap (λ k. k * about.block) full ∙ sym lawful.blocked,
      )

  module _ (rows : ℕ → List Entry) (row_is : (v : ℕ) (chain : List Linked) → IsNode about.n v → IsWritten about.n about.cells words v chain → rows v ≡ entries_of chain) (v : ℕ) (node : IsNode about.n v) where
    row : rows v ≡ entries_of (written v node).0
    row = row_is v (written v node).0 node (written v node).1

    -- the last seat put all entries, and nothing else is there
    pub puts : me.seats ≡ about.seats → IsPermutation (entries_at me.knows.puts v) (rows v)
    unfolding written chain_of lawful
    puts last =
        let c = chain_of v node in
        let alone = flat_map-one (λ (seat : SeatView (View F)). puts_at seat.knows.puts v) final.0.views id me final.1.1
        (λ j w apart there. ap (λ (k : View F). puts_at k.puts v) (others_empty about.seats (IsSeated about) nothing final.0.views id me lawful.seating final.1.1 last j w apart there)) in
        subst (IsPermutation (entries_at me.knows.puts v)) (sym row)
        (IsPermutation-map (λ (l : Linked). l.entry) (puts_at me.knows.puts v) c.0 (subst (λ ls. IsPermutation ls c.0) alone c.1.each_once))

    -- and each meets the fact
    pub met : All (λ e. fact about.fact v e) (rows v)
    unfolding written chain_of
    met = subst (All (λ e. fact about.fact v e)) (sym row) (All-map (λ e. fact about.fact v e) (λ (l : Linked). l.entry) (chain_of v node).0 (chain_of v node).1.met)

  -- each chain that was found, by the last seat or one that was joined into it, is the end of its row
  pub ends_in : (rows : ℕ → List Entry) → ((v : ℕ) (chain : List Linked) → IsNode about.n v → IsWritten about.n about.cells words v chain → rows v ≡ entries_of chain) → All (λ look. EndsIn (rows look.node) look.found) me.knows.looks
  unfolding written chain_of lawful
  ends_in rows row_is = λ k d lt.
      let look : Look = get_or me.knows.looks k d in
      let node : IsNode about.n look.node = lawful.noded id me final.1.1 k d lt in
      let c = chain_of look.node node in
      let tail : IsTailOf look.found c.0 = c.1.found id me final.1.1 k d lt refl in
      record {
        newer = entries_of tail.prefix;
        parted = row_is look.node c.0 node (written look.node node).1 ∙ ap entries_of tail.parted ∙ map-append (λ (l : Linked). l.entry) tail.prefix look.found;
      }

-- a fact of what is there where nothing failed
pub if-ok : {X E : Type 0} (r : Result X E) (P Q : X → Type 0) → ((x : X) → P x → Q x) → IfOk r P → IfOk r Q
if-ok (Ok x) P Q f p = f x p
if-ok (Err e) P Q f p = tt
