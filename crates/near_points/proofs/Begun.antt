-- The cursors of a source's hubs, as they are put before the lists of the last entries of its row on.
use Rattle.std.proofs.Common.{◌≡◌, ℕ, ◌+◌, ◌-◌, ◌<◌, ◌≤◌, List, [], ◌∷◌, All, Contains, length, get_or, sym, ap, subst, ◌∙◌, inl, inr, arith}
use Rattle.std.specs.List.Sorted.{IsPermutation}
use Rattle.std.proofs.lemmas.Bool.{cases_lt}
use Rattle.std.proofs.lemmas.List.{get_or_default}
use Rattle.std.proofs.lemmas.List.Elements.{All-cons, All-nil}
use Rattle.std.proofs.lemmas.List.Sorted.{All-permutation, Contains-permutation}
use Rattle.walk_laws.specs.declared.entry.Entry.{Entry}
use Rattle.walk_laws.proofs.Members.{Contains-first, Contains-next}
use Rattle.near_points.specs.declared.cursor.Cursor.{Cursor}
use Rattle.near_points.specs.PointWords.{word_at, word_pos, AreStarts, IsStart}
use Rattle.near_points.specs.Merging.{key_by, IsCursor, HasCursor, AreBegun}

-- the entries from the place `left` on have their cursors
pub record Begun (words : List ℕ) (row : List Entry) (cursors : List Cursor) (left : ℕ) : Type 0 where
  pub within : left ≤ length row
  pub are : All (IsCursor words row) cursors
  pub covered : (k i : ℕ) (d : Entry) → left ≤ k → k < length row → i < length words → word_pos (word_at words i) ≡ (get_or row k d).pos → HasCursor words cursors i

pub Begun-start : (words : List ℕ) (row : List Entry) (cursors : List Cursor) → cursors ≡ [] → Begun words row cursors (length row)
Begun-start words row cursors none = record {
  within = omega arith;
  are = subst (All (IsCursor words row)) (sym none) (All-nil (IsCursor words row));
  covered = λ k i d from lt. absurd (omega (arith, from, lt));
}

pub Begun-all : (words : List ℕ) (row : List Entry) (cursors : List Cursor) (left : ℕ) → left ≤ 0 → Begun words row cursors left → AreBegun words row cursors
Begun-all words row cursors left over begun = record {
  are = begun.are;
  covered = λ e i hub. let there = hub.entry in begun.covered there.0 i e (omega (arith, over)) there.1 hub.inside (hub.same ∙ ap (λ (x : Entry). x.pos) (sym there.2));
}

module _ (words starts : List ℕ) (row : List Entry) (cursors : List Cursor) (left : ℕ) (e : Entry) (are : AreStarts words starts) (within : All (λ (e : Entry). e.pos + 1 < length starts) row) (some : 0 < left) (begun : Begun words row cursors left) (is : get_or row (left - 1) e ≡ e) where
  lt : left - 1 < length row
  lt = let all = begun.within in omega (arith, all, some)

  inside : e.pos + 1 < length starts
  inside = subst (λ (x : Entry). x.pos + 1 < length starts) is (within (left - 1) e lt)

  abbrev pub start : ℕ
  start = get_or starts e.pos 0

  abbrev pub end : ℕ
  end = get_or starts (e.pos + 1) 0

  start_is : IsStart words e.pos start
  start_is = are e.pos (omega (arith, inside))

  end_is : IsStart words (e.pos + 1) end
  end_is = are (e.pos + 1) inside

  -- the list of the position lies between its start and its end
  after_start : (i : ℕ) → word_pos (word_at words i) ≡ e.pos → start ≤ i
  after_start i same = elim (cases_lt i start) [
    | inl before ↦ let less = start_is.before i before in absurd (omega (arith, less, same))
    | inr from ↦ omega (arith, from)
  ]

  before_end : (i : ℕ) → i < length words → word_pos (word_at words i) ≡ e.pos → i < end
  before_end i within_words same = elim (cases_lt i end) [
    | inl before ↦ before
    | inr from ↦ let more = end_is.after i (omega (arith, from)) within_words in absurd (omega (arith, more, same))
  ]

  entry_at : (k : ℕ) (d : Entry) → left - 1 ≤ k → k < left → (get_or row k d).pos ≡ e.pos
  entry_at k d from before =
      let here : k ≡ left - 1 = omega (arith, from, before) in
      ap (λ (x : Entry). x.pos) (ap (λ i. get_or row i d) here ∙ get_or_default row (left - 1) d e lt ∙ is)

  -- the list of the next entry is empty
  pub Begun-none : end ≤ start → Begun words row cursors (left - 1)
  Begun-none empty = record {
    within = let all = begun.within in omega (arith, all);
    are = begun.are;
    covered = λ k i d from k_lt i_lt same. elim (cases_lt k left) [
      | inr old ↦ begun.covered k i d (omega (arith, old)) k_lt i_lt same
      | inl new ↦
          let here : word_pos (word_at words i) ≡ e.pos = same ∙ entry_at k d from new in
          absurd (omega (arith, empty, after_start i here, before_end i i_lt here))
    ];
  }

  module _ (c : Cursor) (now : List Cursor) (less : start < end) (at : c.at ≡ start) (key : c.key.0 ≡ key_by e (word_at words start)) (moved : IsPermutation (c ∷ cursors) now) where
    start_inside : start < length words
    start_inside = let most = end_is.within in omega (arith, less, most)

    start_same : word_pos (word_at words start) ≡ e.pos
    start_same =
        let no_less = start_is.after start (omega arith) start_inside in
        let no_more = end_is.before start less in
        omega (arith, no_less, no_more)

    start_cursor : IsCursor words row c
    start_cursor = record {
      entry = e;
      hub = record {
        entry = (left - 1, lt, is);
        inside = omega (arith, at, start_inside);
        same = ap (λ i. word_pos (word_at words i)) at ∙ start_same;
      };
      key = key ∙ ap (λ i. key_by e (word_at words i)) (sym at);
    }

    there : Contains now c
    there = Contains-permutation (c ∷ cursors) now c moved (Contains-first c cursors)

    -- the next entry has its cursor, too
    pub Begun-push : Begun words row now (left - 1)
    Begun-push = record {
      within = let all = begun.within in omega (arith, all);
      are = All-permutation (IsCursor words row) (c ∷ cursors) now moved (All-cons (IsCursor words row) c cursors start_cursor begun.are);
      covered = λ k i d from k_lt i_lt same. elim (cases_lt k left) [
        | inr old ↦
            let has = begun.covered k i d (omega (arith, old)) k_lt i_lt same in
            record { cursor = has.cursor; there = Contains-permutation (c ∷ cursors) now has.cursor moved (Contains-next c has.cursor cursors has.there); before = has.before; same = has.same }
        | inl new ↦
            let here : word_pos (word_at words i) ≡ e.pos = same ∙ entry_at k d from new in
            record { cursor = c; there = there; before = omega (arith, at, after_start i here); same = ap (λ i. word_pos (word_at words i)) at ∙ start_same ∙ sym here }
      ];
    }
