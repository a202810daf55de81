-- A chain of closed words, of which a prefix was walked.
use Rattle.std.proofs.Common.{◌≡◌, ℕ, zero, suc, ◌+◌, ◌<◌, ◌≤◌, List, [], ◌∷◌, ◌++◌, All, length, refl, sym, ap, ◌∙◌, subst, arith}
use Rattle.std.specs.Prelude.{Option, Some, None, slice_index, slice_index_or}
use Rattle.std.proofs.lemmas.List.{append_assoc, append-nil, map-append, length-append, length-map}
use mathlib.Core.Option.{some, some-injective, some-ne-none}
use lib.ListN.{get_elem?}
use Rattle.walk_laws.specs.declared.entry.Entry.{Entry}
use Rattle.label_pool.specs.declared.rule.Linked.{Linked}
use Rattle.label_pool.specs.Chains.{named, first_cell, HoldsCell, IsChain, IsWithin, IsWritten, entries_of}
use Rattle.label_pool.specs.Layout.{head_at}
use Rattle.label_pool.proofs.Tails.{cell-at, all-at, all-after, named-same, named-small}

pub record IsWalked (chain : List Linked) (at : Option ℕ) (count : ℕ) (entries : List Entry) : Type 0 where
  pub prefix : List Linked
  pub rest : List Linked
  pub parted : chain ≡ prefix ++ rest
  pub at_first : at ≡ first_cell rest
  pub counted : length prefix ≡ count
  pub walked : entries ≡ entries_of prefix

number_of : Option ℕ → ℕ
number_of None = 0
number_of (Some x) = x

module _ (n cells : ℕ) (words : List ℕ) (v : ℕ) (chain : List Linked) (written : IsWritten n cells words v chain) where
  pub begins : (at : Option ℕ) → named at ≡ slice_index words (head_at v) → IsWalked chain at 0 []
  begins at is = record { prefix = []; rest = chain; parted = refl; at_first = named-same at (first_cell chain) (is ∙ written.head); counted = refl; walked = refl }

  -- the cell at which a walk stands
  pub record Stands (cell : ℕ) (count : ℕ) (entries : List Entry) : Type 0 where
    pub prefix : List Linked
    pub l : Linked
    pub ls : List Linked
    pub parted : chain ≡ prefix ++ l ∷ ls
    pub is : l.cell ≡ cell
    pub holds : HoldsCell n words l (named (first_cell ls))
    pub within : IsWithin cells l
    pub small : named (first_cell ls) ≤ cells
    pub counted : length prefix ≡ count
    pub walked : entries ≡ entries_of prefix

  stands_by : (cell count : ℕ) (entries : List Entry) (prefix rest : List Linked) → chain ≡ prefix ++ rest → Some cell ≡ first_cell rest → length prefix ≡ count → entries ≡ entries_of prefix → Stands cell count entries
  unfolding number_of
  stands_by cell count entries prefix [] parted at counted walked = let wrong : Some cell ≡ None = at in absurd cc
  stands_by cell count entries prefix (l ∷ ls) parted at counted walked = record {
    prefix = prefix;
    l = l;
    ls = ls;
    parted = parted;
    is = ap number_of (sym at);
    holds = cell-at n words prefix l ls (subst (IsChain n words) parted written.linked);
    within = all-at (IsWithin cells) prefix l ls (subst (All (IsWithin cells)) parted written.within);
    small = named-small cells ls (all-after (IsWithin cells) (prefix ++ l ∷ []) ls (subst (All (IsWithin cells)) (parted ∙ sym (append_assoc prefix (l ∷ []) ls)) written.within));
    counted = counted;
    walked = walked;
  }

  pub stands : (cell : ℕ) (at : Option ℕ) (count : ℕ) (entries : List Entry) → at ≡ Some cell → IsWalked chain at count entries → Stands cell count entries
  stands cell at count entries is w = stands_by cell count entries w.prefix w.rest w.parted (sym is ∙ w.at_first) w.counted w.walked

  -- one cell further
  pub goes_on : (cell count : ℕ) (entries : List Entry) (e : Entry) (next : Option ℕ) (s : Stands cell count entries) → e ≡ s.l.entry → named next ≡ named (first_cell s.ls) → IsWalked chain next (count + 1) (entries ++ e ∷ [])
  goes_on cell count entries e next s same next_is = record {
    prefix = s.prefix ++ s.l ∷ [];
    rest = s.ls;
    parted = s.parted ∙ sym (append_assoc s.prefix (s.l ∷ []) s.ls);
    at_first = named-same next (first_cell s.ls) next_is;
    counted = let a = length-append s.prefix (s.l ∷ []) in let c = s.counted in omega (arith, a, c);
    walked = (λ k. s.walked k ++ same k ∷ []) ∙ sym (map-append (λ (l : Linked). l.entry) s.prefix (s.l ∷ []));
  }

  no_rest : (rest : List Linked) → None ≡ first_cell rest → rest ≡ []
  no_rest [] at = refl
  no_rest (l ∷ ls) at = let wrong : None ≡ Some l.cell = at in absurd cc

  short_rest : (prefix rest : List Linked) → length (prefix ++ rest) ≤ length prefix → rest ≡ []
  short_rest prefix [] most = refl
  short_rest prefix (l ∷ ls) most = let a = length-append prefix (l ∷ ls) in absurd (omega (arith, a, most))

  -- the whole chain was walked: the walk stands at its end
  pub ended : (at : Option ℕ) (count : ℕ) (entries : List Entry) → at ≡ None → IsWalked chain at count entries → entries ≡ entries_of chain
  ended at count entries is w = w.walked ∙ sym (ap entries_of (w.parted ∙ ap (λ ls. w.prefix ++ ls) (no_rest w.rest (sym is ∙ w.at_first)) ∙ append-nil w.prefix))

  -- or it took as many steps as there are cells
  pub spent : (at : Option ℕ) (count : ℕ) (entries : List Entry) → cells ≤ count → IsWalked chain at count entries → entries ≡ entries_of chain
  spent at count entries all w =
      let a = ap length w.parted in
      let rest = short_rest w.prefix w.rest (let c = w.counted in let m = written.most in omega (arith, a, c, m, all)) in
      w.walked ∙ sym (ap entries_of (w.parted ∙ ap (λ ls. w.prefix ++ ls) rest ∙ append-nil w.prefix))

-- a chain that was walked whole has as many cells as were counted
pub as-many : (chain : List Linked) (at : Option ℕ) (count : ℕ) (entries : List Entry) → IsWalked chain at count entries → entries ≡ entries_of chain → length chain ≡ count
as-many chain at count entries w whole =
    let a = length-map chain (λ (l : Linked). l.entry) in
    let b = length-map w.prefix (λ (l : Linked). l.entry) in
    let e = ap length (sym whole ∙ w.walked) in
    let c = w.counted in
    omega (arith, a, b, e, c)

-- a word that was read from a list
pub at_word : (xs : List ℕ) (i x : ℕ) → get_elem? xs i ≡ some x → slice_index xs i ≡ x
at_word [] i x at = absurd (some-ne-none x (sym at))
at_word (y ∷ ys) zero x at = some-injective y x at
at_word (y ∷ ys) (suc i) x at = at_word ys i x at

-- a row comes after others
pub row-before : (rows : List (List Entry)) (row : List Entry) (k : ℕ) → k < length rows → slice_index_or (rows ++ row ∷ []) k [] ≡ slice_index_or rows k []
row-before [] row k within = absurd (omega (arith, within))
row-before (r ∷ rs) row zero within = refl
row-before (r ∷ rs) row (suc k) within = row-before rs row k (omega (arith, within))

pub row-last : (rows : List (List Entry)) (row : List Entry) → slice_index_or (rows ++ row ∷ []) (length rows) [] ≡ row
row-last [] row = refl
row-last (r ∷ rs) row = row-last rs row
