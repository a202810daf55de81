-- What the store of one word leaves as it was.
use Rattle.std.proofs.Common.{◌≡◌, ◌≢◌, ℕ, ◌+◌, ◌<◌, List, [], ◌∷◌, All, set, get_or-set_other, ◌∙◌, ap, subst, refl, sym, arith}
use Rattle.std.specs.Prelude.{Option, Some, None, slice_index}
use Rattle.std.proofs.lemmas.List.Elements.{All-head, All-tail}
use Rattle.label_pool.specs.declared.rule.Filling.{Filling}
use Rattle.label_pool.specs.declared.rule.Linked.{Linked}
use Rattle.label_pool.specs.Chains.{named, first_cell, HoldsCell, IsChain}
use Rattle.label_pool.specs.Fillings.{IsFilled, HoldsOpen}
use Rattle.label_pool.specs.Layout.{next_at, dist_at, name_in, pos_in}

-- the word is none of the cell's
pub record IsApart (n word cell : ℕ) : Type 0 where
  pub next : next_at n cell ≢ word
  pub dist : dist_at n cell ≢ word

-- the counter and the heads are no words of a cell
pub low-apart : (n word cell : ℕ) → word < n + 32 → IsApart n word cell
low-apart n word cell low = record {
  next = λ is. omega (arith, low, is);
  dist = λ is. omega (arith, low, is);
}

-- the words of one cell are none of another's
pub next-apart : (n c cell : ℕ) → c ≢ cell → IsApart n (next_at n c) cell
next-apart n c cell other = record {
  next = λ is. other (omega (arith, is));
  dist = λ is. omega (arith, is);
}

pub dist-apart : (n c cell : ℕ) → c ≢ cell → IsApart n (dist_at n c) cell
dist-apart n c cell other = record {
  next = λ is. omega (arith, is);
  dist = λ is. other (omega (arith, is));
}

module _ (n : ℕ) (words : List ℕ) (word x : ℕ) where
  cell-else : (l : Linked) (name : ℕ) → IsApart n word l.cell → HoldsCell n words l name → HoldsCell n (set words word x) l name
  cell-else l name apart holds = record {
    next = ap name_in (get_or-set_other words word (next_at n l.cell) x 0 apart.next) ∙ holds.next;
    pos = ap pos_in (get_or-set_other words word (next_at n l.cell) x 0 apart.next) ∙ holds.pos;
    dist = get_or-set_other words word (dist_at n l.cell) x 0 apart.dist ∙ holds.dist;
  }

  -- a chain stays where the word is none of its cells'
  pub chain-else : (ls : List Linked) → All (λ l. IsApart n word l.cell) ls → IsChain n words ls → IsChain n (set words word x) ls
  chain-else [] apart chain = tt
  chain-else (l ∷ ls) apart chain =
      (cell-else l (named (first_cell ls)) (All-head (λ y. IsApart n word y.cell) l ls apart) chain.0, chain-else ls (All-tail (λ y. IsApart n word y.cell) l ls apart) chain.1)

  pub filled-else : (stored : Option ℕ) (i : ℕ) → i ≢ word → IsFilled stored (slice_index words i) → IsFilled stored (slice_index (set words word x) i)
  filled-else stored i other filled = subst (IsFilled stored) (sym (get_or-set_other words word i x 0 other)) filled

  -- and so does an open cell
  pub open-else : (cells : ℕ) (open_cell : Option Filling) → ((f : Filling) → open_cell ≡ Some f → IsApart n word f.cell) → HoldsOpen n cells words open_cell → HoldsOpen n cells (set words word x) open_cell
  open-else cells None apart holds = tt
  open-else cells (Some f) apart holds = record {
    below = holds.below;
    next = filled-else f.next (next_at n f.cell) (apart f refl).next holds.next;
    dist = filled-else f.dist (dist_at n f.cell) (apart f refl).dist holds.dist;
  }
