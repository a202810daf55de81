use Rattle.std.proofs.Common.{◌≡◌, ℕ, ◌+◌, All, drop, length, map, take, vec_len}
use Rattle.gll_merge.specs.Merging.{lists_at}
use Rattle.gll_merge.proofs.merging.last_lists.Given as goal

-- those before k have lost their last list, which was taken, and those from k on are as they were
abbrev pub invariant-loop-k : goal.invariant-loop-k
invariant-loop-k l = record {
  size : vec_len l.parts ≡ vec_len l.fn.parts;
  lists : (number : ℕ) → All (λ d. length d.items ≡ number + 1) l.fn.parts.items → l.lists.items ≡ lists_at (map (λ d. d.items) (take l.k l.fn.parts.items)) number;
  left : (number : ℕ) → All (λ d. length d.items ≡ number + 1) l.fn.parts.items → map (λ d. d.items) (take l.k l.parts.items) ≡ map (λ d. take number d.items) (take l.k l.fn.parts.items);
  later : drop l.k l.parts.items ≡ drop l.k l.fn.parts.items;
}
