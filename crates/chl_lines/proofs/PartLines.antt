-- The lines of parts, one after another, are the lines of all.
use Rattle.std.specs.Prelude.{Result, Ok, Err, IfOk}
use Rattle.std.specs.declared.alloc.AllocError.{AllocError}
use Rattle.std.proofs.Common.{◌≡◌, ℕ, zero, suc, ◌+◌, ◌-◌, ◌<◌, ◌≤◌, min, List, [], ◌∷◌, ◌++◌, length, take, drop, get_or, refl, sym, ap, subst, ◌∙◌, arith}
use Rattle.std.proofs.lemmas.List.{drop-drop, take_min, length-drop}
use Rattle.hub_query.specs.Parts.{AreJoined}

past : {X : Type 0} (k : ℕ) (xs : List X) → length xs ≤ k → drop k xs ≡ []
past zero [] short = refl
past zero (x ∷ xs) short = absurd (omega (arith, short))
past (suc k) [] short = refl
past (suc k) (x ∷ xs) short = past k xs (omega (arith, short))

-- at most n of the elements after the first k
pub cut : {X : Type 0} (n k : ℕ) (xs : List X) → take (min n (length xs - k)) (drop k xs) ≡ take n (drop k xs)
cut n k xs = subst (λ m. take (min n m) (drop k xs) ≡ take n (drop k xs)) (length-drop k xs) (take_min n (drop k xs))

-- parts of so many, of which each begins where the one before it ends
module _ {X Y P : Type 0} (size : ℕ) (begin : ℕ → ℕ) (next : (k : ℕ) → begin (k + 1) ≡ begin k + size)
    (lines : List X → List Y → List ℕ) (no_lines : (ys : List Y) → lines [] ys ≡ [])
    (lines_cut : (n : ℕ) (xs : List X) (ys : List Y) → lines (take n xs) (take n ys) ++ lines (drop n xs) (drop n ys) ≡ lines xs ys)
    (items : P → List ℕ) (xs : List X) (ys : List Y) where
  -- the lines of part k
  abbrev pub lines_of_part : ℕ → List ℕ
  lines_of_part k = lines (take size (drop (begin k) xs)) (take size (drop (begin k) ys))

  -- each part has its lines, where the first one is part k
  abbrev pub AreLines : ℕ → List (Result P AllocError) → Type 0
  AreLines k parts = (i : ℕ) (d : Result P AllocError) → i < length parts → IfOk (get_or parts i d) (λ text. items text ≡ lines_of_part (k + i))

  first_of : (k : ℕ) (p : P) (parts : List (Result P AllocError)) → AreLines k (Ok p ∷ parts) → items p ≡ lines_of_part k
  first_of k p parts all = let same : k + 0 ≡ k = omega arith in subst (λ i. items p ≡ lines_of_part i) same (all 0 (Ok p) (omega arith))

  others_of : (k : ℕ) (p : Result P AllocError) (parts : List (Result P AllocError)) → AreLines k (p ∷ parts) → AreLines (k + 1) parts
  others_of k p parts all i d lt = let same : k + suc i ≡ k + 1 + i = omega arith in subst (λ j. IfOk (get_or parts i d) (λ text. items text ≡ lines_of_part j)) same (all (suc i) d (omega arith))

  after : (parts : List (Result P AllocError)) (k : ℕ) (text : List ℕ) → AreLines k parts → AreJoined items parts text → length xs ≤ begin (k + length parts) → text ≡ lines (drop (begin k) xs) (drop (begin k) ys)
  after [] k text all joined reach =
      let same : k + 0 ≡ k = omega arith in
      let none : drop (begin k) xs ≡ [] = past (begin k) xs (subst (λ n. length xs ≤ begin n) same reach) in
      joined ∙ sym (ap (λ us. lines us (drop (begin k) ys)) none ∙ no_lines (drop (begin k) ys))
  after (Err e ∷ parts) k text all joined reach = absurd joined
  after (Ok p ∷ parts) k text all (rest, is, joined) reach =
      let count : k + suc (length parts) ≡ k + 1 + length parts = omega arith in
      let later : rest ≡ lines (drop (begin (k + 1)) xs) (drop (begin (k + 1)) ys) = after parts (k + 1) rest (others_of k (Ok p) parts all) joined (subst (λ n. length xs ≤ begin n) count reach) in
      let fewer : drop (begin (k + 1)) xs ≡ drop size (drop (begin k) xs) = ap (λ i. drop i xs) (next k) ∙ sym (drop-drop size (begin k) xs) in
      let told : drop (begin (k + 1)) ys ≡ drop size (drop (begin k) ys) = ap (λ i. drop i ys) (next k) ∙ sym (drop-drop size (begin k) ys) in
      is
      ∙ ap (λ t. t ++ rest) (first_of k p parts all)
      ∙ ap (λ t. lines_of_part k ++ t) (later ∙ ap (λ us. lines us (drop (begin (k + 1)) ys)) fewer ∙ ap (λ vs. lines (drop size (drop (begin k) xs)) vs) told)
      ∙ lines_cut size (drop (begin k) xs) (drop (begin k) ys)

  -- all parts together have all lines
  pub lines_of_parts : (parts : List (Result P AllocError)) (text : List ℕ) → begin 0 ≡ 0 → AreLines 0 parts → AreJoined items parts text → length xs ≤ begin (length parts) → text ≡ lines xs ys
  lines_of_parts parts text start all joined reach =
      subst (λ k. text ≡ lines (drop k xs) (drop k ys)) start
      (let same : length parts ≡ 0 + length parts = omega arith in after parts 0 text all joined (subst (λ n. length xs ≤ begin n) same reach))
