-- The nodes of texts.
use Rattle.std.proofs.Common.{◌≡◌, inl, inr, ℕ, ◌+◌, ◌<◌, ◌≤◌, Bool, true, false, cond, eqb, ltb, List, [], ◌∷◌, ◌++◌, length, Option, Some, None, Result, Ok, Err, refl, ap, sym, subst, ◌∙◌, arith}
use Rattle.std.specs.Prelude.{◌||◌, ◌&&◌, not}
use Rattle.std.specs.Cmp.{nat_eq_equiv}
use Rattle.std.specs.List.{list_any, IsDistinct, AllByRecursion}
use Rattle.std.proofs.Math.Bool.{or-true, or-false}
use Rattle.std.proofs.lemmas.Bool.{false≢true, ltb-false, eq-eqb}
use Rattle.std.proofs.lemmas.Bool.Decides.{eqb_tells}
use Rattle.std.proofs.lemmas.List.Elements.{All-push, recursion_from_All}
use Rattle.std.proofs.lemmas.List.Folds.{list_any-append}
use Rattle.std.proofs.lemmas.Map.Keys.{IsDistinct-push, IsDistinct-cons}
use Rattle.std.proofs.lemmas.Map.Steps.{length-le_from_distinct_below}
use Rattle.walk_laws.specs.Ranking.{IsRanking}
use Rattle.desk_io.specs.Lines.{lines_of}
use Rattle.text_lines.specs.Judgement.{Progress, ◌>>=◌, number_after, after_line, after_lines}
use Rattle.text_lines.specs.Words.{number_of, words_of, is_skipped}
use Rattle.text_lines.proofs.KeptStates.{stepped, text_keeps}
use Rattle.order_text.specs.declared.order_fault.OrderFault.{OrderFault}
use Rattle.order_text.specs.declared.order_fault.OrderFault.TheVariants.{BadField, BadNumber, NodeRange, Repeated, Count}
use Rattle.order_text.specs.NodesText.{IsOfLine, nodes_ended, nodes_of_text}
use Rattle.order_text.specs.OrderText.{AreWithin, NodesSoFar, no_node, with_node, in_range, is_repeated, node_of_words, node_judged, order_ended, order_of_text}

-- a set that has one key more has the keys of the list with one node more
pub told_more : (nodes : List ℕ) (node : ℕ) (before after : ℕ → Bool) → ((q : ℕ) → before q ≡ list_any (eqb q) nodes) → ((q : ℕ) → after q ≡ cond (eqb node q) true (before q)) → (q : ℕ) → after q ≡ list_any (eqb q) (nodes ++ node ∷ [])
told_more nodes node before after told puts q =
    puts q
    ∙ (elim (eqb_tells node q) [
      | inl same ↦
          ap (λ b. cond b true (before q)) same.0
          ∙ sym (list_any-append (eqb q) nodes (node ∷ []) ∙ ap (λ b. list_any (eqb q) nodes || (b || false)) (eq-eqb q node (sym same.1)) ∙ or-true (list_any (eqb q) nodes))
      | inr differ ↦
          ap (λ b. cond b true (before q)) differ.0 ∙ told q
          ∙ sym (list_any-append (eqb q) nodes (node ∷ []) ∙ ap (λ b. list_any (eqb q) nodes || (b || false)) (other q node (λ is. differ.1 (sym is))) ∙ or-false (list_any (eqb q) nodes))
    ])
  where
    other : (a b : ℕ) → (a ≡ b → ⊥) → eqb a b ≡ false
    other a b apart = elim (eqb_tells a b) [ inl same ↦ absurd (apart same.1) | inr differ ↦ differ.0 ]

-- nodes of 1..n, distinct where they may not repeat
pub record AreNodes (n : ℕ) (repeats : Bool) (so_far : NodesSoFar) : Type 0 where
  pub same : so_far.n ≡ n
  pub may : so_far.repeats ≡ repeats
  pub node : AreWithin n so_far.nodes
  pub once : repeats ≡ false → IsDistinct eqb so_far.nodes

-- an Ok that a test gives is of the test's second case
ok_shown : {A F : Type 0} (test : Bool) (fault : F) (x y : A) → ◌≡◌ {A = Result A F} (cond test (Err fault) (Ok x)) (Ok y) → (test ≡ false) × (x ≡ y)
ok_shown true fault x y is = cc
ok_shown false fault x y is = (refl, cc)

both_false : (a b : Bool) → (a || b) ≡ false → (a ≡ false) × (b ≡ false)
both_false true b is = cc
both_false false b is = (refl, is)

range_shown : (n number : ℕ) (named : Option ℕ) (v : ℕ) → in_range n number named ≡ Ok v → (1 ≤ v) × (v ≤ n)
range_shown n number None v is = cc
range_shown n number (Some x) v is =
    let shown = ok_shown (eqb x 0 || ltb n x) (NodeRange number) x v is in
    let tests = both_false (eqb x 0) (ltb n x) shown.0 in
    let within : x ≤ n = ltb-false n x tests.1 in
    elim (eqb_tells x 0) [ inl zero ↦ absurd (false≢true (sym tests.0 ∙ zero.0)) | inr some ↦ (omega (arith, some.1, shown.1), omega (arith, shown.1)) ]

words_range : (n number : ℕ) (words : List (List ℕ)) (v : ℕ) → node_of_words n number words ≡ Ok v → (1 ≤ v) × (v ≤ n)
words_range n number [] v is = cc
words_range n number (word ∷ []) v is = range_shown n number (number_of word) v is
words_range n number (word ∷ second ∷ words) v is = cc

-- one that is not repeated, where none may be, is new
is_new : (repeats had : Bool) → (not repeats && had) ≡ false → repeats ≡ false → had ≡ false
is_new true had once may = cc
is_new false had once may = once

-- a line keeps them so
pub node_keeps : (n : ℕ) (repeats : Bool) (s after : NodesSoFar) (number : ℕ) (words : List (List ℕ)) → AreNodes n repeats s → node_judged s number words ≡ Ok after → AreNodes n repeats after
node_keeps n repeats s after number words have is =
    let step = stepped (node_of_words s.n number words) (λ (v : ℕ). cond (is_repeated s v) (Err (Repeated number v)) (Ok (with_node s v))) after is in
    let range = words_range s.n number words step.0 step.1 in
    let new = ok_shown (is_repeated s step.0) (Repeated number step.0) (with_node s step.0) after step.2 in
    subst (AreNodes n repeats) new.1 (record {
      same = have.same;
      may = have.may;
      node = All-push (λ v. (1 ≤ v) × (v ≤ n)) s.nodes step.0 have.node (range.0, omega (arith, range.1, have.same));
      once = λ single. IsDistinct-push nat_eq_equiv s.nodes step.0 (have.once single) (is_new s.repeats (list_any (eqb step.0) s.nodes) new.0 (have.may ∙ single));
    })

-- what holds of each of some numbers holds of one that is among them
any_has : (P : ℕ → Type 0) (q : ℕ) (xs : List ℕ) → AllByRecursion P xs → list_any (eqb q) xs ≡ true → P q
any_has P q [] all among = absurd (false≢true among)
any_has P q (x ∷ xs) all among =
    elim (eqb_tells q x) [
      | inl same ↦ subst P (sym same.1) all.0
      | inr differ ↦ any_has P q xs all.1 (sym (ap (λ b. b || list_any (eqb q) xs) differ.0) ∙ among)
    ]

not_zero : (n : ℕ) (xs : List ℕ) → AllByRecursion (λ v. (1 ≤ v) × (v ≤ n)) xs → AllByRecursion (λ v. eqb 0 v ≡ false) xs
not_zero n [] all = tt
not_zero n (x ∷ xs) all = (elim (eqb_tells 0 x) [ inl zero ↦ absurd (omega (arith, zero.1, all.0.0)) | inr some ↦ some.0 ], not_zero n xs all.1)

-- distinct nodes of 1..n are n at most
pub length_nodes-le : (n : ℕ) (s : NodesSoFar) → AreNodes n false s → length s.nodes ≤ n
length_nodes-le n s have =
    let each = recursion_from_All (λ v. (1 ≤ v) × (v ≤ n)) s.nodes have.node in
    let distinct : IsDistinct eqb (0 ∷ s.nodes) = IsDistinct-cons eqb 0 s.nodes (not_zero n s.nodes each) (have.once refl) in
    let small : (q : ℕ) → list_any (eqb q) (0 ∷ s.nodes) ≡ true → q < n + 1 = λ q among.
    any_has (λ v. v < n + 1) q (0 ∷ s.nodes) (omega arith, below n s.nodes each) among in
    omega (arith, length-le_from_distinct_below (0 ∷ s.nodes) (n + 1) distinct small)
  where
    below : (n : ℕ) (xs : List ℕ) → AllByRecursion (λ v. (1 ≤ v) × (v ≤ n)) xs → AllByRecursion (λ v. v < n + 1) xs
    below n [] all = tt
    below n (x ∷ xs) all = (omega (arith, all.0.1), below n xs all.1)

-- and a ranking, where none is missing
pub order_ranks : (n : ℕ) (s : NodesSoFar) (number : ℕ) (at : List ℕ) → AreNodes n false s → order_ended s number ≡ Ok at → IsRanking at × (length at ≡ n)
order_ranks n s number at have is =
    let shown = ok_shown (ltb (length s.nodes) s.n) (Count s.n (length s.nodes)) s.nodes at is in
    let enough : s.n ≤ length s.nodes = ltb-false (length s.nodes) s.n shown.0 in
    let few : length s.nodes ≤ n = length_nodes-le n s have in
    let all : length s.nodes ≡ n = omega (arith, have.same) in
    subst (λ nodes. IsRanking nodes × (length nodes ≡ n)) shown.1 (record { node = λ k d h. rw all (have.node k d h); once = have.once refl }, all)

none_equal : IsDistinct eqb []
unfolding IsDistinct
none_equal = tt

no_nodes : (n : ℕ) (repeats : Bool) → AreNodes n repeats (no_node n repeats)
no_nodes n repeats = record { same = refl; may = refl; node = λ k d h. absurd (omega arith); once = λ single. none_equal }

pub orders_rank : (n : ℕ) (text at : List ℕ) → order_of_text n text ≡ Ok at → IsRanking at × (length at ≡ n)
orders_rank n text at is =
    let end = text_keeps node_judged order_ended (AreNodes n false) (node_keeps n false) (no_node n false) text at (no_nodes n false) is in
    order_ranks n end.0.state end.0.next at end.1 end.2

-- the nodes of a nodes text
pub texts_of_nodes : (n : ℕ) (repeats : Bool) (text nodes : List ℕ) → nodes_of_text n repeats text ≡ Ok nodes → AreWithin n nodes × (repeats ≡ false → IsDistinct eqb nodes)
texts_of_nodes n repeats text nodes is =
    let end = text_keeps node_judged nodes_ended (AreNodes n repeats) (node_keeps n repeats) (no_node n repeats) text nodes (no_nodes n repeats) is in
    subst (λ l. AreWithin n l × (repeats ≡ false → IsDistinct eqb l)) (ok_shown false (BadField 0) end.0.state.nodes nodes end.2).1 (end.1.node, end.1.once)

-- ---- its faults are faults of lines

err_value : {A F : Type 0} (x y : F) → ◌≡◌ {A = Result A F} (Err x) (Err y) → x ≡ y
err_value x y is = cc

-- a fault of two steps is one of the first or one of the second
of_steps : {A B F : Type 0} (P : F → Type 0) (r : Result A F) (f : A → Result B F) (fault : F) → (r >>= f) ≡ Err fault → ((e : F) → r ≡ Err e → P e) → ((x : A) (e : F) → f x ≡ Err e → P e) → P fault
of_steps {A} {B} P (Ok x) f fault is first second = second x fault is
of_steps {A} {B} P (Err e) f fault is first second = subst P (err_value {A = B} e fault is) (first e refl)

of_test : {A : Type 0} (test : Bool) (fault e : OrderFault) (x : A) → IsOfLine fault → cond test (Err fault) (Ok x) ≡ Err e → IsOfLine e
of_test {A} true fault e x of is = subst IsOfLine (err_value {A = A} fault e is) of
of_test false fault e x of is = cc

range_fault : (n number : ℕ) (named : Option ℕ) (e : OrderFault) → in_range n number named ≡ Err e → IsOfLine e
range_fault n number None e is = of_test true (BadNumber number) e 0 tt is
range_fault n number (Some v) e is = of_test (eqb v 0 || ltb n v) (NodeRange number) e v tt is

words_fault : (n number : ℕ) (words : List (List ℕ)) (e : OrderFault) → node_of_words n number words ≡ Err e → IsOfLine e
words_fault n number [] e is = of_test true (BadField number) e 0 tt is
words_fault n number (word ∷ []) e is = range_fault n number (number_of word) e is
words_fault n number (word ∷ second ∷ words) e is = of_test true (BadField number) e 0 tt is

judged_fault : (s : NodesSoFar) (number : ℕ) (words : List (List ℕ)) (e : OrderFault) → node_judged s number words ≡ Err e → IsOfLine e
judged_fault s number words e is =
    of_steps IsOfLine (node_of_words s.n number words) (λ (v : ℕ). cond (is_repeated s v) (Err (Repeated number v)) (Ok (with_node s v))) e is (words_fault s.n number words) (λ v f found. of_test (is_repeated s v) (Repeated number v) f (with_node s v) tt found)

skipped_fault : (skipped : Bool) (s : NodesSoFar) (number : ℕ) (words : List (List ℕ)) (e : OrderFault) → cond skipped (Ok s) (node_judged s number words) ≡ Err e → IsOfLine e
skipped_fault true s number words e is = cc
skipped_fault false s number words e is = judged_fault s number words e is

line_fault : (at : Progress NodesSoFar) (line : List ℕ) (e : OrderFault) → after_line node_judged nodes_ended at line ≡ Err e → IsOfLine e
line_fault at line e is =
    of_steps IsOfLine (cond (is_skipped (words_of line)) (Ok at.state) (node_judged at.state at.next (words_of line))) (λ (state : NodesSoFar). Ok (record { next = number_after at.next; state = state })) e is (skipped_fault (is_skipped (words_of line)) at.state at.next (words_of line)) (λ state f found. cc)

lines_fault : (at : Progress NodesSoFar) (lines : List (List ℕ)) (e : OrderFault) → after_lines node_judged nodes_ended at lines ≡ Err e → IsOfLine e
lines_fault at [] e is = cc
lines_fault at (line ∷ lines) e is =
    of_steps IsOfLine (after_line node_judged nodes_ended at line) (λ (after : Progress NodesSoFar). after_lines node_judged nodes_ended after lines) e is (line_fault at line) (λ after f found. lines_fault after lines f found)

pub texts_faults : (n : ℕ) (repeats : Bool) (text : List ℕ) (fault : OrderFault) → nodes_of_text n repeats text ≡ Err fault → IsOfLine fault
texts_faults n repeats text fault is =
    of_steps IsOfLine (after_lines node_judged nodes_ended (record { next = 1; state = no_node n repeats }) (lines_of text)) (λ (after : Progress NodesSoFar). nodes_ended after.state after.next) fault is (lines_fault (record { next = 1; state = no_node n repeats }) (lines_of text)) (λ after f found. cc)
