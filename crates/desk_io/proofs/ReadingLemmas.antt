-- How the steps of a reading join.
use Rattle.std.proofs.Common.{◌≡◌, ℕ, ◌+◌, ◌<◌, ◌≤◌, ◌≢◌, zero, suc, get_or, take, List, [], ◌∷◌, ◌++◌, length, Option, Some, None, Result, Ok, Err, IfSome, refl, sym, ◌∙◌, ap, subst, append_assoc, length-append, arith}
use Rattle.std.specs.List.{concat}
use Rattle.std.proofs.lemmas.List.Folds.{concat-append}
use Rattle.std.proofs.lemmas.List.{append-nil}
use Rattle.desk_io.specs.Contents.{Contents, Tells}
use Rattle.desk_io.specs.Feed.{TakesAll}
use Rattle.desk_io.specs.HandOn.{Moves, RefusesNext}
use Rattle.desk_io.specs.Reading.{piece_limit, Reads, ReadsToEnd, HandsOn, HandsOnAll, HandsOnUntil, OnFailed, OnNoMemory, IfRefused}
use Rattle.desk_io.specs.declared.read_all.ReadEnd.{ReadEnd}
use Rattle.desk_io.specs.declared.read_all.ReadEnd.TheVariants.{Failed, TooLong, NoMemory, Refused}

-- what is read first, and what is read next
Reads-append : (xs ys : List ℕ) (a b c : Contents) → Reads xs a b → Reads ys b c → Reads (xs ++ ys) a c
Reads-append xs ys a b c first next = (first.0 ∙ ap (λ r. xs ++ r) next.0 ∙ sym (append_assoc xs ys c.rest), next.1 ∙ ap (λ (x : Contents). record x { rest = c.rest }) first.1)

-- the same of what a desk tells
pub told-append : (xs ys : List ℕ) (old mid new : Option Contents) → Tells old mid (Reads xs) → Tells mid new (Reads ys) → Tells old new (Reads (xs ++ ys))
told-append xs ys None None None first next = tt
told-append xs ys None None (Some c) first next = next
told-append xs ys None (Some b) new first next = absurd first
told-append xs ys (Some a) None new first next = absurd first
told-append xs ys (Some a) (Some b) None first next = next
told-append xs ys (Some a) (Some b) (Some c) first next = Reads-append xs ys a b c first next

-- what was read was the rest of the input, where nothing is left
told_at_end : (xs : List ℕ) (old new : Option Contents) → Tells old new (Reads xs) → IfSome new (λ b. b.rest ≡ []) → Tells old new (ReadsToEnd xs)
told_at_end xs None None first end = tt
told_at_end xs None (Some b) first end = first
told_at_end xs (Some a) None first end = first
told_at_end xs (Some a) (Some b) first end = (first.0 ∙ ap (λ r. xs ++ r) end ∙ append-nil xs, first.1 ∙ ap (λ r. record a { rest = r }) end)

-- an input that was at its end has nothing left after a read
pub at_end_after : (xs : List ℕ) (old new : Option Contents) → Tells old new (Reads xs) → IfSome old (λ a. a.rest ≡ []) → IfSome new (λ b. b.rest ≡ [])
at_end_after xs None None read end = tt
at_end_after xs None (Some b) read end = absurd read
at_end_after xs (Some a) None read end = tt
at_end_after [] (Some a) (Some b) read end = sym read.0 ∙ end
at_end_after (x ∷ xs) (Some a) (Some b) read end = let none : x ∷ (xs ++ b.rest) ≡ [] = sym read.0 ∙ end in cc

-- what is told of some bytes is told of equal ones
pub same_bytes : {xs ys : List ℕ} (old new : Option Contents) → xs ≡ ys → Tells old new (Reads xs) → Tells old new (Reads ys)
same_bytes old new same told = subst (λ bs. Tells old new (Reads bs)) same told

-- what one byte at most takes off a buffer of one, where it takes some
pub one_taken : (n : ℕ) (xs : List ℕ) → n ≢ 0 → n ≤ 1 → length xs ≡ 1 → take n xs ≡ get_or xs 0 0 ∷ []
one_taken zero xs some most one = absurd (some refl)
one_taken (suc zero) [] some most one = absurd (omega arith)
one_taken (suc zero) (x ∷ xs) some most one = refl
one_taken (suc (suc n)) xs some most one = absurd (omega arith)

module _ {F E : Type 0} (gives : F → List ℕ → Result (Unit {0}) E → F → Type 0) where
  -- the feed takes some pieces, and then others
  TakesAll-append : (ps qs : List (List ℕ)) (f m l : F) → TakesAll gives f ps m → TakesAll gives m qs l → TakesAll gives f (ps ++ qs) l
  TakesAll-append [] qs f m l first next = subst (λ x. TakesAll gives x qs l) first next
  TakesAll-append (p ∷ ps) qs f m l first next = (first.0, first.1, first.2, TakesAll-append ps qs first.0 m l first.3 next)

  -- one piece
  pub one_piece : (f l : F) (old new : Option Contents) (piece : List ℕ) (size : ℕ) → 0 < size → length piece ≡ size → (answer : Result (Unit {0}) E) → answer ≡ Ok tt → gives f piece answer l → Tells old new (Reads piece) → Moves gives f l old new size
  one_piece f l old new piece size some size_is answer is_ok taken read = record {
    pieces = piece ∷ [];
    taken = (l, omega (arith, some, size_is), subst (λ r. gives f piece r l) is_ok taken, refl);
    size_is = ap length (append-nil piece) ∙ size_is;
    read = same_bytes old new (sym (append-nil piece)) read;
  }

  -- some pieces, and then others
  pub Moves-append : (f m l : F) (old mid new : Option Contents) (j k : ℕ) → Moves gives f m old mid j → Moves gives m l mid new k → Moves gives f l old new (j + k)
  Moves-append f m l old mid new j k first next = record {
    pieces = first.pieces ++ next.pieces;
    taken = TakesAll-append first.pieces next.pieces f m l first.taken next.taken;
    size_is = ap length (concat-append first.pieces next.pieces) ∙ length-append (concat first.pieces) (concat next.pieces) ∙ ap (λ n. n + length (concat next.pieces)) first.size_is ∙ ap (λ n. j + n) next.size_is;
    read = same_bytes old new (sym (concat-append first.pieces next.pieces)) (told-append (concat first.pieces) (concat next.pieces) old mid new first.read next.read);
  }

  -- what moved is within the limit
  pub HandsOn-from_moves : (limit : ℕ) (f l : F) (old new : Option Contents) (size : ℕ) → Moves gives f l old new size → size ≤ limit → HandsOn gives limit f l old new
  HandsOn-from_moves limit f l old new size moved within = record { pieces = moved.pieces; taken = moved.taken; within = subst (λ n. n ≤ limit) (sym moved.size_is) within; read = moved.read }

  -- and nothing is left
  pub HandsOnAll-from_moves : (limit : ℕ) (f l : F) (old new : Option Contents) (size : ℕ) → Moves gives f l old new size → size ≤ limit → IfSome new (λ b. b.rest ≡ []) → HandsOnAll gives limit f l old new
  HandsOnAll-from_moves limit f l old new size moved within end = record { pieces = moved.pieces; taken = moved.taken; within = subst (λ n. n ≤ limit) (sym moved.size_is) within; read = told_at_end (concat moved.pieces) old new moved.read end }

  -- and the feed refused the next piece
  pub HandsOnUntil-from_moves : (limit : ℕ) (fault : E) (f m l : F) (old mid new : Option Contents) (size room : ℕ) → Moves gives f m old mid size → size + room ≤ limit → room ≤ piece_limit → RefusesNext gives fault m l mid new room → HandsOnUntil gives limit fault f l old new
  HandsOnUntil-from_moves limit fault f m l old mid new size room moved within short next = record {
    pieces = moved.pieces;
    last = next.piece;
    middle = m;
    taken = moved.taken;
    refused = next.refused;
    nonempty = next.nonempty;
    short = omega (arith, short, next.within);
    within = omega (arith, within, next.within, moved.size_is, length-append (concat moved.pieces) next.piece);
    read = told-append (concat moved.pieces) next.piece old mid new moved.read next.read;
  }

-- a clause on an error of one step, weakened to the whole
module _ {E : Type 0} {P Q : Type 0} where
  pub OnFailed-at_err : (end : ReadEnd E) → OnFailed {T = ℕ} (Err end) P → (P → Q) → OnFailed {T = Unit {0}} (Err end) Q
  OnFailed-at_err Failed h more = more h
  OnFailed-at_err TooLong h more = tt
  OnFailed-at_err NoMemory h more = tt
  OnFailed-at_err (Refused f) h more = tt

  pub OnNoMemory-at_err : (end : ReadEnd E) → OnNoMemory {T = ℕ} (Err end) P → (P → Q) → OnNoMemory {T = Unit {0}} (Err end) Q
  OnNoMemory-at_err Failed h more = tt
  OnNoMemory-at_err TooLong h more = tt
  OnNoMemory-at_err NoMemory h more = more h
  OnNoMemory-at_err (Refused f) h more = tt

module _ {E : Type 0} {P Q : E → Type 0} where
  pub IfRefused-at_err : (end : ReadEnd E) → IfRefused {T = ℕ} (Err end) P → ((fault : E) → P fault → Q fault) → IfRefused {T = Unit {0}} (Err end) Q
  IfRefused-at_err Failed h more = tt
  IfRefused-at_err TooLong h more = tt
  IfRefused-at_err NoMemory h more = tt
  IfRefused-at_err (Refused f) h more = more f h
