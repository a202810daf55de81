-- Pieces that are written one after another.
use Rattle.std.proofs.Common.{◌≡◌, ◌∙◌, ℕ, ◌+◌, ◌<◌, ◌≤◌, List, ◌++◌, Vec, Global, length, take, drop, get_or, refl, sym, ap, subst, append_assoc, append-nil}
use Rattle.std.specs.Prelude.{flat_map, Option, Some, None}
use Rattle.std.proofs.Math.Seq.{take-append_seam}
use Rattle.std.proofs.lemmas.List.{drop_all, drop_more, take-append-drop}
use Rattle.desk_io.specs.Contents.{Contents, Tells, IsSteady}
use Rattle.desk_io.specs.Takes.{Takes}
use Rattle.desk_io.specs.declared.write_out.Out.{Out}
use Rattle.desk_io.specs.declared.write_out.Out.TheVariants.{File, Said}
use Rattle.desk_io.proofs.TakesLemmas.{taken-append}
use Rattle.chl_inputs.proofs.ToldChanges.{chained, retold}

-- the bytes of a piece
abbrev pub bytes_of : Vec ℕ Global → List ℕ
bytes_of piece = piece.items

-- a desk that takes bytes stays steady
pub steady_after : (out : Out) (bytes : List ℕ) (old new : Option Contents) → Tells old new (Takes out bytes) → IsSteady old → IsSteady new
steady_after out bytes None new taken steady = absurd steady
steady_after out bytes (Some a) None taken steady = absurd taken
steady_after File bytes (Some a) (Some b) taken steady = subst (λ x. IsSteady (Some x)) (sym taken) steady
steady_after Said bytes (Some a) (Some b) taken steady = subst (λ x. IsSteady (Some x)) (sym taken) steady

module _ (out : Out) (whole : List ℕ) where
  -- a prefix of the bytes was taken
  abbrev pub TakesPart : Contents → Contents → Type 0
  TakesPart a b = (k : ℕ) × Takes out (take k whole) a b

  -- these bytes were taken first, and then a prefix of a piece
  pub part_taken : (put piece rest : List ℕ) → whole ≡ put ++ (piece ++ rest) → (old mid new : Option Contents) → Tells old mid (Takes out put) → Tells mid new (λ a b. (k : ℕ) × Takes out (take k piece) a b) → Tells old new TakesPart
  part_taken put piece rest whole_is old mid new first next = chained old mid new first next (λ a b c was more.
      let so_far = put ++ take more.0 piece in
      let cut : whole ≡ so_far ++ (drop more.0 piece ++ rest) = whole_is ∙ ap (λ xs. put ++ (xs ++ rest)) (sym (take-append-drop more.0 piece)) ∙ ap (λ xs. put ++ xs) (append_assoc (take more.0 piece) (drop more.0 piece) rest) ∙ sym (append_assoc put (take more.0 piece) (drop more.0 piece ++ rest)) in
      let same : so_far ≡ take (length so_far) whole = sym (ap (take (length so_far)) cut ∙ take-append_seam so_far (drop more.0 piece ++ rest)) in
      (length so_far, taken-append out put (take more.0 piece) (take (length so_far) whole) same (Some a) (Some b) (Some c) was more.1))

  -- of the first piece
  pub first_part_taken : (first rest : List ℕ) → whole ≡ first ++ rest → (old new : Option Contents) → Tells old new (λ a b. (k : ℕ) × Takes out (take k first) a b) → Tells old new TakesPart
  first_part_taken first rest whole_is old new next = retold old new next (λ a b more.
      let cut : whole ≡ take more.0 first ++ (drop more.0 first ++ rest) = whole_is ∙ ap (λ xs. xs ++ rest) (sym (take-append-drop more.0 first)) ∙ append_assoc (take more.0 first) (drop more.0 first) rest in
      let same : take more.0 first ≡ take (length (take more.0 first)) whole = sym (ap (take (length (take more.0 first))) cut ∙ take-append_seam (take more.0 first) (drop more.0 first ++ rest)) in
      (length (take more.0 first), subst (λ bytes. Takes out bytes a b) same more.1))

  module _ (others : List (Vec ℕ Global)) where
    -- all bytes before those of the pieces after the first i of the others were taken
    pub record HasTaken (i : ℕ) (old new : Option Contents) : Type 0 where
      pub put : List ℕ
      pub taken : Tells old new (Takes out put)
      pub rest : whole ≡ put ++ flat_map bytes_of (drop i others)

    -- what is left from one of the pieces on
    left_from : (i : ℕ) (d : Vec ℕ Global) → i < length others → flat_map bytes_of (drop i others) ≡ bytes_of (get_or others i d) ++ flat_map bytes_of (drop (i + 1) others)
    left_from i d within = ap (flat_map bytes_of) (drop_more others i d within)

    pub HasTaken-step : (i : ℕ) (d : Vec ℕ Global) (piece : List ℕ) (old mid new : Option Contents) → HasTaken i old mid → i < length others → bytes_of (get_or others i d) ≡ piece → Tells mid new (Takes out piece) → HasTaken (i + 1) old new
    HasTaken-step i d piece old mid new was within is next = record {
      put = was.put ++ piece;
      taken = taken-append out was.put piece (was.put ++ piece) refl old mid new was.taken next;
      rest = was.rest ∙ ap (λ xs. was.put ++ xs) (left_from i d within ∙ ap (λ xs. xs ++ flat_map bytes_of (drop (i + 1) others)) is) ∙ sym (append_assoc was.put piece (flat_map bytes_of (drop (i + 1) others)));
    }

    pub HasTaken-part : (i : ℕ) (d : Vec ℕ Global) (piece : List ℕ) (old mid new : Option Contents) → HasTaken i old mid → i < length others → bytes_of (get_or others i d) ≡ piece → Tells mid new (λ a b. (k : ℕ) × Takes out (take k piece) a b) → Tells old new TakesPart
    HasTaken-part i d piece old mid new was within is next =
        part_taken was.put piece (flat_map bytes_of (drop (i + 1) others)) (was.rest ∙ ap (λ xs. was.put ++ xs) (left_from i d within ∙ ap (λ xs. xs ++ flat_map bytes_of (drop (i + 1) others)) is)) old mid new was.taken next

    pub HasTaken-all : (i : ℕ) (old new : Option Contents) → HasTaken i old new → length others ≤ i → Tells old new (Takes out whole)
    HasTaken-all i old new was all =
        let none : whole ≡ was.put = was.rest ∙ ap (λ xs. was.put ++ flat_map bytes_of xs) (drop_all i others all) ∙ append-nil was.put in
        retold old new was.taken (λ a b taken. subst (λ bytes. Takes out bytes a b) (sym none) taken)
