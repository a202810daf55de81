-- Lists of hits that stand beside their sources, in parts or one by one.
use Rattle.std.specs.Prelude.{Result, Ok, Err, IfOk}
use Rattle.std.specs.declared.alloc.AllocError.{AllocError}
use Rattle.std.specs.List.{AllZip}
use Rattle.std.proofs.Common.{List, [], ◌∷◌, ◌++◌, flat_map, sym, subst}
use Rattle.hub_query.specs.Parts.{AreJoined}

module _ {X Y : Type 0} (R : X → Y → Type 0) where
  AllZip-both : (xs us : List X) (ys vs : List Y) → AllZip R xs ys → AllZip R us vs → AllZip R (xs ++ us) (ys ++ vs)
  AllZip-both [] us [] vs h rest = rest
  AllZip-both [] us (y ∷ ys) vs h rest = absurd h
  AllZip-both (x ∷ xs) us [] vs h rest = absurd h
  AllZip-both (x ∷ xs) us (y ∷ ys) vs h rest = (h.0, AllZip-both xs us ys vs h.1 rest)

  -- one more on each side
  pub AllZip-one_more : (xs : List X) (ys : List Y) (x : X) (y : Y) → AllZip R xs ys → R x y → AllZip R (xs ++ x ∷ []) (ys ++ y ∷ [])
  AllZip-one_more xs ys x y h this = AllZip-both xs (x ∷ []) ys (y ∷ []) h (this, tt)

  -- the parts side by side have what the whole has
  pub AllZip-of_parts : (parts : List (List X)) (results : List (Result (List Y) AllocError)) (whole : List Y) → AllZip (λ xs r. IfOk r (AllZip R xs)) parts results → AreJoined (λ (part : List Y). part) results whole → AllZip R (flat_map (λ l. l) parts) whole
  AllZip-of_parts [] [] whole h joined = subst (AllZip R []) (sym joined) tt
  AllZip-of_parts [] (r ∷ results) whole h joined = absurd h
  AllZip-of_parts (xs ∷ parts) [] whole h joined = absurd h
  AllZip-of_parts (xs ∷ parts) (Err e ∷ results) whole h joined = absurd joined
  AllZip-of_parts (xs ∷ parts) (Ok ys ∷ results) whole h joined =
      subst (AllZip R (xs ++ flat_map (λ l. l) parts)) (sym joined.1) (AllZip-both xs (flat_map (λ l. l) parts) ys joined.0 h.0 (AllZip-of_parts parts results joined.0 h.1 joined.2))
