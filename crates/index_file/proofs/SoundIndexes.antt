-- What is judged to be an index is well formed, whatever numbers stand for the bytes.
use Rattle.std.proofs.Common.{◌≡◌, ℕ, ◌+◌, List, [], ◌∷◌, ◌++◌, length, Result, Ok, Err, refl, subst, inl, inr, arith}
use Rattle.std.proofs.lemmas.Bool.Decides.{eqb_tells}
use Rattle.std.proofs.lemmas.List.{length-append}
use Rattle.byteorder.specs.Endian.{big_number}
use Rattle.hub_index.specs.WellFormed.{IsWellFormed}
use Rattle.index_file.specs.declared.fault.IndexFault.{IndexFault}
use Rattle.index_file.specs.declared.next.Next.TheVariants.{End}
use Rattle.index_file.specs.Judging.{Reached, start, width, after_field, after_whole, after_byte, fed, end_of, index_of}
use Rattle.index_file.specs.Cutting.{fed-err}
use Rattle.index_file.specs.Sound.{IsSoundNext}
use Rattle.index_file.specs.Stored.{without_vias, IsStored}
use Rattle.index_file.specs.declared.stored_index.StoredIndex.{StoredIndex}
use Rattle.index_file.specs.declared.stored_index.StoredIndex.TheVariants.{Plain, Traced}
use Rattle.index_file.proofs.SoundBytes.{bind_ok, ok_is}
use Rattle.index_file.proofs.SoundFields.{StandsFor-after_field}
use Rattle.index_file.proofs.Layouts.{EndsAt, ends_there, IsStored-rows}

abbrev reached : Reached → Result Reached IndexFault
reached p = Ok p

-- one number more
sound_byte : (p q : Reached) (b : ℕ) → IsSoundNext p.at p.next → after_byte p b ≡ Ok q → IsSoundNext q.at q.next
sound_byte p q b sound is =
    elim (eqb_tells (length p.held + 1) (width p.next)) [
      | inl whole ↦
          let field_is : after_whole p (p.held ++ b ∷ []) ≡ Ok q = rw whole.0 at is in
          let step = bind_ok (after_field p.at p.next (big_number (length (p.held ++ b ∷ [])) (p.held ++ b ∷ []))) (λ next. Ok (record { next = next; held = []; at = p.at + length (p.held ++ b ∷ []) })) q field_is in
          let stands = StandsFor-after_field p.at p.next (big_number (length (p.held ++ b ∷ [])) (p.held ++ b ∷ [])) step.0 sound step.1 in
          let long : width p.next ≡ length (p.held ++ b ∷ []) = omega (arith, length-append p.held (b ∷ []), whole.1) in
          let same : record { next = step.0; held = []; at = p.at + length (p.held ++ b ∷ []) } ≡ q = ok_is _ _ step.2 in
          subst (λ (r : Reached). IsSoundNext r.at r.next) same (subst (λ k. IsSoundNext (p.at + k) step.0) long stands.sound)
      | inr more ↦
          let held_is : reached (record { next = p.next; held = p.held ++ b ∷ []; at = p.at }) ≡ Ok q = rw more.0 at is in
          subst (λ (r : Reached). IsSoundNext r.at r.next) (ok_is _ _ held_is) sound
    ]

-- any numbers more
sound_bytes : (bytes : List ℕ) (p q : Reached) → IsSoundNext p.at p.next → fed (Ok p) bytes ≡ Ok q → IsSoundNext q.at q.next
sound_bytes [] p q sound is = subst (λ (r : Reached). IsSoundNext r.at r.next) (ok_is p q is) sound
sound_bytes (b ∷ bytes) p q sound is = go_on q bytes (λ next first rest. sound_bytes bytes next q (sound_byte p next b sound first) rest) (after_byte p b) refl is
  where
    go_on : (last : Reached) (more : List ℕ) → ((next : Reached) → after_byte p b ≡ Ok next → fed (Ok next) more ≡ Ok last → IsSoundNext last.at last.next) → (r : Result Reached IndexFault) → after_byte p b ≡ r → fed r more ≡ Ok last → IsSoundNext last.at last.next
    go_on last more step (Ok next) first rest = step next first rest
    go_on last more step (Err e) first rest = let stays : fed (Err e) more ≡ Err e = fed-err e more in absurd cc

-- all of them
pub IsStored-index_of : (bytes : List ℕ) (stored : StoredIndex) → index_of bytes ≡ Ok stored → IsStored stored
IsStored-index_of bytes stored is = go (fed (Ok start) bytes) refl is
  where
    at_end : (p : Reached) (at : EndsAt p.next stored) → IsSoundNext p.at p.next → IsStored stored
    at_end p at sound =
        let fields : IsSoundNext p.at (End at.done) = subst (IsSoundNext p.at) at.end sound in
        subst IsStored at.is (IsStored-rows at.done fields.0 fields.1)

    go : (r : Result Reached IndexFault) → fed (Ok start) bytes ≡ r → end_of r ≡ Ok stored → IsStored stored
    go (Ok p) led ends = at_end p (ends_there (p.at + length p.held) p.next stored ends) (sound_bytes bytes start p (omega arith) led)
    go (Err e) led ends = absurd cc

-- without its vias
pub IsWellFormed-index_of : (bytes : List ℕ) (stored : StoredIndex) → index_of bytes ≡ Ok stored → IsWellFormed (without_vias stored).order (without_vias stored).rows
IsWellFormed-index_of bytes stored is = well_formed stored (IsStored-index_of bytes stored is)
  where
    well_formed : (stored : StoredIndex) → IsStored stored → IsWellFormed (without_vias stored).order (without_vias stored).rows
    well_formed (Plain i) is = is
    well_formed (Traced t) is = is.0
