-- Bytes as numbers, and the bytes of one whole field.
use Rattle.std.proofs.Common.{◌≡◌, ℕ, ◌+◌, ◌%◌, ◌<◌, List, [], ◌∷◌, ◌++◌, length, get_or, All, inl, inr, Ok, refl, ap, ◌∙◌, append_assoc, arith}
use Rattle.std.specs.Int.{w32, w64, from_be_bytes}
use Rattle.std.proofs.Math.Nat.{mod-eq_of_lt}
use Rattle.std.proofs.lemmas.Bool.{eq-eqb, ne_eqb, cases_lt}
use Rattle.std.proofs.lemmas.Nat.{be_bytes_4, be_bytes_8}
use Rattle.std.proofs.lemmas.List.{length-append, get_or_default, get_or_past}
use Rattle.byteorder.specs.Endian.{big_bytes, big_number}
use Rattle.index_file.specs.declared.next.Next.{Next}
use Rattle.index_file.specs.declared.next.Next.TheVariants.{Letter, Version, Size, Node, Count, Position, Distance, Via, End}
use Rattle.index_file.specs.Judging.{width, after_whole, fed}

abbrev pub IsBytes : List ℕ → Type 0
IsBytes bytes = (i : ℕ) → get_or bytes i 0 < 256

pub All-from_bytes : (bytes : List ℕ) → IsBytes bytes → All (λ b. b < 256) bytes
All-from_bytes bytes fits k d within = omega (arith, fits k, get_or_default bytes k d 0 within)

pub bytes_from_All : (bytes : List ℕ) → All (λ b. b < 256) bytes → IsBytes bytes
bytes_from_All bytes fits i = elim (cases_lt i (length bytes)) [
  | inl inside ↦ fits i 0 inside
  | inr past ↦ omega (arith, get_or_past bytes i 0 past)
]

pub no_bytes : IsBytes []
no_bytes i = omega arith

-- ---- numbers

same_4 : (bs : List ℕ) → big_number 4 bs ≡ from_be_bytes w32 bs
same_4 bs = omega arith

same_8 : (bs : List ℕ) → big_number 8 bs ≡ from_be_bytes w64 bs
same_8 bs = omega arith

back_1 : (bs : List ℕ) → length bs ≡ 1 → IsBytes bs → big_bytes 1 (big_number 1 bs) ≡ bs
back_1 [] len fits = absurd (omega arith)
back_1 (b ∷ []) len fits = ap (λ c. c ∷ []) (ap (λ x. x % 256) (let e : big_number 1 (b ∷ []) ≡ b = omega arith in e) ∙ mod-eq_of_lt (fits 0))
back_1 (b ∷ c ∷ bs) len fits = absurd (omega arith)

-- a field's bytes are those of its number
pub bytes_of_field : (next : Next) (bs : List ℕ) → length bs ≡ width next → IsBytes bs → big_bytes (width next) (big_number (length bs) bs) ≡ bs
bytes_of_field Letter bs len fits = rw len (back_1 bs len fits)
bytes_of_field Version bs len fits = rw len (back_1 bs len fits)
bytes_of_field (Size traced) bs len fits = rw len (be_bytes_4 bs _ len fits (same_4 bs))
bytes_of_field (Node names) bs len fits = rw len (be_bytes_4 bs _ len fits (same_4 bs))
bytes_of_field (Count done) bs len fits = rw len (be_bytes_4 bs _ len fits (same_4 bs))
bytes_of_field (Position done part) bs len fits = rw len (be_bytes_4 bs _ len fits (same_4 bs))
bytes_of_field (Distance done part pos) bs len fits = rw len (be_bytes_8 bs _ len fits (same_8 bs))
bytes_of_field (Via done part e) bs len fits = rw len (be_bytes_4 bs _ len fits (same_4 bs))
bytes_of_field (End done) bs len fits = rw len (back_1 bs len fits)

-- ---- one field

gathered : (next : Next) (at : ℕ) (held bytes : List ℕ) → 0 < length bytes → length held + length bytes ≡ width next →
    fed (Ok (record { next = next; held = held; at = at })) bytes ≡ after_whole (record { next = next; held = held; at = at }) (held ++ bytes)
gathered next at held [] some long = absurd (omega arith)
gathered next at held (b ∷ []) some long = rw (eq-eqb (length held + 1) (width next) (omega arith)) refl
gathered next at held (b ∷ c ∷ bytes) some long =
    rw (ne_eqb (length held + 1) (width next) (λ same. omega arith))
    (gathered next at (held ++ b ∷ []) (c ∷ bytes) (omega arith) (omega (arith, length-append held (b ∷ []))) ∙ ap (after_whole (record { next = next; held = held; at = at })) (append_assoc held (b ∷ []) (c ∷ bytes)))

-- the bytes of a whole field make it whole
pub fed-field : (next : Next) (at : ℕ) (field : List ℕ) → length field ≡ width next →
    fed (Ok (record { next = next; held = []; at = at })) field ≡ after_whole (record { next = next; held = []; at = at }) field
fed-field next at field long = gathered next at [] field (some next long) (omega (arith, long))
  where
    some : (next : Next) → length field ≡ width next → 0 < length field
    some Letter long = omega arith
    some Version long = omega arith
    some (Size traced) long = omega arith
    some (Node names) long = omega arith
    some (Count done) long = omega arith
    some (Position done part) long = omega arith
    some (Distance done part pos) long = omega arith
    some (Via done part e) long = omega arith
    some (End done) long = omega arith

-- with bytes that the field was begun with
pub fed-rest_of_field : (next : Next) (at : ℕ) (held : List ℕ) (b : ℕ) → length held + 1 ≡ width next →
    fed (Ok (record { next = next; held = held; at = at })) (b ∷ []) ≡ after_whole (record { next = next; held = held; at = at }) (held ++ b ∷ [])
fed-rest_of_field next at held b long = gathered next at held (b ∷ []) (omega arith) (omega arith)

-- and one that is held back
pub fed-held : (next : Next) (at : ℕ) (held : List ℕ) (b : ℕ) → length held + 1 < width next →
    fed (Ok (record { next = next; held = held; at = at })) (b ∷ []) ≡ Ok (record { next = next; held = held ++ b ∷ []; at = at })
fed-held next at held b short = rw (ne_eqb (length held + 1) (width next) (λ same. omega arith)) refl
