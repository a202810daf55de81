-- Bytes without fault are the bytes of the fields that they lead to.
use Rattle.std.proofs.Common.{◌≡◌, ℕ, zero, suc, ◌+◌, ◌<◌, List, [], ◌∷◌, ◌++◌, length, All, Result, Ok, Err, refl, sym, ap, subst, ◌∙◌, inl, inr, append_assoc, arith}
use Rattle.std.proofs.lemmas.Bool.Decides.{eqb_tells}
use Rattle.std.proofs.lemmas.List.{length-append, append-nil, get_or_past}
use Rattle.byteorder.specs.Endian.{big_bytes, big_number}
use Rattle.index_file.specs.declared.fault.IndexFault.{IndexFault}
use Rattle.index_file.specs.declared.next.Next.{Next}
use Rattle.index_file.specs.declared.next.Next.TheVariants.{Letter, Version, Size, Node, Count, Position, Distance, Via, End}
use Rattle.index_file.specs.Judging.{Reached, ◌>>=◌, start, width, after_field, after_whole, after_byte, fed}
use Rattle.index_file.specs.Cutting.{fed-err}
use Rattle.index_file.specs.Sound.{IsSound, bytes_before}
use Rattle.index_file.proofs.Fields.{IsBytes, All-from_bytes, no_bytes, bytes_of_field}
use Rattle.index_file.proofs.SoundFields.{StandsFor, StandsFor-after_field}

-- the value of a step that did not fail
pub bind_ok : {A B : Type 0} (r : Result A IndexFault) (f : A → Result B IndexFault) (y : B) → (r >>= f) ≡ Ok y → (x : A) × (r ≡ Ok x) × (f x ≡ Ok y)
bind_ok (Ok x) f y is = (x, refl, is)
bind_ok (Err e) f y is = absurd cc

pub width-some : (next : Next) → 0 < width next
width-some Letter = omega arith
width-some Version = omega arith
width-some (Size traced) = omega arith
width-some (Node names) = omega arith
width-some (Count done) = omega arith
width-some (Position done part) = omega arith
width-some (Distance done part pos) = omega arith
width-some (Via done part e) = omega arith
width-some (End done) = omega arith

-- before any byte
pub IsSound-start : IsSound start
IsSound-start = record { fields = omega arith; held = omega arith; fits = All-from_bytes [] no_bytes; offset = refl }

-- a field that is whole and accepted
pub record Accepts (next : Next) (at : ℕ) (field : List ℕ) (new : Next) : Type 0 where
  pub sound : IsSound (record { next = new; held = []; at = at + length field })
  pub bytes_are : bytes_before (at + length field) new ≡ bytes_before at next ++ field

pub Accepts-field : (next : Next) (at : ℕ) (held field : List ℕ) (new : Next) → IsSound (record { next = next; held = held; at = at }) → IsBytes field → length field ≡ width next → after_field at next (big_number (length field) field) ≡ Ok new → Accepts next at field new
Accepts-field next at held field new sound bytes long is =
    let stands : StandsFor (at + length field) new (bytes_before at next ++ big_bytes (width next) (big_number (length field) field)) = subst (λ k. StandsFor (at + k) new (bytes_before at next ++ big_bytes (width next) (big_number (length field) field))) (sym long) (StandsFor-after_field at next (big_number (length field) field) new sound.fields is) in
    let bytes_are : bytes_before (at + length field) new ≡ bytes_before at next ++ field = stands.bytes_are ∙ ap (λ t. bytes_before at next ++ t) (bytes_of_field next field long bytes) in
    record {
      sound = record { fields = stands.sound; held = width-some new; fits = All-from_bytes [] no_bytes; offset = omega (arith, sound.offset, ap length bytes_are, length-append (bytes_before at next) field) };
      bytes_are = bytes_are;
    }

-- ---- any bytes

-- the bytes that lead here
abbrev pub bytes_until : Reached → List ℕ
bytes_until p = bytes_before p.at p.next ++ p.held

-- the bytes led from p to q
pub record Leads (p : Reached) (bytes : List ℕ) (q : Reached) : Type 0 where
  pub sound : IsSound q
  pub held : IsBytes q.held
  pub bytes_are : bytes_until q ≡ bytes_until p ++ bytes

IsBytes-push : (held : List ℕ) (b : ℕ) → IsBytes held → b < 256 → IsBytes (held ++ b ∷ [])
IsBytes-push [] b bytes small zero = small
IsBytes-push [] b bytes small (suc i) = omega (arith, get_or_past (b ∷ []) (suc i) 0 (omega arith))
IsBytes-push (x ∷ held) b bytes small zero = bytes 0
IsBytes-push (x ∷ held) b bytes small (suc i) = IsBytes-push held b (λ k. bytes (suc k)) small i

abbrev reached : {A : Type 0} → A → Result A IndexFault
reached x = Ok x

pub ok_is : {A : Type 0} (x y : A) → reached x ≡ reached y → x ≡ y
ok_is x y e = cc

Leads-byte : (p q : Reached) (b : ℕ) → IsSound p → IsBytes p.held → b < 256 → after_byte p b ≡ Ok q → Leads p (b ∷ []) q
Leads-byte p q b sound bytes small is =
    elim (eqb_tells (length p.held + 1) (width p.next)) [
      | inl whole ↦
          let field_is : after_whole p (p.held ++ b ∷ []) ≡ Ok q = rw whole.0 at is in
          let step = bind_ok (after_field p.at p.next (big_number (length (p.held ++ b ∷ [])) (p.held ++ b ∷ []))) (λ next. Ok (record { next = next; held = []; at = p.at + length (p.held ++ b ∷ []) })) q field_is in
          let field = Accepts-field p.next p.at p.held (p.held ++ b ∷ []) step.0 sound (IsBytes-push p.held b bytes small) (omega (arith, length-append p.held (b ∷ []), whole.1)) step.1 in
          let same : record { next = step.0; held = []; at = p.at + length (p.held ++ b ∷ []) } ≡ q = ok_is _ _ step.2 in
          subst (Leads p (b ∷ [])) same (record {
            sound = field.sound;
            held = no_bytes;
            bytes_are = append-nil (bytes_before (p.at + length (p.held ++ b ∷ [])) step.0) ∙ field.bytes_are ∙ sym (append_assoc (bytes_before p.at p.next) p.held (b ∷ []));
          })
      | inr more ↦
          let held_is : reached (record { next = p.next; held = p.held ++ b ∷ []; at = p.at }) ≡ Ok q = rw more.0 at is in
          subst (Leads p (b ∷ [])) (ok_is _ _ held_is) (record {
            sound = record { fields = sound.fields; held = omega (arith, length-append p.held (b ∷ []), sound.held, more.1); fits = All-from_bytes (p.held ++ b ∷ []) (IsBytes-push p.held b bytes small); offset = sound.offset };
            held = IsBytes-push p.held b bytes small;
            bytes_are = sym (append_assoc (bytes_before p.at p.next) p.held (b ∷ []));
          })
    ]

go_on : (p q : Reached) (b : ℕ) (bytes : List ℕ) → ((next : Reached) → after_byte p b ≡ Ok next → fed (Ok next) bytes ≡ Ok q → Leads p (b ∷ bytes) q) → (r : Result Reached IndexFault) → after_byte p b ≡ r → fed r bytes ≡ Ok q → Leads p (b ∷ bytes) q
go_on p q b bytes step (Ok next) first rest = step next first rest
go_on p q b bytes step (Err e) first rest = let stays : fed (Err e) bytes ≡ Err e = fed-err e bytes in absurd cc

Leads-then : (p next q : Reached) (b : ℕ) (bytes : List ℕ) → Leads p (b ∷ []) next → Leads next bytes q → Leads p (b ∷ bytes) q
Leads-then p next q b bytes one others = record {
  sound = others.sound;
  held = others.held;
  bytes_are = others.bytes_are ∙ ap (λ t. t ++ bytes) one.bytes_are ∙ append_assoc (bytes_until p) (b ∷ []) bytes;
}

-- bytes without fault are those of the fields that they lead to
pub Leads-bytes : (bytes : List ℕ) (p q : Reached) → IsSound p → IsBytes p.held → All (λ b. b < 256) bytes → fed (Ok p) bytes ≡ Ok q → Leads p bytes q
Leads-bytes [] p q sound held small is =
    subst (Leads p []) (ok_is p q is) (record { sound = sound; held = held; bytes_are = sym (append-nil (bytes_until p)) })
Leads-bytes (b ∷ bytes) p q sound held small is =
    go_on p q b bytes (λ next first rest.
    let one = Leads-byte p next b sound held (small 0 0 (omega arith)) first in
    Leads-then p next q b bytes one (Leads-bytes bytes next q one.sound one.held (λ k d within. small (suc k) d (omega arith)) rest))
    (after_byte p b) refl is
