-- How a reader answers a piece.
use Rattle.std.proofs.Common.{◌≡◌, ◌⊎◌, ℕ, List, [], Some, None, Result, Ok, Err, refl, sym, ap, ◌∙◌, inl, inr}
use Rattle.desk_io.specs.Reader.{TakesPiece}
use Rattle.index_file.specs.declared.fault.IndexFault.{IndexFault}
use Rattle.index_file.specs.declared.fault.IndexFault.TheVariants.{NoMemory}
use Rattle.index_file.specs.Judging.{Reached, fed, fault_of, end_of, fault_after, index_after}
use Rattle.index_file.specs.Gives.{Gives, answer_of}
use Rattle.index_file.specs.Cutting.{fed-append, fed-err, StandsAt-fault}

abbrev refused_with : IndexFault → Result Reached IndexFault
refused_with e = Err e

not_refused : (old : Result Reached IndexFault) (piece : List ℕ) (p : Reached) → fed old piece ≡ Ok p → fault_after old [] ≡ None
not_refused (Ok q) piece p led = refl
not_refused (Err e) piece p led = let stays : fed (Err e) piece ≡ Err e = fed-err e piece in absurd cc

-- a piece that is taken
pub TakesPiece-ok : (old : Result Reached IndexFault) (piece : List ℕ) (p : Reached) → fed old piece ≡ Ok p → TakesPiece fault_after index_after NoMemory old piece (Ok tt) (Ok p)
TakesPiece-ok old piece p led = (
  not_refused old piece p led,
  ap fault_of led,
  record {
    refuses = λ more. ap (λ r. fault_of (fed r more)) (sym led) ∙ ap fault_of (sym (fed-append old piece more));
    comes = λ more. ap (λ r. end_of (fed r more)) (sym led) ∙ ap end_of (sym (fed-append old piece more));
  },
)

fault_is : (old : Result Reached IndexFault) (e : IndexFault) → fault_of old ≡ Some e → old ≡ Err e
fault_is (Ok p) e is = absurd cc
fault_is (Err d) e is = cc

-- and one that is refused
pub TakesPiece-err : (old : Result Reached IndexFault) (piece : List ℕ) (e : IndexFault) → (e ≡ NoMemory) ⊎ (fed old piece ≡ Err e) → ((before : IndexFault) → old ≡ Err before → e ≡ before) → TakesPiece fault_after index_after NoMemory old piece (Err e) (Err e)
TakesPiece-err old piece e refused same =
    (elim refused [ inl none ↦ inl none | inr faults ↦ inr (ap fault_of faults) ], λ before is. same before (fault_is old before is), λ more. StandsAt-fault (Err e) more e (fed-err e more))

-- by what the code came to after the piece
pub TakesPiece-gives : (old r : Result Reached IndexFault) (piece : List ℕ) → Gives r (fed old piece) → ((before : IndexFault) → old ≡ Err before → r ≡ Err before) → TakesPiece fault_after index_after NoMemory old piece (answer_of r) r
TakesPiece-gives old (Ok p) piece gives same = TakesPiece-ok old piece p gives
TakesPiece-gives old (Err e) piece gives same = TakesPiece-err old piece e gives (λ before was. let stays : refused_with e ≡ refused_with before = same before was in same_error e before stays)
  where
    same_error : (x y : IndexFault) → refused_with x ≡ refused_with y → x ≡ y
    same_error x y same = cc
