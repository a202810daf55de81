-- However bytes are cut, they lead to the same.
use Rattle.std.proofs.Common.{◌≡◌, ℕ, List, [], ◌∷◌, ◌++◌, Some, Result, Ok, Err, refl, ap, ◌∙◌}
use Rattle.desk_io.specs.Reader.{StandsAt}
use Rattle.index_file.specs.declared.fault.IndexFault.{IndexFault}
use Rattle.index_file.specs.Judging.{Reached, ◌>>=◌, after_byte, fed, fault_of, fault_after, index_after}

-- bytes after bytes
pub fed-append : (reached : Result Reached IndexFault) (xs ys : List ℕ) → fed reached (xs ++ ys) ≡ fed (fed reached xs) ys
fed-append reached [] ys = refl
fed-append reached (b ∷ xs) ys = fed-append (reached >>= λ p. after_byte p b) xs ys

-- a fault stays
pub fed-err : (e : IndexFault) (bytes : List ℕ) → fed (Err e) bytes ≡ Err e
fed-err e [] = refl
fed-err e (b ∷ bytes) = fed-err e bytes

fault_is : (reached : Result Reached IndexFault) (e : IndexFault) → fault_of reached ≡ Some e → reached ≡ Err e
fault_is (Ok p) e is = cc
fault_is (Err d) e is = cc

-- bytes that lead to a fault lead to it with more after them
pub StandsAt-fault : (reached : Result Reached IndexFault) (bytes : List ℕ) (e : IndexFault) → fed reached bytes ≡ Err e → StandsAt fault_after index_after reached bytes e
StandsAt-fault reached bytes e is = rw is (refl, refl)

pub faults_last : (reached : Result Reached IndexFault) (bytes more : List ℕ) (e : IndexFault) → fault_after reached bytes ≡ Some e → StandsAt fault_after index_after reached (bytes ++ more) e
faults_last reached bytes more e is =
    let stays : fed reached (bytes ++ more) ≡ Err e = fed-append reached bytes more ∙ ap (λ r. fed r more) (fault_is (fed reached bytes) e is) ∙ fed-err e more in
    StandsAt-fault reached (bytes ++ more) e stays
