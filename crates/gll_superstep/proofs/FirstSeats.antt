-- The seat of all workers, before they begin.
use Rattle.std.proofs.Common.{◌≡◌, ℕ, ◌<◌, Bool, true, false, refl, arith}
use Rattle.root_claims.specs.Seats.{Claimed, ClaimsId}
use Rattle.gll_superstep.specs.Workers.{IsFirstSeat}

not_true : (b : Bool) → (b ≡ true → ⊥) → b ≡ false
not_true true never = absurd (never refl)
not_true false never = refl

-- where a root is left, it isn't over
pub goes_on : (claims : ClaimsId) (first : ℕ) (seat : Claimed) → IsFirstSeat claims first seat → first < claims.n → seat.over ≡ false
goes_on claims first seat is below = not_true seat.over (λ ends. absurd (omega (arith, is.over ends, below)))
