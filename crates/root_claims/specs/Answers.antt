-- What a draw answers.
use Rattle.std.specs.Prelude.{ℕ, Bool, true, false}
use Rattle.root_claims.specs.declared.claim.Claim.{Claim}
use Rattle.root_claims.specs.declared.claim.Claim.TheVariants.{Root, End}

abbrev pub is_end : Claim → Bool
is_end (Root p) = false
is_end End = true

-- of a root, the fact holds of its position
abbrev pub IfRoot : Claim → (ℕ → Type 0) → Type 0
IfRoot (Root p) P = P p
IfRoot End P = Unit {0}

-- at the end the fact holds
abbrev pub IfEnd : Claim → Type 0 → Type 0
IfEnd (Root p) P = Unit {0}
IfEnd End P = P
