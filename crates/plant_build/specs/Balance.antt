-- The rule of a deque of batches, over the batches that it holds and what each pass knows.
use Rattle.std.specs.Prelude.{◌≡◌, ℕ, ◌+◌, ◌≤◌, ◌==◌, true, false, List, [], ◌∷◌, ◌++◌, count_by, sum_by}
use Rattle.plant_build.specs.declared.rule.Known.{Known}

-- how often a number stands in a list
abbrev pub times : ℕ → List ℕ → ℕ
times x xs = count_by (λ y. y == x) xs

-- what the owner knows at first, and what is left of a pass that has come back
abbrev pub nothing : Known
nothing = record { put = []; got = []; lent = 0; back = 0; out = false }

-- what the owner knows, once it has put more
abbrev pub with_put : Known → List ℕ → Known
with_put v xs = record { put = v.put ++ xs; got = v.got; lent = v.lent; back = v.back; out = v.out }

-- what a pass knows, once more was taken with it
abbrev pub with_got : Known → List ℕ → Known
with_got v xs = record { put = v.put; got = v.got ++ xs; lent = v.lent; back = v.back; out = v.out }

-- what the owner knows, once it has lent a pass
abbrev pub with_lent : Known → Known
with_lent v = record { put = v.put; got = v.got; lent = v.lent + 1; back = v.back; out = v.out }

-- a pass that was lent just now
abbrev pub lent : Known
lent = record { put = []; got = []; lent = 0; back = 0; out = true }

-- what the owner knows, once a pass has come back
abbrev pub with_returned : Known → Known → Known
with_returned v w = record { put = v.put; got = v.got ++ w.got; lent = v.lent; back = v.back + 1; out = v.out }

-- how often a number was taken with these passes
abbrev pub got_by : ℕ → List Known → ℕ
got_by x passes = sum_by (λ v. times x v.got) passes

-- how many of these passes are lent and have not come back
abbrev pub out_by : List Known → ℕ
out_by passes = count_by (λ v. v.out) passes

-- with a pass that has come back nothing was taken since
abbrev pub AreIdle : List Known → Type 0
AreIdle [] = Unit {0}
AreIdle (v ∷ vs) = (v.out ≡ false → v.got ≡ []) × AreIdle vs

-- Each number was put as often as it was taken, with the owner's pass or another, or is still there. The owner knows how many passes are out
abbrev pub IsBalanced : List ℕ → List Known → Type 0
IsBalanced items [] = Unit {0}
IsBalanced items (owner ∷ others) =
    ((x : ℕ) → times x owner.put ≡ times x owner.got + got_by x others + times x items) × (owner.lent ≡ owner.back + out_by others) × AreIdle others

-- no more passes have come back than were lent. Where all have, what the owner put is what it knows to be taken, and what is still there
abbrev pub IsWhole : Known → List ℕ → Type 0
IsWhole v items = (v.back ≤ v.lent) × (v.lent ≡ v.back → (x : ℕ) → times x v.put ≡ times x v.got + times x items)
