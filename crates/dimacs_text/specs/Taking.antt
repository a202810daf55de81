-- How one who judges the lines of a counted text answers.
use Rattle.std.specs.Prelude.{◌≡◌, ℕ, List, Result, Ok, Err}
use Rattle.dimacs_text.specs.Counted.{kept}
use Rattle.dimacs_text.specs.declared.fault.TextKind.{TextKind}
use Rattle.dimacs_text.specs.declared.untaken.Untaken.{Untaken}
use Rattle.dimacs_text.specs.declared.untaken.Untaken.TheVariants.{Faulty, NoMemory}

-- with what is judged, or its fault, but for want of memory; `view` is what an answer stands for
abbrev pub Gives : {A X : Type 0} → (X → A) → Result A TextKind → Result X Untaken → Type 0
Gives view judged (Ok x) = judged ≡ Ok (view x)
Gives view judged (Err (Faulty kind)) = judged ≡ Err kind
Gives view judged (Err NoMemory) = Unit {0}

-- the same of numbers, which are kept
abbrev pub GivesKept : {X : Type 0} → (X → List ℕ) → Result (List ℕ) TextKind → Result X Untaken → Type 0
GivesKept view judged (Ok x) = (values : List ℕ) × (judged ≡ Ok values) × (view x ≡ kept values)
GivesKept view judged (Err (Faulty kind)) = judged ≡ Err kind
GivesKept view judged (Err NoMemory) = Unit {0}
