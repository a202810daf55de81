-- The numbers of what is asked for are within their limits.
use Rattle.std.proofs.Common.{◌≡◌, ◌≤◌, refl, subst, codes, ℕ, Bool, true, false, List, [], ◌∷◌, Option, Some, None, cond, option_map}
use Rattle.std.specs.Prelude.{◌&&◌, IfSome, nat_le, option_and_then}
use Rattle.std.specs.Option.{option_zip}
use Rattle.std.specs.Str.{bytes_eq}
use Rattle.std.proofs.lemmas.Bool.{leb-true}
use Rattle.clap.specs.Words.{Kinds, Row, Text, fault_of, subcommand_of}
use Rattle.chl_words.specs.Asking.{◌&◌, AreWithinLimits, IsWithinLimits, Values, any_number_of, asked_by, asked_in, asked_of, audit_of, build_of, construction_of, degree_of, greatest_seed, grid_of, list_of, longest_side, most_planted, most_points, most_roots, most_workers, near_of, number_in, opening_of, path_of, query_of, rank_of, solve_of, trace_of, unless_refused, upgrade_of, values_in, within}
use Rattle.chl_words.specs.Literal.{program}
use Rattle.chl_words.specs.declared.asked.Asked.{Asked}
use Rattle.chl_words.specs.declared.asked.Asked.TheVariants.{List as ListRows, Build, Solve, Query, Path, Trace, Near, Audit, Upgrade, Open, Degree, Rank, Grid}
use Rattle.chl_words.specs.declared.asked.Construction.{Construction}
use Rattle.chl_words.specs.declared.asked.Version.{Version}

anything : {A : Type 0} (a : Option A) → IfSome a (λ _. Unit {0})
anything None = tt
anything (Some x) = tt

zipped : {A B : Type 0} (P : A → Type 0) (Q : B → Type 0) (a : Option A) (b : Option B) → IfSome a P → IfSome b Q → IfSome (option_zip a b) (λ p. P p.0 × Q p.1)
zipped P Q None b one two = tt
zipped P Q (Some x) None one two = tt
zipped P Q (Some x) (Some y) one two = (one, two)

mapped : {A B : Type 0} (P : A → Type 0) (Q : B → Type 0) (f : A → B) (a : Option A) → IfSome a P → ((x : A) → P x → Q (f x)) → IfSome (option_map f a) Q
mapped P Q f None is then = tt
mapped P Q f (Some x) is then = then x is

either : {A : Type 0} (P : A → Type 0) (b : Bool) (x y : Option A) → IfSome x P → IfSome y P → IfSome (cond b x y) P
either P true x y one two = one
either P false x y one two = two

abbrev IsBetween : ℕ → ℕ → ℕ → Type 0
IsBetween least most n = (least ≤ n) × (n ≤ most)

tested : (least most n : ℕ) (a b : Bool) → (a ≡ true → least ≤ n) → (b ≡ true → n ≤ most) → IfSome (cond (a && b) (Some n) None) (IsBetween least most)
tested least most n true true low high = (low refl, high refl)
tested least most n true false low high = tt
tested least most n false b low high = tt

between : (least most : ℕ) (word : Option Text) → IfSome (number_in least most word) (IsBetween least most)
between least most None = tt
between least most (Some word) =
    elim (any_number_of word) as (λ o. IfSome (option_and_then (within least most) o) (IsBetween least most)) [
      | None ↦ tt
      | Some n ↦ tested least most n (nat_le least n) (nat_le n most) (leb-true least n) (leb-true n most)
    ]

pub construction_within : (value : Values) → IfSome (construction_of value) (λ built. AreWithinLimits built.workers built.cut)
construction_within value =
    mapped (λ p. ((Unit {0} × IsBetween 1 most_workers p.0.0.1) × IsBetween 1 most_roots p.0.1) × IsBetween 0 most_planted p.1) (λ built. AreWithinLimits built.workers built.cut) _ _
    (zipped _ _ _ _ (zipped _ _ _ _ (zipped _ _ _ _ (anything _) (between 1 most_workers (value (codes "workers")))) (between 1 most_roots (value (codes "cut")))) (between 0 most_planted (value (codes "eta"))))
    (λ p is. (is.0.0.1.0, is.0.0.1.1, is.0.1.0, is.0.1.1))

-- a command of files alone has no number, and one with a construction those of it
free : {A : Type 0} (f : A → Asked) (a : Option A) → ((x : A) → IsWithinLimits (f x)) → IfSome (option_map f a) IsWithinLimits
free f a is = mapped (λ _. Unit {0}) IsWithinLimits f a (anything a) (λ x _. is x)

built : {A : Type 0} (f : A × Construction → Asked) (a : Option A) (value : Values) → ((x : A) (b : Construction) → AreWithinLimits b.workers b.cut → IsWithinLimits (f (x, b))) → IfSome (option_map f (a & construction_of value)) IsWithinLimits
built f a value is = mapped _ IsWithinLimits f _ (zipped _ _ a _ (anything a) (construction_within value)) (λ p h. is p.0 p.1 h.1)

abbrev Two : Type 0
Two = Text × Text

abbrev Three : Type 0
Three = Two × Text

near_within : (value : Values) → IfSome (near_of value) IsWithinLimits
near_within value =
    mapped (λ p. Unit {0} × IsBetween 1 most_points p.1) IsWithinLimits (λ (p : Three × ℕ). Near p.0.0.0 p.0.0.1 p.0.1 p.1) _
    (zipped _ _ _ _ (anything _) (between 1 most_points (value (codes "k")))) (λ p is. is.1)

grid_within : (value : Values) → IfSome (grid_of value) IsWithinLimits
grid_within value =
    mapped (λ p. (IsBetween 1 longest_side p.0.0 × IsBetween 0 greatest_seed p.0.1) × IsBetween 1 most_workers p.1) IsWithinLimits
    (λ (p : (ℕ × ℕ) × ℕ). Grid (record { side = p.0.0; seed = p.0.1; workers = p.1 })) _
    (zipped _ _ _ _ (zipped _ _ _ _ (between 1 longest_side (value (codes "side"))) (between 0 greatest_seed (value (codes "seed")))) (between 1 most_workers (value (codes "workers"))))
    (λ p h. (h.0.0.0, h.0.0.1, h.0.1.1, h.1.0, h.1.1))

-- something that may be asked for, within its limits
abbrev Within : Type 0
Within = (o : Option Asked) × IfSome o IsWithinLimits

abbrev or_else : Text → Text → Within → Within → Within
or_else name word this other = (cond (bytes_eq name word) this.0 other.0, either IsWithinLimits (bytes_eq name word) this.0 other.0 this.1 other.1)

abbrev all : Text → Values → Within
all name value =
    or_else name (codes "list") (list_of value, free (λ (p : Two). ListRows p.0 p.1) _ (λ _. tt))
    (or_else name (codes "build") (build_of value, built (λ (p : (Three × Version) × Construction). Build p.0.0.0.0 p.0.0.0.1 p.0.0.1 p.0.1 p.1) _ value (λ _ _ h. h))
    (or_else name (codes "solve") (solve_of value, built (λ (p : Three × Construction). Solve p.0.0.0 p.0.0.1 p.0.1 p.1) _ value (λ _ _ h. h))
    (or_else name (codes "query") (query_of value, free (λ (p : Two). Query p.0 p.1) _ (λ _. tt))
    (or_else name (codes "path") (path_of value, free (λ (p : Three). Path p.0.0 p.0.1 p.1) _ (λ _. tt))
    (or_else name (codes "trace") (trace_of value, free (λ (p : Two). Trace p.0 p.1) _ (λ _. tt))
    (or_else name (codes "near") (near_of value, near_within value)
    (or_else name (codes "audit") (audit_of value, free (λ (p : Three). Audit p.0.0 p.0.1 p.1) _ (λ _. tt))
    (or_else name (codes "upgrade") (upgrade_of value, free (λ (p : Three). Upgrade p.0.0 p.0.1 p.1) _ (λ _. tt))
    (or_else name (codes "open") (opening_of value, free (λ (p : (Three × Text) × Version). Open p.0.0.0.0 p.0.0.0.1 p.0.0.1 p.0.1 p.1) _ (λ _. tt))
    (or_else name (codes "degree") (degree_of value, free Degree _ (λ _. tt))
    (or_else name (codes "rank") (rank_of value, free Rank _ (λ _. tt))
    (or_else name (codes "grid") (grid_of value, grid_within value) (None, tt)))))))))))))

asked_within : (name : Text) (value : Values) → IfSome (asked_of name value) IsWithinLimits
asked_within name value = (all name value).1

-- what the words ask for is within its limits
pub within_limits : (words : List Text) (asked : Asked) → asked_by words ≡ Some asked → IsWithinLimits asked
within_limits words asked is = subst (λ (o : Option Asked). IfSome o IsWithinLimits) is (go (fault_of program words) (subcommand_of program words))
  where
    go : (k : Kinds) (found : Option (Text × List Row)) → IfSome (unless_refused k (asked_in found)) IsWithinLimits
    go [] None = tt
    go [] (Some found) = asked_within found.0 (values_in found.1)
    go (k ∷ kinds) found = tt
