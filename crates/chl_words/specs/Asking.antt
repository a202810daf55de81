-- What a list of words asks for, by clap's meaning of it.
use Rattle.std.specs.Prelude.{◌≤◌, ◌^◌, ◌==◌, ◌&&◌, ℕ, List, [], ◌∷◌, Option, Some, None, option_and_then, option_map, nat_le, nat_lt, codes, if◌then◌else◌}
use Rattle.std.specs.Option.{option_zip}
use Rattle.std.specs.Str.{bytes_eq}
use Rattle.std.specs.Str.Parse.{digits_value, without_leading_plus}
use Rattle.clap.specs.Words.{Kinds, Row, Text, fault_of, first_of, subcommand_of}
use Rattle.clap.specs.ValueTests.{is_numeral}
use Rattle.chl_words.specs.Literal.{program}
use Rattle.chl_words.specs.declared.asked.By.{By}
use Rattle.chl_words.specs.declared.asked.Construction.{Construction}
use Rattle.chl_words.specs.declared.asked.By.TheVariants.{Plant, Lcc, Gll, Hybrid}
use Rattle.chl_words.specs.declared.asked.Asked.{Asked}
use Rattle.chl_words.specs.declared.asked.Asked.TheVariants.{List as ListRows, Build, Solve, Query, Path, Trace, Near, Audit, Upgrade, Open, Degree, Rank, Grid}
use Rattle.chl_words.specs.declared.asked.Version.{Version}
use Rattle.chl_words.specs.declared.asked.Version.TheVariants.{One, Two}

-- what each option has as its value, if any
abbrev pub Values : Type 0
Values = Text → Option Text

-- both parts, where each is there
infixl 20 ◌&◌
abbrev pub ◌&◌ : {A B : Type 0} → Option A → Option B → Option (A × B)
first & second = option_zip first second

-- the construction that a word names
abbrev pub by_of : Text → Option By
by_of word =
    if bytes_eq word (codes "plant") then Some Plant
    else (if bytes_eq word (codes "lcc") then Some Lcc
    else (if bytes_eq word (codes "gll") then Some Gll
    else (if bytes_eq word (codes "hybrid") then Some Hybrid else None)))

-- the number below 2^32 that a word is: digits, which may have zeros or one plus before them
abbrev pub any_number_of : Text → Option ℕ
any_number_of word =
    let digits = without_leading_plus word in
    if is_numeral digits && nat_lt (digits_value 10 digits) (2 ^ 32) then Some (digits_value 10 digits) else None

-- the number, where it is between two limits
abbrev pub within : ℕ → ℕ → ℕ → Option ℕ
within least most n = if nat_le least n && nat_le n most then Some n else None

-- the number between two limits that a word is
abbrev pub number_of : ℕ → ℕ → Text → Option ℕ
number_of least most word = option_and_then (within least most) (any_number_of word)

-- how many workers there may be, how great the cut may be, and how many roots may be planted
abbrev pub most_workers : ℕ
most_workers = 64

abbrev pub most_roots : ℕ
most_roots = 2 ^ 30

abbrev pub most_planted : ℕ
most_planted = 2 ^ 30

-- the latest version of an index file
abbrev pub latest_version : ℕ
latest_version = 2

-- how many points may be asked for
abbrev pub most_points : ℕ
most_points = 2 ^ 20

-- how long the side of a grid may be, and how great the seed of its weights
abbrev pub longest_side : ℕ
longest_side = 256

abbrev pub greatest_seed : ℕ
greatest_seed = 2147483647

-- the number between two limits that the option has
abbrev pub number_in : ℕ → ℕ → Option Text → Option ℕ
number_in least most word = option_and_then (number_of least most) word

abbrev pub workers_of : Values → Option ℕ
workers_of value = number_in 1 most_workers (value (codes "workers"))

-- the version of this number, 1 or 2
abbrev pub version_named : ℕ → Version
version_named n = if n == 1 then One else Two

-- of which version an index file is to be
abbrev pub version_of : Values → Option Version
version_of value = option_map version_named (number_in 1 latest_version (value (codes "version")))

-- how an index is to be built, by the options that may be left out
abbrev pub construction_of : Values → Option Construction
construction_of value =
    option_map (λ p. record { by = p.0.0.0; workers = p.0.0.1; cut = p.0.1; eta = p.1 })
    (option_and_then by_of (value (codes "by")) & workers_of value & number_in 1 most_roots (value (codes "cut")) & number_in 0 most_planted (value (codes "eta")))

-- what each command asks for, by the values of its options
abbrev pub list_of : Values → Option Asked
list_of value = option_map (λ p. ListRows p.0 p.1) (value (codes "graph") & value (codes "order"))

abbrev pub build_of : Values → Option Asked
build_of value = option_map (λ p. Build p.0.0.0.0 p.0.0.0.1 p.0.0.1 p.0.1 p.1) (value (codes "graph") & value (codes "order") & value (codes "out") & version_of value & construction_of value)

abbrev pub solve_of : Values → Option Asked
solve_of value = option_map (λ p. Solve p.0.0.0 p.0.0.1 p.0.1 p.1) (value (codes "graph") & value (codes "order") & value (codes "pairs") & construction_of value)

abbrev pub query_of : Values → Option Asked
query_of value = option_map (λ p. Query p.0 p.1) (value (codes "index") & value (codes "pairs"))

abbrev pub path_of : Values → Option Asked
path_of value = option_map (λ p. Path p.0.0 p.0.1 p.1) (value (codes "graph") & value (codes "index") & value (codes "pairs"))

abbrev pub trace_of : Values → Option Asked
trace_of value = option_map (λ p. Trace p.0 p.1) (value (codes "index") & value (codes "pairs"))

abbrev pub near_of : Values → Option Asked
near_of value = option_map (λ p. Near p.0.0.0 p.0.0.1 p.0.1 p.1) (value (codes "index") & value (codes "points") & value (codes "from") & number_in 1 most_points (value (codes "k")))

abbrev pub audit_of : Values → Option Asked
audit_of value = option_map (λ p. Audit p.0.0 p.0.1 p.1) (value (codes "graph") & value (codes "order") & value (codes "index"))

abbrev pub upgrade_of : Values → Option Asked
upgrade_of value = option_map (λ p. Upgrade p.0.0 p.0.1 p.1) (value (codes "graph") & value (codes "index") & value (codes "out"))

abbrev pub opening_of : Values → Option Asked
opening_of value = option_map (λ p. Open p.0.0.0.0 p.0.0.0.1 p.0.0.1 p.0.1 p.1) (value (codes "graph") & value (codes "index") & value (codes "edits") & value (codes "out") & version_of value)

abbrev pub degree_of : Values → Option Asked
degree_of value = option_map Degree (value (codes "graph"))

abbrev pub rank_of : Values → Option Asked
rank_of value = option_map Rank (value (codes "graph"))

abbrev pub grid_of : Values → Option Asked
grid_of value = option_map (λ p. Grid (record { side = p.0.0; seed = p.0.1; workers = p.1 })) (number_in 1 longest_side (value (codes "side")) & number_in 0 greatest_seed (value (codes "seed")) & workers_of value)

-- what the command of this name asks for
abbrev pub asked_of : Text → Values → Option Asked
asked_of name value =
    if bytes_eq name (codes "list") then list_of value
    else (if bytes_eq name (codes "build") then build_of value
    else (if bytes_eq name (codes "solve") then solve_of value
    else (if bytes_eq name (codes "query") then query_of value
    else (if bytes_eq name (codes "path") then path_of value
    else (if bytes_eq name (codes "trace") then trace_of value
    else (if bytes_eq name (codes "near") then near_of value
    else (if bytes_eq name (codes "audit") then audit_of value
    else (if bytes_eq name (codes "upgrade") then upgrade_of value
    else (if bytes_eq name (codes "open") then opening_of value
    else (if bytes_eq name (codes "degree") then degree_of value
    else (if bytes_eq name (codes "rank") then rank_of value
    else (if bytes_eq name (codes "grid") then grid_of value
    else None))))))))))))

-- the values of the options in what was found
abbrev pub values_in : List Row → Values
values_in rows option = first_of option rows

-- what was found of the subcommand that the words name
abbrev pub asked_in : Option (Text × List Row) → Option Asked
asked_in None = None
asked_in (Some found) = asked_of found.0 (values_in found.1)

-- nothing, where there is a fault
abbrev pub unless_refused : Kinds → Option Asked → Option Asked
unless_refused [] asked = asked
unless_refused (kind ∷ kinds) asked = None

-- what the words ask for: nothing where clap refuses them, and else what it finds of the command that they name
abbrev pub asked_by : List Text → Option Asked
asked_by words = unless_refused (fault_of program words) (asked_in (subcommand_of program words))

-- the numbers of workers and of roots are within their limits
abbrev pub AreWithinLimits : ℕ → ℕ → Type 0
AreWithinLimits workers cut = (1 ≤ workers) × (workers ≤ most_workers) × (1 ≤ cut) × (cut ≤ most_roots)

-- the side of a grid, its seed and the number of workers are
abbrev pub IsGridWithinLimits : ℕ → ℕ → ℕ → Type 0
IsGridWithinLimits side seed workers = (1 ≤ side) × (side ≤ longest_side) × (seed ≤ greatest_seed) × (1 ≤ workers) × (workers ≤ most_workers)

-- those of a command are, and so is the number of points that are asked for
abbrev pub IsWithinLimits : Asked → Type 0
IsWithinLimits (Build graph order out version built) = AreWithinLimits built.workers built.cut
IsWithinLimits (Solve graph order pairs built) = AreWithinLimits built.workers built.cut
IsWithinLimits (Near index points from k) = (1 ≤ k) × (k ≤ most_points)
IsWithinLimits (Grid grid) = IsGridWithinLimits grid.side grid.seed grid.workers
IsWithinLimits asked = Unit {0}
