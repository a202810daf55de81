-- The program as one command of clap, with a subcommand for each of its commands.
use Rattle.std.specs.Prelude.{◌≡◌, ◌^◌, ℕ, true, false, List, [], ◌∷◌, ◌++◌, Some, codes, map}
use Rattle.clap.specs.Words.{App, Rule, Shape, Text, app_of, new_rule, rule_of}
use Rattle.clap.specs.Simple.{new_shape}
use Rattle.clap.specs.declared.builder.arg.Arg.{Arg}
use Rattle.clap.specs.declared.builder.command.Command.{Command}
use Rattle.clap.specs.declared.builder.command.Command.TheViews.{out-Command as fields_of}
use Rattle.clap.specs.declared.builder.value_parser.ValueParser.TheVariants.{Unsigned}

-- ---- options

-- an option with any text as its value
abbrev pub option_named : Text → Rule
option_named name = record (new_rule name) { long = Some name }

-- one that must be there, with the name of a file
abbrev pub file : Text → Rule
file name = record (option_named name) { required = true }

-- one that names a construction, planting where it is left out
abbrev pub construction : Rule
construction = record (option_named (codes "by")) { defaults = codes "plant" ∷ [] }

-- one that must be there, with a number between two limits
abbrev pub number_needed : Text → ℕ → ℕ → Rule
number_needed name least most = record (option_named name) { parser = Some (Unsigned least most); required = true }

-- one with a number between two limits, and this number where it is left out
abbrev pub number : Text → ℕ → ℕ → Text → Rule
number name least most default = record (option_named name) { parser = Some (Unsigned least most); defaults = default ∷ [] }

-- how many workers there are, one where it is left out
abbrev pub workers : Rule
workers = number (codes "workers") 1 64 (codes "1")

-- how work is cut, 1024 where it is left out: how many roots a batch may have, or how many entries a worker puts at least in a superstep
abbrev pub cut : Rule
cut = number (codes "cut") 1 (2 ^ 30) (codes "1024")

-- how many of the first roots a hybrid construction plants, 16 where it is left out
abbrev pub eta : Rule
eta = number (codes "eta") 0 (2 ^ 30) (codes "16")

-- of which version an index file is, the first where it is left out
abbrev pub version : Rule
version = number (codes "version") 1 2 (codes "1")

-- ---- commands

abbrev pub command : Text → List Rule → Shape
command name options = record (new_shape name) { rules = options }

-- one whose options must all be there, each with the name of a file
abbrev pub files : Text → List Text → Shape
files name options = command name (map file options)

-- the same, with the options of a build that may be left out
abbrev pub built : Text → List Text → Shape
built name options = command name (map file options ++ construction ∷ [] ++ workers ∷ [] ++ cut ∷ [] ++ eta ∷ [])

-- one with one more option
abbrev pub with_option : Shape → Rule → Shape
with_option s option = record s { rules = s.rules ++ option ∷ [] }

abbrev pub list : Shape
list = files (codes "list") (codes "graph" ∷ codes "order" ∷ [])

abbrev pub build : Shape
build = with_option (built (codes "build") (codes "graph" ∷ codes "order" ∷ codes "out" ∷ [])) version

abbrev pub solve : Shape
solve = built (codes "solve") (codes "graph" ∷ codes "order" ∷ codes "pairs" ∷ [])

abbrev pub query : Shape
query = files (codes "query") (codes "index" ∷ codes "pairs" ∷ [])

abbrev pub path : Shape
path = files (codes "path") (codes "graph" ∷ codes "index" ∷ codes "pairs" ∷ [])

abbrev pub trace : Shape
trace = files (codes "trace") (codes "index" ∷ codes "pairs" ∷ [])

abbrev pub near : Shape
near = with_option (files (codes "near") (codes "index" ∷ codes "points" ∷ codes "from" ∷ [])) (number_needed (codes "k") 1 (2 ^ 20))

abbrev pub audit : Shape
audit = files (codes "audit") (codes "graph" ∷ codes "order" ∷ codes "index" ∷ [])

abbrev pub upgrade : Shape
upgrade = files (codes "upgrade") (codes "graph" ∷ codes "index" ∷ codes "out" ∷ [])

abbrev pub opening : Shape
opening = with_option (files (codes "open") (codes "graph" ∷ codes "index" ∷ codes "edits" ∷ codes "out" ∷ [])) version

abbrev pub degree : Shape
degree = files (codes "degree") (codes "graph" ∷ [])

abbrev pub rank : Shape
rank = files (codes "rank") (codes "graph" ∷ [])

abbrev pub grid : Shape
grid = command (codes "grid") (number_needed (codes "side") 1 256 ∷ number_needed (codes "seed") 0 2147483647 ∷ workers ∷ [])

abbrev pub commands : List Shape
commands = list ∷ build ∷ solve ∷ query ∷ path ∷ trace ∷ near ∷ audit ∷ upgrade ∷ opening ∷ degree ∷ rank ∷ grid ∷ []

-- the program: it takes one of its commands, and has no help
abbrev pub program : App
program = record {
  top = record (new_shape (codes "chl")) { is_leaf = false; disable_help_flag = true; disable_help_subcommand = true; subcommand_required = true };
  subs = commands;
}

-- ---- what the code makes of them

-- a command with no subcommand
abbrev pub command_alone : Shape → App
command_alone s = record { top = s; subs = [] }

-- the option has this rule, and is of its own command alone
abbrev pub IsOption : Rule → Arg → Type 0
IsOption rule a = (rule_of a ≡ rule) × (a.global ≡ false)

-- the command is this one, and so are all of its options
abbrev pub IsProgram : App → Command → Type 0
IsProgram app c = (app_of c ≡ app) × ((fields_of c).has_globals ≡ false)
