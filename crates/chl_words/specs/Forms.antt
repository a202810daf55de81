-- Command lines as everybody types them: a command with the uses of its options, each in one of two forms.
use Rattle.std.specs.Prelude.{◌≡◌, ◌≢◌, ◌==◌, ◌&&◌, ◌||◌, not, All, ℕ, Bool, true, false, List, [], ◌∷◌, ◌++◌, Option, Some, find, option_and_then, slice_get, if◌then◌else◌}
use Rattle.std.specs.List.{list_any, list_all}
use Rattle.std.specs.Option.{option_map_or}
use Rattle.std.specs.Str.{bytes_eq}
use Rattle.clap.specs.Words.{Rule, Text}
use Rattle.clap.specs.Facts.{parser_of_value}
use Rattle.clap.specs.ValueTests.{accepts}

-- a use of an option: its name, its value, and whether the two are one word
pub record Use : Type 0 where
  pub name : Text
  pub value : Text
  pub joined : Bool

-- its words: `--name=value`, or `--name` and `value`
abbrev pub words_of_use : Use → List Text
words_of_use u = if u.joined then (45 ∷ 45 ∷ (u.name ++ 61 ∷ u.value)) ∷ [] else (45 ∷ 45 ∷ u.name) ∷ u.value ∷ []

abbrev pub words_of : List Use → List Text
words_of [] = []
words_of (u ∷ uses) = words_of_use u ++ words_of uses

abbrev pub begins_with_dash : Text → Bool
begins_with_dash [] = false
begins_with_dash (byte ∷ bytes) = byte == 45

-- the name is not empty and has no `=`, and a value that is a word of its own does not begin with a dash
pub record IsTyped (u : Use) : Type 0 where
  pub first : ℕ
  pub rest : Text
  pub named : u.name ≡ first ∷ rest
  pub plain : All (λ byte. byte ≢ 61) u.name
  pub apart : u.joined ≡ false → begins_with_dash u.value ≡ false

abbrev pub AreTyped : List Use → Type 0
AreTyped [] = Unit {0}
AreTyped (u ∷ uses) = IsTyped u × AreTyped uses

-- ---- which uses a command takes, by its options

-- the option of this name
abbrev pub option_of : List Rule → Text → Option Rule
option_of options name = find (λ a. bytes_eq a.id name) options

-- the option takes the value: any text, or a number within its range
abbrev pub takes_value : Rule → Text → Bool
takes_value a value = accepts false (parser_of_value a.parser) value

-- each use is of an option that no use before it is of (the names of these are given), and has a value that the option takes
abbrev pub takes_uses : List Rule → List Text → List Use → Bool
takes_uses options named [] = true
takes_uses options named (u ∷ uses) =
    option_map_or (λ a. not (list_any (λ n. bytes_eq n u.name) named) && takes_value a u.value) (option_of options u.name) false
    && takes_uses options (u.name ∷ named) uses

-- each option that must be there has a use
abbrev pub has_required : List Rule → List Use → Bool
has_required options uses = list_all (λ a. not a.required || list_any (λ u. bytes_eq u.name a.id) uses) options

-- the command takes the uses
abbrev pub is_taken : List Rule → List Use → Bool
is_taken options uses = takes_uses options [] uses && has_required options uses

-- what an option has as its value: that of its use, or its default
abbrev pub value_of : List Rule → List Use → Text → Option Text
value_of options uses name =
    option_map_or (λ u. Some u.value) (find (λ u. bytes_eq u.name name) uses) (option_and_then (λ a. slice_get a.defaults 0) (option_of options name))
