-- What a desk in memory tells of its bytes.
use Rattle.std.specs.Prelude.{◌≡◌, ℕ, Bool, IsTrue, List, [], ◌∷◌, ◌++◌, Option, Some, None}
use Rattle.std.specs.Ordering.{nat_cmp}
use Rattle.std.specs.Cmp.Lexicographic.{slice_cmp}
use Rattle.std.specs.FinMap as map
use Rattle.std.specs.FinMap.{FinMap}
use Rattle.std.specs.Option.{option_map_or}

-- The table of files: the bytes of each by its name.
abbrev pub Files : Type 0
Files = FinMap (slice_cmp nat_cmp) (List ℕ)

-- The named files; whether the desk is steady, so that no call fails but the opening of a name that no file has; the name
-- of the input that was opened last, and what is left of it; each input before it, in the order of opening, by its name
-- and what was left of it then; the name of the file that was created last, [] before any (it stands among the files
-- like any other); and what standard output has taken.
pub record Contents : Type 0 where
  pub files : Files
  pub steady : Bool
  pub input : List ℕ
  pub rest : List ℕ
  pub earlier : List (List ℕ × List ℕ)
  pub out : List ℕ
  pub said : List ℕ

-- a, after the named input was opened, of which this is left
abbrev pub opened : List ℕ → List ℕ → Contents → Contents
opened name rest a = record a { input = name; rest = rest; earlier = a.earlier ++ (a.input, a.rest) ∷ [] }

-- a, after the named file was created: it is empty, whatever it held
abbrev pub created : List ℕ → Contents → Contents
created name a = record a { files = map.insert a.files name []; out = name }

-- the files, after these bytes went to the end of the named one; none changes where there is no such file
abbrev pub appended : Files → List ℕ → List ℕ → Files
appended files name bytes = option_map_or (λ held. map.insert files name (held ++ bytes)) (map.get files name) files

-- a, after these bytes were written to the end of the created file
abbrev pub written : List ℕ → Contents → Contents
written bytes a = record a { files = appended a.files a.out bytes }

-- a, after these bytes were said
abbrev pub spoken : List ℕ → Contents → Contents
spoken bytes a = record a { said = a.said ++ bytes }

-- a desk that tells its bytes goes on telling them, and they change by P; one that tells nothing goes on so
abbrev pub Tells : Option Contents → Option Contents → (Contents → Contents → Type 0) → Type 0
Tells None None P = Unit {0}
Tells None (Some new) P = ⊥
Tells (Some old) None P = ⊥
Tells (Some old) (Some new) P = P old new

-- the desk tells its bytes, and is steady
abbrev pub IsSteady : Option Contents → Type 0
IsSteady None = ⊥
IsSteady (Some a) = IsTrue a.steady

-- the desk tells its bytes, and no file has the name
abbrev pub Lacks : Option Contents → List ℕ → Type 0
Lacks None name = ⊥
Lacks (Some a) name = map.get a.files name ≡ None
