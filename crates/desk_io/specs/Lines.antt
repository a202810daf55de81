-- The lines of a text: it is cut after each LF, one CR directly before an LF or at the end of the text is dropped, and a
-- last piece that isn't empty is a line.
use Rattle.std.specs.Prelude.{ℕ, Bool, ◌==◌, List, [], ◌∷◌, ◌++◌, if◌then◌else◌}

-- a line without one CR at its end
abbrev pub without_cr : List ℕ → List ℕ
without_cr [] = []
without_cr (b ∷ []) = if b == 13 then [] else b ∷ []
without_cr (b ∷ c ∷ line) = b ∷ without_cr (c ∷ line)

-- the lines that an LF ends, the first of them begun by some bytes before
abbrev pub whole_lines : List ℕ → List ℕ → List (List ℕ)
whole_lines begun [] = []
whole_lines begun (b ∷ bytes) = if b == 10 then without_cr begun ∷ whole_lines [] bytes else whole_lines (begun ++ b ∷ []) bytes

-- what no LF has ended yet
abbrev pub open_rest : List ℕ → List ℕ → List ℕ
open_rest begun [] = begun
open_rest begun (b ∷ bytes) = if b == 10 then open_rest [] bytes else open_rest (begun ++ b ∷ []) bytes

-- the last line of a text, where a piece is left open at its end
abbrev pub last_line : List ℕ → List (List ℕ)
last_line [] = []
last_line (b ∷ rest) = without_cr (b ∷ rest) ∷ []

-- the lines of a whole text
abbrev pub lines_of : List ℕ → List (List ℕ)
lines_of text = whole_lines [] text ++ last_line (open_rest [] text)

-- a line that is being gathered, and whether it is whole; a whole line has lost its LF and one CR before it
pub record LineSoFar : Type 0 where
  pub bytes : List ℕ
  pub whole : Bool

-- the bytes of the line that isn't ended yet: none after a whole line
abbrev pub open_bytes : LineSoFar → List ℕ
open_bytes line = if line.whole then [] else line.bytes
