-- What words and keys are as numbers.
use Rattle.std.proofs.Common.{◌≡◌, ◌⊎◌, ℕ, ◌+◌, ◌-◌, ◌*◌, ◌/◌, ◌%◌, ◌^◌, ◌<◌, ◌≤◌, List, length, ap, ◌∙◌, inl, inr, arith}
use Rattle.std.specs.List.Sorted.{IsNonDecreasing}
use Rattle.std.proofs.Math.Nat.{div-add-mod, mod-lt}
use Rattle.std.proofs.lemmas.Bool.{cases_lt}
use Rattle.std.proofs.lemmas.Nat.{div-mul-add, mod-mul-add}
use Rattle.near_points.specs.PointWords.{word_of, word_pos, word_dist, word_node, word_at}
use Rattle.near_points.specs.Merging.{key_of, hit_of}

pub word_node-of : (pos dist node : ℕ) → node < 2 ^ 32 → word_node (word_of pos dist node) ≡ node
word_node-of pos dist node small = mod-mul-add (pos * 2 ^ 64 + dist) (2 ^ 32) node small

pub word_dist-of : (pos dist node : ℕ) → dist < 2 ^ 64 → node < 2 ^ 32 → word_dist (word_of pos dist node) ≡ dist
word_dist-of pos dist node short small = ap (λ x. x % 2 ^ 64) (div-mul-add (pos * 2 ^ 64 + dist) (2 ^ 32) node small) ∙ mod-mul-add pos (2 ^ 64) dist short

pub word_pos-of : (pos dist node : ℕ) → dist < 2 ^ 64 → node < 2 ^ 32 → word_pos (word_of pos dist node) ≡ pos
word_pos-of pos dist node short small = ap (λ x. x / 2 ^ 64) (div-mul-add (pos * 2 ^ 64 + dist) (2 ^ 32) node small) ∙ div-mul-add pos (2 ^ 64) dist short

pub word_node-fits : (word : ℕ) → word_node word < 2 ^ 32
word_node-fits word = mod-lt word (omega arith)

pub word_dist-fits : (word : ℕ) → word_dist word < 2 ^ 64
word_dist-fits word = mod-lt (word / 2 ^ 32) (omega arith)

-- a word is what it says
pub word_says : (word : ℕ) → word ≡ (word_pos word * 2 ^ 64 + word_dist word) * 2 ^ 32 + word_node word
word_says word =
    let whole : 2 ^ 32 * (word / 2 ^ 32) + word % 2 ^ 32 ≡ word = div-add-mod word (2 ^ 32) in
    let parts : 2 ^ 64 * (word / 2 ^ 32 / 2 ^ 64) + word / 2 ^ 32 % 2 ^ 64 ≡ word / 2 ^ 32 = div-add-mod (word / 2 ^ 32) (2 ^ 64) in
    omega (arith, whole, parts)

-- of two words of one position the lesser is no nearer
pos_rises : (p q d e v u : ℕ) → (p * 2 ^ 64 + d) * 2 ^ 32 + v ≤ (q * 2 ^ 64 + e) * 2 ^ 32 + u → e < 2 ^ 64 → u < 2 ^ 32 → p ≤ q
pos_rises p q d e v u le short small = omega arith

-- positions rise with words
pub word_pos-rises : (a b : ℕ) → a ≤ b → word_pos a ≤ word_pos b
word_pos-rises a b le =
    pos_rises (word_pos a) (word_pos b) (word_dist a) (word_dist b) (word_node a) (word_node b)
    (omega (arith, le, word_says a, word_says b)) (word_dist-fits b) (word_node-fits b)

-- of words of one position the distances and nodes rise together
pub word_rest-rises : (a b : ℕ) → a ≤ b → word_pos a ≡ word_pos b → key_of (word_dist a) (word_node a) + (b - a) ≡ key_of (word_dist b) (word_node b)
word_rest-rises a b le same = omega (arith, le, same, word_says a, word_says b)

-- what stands later in words that rise is no less
pub words_rise : (words : List ℕ) → IsNonDecreasing words → (i j : ℕ) → i ≤ j → j < length words → word_at words i ≤ word_at words j
words_rise words rising i j le inside = rising i j 0 le inside

pub hit_of-key : (dist node : ℕ) → node < 2 ^ 32 → hit_of (key_of dist node) ≡ record { node = node; dist = dist }
hit_of-key dist node small = λ i. record { node = mod-mul-add dist (2 ^ 32) node small i; dist = div-mul-add dist (2 ^ 32) node small i }

-- keys are in the order of hits
pub key_order : (d e v u : ℕ) → key_of d v ≤ key_of e u → u < 2 ^ 32 → (d < e) ⊎ ((d ≡ e) × (v ≤ u))
key_order d e v u le small = elim (cases_lt d e) [
  | inl less ↦ inl less
  | inr no_less ↦ inr (omega (arith, le, small, no_less), omega (arith, le, small, no_less))
]

pub key_dist : (d e v u : ℕ) → key_of d v ≤ key_of e u → u < 2 ^ 32 → d ≤ e
key_dist d e v u le small = omega (arith, le, small)

-- keys take no more than 97 bits
pub key_fits : (d e v : ℕ) → d < 2 ^ 64 → e < 2 ^ 64 → v < 2 ^ 32 → key_of (d + e) v < 2 ^ 97
key_fits d e v short other small = omega arith
