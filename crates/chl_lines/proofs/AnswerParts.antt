-- The lines of answers, in parts.
use Rattle.std.proofs.Common.{◌≡◌, ℕ, zero, suc, ◌-◌, ◌*◌, min, List, [], ◌∷◌, ◌++◌, Option, length, map, take, drop, refl, sym, ap, ◌∙◌, append_assoc}
use Rattle.std.proofs.lemmas.List.{drop-map, take-map}
use Rattle.hub_query.specs.declared.answer.Answer.{Answer}
use Rattle.hub_query.specs.Meant.{meant}
use Rattle.chl_lines.specs.PrintedAnswers.{answer_line, answer_lines, part_lines}
use Rattle.chl_lines.proofs.PartLines.{cut}

no_answers : (rest : List (ℕ × ℕ)) → answer_lines rest [] ≡ []
no_answers [] = refl
no_answers (p ∷ ps) = refl

-- the lines of the first n pairs, and then those of the others
pub answers_cut : (n : ℕ) (pairs : List (ℕ × ℕ)) (answers : List (Option (ℕ × ℕ))) → answer_lines (take n pairs) (take n answers) ++ answer_lines (drop n pairs) (drop n answers) ≡ answer_lines pairs answers
answers_cut zero pairs answers = refl
answers_cut (suc n) [] answers = refl
answers_cut (suc n) (pair ∷ pairs) [] = no_answers (drop n pairs)
answers_cut (suc n) (pair ∷ pairs) (answer ∷ answers) =
    append_assoc (answer_line pair answer) (answer_lines (take n pairs) (take n answers)) (answer_lines (drop n pairs) (drop n answers))
    ∙ ap (λ text. answer_line pair answer ++ text) (answers_cut n pairs answers)

-- the lines of so many pairs as a part has
pub part_is : (pairs : List (ℕ × ℕ)) (answers : List Answer) (k size : ℕ) → length answers ≡ length pairs → size ≡ min 65536 (length pairs - k * 65536) → answer_lines (take size (drop (k * 65536) pairs)) (map meant (take size (drop (k * 65536) answers))) ≡ part_lines pairs (map meant answers) k
part_is pairs answers k size same is =
    let begin = k * 65536 in
    let fewer : take size (drop begin pairs) ≡ take 65536 (drop begin pairs) = ap (λ m. take m (drop begin pairs)) is ∙ cut 65536 begin pairs in
    let told : take size (drop begin answers) ≡ take 65536 (drop begin answers) = ap (λ m. take m (drop begin answers)) (is ∙ ap (λ n. min 65536 (n - begin)) (sym same)) ∙ cut 65536 begin answers in
    let moved : map meant (take 65536 (drop begin answers)) ≡ take 65536 (drop begin (map meant answers)) = sym (take-map meant 65536 (drop begin answers)) ∙ ap (λ xs. take 65536 xs) (sym (drop-map meant begin answers)) in
    ap (λ xs. answer_lines xs (map meant (take size (drop begin answers)))) fewer
    ∙ ap (λ ys. answer_lines (take 65536 (drop begin pairs)) (map meant ys)) told
    ∙ ap (λ ys. answer_lines (take 65536 (drop begin pairs)) ys) moved
