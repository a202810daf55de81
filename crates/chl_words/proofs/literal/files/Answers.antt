use Rattle.std.proofs.Common.{◌≡◌, ◌∙◌, ap, subst, sym, ℕ, ◌+◌, ◌<◌, List, [], ◌∷◌, ◌++◌, Bor, IfOk, add-one, get_or, length, map, take}
use Rattle.std.proofs.Math.Seq.{take-suc}
use Rattle.std.proofs.lemmas.List.{map-append, take_all}
use Rattle.clap.specs.Words.{App, Rule, Text, with_rule}
use Rattle.chl_words.specs.Literal as literal
use Rattle.chl_words.specs.Literal.{IsProgram, command, command_alone}
use Rattle.chl_words.proofs.literal.files.Goals as goal

-- the command with the first options of a list
abbrev first : Text → List (Bor Text) → ℕ → App
first name options i = command_alone (literal.files name (map (λ f. f.now) (take i options)))

one_more : (name : Text) (options : List (Bor Text)) (i : ℕ) (d : Bor Text) → i < length options → with_rule (first name options i) (literal.file (get_or options i d).now) ≡ first name options (i + 1)
one_more name options i d lt =
    let taken : take (i + 1) options ≡ take i options ++ get_or options i d ∷ [] = rw add-one (take-suc options i d lt) in
    let rule_of : Bor Text → Rule = λ f. literal.file f.now in
    let rules : map literal.file (map (λ f. f.now) (take (i + 1) options)) ≡ map literal.file (map (λ f. f.now) (take i options)) ++ rule_of (get_or options i d) ∷ [] =
    ap (λ l. map literal.file (map (λ (f : Bor Text). f.now) l)) taken ∙ ap (map literal.file) (map-append (λ (f : Bor Text). f.now) (take i options) (get_or options i d ∷ []))
    ∙ map-append literal.file (map (λ f. f.now) (take i options)) ((get_or options i d).now ∷ []) in
    ap (λ l. command_alone (command name l)) (sym rules)

pub loop-option-init : goal.loop-option-init
loop-option-init c = (c.new.ensures.app, c.new.ensures.local)

pub loop-option-preserved : goal.loop-option-preserved
loop-option-preserved c =
    subst (λ app. IfOk c.with_option-command.result (IsProgram app)) (one_more c.args.name.now c.args.options.now c.loop-option.option-index _ c.loop-option-test.true)
    (c.with_option-command.ensures _ _ c.loop-option.invariant c.file.ensures)

pub returns : goal.returns
returns c = subst (λ l. IfOk c.loop-option.command (IsProgram (command_alone (literal.files c.args.name.now (map (λ f. f.now) l))))) (take_all c.loop-option.option-index c.args.options.now c.loop-option-test.false) c.loop-option.invariant
