-- The program's commands: where the words after one go, and what comes of them.
use Rattle.std.proofs.Common.{◌≡◌, ◌∙◌, ap, ap₂, sym, refl, subst, zero, suc, Bool, true, false, List, [], ◌∷◌, ◌++◌, Contains, Option, Some, None, cond, map, option_map, arith}
use Rattle.std.specs.Prelude.{find, is_some}
use Rattle.std.specs.Option.{option_map_or}
use Rattle.std.specs.List.{fold}
use Rattle.clap.specs.Words.{Kinds, Shape, Text, built, fault_of, subcommand_of}
use Rattle.clap.specs.Kinds.{or_else}
use Rattle.clap.specs.Simple.{entered, label_of, names_of, rows_at}
use Rattle.clap.specs.Faults.{check_fault, defaults_fault, entered_fault, level_fault, settle_fault, turn_fault, walk_fault}
use Rattle.clap.specs.Walk.{Names, Walk, answers_to, finished, nothing_held, rows_after, settled, walk_from, walked}
use Rattle.clap.proofs.WalkLemmas.{walk_stopped}
use Rattle.clap.proofs.OnLiterals.{clap_on_literals}
use Rattle.chl_words.specs.Literal as literal
use Rattle.chl_words.specs.Literal.{program, commands}
use Rattle.chl_words.specs.Forms.{Use, AreTyped, is_taken, value_of, words_of}
use Rattle.chl_words.specs.Asking.{asked_in, asked_of, asked_by, unless_refused, values_in}
use Rattle.chl_words.specs.declared.asked.Asked.{Asked}
use Rattle.chl_words.proofs.Options.{rule}
use Rattle.chl_words.proofs.UseWalks.{leaf}
use Rattle.chl_words.proofs.UseFaults.{none, none_or_none}
use Rattle.chl_words.proofs.UseRows.{opt_of}
use Rattle.chl_words.proofs.Defaults.{AreDistinct, DefaultsPass}
use Rattle.chl_words.proofs.Levels.{level_is, values_are}

abbrev pub top : Shape
top = (built program).top

abbrev pub names : Names
names = names_of (built program)

abbrev pub stopped_at : Text × List Text → Walk
stopped_at p = record (walk_from nothing_held) { stopped = Some p }

-- after a command the words are left to it
no_more : (p : Text × List Text) (words : List Text) → walk_fault top names (stopped_at p) words ≡ []
unfolding walk_fault walked
no_more p [] = refl
no_more p (x ∷ xs) = no_more (p.0, p.1 ++ x ∷ []) xs

pub unless_is : (k : Kinds) (asked : Option Asked) → unless_refused k asked ≡ cond (none k) asked None
unless_is [] asked = refl
unless_is (x ∷ k) asked = refl

-- what clap does where the first word is this command
pub record IsEntered (name : Text) (sub : Shape) : Type 0 where
  pub walks : walked [] names (walk_from nothing_held) name ≡ stopped_at (name, [])
  pub turns : turn_fault top names (walk_from nothing_held) name ≡ []
  pub found : find (λ s. answers_to name (label_of s)) (built program).subs ≡ Some sub

module _ (name : Text) (sub : Shape) (enters : IsEntered name sub) (p : Text) (rest : List Text) where
  ends : fold (walked [] names) (walk_from nothing_held) (name ∷ rest) ≡ stopped_at (name, rest)
  ends = ap (λ w. fold (walked [] names) w rest) enters.walks ∙ sym (walk_stopped [] names (walk_from nothing_held) name [] rest)

  no_fault : walk_fault top names (walk_from nothing_held) (name ∷ rest) ≡ []
  unfolding walk_fault
  no_fault = ap₂ or_else enters.turns (ap (λ w. walk_fault top names w rest) enters.walks ∙ no_more (name, []) rest)

  abbrev at_end : Walk → Kinds → Kinds
  at_end w f = or_else f
      (or_else (entered_fault (built program) w.stopped)
      (or_else (settle_fault [] false w.held)
      (or_else (defaults_fault (settled [] w.held).rows [])
      (check_fault top (finished [] w.held) (is_some (entered (built program) w.stopped))))))

  abbrev in_found : Option Shape → Kinds
  in_found m = or_else (option_map_or (λ s. level_fault s [] nothing_held rest false []) m [])
      (or_else (defaults_fault [] []) (check_fault top [] (is_some (option_map (λ s. rows_at s rest) m))))

  pub fault_is : none (fault_of program (p ∷ name ∷ rest)) ≡ none (level_fault sub [] nothing_held rest false [])
  unfolding defaults_fault
  fault_is = ap none (ap₂ at_end ends no_fault ∙ ap in_found enters.found) ∙ none_or_none (level_fault sub [] nothing_held rest false [])

  pub subcommand_is : subcommand_of program (p ∷ name ∷ rest) ≡ Some (sub.name, rows_after sub.rules [] rest)
  subcommand_is = ap (λ (w : Walk). entered (built program) w.stopped) ends ∙ ap (option_map (λ s. rows_at s rest)) enters.found

  pub command_is : asked_by (p ∷ name ∷ rest) ≡ cond (none (level_fault sub [] nothing_held rest false [])) (asked_of sub.name (values_in (rows_after sub.rules [] rest))) None
  command_is =
      unless_is (fault_of program (p ∷ name ∷ rest)) (asked_in (subcommand_of program (p ∷ name ∷ rest)))
      ∙ ap₂ (λ b f. cond b (asked_in f) None) fault_is subcommand_is

by_values : (t : Bool) (name : Text) (one other : Text → Option Text) → (t ≡ true → (id : Text) → one id ≡ other id) → cond t (asked_of name one) None ≡ cond t (asked_of name other) None
by_values true name one other same = ap (asked_of name) (λ i id. same refl id i)
by_values false name one other same = refl

-- a command whose options these are
pub record IsJudged (s : Shape) : Type 0 where
  pub enters : IsEntered s.name (leaf s.name (map opt_of s.rules))
  pub distinct : AreDistinct (map opt_of s.rules)
  pub pass : DefaultsPass (map opt_of s.rules)

pub uses_judged : (s : Shape) → IsJudged s → (p : Text) (uses : List Use) → AreTyped uses
    → asked_by (p ∷ s.name ∷ words_of uses) ≡ cond (is_taken s.rules uses) (asked_of s.name (value_of s.rules uses)) None
uses_judged s is p uses typed =
    command_is s.name (leaf s.name (map opt_of s.rules)) is.enters p (words_of uses)
    ∙ ap (λ b. cond b (asked_of s.name (values_in (rows_after (map rule (map opt_of s.rules)) [] (words_of uses)))) None) (level_is s.name s.rules uses typed is.pass)
    ∙ by_values (is_taken s.rules uses) s.name (values_in (rows_after (map rule (map opt_of s.rules)) [] (words_of uses))) (value_of s.rules uses) (values_are s.name s.rules uses typed is.distinct)

list_is : IsJudged literal.list
unfolding clap_on_literals
list_is = record { enters = record { walks = refl; turns = refl; found = refl }; distinct = (refl, (refl, tt)); pass = (refl, (refl, tt)) }

build_is : IsJudged literal.build
unfolding clap_on_literals
build_is = record { enters = record { walks = refl; turns = refl; found = refl }; distinct = (refl, (refl, (refl, (refl, (refl, (refl, (refl, (refl, tt)))))))); pass = (refl, (refl, (refl, (refl, (refl, (refl, (refl, (refl, tt)))))))) }

solve_is : IsJudged literal.solve
unfolding clap_on_literals
solve_is = record { enters = record { walks = refl; turns = refl; found = refl }; distinct = (refl, (refl, (refl, (refl, (refl, (refl, (refl, tt))))))); pass = (refl, (refl, (refl, (refl, (refl, (refl, (refl, tt))))))) }

query_is : IsJudged literal.query
unfolding clap_on_literals
query_is = record { enters = record { walks = refl; turns = refl; found = refl }; distinct = (refl, (refl, tt)); pass = (refl, (refl, tt)) }

path_is : IsJudged literal.path
unfolding clap_on_literals
path_is = record { enters = record { walks = refl; turns = refl; found = refl }; distinct = (refl, (refl, (refl, tt))); pass = (refl, (refl, (refl, tt))) }

trace_is : IsJudged literal.trace
unfolding clap_on_literals
trace_is = record { enters = record { walks = refl; turns = refl; found = refl }; distinct = (refl, (refl, tt)); pass = (refl, (refl, tt)) }

near_is : IsJudged literal.near
unfolding clap_on_literals
near_is = record { enters = record { walks = refl; turns = refl; found = refl }; distinct = (refl, (refl, (refl, (refl, tt)))); pass = (refl, (refl, (refl, (refl, tt)))) }

audit_is : IsJudged literal.audit
unfolding clap_on_literals
audit_is = record { enters = record { walks = refl; turns = refl; found = refl }; distinct = (refl, (refl, (refl, tt))); pass = (refl, (refl, (refl, tt))) }

upgrade_is : IsJudged literal.upgrade
unfolding clap_on_literals
upgrade_is = record { enters = record { walks = refl; turns = refl; found = refl }; distinct = (refl, (refl, (refl, tt))); pass = (refl, (refl, (refl, tt))) }

opening_is : IsJudged literal.opening
unfolding clap_on_literals
opening_is = record { enters = record { walks = refl; turns = refl; found = refl }; distinct = (refl, (refl, (refl, (refl, (refl, tt))))); pass = (refl, (refl, (refl, (refl, (refl, tt))))) }

degree_is : IsJudged literal.degree
unfolding clap_on_literals
degree_is = record { enters = record { walks = refl; turns = refl; found = refl }; distinct = (refl, tt); pass = (refl, tt) }

rank_is : IsJudged literal.rank
unfolding clap_on_literals
rank_is = record { enters = record { walks = refl; turns = refl; found = refl }; distinct = (refl, tt); pass = (refl, tt) }

grid_is : IsJudged literal.grid
unfolding clap_on_literals
grid_is = record { enters = record { walks = refl; turns = refl; found = refl }; distinct = (refl, (refl, (refl, tt))); pass = (refl, (refl, (refl, tt))) }

pub is_judged : (s : Shape) → Contains commands s → IsJudged s
is_judged s (zero, lt, is) = subst IsJudged is list_is
is_judged s (suc zero, lt, is) = subst IsJudged is build_is
is_judged s (suc (suc zero), lt, is) = subst IsJudged is solve_is
is_judged s (suc (suc (suc zero)), lt, is) = subst IsJudged is query_is
is_judged s (suc (suc (suc (suc zero))), lt, is) = subst IsJudged is path_is
is_judged s (suc (suc (suc (suc (suc zero)))), lt, is) = subst IsJudged is trace_is
is_judged s (suc (suc (suc (suc (suc (suc zero))))), lt, is) = subst IsJudged is near_is
is_judged s (suc (suc (suc (suc (suc (suc (suc zero)))))), lt, is) = subst IsJudged is audit_is
is_judged s (suc (suc (suc (suc (suc (suc (suc (suc zero))))))), lt, is) = subst IsJudged is upgrade_is
is_judged s (suc (suc (suc (suc (suc (suc (suc (suc (suc zero)))))))), lt, is) = subst IsJudged is opening_is
is_judged s (suc (suc (suc (suc (suc (suc (suc (suc (suc (suc zero))))))))), lt, is) = subst IsJudged is degree_is
is_judged s (suc (suc (suc (suc (suc (suc (suc (suc (suc (suc (suc zero)))))))))), lt, is) = subst IsJudged is rank_is
is_judged s (suc (suc (suc (suc (suc (suc (suc (suc (suc (suc (suc (suc zero))))))))))), lt, is) = subst IsJudged is grid_is
is_judged s (suc (suc (suc (suc (suc (suc (suc (suc (suc (suc (suc (suc (suc k)))))))))))), lt, is) = absurd (omega arith)
