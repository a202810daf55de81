use Rattle.std.proofs.Common.{◌≡◌, ap, ap₂, sym, subst, refl, List, Option, Some, None, option_map}
use Rattle.std.specs.Prelude.{Box}
use Rattle.std.specs.Box.{box_value}
use Rattle.clap.specs.Words.{Row, Text, subcommand_rows}
use Rattle.clap.specs.declared.parser.matches.SubCommand.{SubCommand}
use Rattle.clap.specs.declared.parser.matches.ArgMatches.TheViews.{out-ArgMatches, out-SubCommand}
use Rattle.chl_words.specs.Asking.{asked_in}
use Rattle.chl_words.specs.Reading.{IsRead}
use Rattle.chl_words.proofs.reading.read_matches.Goals as goal

-- a subcommand is its name and its rows
name_and_rows : {Z : Type 0} (sub : Option (Box SubCommand Z)) (name : Text) (rows : List Row) → Some name ≡ option_map (λ b. (out-SubCommand (box_value b)).name.now) sub → Some rows ≡ option_map (λ p. p.1) (subcommand_rows sub) → subcommand_rows sub ≡ Some (name, rows)
name_and_rows None name rows named found = cc
name_and_rows (Some b) name rows named found =
    let name_is : name ≡ (out-SubCommand (box_value b)).name.now = cc in
    let rows_are : Some rows ≡ option_map (λ p. p.1) (subcommand_rows (Some b)) = found in
    ap Some (sym (ap₂ (λ (n : Text) (r : List Row). (n, r)) name_is (of_some rows_are)))
  where
    of_some : {A : Type 0} {x y : A} → Some x ≡ Some y → x ≡ y
    of_some e = cc

no_rows : {Z : Type 0} (sub : Option (Box SubCommand Z)) → None ≡ option_map (λ b. (out-SubCommand (box_value b)).name.now) sub → subcommand_rows sub ≡ None
no_rows None named = refl
no_rows (Some b) named = cc

pub returns-in-Some : goal.returns-in-Some
returns-in-Some c =
    let found = name_and_rows (out-ArgMatches c.args.matches.now).subcommand _ _ c.in-Some.ensures.name c.in-Some.ensures.rows in
    subst (λ o. IsRead (asked_in o) c.read_command.result) (sym found) c.read_command.ensures

pub returns-in-None : goal.returns-in-None
returns-in-None c = ap asked_in (no_rows (out-ArgMatches c.args.matches.now).subcommand c.in-None.ensures.name)
