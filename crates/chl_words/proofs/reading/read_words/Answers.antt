use Rattle.std.proofs.Common.{◌≡◌, ◌≢◌, ◌∙◌, ap, sym, refl, List, [], ◌∷◌, Option, Some, None, Result, Ok, Err, true, map, inl, inr, subst, string_bytes}
use Rattle.std.specs.Prelude.{IfOk, IfErr}
use Rattle.std.proofs.lemmas.Result.{IfOk-weaker}
use Rattle.clap.specs.Words.{App, Row, Text, fault_of, is_simple, is_simple_and_free, kind_of, matches_of, subcommand_of, subcommand_rows_of, Kinds, HasKind, IsAmong}
use Rattle.clap.specs.declared.error.Error.{Error}
use Rattle.clap.specs.declared.error.kind.ErrorKind.TheVariants.{OutOfMemory}
use Rattle.clap.proofs.OnLiterals.{clap_on_literals}
use Rattle.chl_words.specs.declared.asked.AskFault.{AskFault}
use Rattle.chl_words.specs.declared.asked.AskFault.TheVariants.{Usage, NoMemory}
use Rattle.chl_words.specs.declared.asked.Asked.{Asked}
use Rattle.chl_words.specs.Asking.{asked_in, asked_by, unless_refused}
use Rattle.chl_words.specs.Literal.{program}
use Rattle.chl_words.specs.Reading.{IsRead}
use Rattle.chl_words.proofs.Limits.{within_limits}
use Rattle.chl_words.proofs.reading.read_words.Goals as goal

simple_and_free : is_simple_and_free program ≡ true
unfolding clap_on_literals
simple_and_free = refl

simple : is_simple program ≡ true
unfolding clap_on_literals
simple = refl

-- where clap refuses nothing, the words ask for what it finds
taken_is : (words : List Text) (found : Option (Text × List Row)) → fault_of program words ≡ [] → found ≡ subcommand_of program words → asked_by words ≡ asked_in found
taken_is words found none is = ap (λ (k : Kinds). unless_refused k (asked_in (subcommand_of program words))) none ∙ ap asked_in (sym is)

-- where it gives an error of another kind than want of memory, they ask for nothing
refused_is : (words : List Text) (e : Error) → kind_of e ≢ OutOfMemory → HasKind (fault_of program words) e → asked_by words ≡ None
refused_is words e other (inl memory) = absurd (other memory)
refused_is words e other (inr among) = go (fault_of program words) among
  where
    go : (kinds : Kinds) → IsAmong (kind_of e) kinds → unless_refused kinds (asked_in (subcommand_of program words)) ≡ None
    go [] h = absurd h
    go (k ∷ kinds) h = refl

is_ok : (words : List Text) (o : Option Asked) (r : Result Asked AskFault) → asked_by words ≡ o → IsRead o r → IfOk r (λ asked. asked_by words ≡ Some asked)
is_ok words o (Ok asked) is read = is ∙ read
is_ok words o (Err fault) is read = tt

is_usage : (words : List Text) (o : Option Asked) (r : Result Asked AskFault) → asked_by words ≡ o → IsRead o r → IfErr r (λ f. f ≡ Usage → asked_by words ≡ None)
is_usage words o (Ok asked) is read = tt
is_usage words o (Err Usage) is read = λ usage. is ∙ read
is_usage words o (Err NoMemory) is read = λ usage. cc

module _ (app : App) (words : List Text) where
  kinds_of : (r : Kinds → Type 0) → app ≡ program → (is_simple_and_free app ≡ true → r (fault_of app words)) → r (fault_of program words)
  kinds_of r is kinds = subst (λ a. r (fault_of a words)) is (kinds (ap is_simple_and_free is ∙ simple_and_free))

  found_is : (rows : List Row) (found : Option (Text × List Row)) → app ≡ program → (is_simple app ≡ true → (rows ≡ matches_of app words) × (found ≡ subcommand_of app words)) → found ≡ subcommand_of program words
  found_is rows found is matches = (matches (ap is_simple is ∙ simple)).1 ∙ ap (λ (a : App). subcommand_of a words) is

pub returns-in-Ok-clause-ok : goal.returns-in-Ok-clause-ok
returns-in-Ok-clause-ok c =
    let none = kinds_of _ _ (λ k. k ≡ []) c.in_ok-command.ensures.0 c.in-Ok.ensures.kinds in
    let found = found_is _ _ _ (subcommand_rows_of c.in-Ok.matches) c.in_ok-command.ensures.0 c.in-Ok.ensures.matches in
    is_ok (map string_bytes c.args.words.now) _ c.read_matches.result (taken_is (map string_bytes c.args.words.now) _ none found) c.read_matches.ensures

pub returns-in-Ok-clause-limits : goal.returns-in-Ok-clause-limits
returns-in-Ok-clause-limits c = IfOk-weaker c.read_matches.result _ _ (within_limits (map string_bytes c.args.words.now)) (returns-in-Ok-clause-ok c)

pub returns-in-Ok-clause-usage : goal.returns-in-Ok-clause-usage
returns-in-Ok-clause-usage c =
    let none = kinds_of _ _ (λ k. k ≡ []) c.in_ok-command.ensures.0 c.in-Ok.ensures.kinds in
    let found = found_is _ _ _ (subcommand_rows_of c.in-Ok.matches) c.in_ok-command.ensures.0 c.in-Ok.ensures.matches in
    is_usage (map string_bytes c.args.words.now) _ c.read_matches.result (taken_is (map string_bytes c.args.words.now) _ none found) c.read_matches.ensures

pub returns-in-Err-clause-usage : goal.returns-in-Err-clause-usage
returns-in-Err-clause-usage c = λ usage. refused_is (map string_bytes c.args.words.now) c.in-Err.error (c.fault_of.ensures usage) (kinds_of _ _ (λ k. HasKind k c.in-Err.error) c.in_ok-command.ensures.0 c.in-Err.ensures.kinds)
