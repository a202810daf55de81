-- Options that must have one value each, as the rules of a built command.
use Rattle.std.proofs.Common.{◌≡◌, ◌∙◌, ap, sym, refl, Bool, true, false, List, [], ◌∷◌, Option, Some, cond, map, option_map}
use Rattle.std.specs.Prelude.{find, ◌||◌}
use Rattle.std.specs.Bool.{Decides}
use Rattle.std.specs.Str.{bytes_eq}
use Rattle.std.proofs.lemmas.Cmp.{nat_list_eq_equiv}
use Rattle.std.proofs.lemmas.Slice.Eq.{bytes_eq-Decides}
use Rattle.clap.specs.Words.{Rule, Text, new_rule}
use Rattle.clap.specs.Walk.{arg_by_id, arg_by_long}
use Rattle.clap.specs.declared.builder.action.ArgAction.TheVariants.{Set}
use Rattle.clap.specs.declared.builder.value_parser.ValueParser.{ValueParser}

-- an option: its name, whether it must be there, its default, and which values it takes
pub record Opt : Type 0 where
  pub name : Text
  pub required : Bool
  pub defaults : List Text
  pub parser : ValueParser

abbrev pub rule : Opt → Rule
rule o = record (new_rule o.name) {
  long = Some o.name;
  required = o.required;
  defaults = o.defaults;
  parser = Some o.parser;
  action = Some Set;
  range = Some (record { start_inclusive = 1; end_inclusive = 1 });
}

abbrev pub named : Text → List Opt → Option Opt
named name opts = find (λ o. bytes_eq o.name name) opts

pub by_id : (opts : List Opt) (name : Text) → arg_by_id (map rule opts) name ≡ option_map rule (named name opts)
by_id [] name = refl
by_id (o ∷ opts) name =
    elim (bytes_eq o.name name) as (λ b. cond b (Some (rule o)) (arg_by_id (map rule opts) name) ≡ option_map rule (cond b (Some o) (named name opts))) [ true ↦ refl | false ↦ by_id opts name ]

pub by_long : (opts : List Opt) (name : Text) → arg_by_long (map rule opts) name ≡ option_map rule (named name opts)
by_long [] name = refl
by_long (o ∷ opts) name =
    elim (bytes_eq o.name name) as (λ b. cond (b || false) (Some (rule o)) (arg_by_long (map rule opts) name) ≡ option_map rule (cond b (Some o) (named name opts))) [ true ↦ refl | false ↦ by_long opts name ]

pub same_text : (text : Text) → bytes_eq text text ≡ true
same_text text = nat_list_eq_equiv.refl text

-- what is found by a name has that name
pub name_found : (opts : List Opt) (name : Text) (o : Opt) → named name opts ≡ Some o → o.name ≡ name
name_found [] name o is = cc
name_found (p ∷ opts) name o is =
    elim (bytes_eq p.name name) as (λ b. Decides b (p.name ≡ name) → cond b (Some p) (named name opts) ≡ Some o → o.name ≡ name) [
      | true ↦ λ same found. let first : p ≡ o = cc in ap (λ (q : Opt). q.name) (sym first) ∙ same.0 refl
      | false ↦ λ apart found. name_found opts name o found
    ] (bytes_eq-Decides p.name name) is
