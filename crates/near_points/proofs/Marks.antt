-- Marks that are taken away again.
use Rattle.std.proofs.Common.{◌≡◌, ℕ, ◌<◌, Bool, false, List, [], ◌∷◌, Contains, length, get_or, set, get_or-set_other, get_or-set_same, sym, ap, ◌∙◌, inl, inr}
use Rattle.std.proofs.lemmas.Bool.{cases_eq}
use Rattle.std.proofs.lemmas.List.Elements.{All-nil}
use Rattle.walk_laws.proofs.Members.{Contains-cons_cases, Contains-empty}
use Rattle.near_points.specs.declared.hit.Hit.{Hit}
use Rattle.near_points.specs.Merging.{IsGiven, AreMarked}
use Rattle.near_points.proofs.Members.{not_given}

-- what is marked is the node of one of these hits
abbrev pub AreOf : List Bool → List Hit → Type 0
AreOf given hits = (v : ℕ) → IsGiven given v → (h : Hit) × Contains hits h × (h.node ≡ v)

pub AreOf-rest : (given : List Bool) (h : Hit) (hits : List Hit) → h.node < length given → AreOf given (h ∷ hits) → AreOf (set given h.node false) hits
AreOf-rest given h hits inside are = λ v is. elim (cases_eq v h.node) [
  | inl here ↦ absurd (not_given (set given h.node false) v (ap (λ x. get_or (set given h.node false) x false) here ∙ get_or-set_same given h.node false false inside) is)
  | inr other ↦
      let of = are v (sym (get_or-set_other given h.node v false false other) ∙ is) in
      elim (Contains-cons_cases h of.0 hits of.1) [
        | inl same ↦ absurd (other (sym of.2 ∙ ap (λ (x : Hit). x.node) (sym same)))
        | inr later ↦ (of.0, later, of.2)
      ]
]

pub AreMarked-none : (given : List Bool) → AreOf given [] → AreMarked given []
AreMarked-none given are = record {
  each = All-nil (λ (h : Hit). IsGiven given h.node);
  others = λ v is. let of = are v is in absurd (Contains-empty of.0 of.1);
}
