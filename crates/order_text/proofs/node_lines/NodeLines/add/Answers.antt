use Rattle.std.proofs.Common.{◌≡◌, ◌≤◌, arith, Bool, true, false, not, eqb, ap, [], ◌∷◌, ◌++◌, refl, sym, ◌∙◌}
use Rattle.std.specs.Cmp.{nat_eq_equiv}
use Rattle.std.specs.HashSet.{contains}
use Rattle.std.specs.List.{list_any}
use Rattle.std.proofs.lemmas.List.Elements.{All-push}
use Rattle.std.proofs.lemmas.Map.Keys.{IsDistinct-push}
use Rattle.order_text.specs.OrderText.{NodesSoFar}
use Rattle.order_text.proofs.OrderNodes.{told_more}
use Rattle.order_text.proofs.node_lines.NodeLines.add.Goals as goal

-- a key that was put is new
new_key : (put had : Bool) → put ≡ not had → put ≡ true → had ≡ false
new_key put true is added = cc
new_key put false is added = refl

pub invariant_of-self-2 : goal.invariant_of-self-2
invariant_of-self-2 c =
    let items : c.push-2.new.self.items ≡ c.self.inside.nodes.items ++ c.args.node ∷ [] = c.in_ok-push-2.ensures.items ∙ ap (λ l. l ++ c.args.node ∷ []) c.in_ok-reserve.ensures.items in
    let within : c.args.node ≤ c.self.inside.n = omega (arith, c.requires.within, ap (λ (s : NodesSoFar). s.n) c.self.view_is) in
    let seen = c.self.invariant.1 c.if-self.false in
    let new : list_any (eqb c.args.node) c.self.inside.nodes.items ≡ false = sym (seen c.args.node) ∙ new_key _ _ c.in_ok-insert.ensures.added c.if-not-branch.false in
    rw items (
      All-push (λ v. (1 ≤ v) × (v ≤ c.self.inside.n)) c.self.inside.nodes.items c.args.node c.self.invariant.0 (c.requires.some, within),
      (λ single. told_more c.self.inside.nodes.items c.args.node (λ q. contains eqb c.self.inside.seen q) (λ q. contains eqb c.insert.new.self q) seen c.in_ok-insert.ensures.updates.0),
      (λ single. IsDistinct-push nat_eq_equiv c.self.inside.nodes.items c.args.node (c.self.invariant.2 single) new),
    )
