use Rattle.std.proofs.Common.{◌≡◌, [], subst}
use Rattle.std.specs.Prelude.{IfOk, IfErr}
use Rattle.std.proofs.lemmas.Grind.{common_steps}
use Rattle.std.proofs.Common.{arith}
use Rattle.index_file.specs.declared.next.Next.TheVariants.{Node, Position}
use Rattle.index_file.specs.Judging.{Reached}
use Rattle.index_file.specs.Gives.{Takes, Refuses}
use Rattle.index_file.proofs.Steps.{stands_at}
use Rattle.index_file.proofs.progress.Progress.run.Goals as goal

pub returns-in-Node-clause-taken : goal.returns-in-Node-clause-taken
returns-in-Node-clause-taken c =
    let none : c.self.inside.held.items ≡ [] = grind (arith, common_steps) in
    let same = stands_at c.self.inside.next (Node c.in-Node.names) c.self.inside.held.items c.self.inside.at c.args.self c.self.view_is c.in-Node.is none in
    subst (λ (s : Reached). IfOk c.run_of_names.result (λ r. Takes s c.args.rest.now r.0 r.1.now)) same c.run_of_names.ensures.taken

pub returns-in-Node-clause-refused : goal.returns-in-Node-clause-refused
returns-in-Node-clause-refused c =
    let none : c.self.inside.held.items ≡ [] = grind (arith, common_steps) in
    let same = stands_at c.self.inside.next (Node c.in-Node.names) c.self.inside.held.items c.self.inside.at c.args.self c.self.view_is c.in-Node.is none in
    subst (λ (s : Reached). IfErr c.run_of_names.result (Refuses s c.args.rest.now)) same c.run_of_names.ensures.refused

pub returns-in-Position-clause-taken : goal.returns-in-Position-clause-taken
returns-in-Position-clause-taken c =
    let none : c.self.inside.held.items ≡ [] = grind (arith, common_steps) in
    let same = stands_at c.self.inside.next (Position c.in-Position.done c.in-Position.part) c.self.inside.held.items c.self.inside.at c.args.self c.self.view_is c.in-Position.is none in
    subst (λ (s : Reached). IfOk c.run_of_rows.result (λ r. Takes s c.args.rest.now r.0 r.1.now)) same c.run_of_rows.ensures.taken

pub returns-in-Position-clause-refused : goal.returns-in-Position-clause-refused
returns-in-Position-clause-refused c =
    let none : c.self.inside.held.items ≡ [] = grind (arith, common_steps) in
    let same = stands_at c.self.inside.next (Position c.in-Position.done c.in-Position.part) c.self.inside.held.items c.self.inside.at c.args.self c.self.view_is c.in-Position.is none in
    subst (λ (s : Reached). IfErr c.run_of_rows.result (Refuses s c.args.rest.now)) same c.run_of_rows.ensures.refused
