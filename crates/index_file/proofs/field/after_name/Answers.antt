use Rattle.std.proofs.Common.{◌≡◌, Bool, true, false, Some, None, cond, refl}
use Rattle.index_file.specs.Parts.{Names, with_node, is_new_node}
use Rattle.index_file.proofs.SoundFields.{AreNames-more}
use Rattle.index_file.proofs.field.after_name.Goals as goal

some_node : (b : Bool) (new names : Names) → Some new ≡ cond b (Some names) None → (b ≡ true) × (new ≡ names)
some_node true new names is = (refl, cc)
some_node false new names is = absurd cc

-- one node more
pub after_names-requires : goal.after_names-requires
after_names-requires c =
    let named : Some c.in-Some.names ≡ cond (is_new_node c.args.names c.args.v) (Some (with_node c.args.names c.args.v)) None = rw c.in-Some.is at c.in_ok-names.ensures in
    let new = some_node (is_new_node c.args.names c.args.v) c.in-Some.names (with_node c.args.names c.args.v) named in
    rw new.1 (AreNames-more c.args.names c.args.v c.requires.names c.requires.more new.0)
