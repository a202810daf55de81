use Rattle.std.proofs.Common.{arith}
use Rattle.index_file.proofs.SoundFields.{AreNames-no_node}
use Rattle.index_file.proofs.field.after_size.Goals as goal

-- no node is named yet
pub after_names-requires : goal.after_names-requires
after_names-requires c = rw c.new.ensures (AreNames-no_node c.args.n c.args.traced (omega arith))
