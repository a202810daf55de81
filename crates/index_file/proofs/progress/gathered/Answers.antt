use Rattle.std.proofs.Common.{arith}
use Rattle.index_file.proofs.Steps.{fed-all_kept}
use Rattle.index_file.proofs.progress.gathered.Goals as goal

pub invariant_of-result : goal.invariant_of-result
invariant_of-result c = record {
  fields = c.requires.sound.fields;
  held = omega (arith, c.if-len-width.true, c.len.ensures, c.width.ensures);
  fits = c.requires.fits;
  offset = c.requires.sound.offset;
}

pub returns-then-len-width : goal.returns-then-len-width
returns-then-len-width c = fed-all_kept c.args.next c.args.at c.args.held.items (omega (arith, c.if-len-width.true, c.len.ensures, c.width.ensures))
