use Rattle.std.proofs.Common.{arith}
use Rattle.index_file.proofs.Sizes.{length-index_bytes}
use Rattle.index_file.proofs.laws.an_index_has_its_size.Goals as goal

-- src/laws.rt:10:1
pub returns : goal.returns
returns c = λ at rows size. omega (arith, length-index_bytes at rows)
