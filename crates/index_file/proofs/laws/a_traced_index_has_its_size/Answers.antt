use Rattle.std.proofs.Common.{arith}
use Rattle.index_file.proofs.Sizes.{length-via_bytes}
use Rattle.index_file.proofs.laws.a_traced_index_has_its_size.Goals as goal

pub returns : goal.returns
returns c = λ at rows vias size have. omega (arith, length-via_bytes at rows vias have)
