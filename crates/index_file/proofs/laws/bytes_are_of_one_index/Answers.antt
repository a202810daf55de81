use Rattle.std.proofs.Common.{◌∙◌, ap}
use Rattle.index_file.specs.Judging.{index_of}
use Rattle.index_file.proofs.Layouts.{index_of-file_bytes, layout-index_of}
use Rattle.index_file.proofs.laws.bytes_are_of_one_index.Goals as goal

pub returns : goal.returns
returns c = λ bytes stored small. (
  λ is. layout-index_of bytes stored small is,
  λ both. ap index_of both.1 ∙ index_of-file_bytes stored both.0,
)
