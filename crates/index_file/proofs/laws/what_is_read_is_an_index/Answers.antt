use Rattle.index_file.proofs.SoundIndexes.{IsStored-index_of}
use Rattle.index_file.proofs.laws.what_is_read_is_an_index.Goals as goal

pub returns : goal.returns
returns c = λ bytes stored is. IsStored-index_of bytes stored is
