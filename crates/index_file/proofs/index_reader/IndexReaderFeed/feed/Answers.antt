use Rattle.std.proofs.Common.{◌∙◌}
use Rattle.index_file.specs.Judging.{fed}
use Rattle.index_file.specs.Gives.{Gives}
use Rattle.index_file.proofs.CutBytes.{TakesPiece-gives}
use Rattle.index_file.proofs.index_reader.IndexReaderFeed.feed.Goals as goal

pub returns : goal.returns
returns c =
    let gives : Gives c.take.new.state (fed c.args.self.now c.args.piece.now) = rw c.self.view_is at c.take.ensures.gives in
    rw c.answer.ensures (TakesPiece-gives c.args.self.now c.take.new.state c.args.piece.now gives (λ e was. c.take.ensures.same e (c.self.view_is ∙ was)))
