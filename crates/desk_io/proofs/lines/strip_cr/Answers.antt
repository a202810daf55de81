use Rattle.std.proofs.Common.{◌≡◌, ◌-◌, length, arith}
use Rattle.desk_io.proofs.LineEnds.{without_cr-strip, without_cr-keep}
use Rattle.desk_io.proofs.lines.strip_cr.Goals as goal
use Rattle.desk_io.proofs.lines.strip_cr.Goals.{else-len-gt0-via-then-len-gt0+else-line-len-eq13, else-len-gt0-via-else-len-gt0}

pub returns-then-line-len-eq13 : goal.returns-then-line-len-eq13
returns-then-line-len-eq13 c =
    without_cr-strip c.args.line.now (length c.args.line.now - 1) (omega (arith, c.if-len-gt0.true)) c.if-line-len-eq13.true

pub returns : goal.returns
returns c = without_cr-keep c.args.line.now (λ k size is. elim c.else-len-gt0.branch [
  | else-len-gt0-via-then-len-gt0+else-line-len-eq13 w ↦
      let last : length c.args.line.now - 1 ≡ k = omega arith in
      rw last at w.if-line-len-eq13.false is
  | else-len-gt0-via-else-len-gt0 w ↦ omega (arith, w.if-len-gt0.false)
])
