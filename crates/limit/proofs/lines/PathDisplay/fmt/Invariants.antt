use Rattle.std.proofs.Common.{◌++◌, take, codes}
use Rattle.std.specs.Fmt.{HasWritten, IsPlainFormatter}
use Rattle.limit.proofs.Printing.{steps}
use Rattle.limit.proofs.lines.PathDisplay.fmt.Given as goal

abbrev pub invariant-loop-hop : goal.invariant-loop-hop
invariant-loop-hop g l = IsPlainFormatter l.fn.f → HasWritten g.W.Write.write_str_gives l.fn.f (codes "path" ++ steps (take l.hop-index l.fn.self.hops.now)) l.f
