use Rattle.std.proofs.Common.{take}
use Rattle.writer.specs.Steps.{Puts}
use Rattle.writer.proofs.writer.Writer.bytes.Given as goal

abbrev pub invariant-loop-b : goal.invariant-loop-b
invariant-loop-b l = Puts l.initial.self (take l.b-index l.s) l.self
