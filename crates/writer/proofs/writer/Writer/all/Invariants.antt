use Rattle.std.proofs.Common.{take}
use Rattle.text.specs.Texts.{figures, after_spaces}
use Rattle.writer.specs.Steps.{Puts}
use Rattle.writer.proofs.writer.Writer.all.Given as goal

abbrev pub invariant-loop-n : goal.invariant-loop-n
invariant-loop-n l = Puts l.initial.self (after_spaces (figures (take l.n-index l.ns))) l.self
