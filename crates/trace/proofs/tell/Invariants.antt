use Rattle.std.proofs.Common.{length}
use Rattle.line.specs.Lines.{holds}
use Rattle.trace.proofs.tell.Given as goal

abbrev pub decreases-loop-event : goal.decreases-loop-event
decreases-loop-event l = length (holds l.line)
