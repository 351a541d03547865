use Rattle.std.proofs.Common.{length}
use Rattle.line.specs.Lines.{holds, SameLender as SameLine}
use Rattle.writer.specs.Listings.{SameLender}
use Rattle.runner.proofs.Telling.{Telling}
use Rattle.runner.proofs.tally.Tally.tell.Given as goal

abbrev pub invariant-loop-event : goal.invariant-loop-event
invariant-loop-event l =
    record {
      telling : Telling l.initial.self l.initial.writer (holds l.initial.line) l.self l.writer (holds l.line);
      lender : SameLender l.initial.writer l.writer;
      places : SameLine l.initial.line l.line;
    }

abbrev pub decreases-loop-event : goal.decreases-loop-event
decreases-loop-event l = length (holds l.line)
