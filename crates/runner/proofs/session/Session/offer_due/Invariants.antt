use Rattle.std.proofs.Common.{length}
use Rattle.calls.specs.Networks.{fabric_of, SameParts}
use Rattle.writer.specs.Listings.{SameLender}
use Rattle.runner.specs.Progress.{coming, Due, Left, SamePlaces}
use Rattle.runner.proofs.session.Session.offer_due.Given as goal

abbrev pub invariant-loop-packet : goal.invariant-loop-packet
invariant-loop-packet g l =
    record {
      due : Due (fabric_of g.L.Layout.plan g.S.Switch.turn l.initial.self.network) l.cycle (coming l.initial.planned) (coming l.planned) l.initial.self l.initial.writer l.self l.writer;
      left : Left l.cycle (coming l.planned);
      parts : SameParts l.initial.self.network l.self.network;
      lender : SameLender l.initial.writer l.writer;
      places : SamePlaces l.initial.planned l.planned;
    }

abbrev pub decreases-loop-packet : goal.decreases-loop-packet
decreases-loop-packet g l = length (coming l.planned)
