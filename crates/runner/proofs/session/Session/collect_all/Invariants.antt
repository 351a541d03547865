use Rattle.runner.specs.Progress.{Collected}
use Rattle.calls.specs.Networks.{fabric_of, SameParts}
use Rattle.writer.specs.Listings.{SameLender}
use Rattle.runner.proofs.session.Session.collect_all.Given as goal

abbrev pub invariant-loop-ticket : goal.invariant-loop-ticket
invariant-loop-ticket g l =
    record {
      collected : Collected (fabric_of g.L.Layout.plan g.S.Switch.turn l.initial.self.network) l.cycle l.ticket l.initial.self l.initial.writer l.self l.writer;
      parts : SameParts l.initial.self.network l.self.network;
      lender : SameLender l.initial.writer l.writer;
    }
