use Rattle.line.specs.Lines.{queue_of, SameLender}
use Rattle.calls.specs.Steps.{Unsent}
use Rattle.calls.proofs.Rounds.{Round}
use Rattle.calls.specs.Networks.{fabric_of, SameParts}
use Rattle.calls.proofs.calls.Network.cycle.Given as goal

abbrev pub invariant-loop-node : goal.invariant-loop-node
invariant-loop-node g l =
    let F = fabric_of g.L.Layout.plan g.S.Switch.turn l.initial.self in
    record {
      round : Round F l.initial.self.inner l.self.inner l.node l.golden l.self.arriving (queue_of l.initial.line) (queue_of l.line) l.off;
      unsent : Unsent F.plan l.node l.self.arriving;
      parts : SameParts l.initial.self l.self;
      lender : SameLender l.initial.line l.line;
    }
