use Rattle.std.proofs.Common.{List}
use Rattle.line.specs.Lines.{queue_of, SameLender}
use Rattle.network.specs.Cycle.{State}
use Rattle.network.specs.Runs.{Call}
use Rattle.calls.specs.Follow.{Follows}
use Rattle.calls.specs.Networks.{fabric_of, SameParts}
use Rattle.uses.specs.History.{RanOn}
use Rattle.uses.proofs.cycles.run_on.Given as goal

abbrev pub invariant-loop : goal.invariant-loop
invariant-loop g l =
    let F = fabric_of g.L.Layout.plan g.S.Switch.turn l.initial.network in
    record {
      parts : SameParts l.initial.network l.network;
      lender : SameLender l.initial.line l.line;
      ran : (run : List Call) (s : State) → Follows F l.initial.network.inner run s →
          RanOn F l.initial.network.inner l.network.inner l.counter run s (queue_of l.initial.line) (queue_of l.line);
    }
