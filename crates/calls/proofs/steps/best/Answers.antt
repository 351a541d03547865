use Rattle.std.proofs.Common.{arith}
use Rattle.switch.specs.Switches.{at}
use Rattle.network.specs.Computed.{due}
use Rattle.calls.proofs.Stepping.{all_ports, best_all, best_step}
use Rattle.calls.proofs.steps.best.Goals as goal

pub returns : goal.returns
returns c =
    best_all c.args.golden c.loop-k.k (λ p. due c.args.node (at c.args.places p)) c.loop-k.found (omega arith) c.loop-k.invariant

pub loop-k-preserved : goal.loop-k-preserved
loop-k-preserved c =
    best_step c.args.golden c.args.node c.loop-k.k c.args.places c.loop-k.found c.better-found.result _ c.due.result (omega arith)
    c.better-found.ensures c.loop-k.invariant (all_ports c.loop-k.k _ (omega arith)) c.due.ensures
