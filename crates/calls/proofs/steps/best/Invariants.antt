use Rattle.std.proofs.Common.{◌≡◌}
use Rattle.switch.specs.Switches.{at}
use Rattle.network.specs.Computed.{due}
use Rattle.calls.proofs.Stepping.{best_upto}
use Rattle.calls.proofs.steps.best.Given as goal

abbrev pub invariant-loop-k : goal.invariant-loop-k
invariant-loop-k l = l.found ≡ best_upto l.golden (λ p. due l.node (at l.place-items p)) l.k
