use Rattle.cabled.proofs.Measuring.{MeasuredUpto}
use Rattle.cabled.proofs.wiring.Wiring.measure.Given as goal

abbrev pub invariant-loop-to : goal.invariant-loop-to
invariant-loop-to l = MeasuredUpto l.self.nodes l.self.ends l.distances l.reach l.to
