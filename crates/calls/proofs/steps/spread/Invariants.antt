use Rattle.std.proofs.Common.{◌≡◌, length}
use Rattle.calls.proofs.Stepping.{SpreadUpto}
use Rattle.calls.proofs.steps.spread.Given as goal

abbrev pub invariant-loop-k : goal.invariant-loop-k
invariant-loop-k g l = (length l.slots ≡ 256) × SpreadUpto (g.L.Layout.plan l.layout) l.node l.k l.flit-items l.initial.slots l.slots
