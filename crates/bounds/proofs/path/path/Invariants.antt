use Rattle.std.proofs.Common.{vec_items}
use Rattle.bounds.proofs.Going.{Gone}
use Rattle.bounds.proofs.path.path.Given as goal

abbrev pub invariant-loop-port : goal.invariant-loop-port
invariant-loop-port g l = Gone (g.L.Layout.plan l.layout) l.initial.node l.to l.node (vec_items l.hops)

-- each hop brings it one nearer
abbrev pub decreases-loop-port : goal.decreases-loop-port
decreases-loop-port g l = (g.L.Layout.plan l.layout).distance l.node l.to
