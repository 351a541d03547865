use Rattle.std.proofs.Common.{ℕ, ◌<◌, ◌≤◌}
use Rattle.fabric.specs.Layouts.{Plan, Exists}
use Rattle.bounds.proofs.path.farthest_from.Given as goal

abbrev pub invariant-loop-to : goal.invariant-loop-to
invariant-loop-to g l =
    let p : Plan = g.L.Layout.plan l.layout in
    Exists p l.farthest
    × ((b : ℕ) → b < l.to → p.distance l.from b ≤ p.distance l.from l.farthest)
    × ((b : ℕ) → b < l.farthest → p.distance l.from b < p.distance l.from l.farthest)
