use Rattle.std.proofs.Common.{◌≡◌, ℕ, ◌<◌, ◌≤◌, ◌⊎◌}
use Rattle.fabric.specs.Layouts.{Plan, Exists}
use Rattle.bounds.proofs.path.farthest.Given as goal

abbrev pub invariant-loop-from : goal.invariant-loop-from
invariant-loop-from g l =
    let p : Plan = g.L.Layout.plan l.layout in
    Exists p l.pair.0 × Exists p l.pair.1
    × ((a b : ℕ) → a < l.from → Exists p b → p.distance a b ≤ p.distance l.pair.0 l.pair.1)
    × ((a b : ℕ) → Exists p b → (a < l.pair.0) ⊎ ((a ≡ l.pair.0) × (b < l.pair.1)) → p.distance a b < p.distance l.pair.0 l.pair.1)
