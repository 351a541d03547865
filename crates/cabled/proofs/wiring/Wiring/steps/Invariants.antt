use Rattle.std.proofs.Common.{◌≡◌, ℕ, ◌<◌, length, get_or}
use Rattle.cabled.specs.Levels.{Steps}
use Rattle.cabled.specs.Tables.{next_at}
use Rattle.cabled.proofs.wiring.Wiring.steps.Given as goal

abbrev pub invariant-loop-node : goal.invariant-loop-node
invariant-loop-node l = (length l.row ≡ 64) × ((u : ℕ) → u < l.node → Steps (next_at l.self.ends) l.to u (get_or l.row u 0))
