use Rattle.std.proofs.Common.{ℕ, ◌<◌, get_or, None}
use Rattle.cabled.proofs.Nearest.{Found}
use Rattle.cabled.specs.Tables.{next_at}
use Rattle.cabled.proofs.wiring.Wiring.levels.Given as goal

abbrev pub invariant-loop-level : goal.invariant-loop-level
invariant-loop-level l = (u : ℕ) → u < l.self.nodes → Found (next_at l.self.ends) l.to l.level u (get_or l.row u None)
