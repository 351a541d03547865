use Rattle.std.proofs.Common.{◌≡◌, length, get_or, None}
use Rattle.cabled.specs.Tables.{next_at}
use Rattle.cabled.proofs.InPlace.{Midway}
use Rattle.cabled.proofs.wiring.Wiring.round.Given as goal

abbrev pub invariant-loop-node : goal.invariant-loop-node
invariant-loop-node l =
    (length l.row ≡ 64) × Midway (next_at l.self.ends) (λ v. get_or l.initial.row v None) l.level l.node l.row
