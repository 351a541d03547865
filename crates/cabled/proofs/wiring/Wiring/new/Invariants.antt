use Rattle.std.proofs.Common.{◌≡◌, length}
use Rattle.cabled.specs.Tables.{Plugged}
use Rattle.cabled.proofs.wiring.Wiring.new.Given as goal

abbrev pub invariant-loop-i : goal.invariant-loop-i
invariant-loop-i l = (length l.wiring.ends ≡ 256) × Plugged l.nodes l.i l.cables l.wiring.nodes l.wiring.ends
