use Rattle.std.proofs.Common.{◌≡◌, ◌+◌, ◌≤◌, length, take}
use Rattle.line.specs.Lines.{queue_of, holds}
use Rattle.line.specs.Queues.{free_places}
use Rattle.runner.proofs.planned.Planned.new.Given as goal

abbrev pub invariant-loop-packet : goal.invariant-loop-packet
invariant-loop-packet l =
    (holds l.rest ≡ take l.packet-index l.packets) × (length l.packets ≤ free_places (queue_of l.rest) + l.packet-index)
