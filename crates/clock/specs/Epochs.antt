-- Which ticket is golden.
use Rattle.std.specs.Prelude.{ℕ, ◌/◌, ◌%◌}

-- in a cycle, of so many tickets, each golden for an epoch of so many cycles in turn
abbrev pub golden_ticket : (tickets epoch cycle : ℕ) → ℕ
golden_ticket tickets epoch cycle = (cycle / epoch) % tickets
