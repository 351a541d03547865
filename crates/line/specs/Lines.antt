-- What a line means.
use Rattle.std.specs.Prelude.{◌≡◌, List}
use Rattle.line.specs.Queues.{Queue, contents}
use Rattle.line.specs.declared.ring.Line.{Line}

module _ {A : Type 0} where
  abbrev pub queue_of : Line A → Queue A
  queue_of l = record { memory = l.memory.now; first = l.first; held = l.held }

  -- what a line holds, the oldest first
  abbrev pub holds : Line A → List A
  holds l = contents (queue_of l)

  -- no call puts the line over another memory
  abbrev pub SameLender : Line A → Line A → Type 0
  SameLender l m = m.memory.ghost_name ≡ l.memory.ghost_name
