-- The kinds of events, by word.
use Rattle.std.specs.Prelude.{ℕ, List, codes}
use Rattle.network.specs.declared.event.Kind.{Kind}
use Rattle.network.specs.declared.event.Kind.TheVariants.{In, Out}

abbrev pub event_word : Kind → List ℕ
event_word In = codes "in"
event_word Out = codes "out"
