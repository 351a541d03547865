use Rattle.std.proofs.Common.{◌≡◌, ℕ, ◌<◌, ◌≤◌, get_or, length, None}
use Rattle.calls.proofs.tables.Tables.advance.Given as goal

abbrev pub invariant-loop-k : goal.invariant-loop-k
invariant-loop-k l = record {
  settings : l.self.settings ≡ l.initial.self.settings;
  cycles : l.self.cycles ≡ l.initial.self.cycles;
  register : l.self.register ≡ l.initial.self.register;
  tickets : l.self.tickets ≡ l.initial.self.tickets;
  waits : l.self.waits ≡ l.initial.self.waits;
  long : length l.self.slots ≡ 256;
  slots : (j : ℕ) → j < l.k → get_or l.self.slots j None ≡ get_or l.arriving j None;
  rest : (j : ℕ) → l.k ≤ j → get_or l.self.slots j None ≡ get_or l.initial.self.slots j None;
}
