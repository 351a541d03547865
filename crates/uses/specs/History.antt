-- A caller's own history.
use Rattle.std.specs.Prelude.{◌≡◌, ℕ, suc, List, ◌∷◌}
use Rattle.fabric.specs.Verdicts.{Verdict}
use Rattle.line.specs.Queues.{Queue}
use Rattle.bounds.specs.declared.settings.Settings.{Settings}
use Rattle.network.specs.declared.event.Event.{Event}
use Rattle.network.specs.Cycle.{Fabric, State}
use Rattle.network.specs.Runs.{Call, Serves}
use Rattle.network.specs.Runs.Call.{cycle}
use Rattle.network.specs.Runs.Outcome.{cycling}
use Rattle.network.specs.Promises.{Kept}
use Rattle.calls.specs.declared.tables.Tables.{Tables}
use Rattle.calls.specs.Follow.{Follows}

-- after a run, so many cycle calls one after another with one line: each has the line as the one before left it
pub data Cycled (F : Fabric) (P : Settings) (run : List Call) (s : State) (q : Queue Event) : ℕ → List Call → State → Queue Event → Type 0 where
  none : Cycled F P run s q 0 run s q
  one_more : {n : ℕ} {ks : List Call} {r t : State} {u v : Queue Event} {a : Verdict ℕ} → Cycled F P run s q n ks r u →
      Serves F P r (cycle u) (cycling a v) t → Cycled F P run s q (suc n) (cycle u ∷ ks) t v

-- so many cycle calls after a run took the tables from i to j and the line from q to r, and all that is promised of the longer run is kept
pub record RanOn (F : Fabric) (i j : Tables) (cycles : ℕ) (run : List Call) (s : State) (q r : Queue Event) : Type 0 where
  pub longer : List Call
  pub state : State
  pub cycled : Cycled F i.settings run s q cycles longer state r
  pub same : j.settings ≡ i.settings
  pub follows : Follows F j longer state
  pub kept : Kept F i.settings longer state
