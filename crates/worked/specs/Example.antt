-- A run of a small network, and faults that no network of these definitions has.
use Rattle.std.specs.Prelude.{◌≡◌, ℕ, List, [], ◌∷◌, Some}
use Rattle.fabric.specs.declared.parts.Flit.{Flit}
use Rattle.fabric.specs.declared.parts.Port.TheVariants.{E, W}
use Rattle.fabric.specs.Meshes.{mesh_plan}
use Rattle.fabric.specs.Verdicts.Verdict.{refused}
use Rattle.switch.specs.Switches.{Handing, Turn}
use Rattle.switch.specs.Chippers.{chipper_turn}
use Rattle.switch.specs.Blesses.{bless_turn}
use Rattle.line.specs.Queues.{Queue, empty}
use Rattle.bounds.specs.declared.settings.Settings.{Settings}
use Rattle.network.specs.declared.event.Event.{Event}
use Rattle.network.specs.declared.event.Kind.TheVariants.{In}
use Rattle.network.specs.Log.{Log}
use Rattle.network.specs.Log.Happening.{offered, entered, off, collected}
use Rattle.network.specs.Cycle.{Fabric, State, Cycle}
use Rattle.network.specs.Runs.{Call, Outcome, Serves, fresh, Leads}
use Rattle.network.specs.Runs.Call.{offer, cycle, collect, look}
use Rattle.network.specs.Runs.Outcome.{offering}

-- three nodes in a row
abbrev pub row : (Handing → Turn) → Fabric
row turn = record { plan = mesh_plan 3 1; turn = turn }

-- own ticket 1 of node n is ticket 2 × n + 1; in the first four cycles ticket 0 is golden
abbrev pub settings : Settings
settings = record { tickets = 2; words = 1; epoch = 4; seed = 1 }

-- an empty event line, of six places, as many as a cycle of three nodes wants
abbrev place : Event
place = record { cycle = 0; kind = In; ticket = 0; number = 0; node = 0; entered = 0 }

abbrev line : Queue Event
line = empty (place ∷ place ∷ place ∷ place ∷ place ∷ place ∷ [])

-- Runs, the newest call first.

abbrev pub first_offer : List Call
first_offer = offer 0 1 2 (7 ∷ []) ∷ []

-- node 0 sends the word 7 to node 2, and a cycle later node 1 sends it the word 9
abbrev pub both_sent : List Call
both_sent = offer 1 1 2 (9 ∷ []) ∷ cycle line ∷ first_offer

-- in the next cycle both flits are at node 1, and wish for port E
abbrev pub both_met : List Call
both_met = cycle line ∷ both_sent

abbrev pub whole : List Call
whole = collect 2 0 1 (0 ∷ []) ∷ collect 2 1 1 (0 ∷ []) ∷ cycle line ∷ cycle line ∷ cycle line ∷ both_met

abbrev pub seven : Flit
seven = record { ticket = 1; number = 0; destination = 2; word = 7; entered = 0 }

abbrev pub nine : Flit
nine = record { ticket = 3; number = 0; destination = 2; word = 9; entered = 1 }

-- what happens in the whole run, newest first
abbrev pub happenings : Log
happenings =
    collected 1 2 (7 ∷ [])
    ∷ collected 3 2 (9 ∷ [])
    ∷ off seven 2 4
    ∷ off nine 2 2
    ∷ entered nine 1
    ∷ offered 3 (record { destination = 2; words = 9 ∷ [] })
    ∷ entered seven 0
    ∷ offered 1 (record { destination = 2; words = 7 ∷ [] })
    ∷ []

-- flits enter, one is deflected, and all are taken off and collected
pub record Example : Type 0 where
  pub last : State
  pub leads : Leads (row chipper_turn) settings whole last
  pub all : last.log ≡ happenings
  -- one hop from its destination, and a cycle later two
  pub near : (s : State) → Leads (row chipper_turn) settings both_sent s → s.slot 1 W ≡ Some seven
  pub deflected : (s : State) → Leads (row chipper_turn) settings both_met s → s.slot 0 E ≡ Some seven

-- faults that the definitions exclude
pub record Excluded : Type 0 where
  -- a cycle that only counts
  pub counts_only : (s r : State) → Leads (row chipper_turn) settings first_offer s → r.slot ≡ s.slot → r.log ≡ s.log → Cycle (row chipper_turn) settings s r → ⊥
  -- offers that are always refused
  pub refuses_all : (k : ℕ) (vs : List ℕ) (r : State) → Serves (row chipper_turn) settings fresh (offer 0 1 2 (7 ∷ [])) (offering (refused k vs)) r → ⊥
  -- a look that answers the same always
  pub looks_alike : (o : Outcome) → ((run : List Call) (s : State) → Leads (row chipper_turn) settings run s → Serves (row chipper_turn) settings s (look 1 3) o s) → ⊥
  -- a switch that is never consulted: then the same run would lead to the same state under two switches
  pub no_switch : (s : State) → Leads (row chipper_turn) settings both_met s → Leads (row bless_turn) settings both_met s → ⊥
