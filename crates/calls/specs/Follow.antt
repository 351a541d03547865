-- How the tables of the code stand for a state, and what every call promises.
use Rattle.std.specs.Prelude.{◌≡◌, ℕ, ◌*◌, ◌<◌, ◌≤◌, not, List, [], ◌∷◌, ◌++◌, Some, None, Option, is_some, slice_index, slice_index_or}
use Rattle.fabric.specs.declared.parts.Port.{Port}
use Rattle.fabric.specs.declared.parts.Flit.{Flit}
use Rattle.fabric.specs.Ports.{slot_number}
use Rattle.fabric.specs.Verdicts.{Verdict}
use Rattle.fabric.specs.Verdicts.Verdict.{granted, refused}
use Rattle.bounds.specs.declared.settings.Settings.{Settings}
use Rattle.bounds.specs.SetUp.{all_tickets, set_up_verdict}
use Rattle.clock.specs.Draws.{register}
use Rattle.network.specs.Log as log
use Rattle.network.specs.Cycle.{Fabric, State}
use Rattle.network.specs.Runs.{Call, Outcome, Serves, Leads, fresh}
use Rattle.network.specs.Runs.Outcome.{offering, cycling, collecting, looking}
use Rattle.network.specs.Promises.{InTime, Kept}
use Rattle.calls.specs.declared.ticket.Ticket.{Ticket}
use Rattle.calls.specs.declared.tables.Tables.{Tables}
use Rattle.calls.specs.Records.{all_waiting}

abbrev pub slot_of : List (Option Flit) → ℕ → Port → Option Flit
slot_of xs n p = slice_index_or xs (slot_number (record { node = n; port = p })) None

-- the record of a ticket shows what a log says of its packet
pub record Recorded (r : Ticket) (t : ℕ) (l : log.Log) : Type 0 where
  pub destination : r.destination ≡ log.aim (log.packet t l)
  pub size : r.size ≡ log.size (log.packet t l)
  pub sent : r.sent ≡ log.sent t l
  pub words : (k : ℕ) → k < 4 → slice_index r.words k ≡ log.word (log.packet t l) k
  pub short : r.size ≤ 4
  pub received : (k : ℕ) → k < 4 → slice_index_or r.received k None ≡ log.received t k l

-- a ticket that is taken has its record, and a free one has none
pub record Entry (o : Option Ticket) (t : ℕ) (l : log.Log) : Type 0 where
  pub opened : is_some o ≡ not (log.free t l)
  pub recorded : (r : Ticket) → o ≡ Some r → Recorded r t l

abbrev pub Records : ℕ → List (Option Ticket) → log.Log → Type 0
Records G ts l = (t : ℕ) → t < G → Entry (slice_index_or ts t None) t l

-- the tickets that wait at each node
abbrev pub Queued : ℕ → ℕ → List (List ℕ) → log.Log → Type 0
Queued N T ls l = (n : ℕ) → n < N → slice_index_or ls n [] ≡ log.waiting T n l

-- the tables stand for a state
pub record Shows (F : Fabric) (i : Tables) (s : State) : Type 0 where
  pub cycles : i.cycles ≡ s.cycles
  pub drawn : i.register ≡ register i.settings.seed (s.cycles * F.plan.nodes)
  pub slots : (n : ℕ) (p : Port) → n < F.plan.nodes → slot_of i.slots n p ≡ s.slot n p
  pub records : Records (all_tickets F.plan i.settings) i.tickets s.log
  pub queued : Queued F.plan.nodes i.settings.tickets (all_waiting i) s.log

-- the tables of a network to which a run has led, in the state s
pub record Follows (F : Fabric) (i : Tables) (run : List Call) (s : State) : Type 0 where
  pub lawful : set_up_verdict F.plan i.settings ≡ granted tt
  pub leads : Leads F i.settings run s
  pub shows : Shows F i s

-- one more call has the outcome that it must have, and leads where it must lead, and all that is promised of the longer run is kept
pub record Continues (F : Fabric) (i j : Tables) (run : List Call) (s : State) (k : Call) (o : Outcome) : Type 0 where
  pub state : State
  pub serves : Serves F i.settings s k o state
  pub same : j.settings ≡ i.settings
  pub follows : Follows F j (k ∷ run) state
  pub kept : Kept F j.settings (k ∷ run) state

-- a verdict refuses
abbrev pub Refuses : {A : Type 0} → Verdict A → Type 0
Refuses (granted a) = ⊥
Refuses (refused k vs) = Unit {0}

-- a call is refused
abbrev pub Refused : Outcome → Type 0
Refused (offering v) = Refuses v
Refused (cycling v q) = Refuses v
Refused (collecting v memory) = Refuses v
Refused (looking v) = Refuses v

-- what a call promises that takes the tables i to j, for every run that led to i
pub record Promised (F : Fabric) (i j : Tables) (k : Call) (o : Outcome) : Type 0 where
  pub continues : (run : List Call) (s : State) → Follows F i run s → Continues F i j run s k o
  pub unchanged : Refused o → j ≡ i

-- calls one after another, the newest first, each of which kept its promise
pub data Served (F : Fabric) (i : Tables) : List Call → List Outcome → Tables → Type 0 where
  begun : Served F i [] [] i
  one_more : {ks : List Call} {os : List Outcome} {j m : Tables} {k : Call} {o : Outcome} → Served F i ks os j → Promised F j m k o → Served F i (k ∷ ks) (o ∷ os) m

-- a run of calls has these outcomes
pub data Answers (F : Fabric) (P : Settings) : List Call → List Outcome → State → Type 0 where
  set_up : Answers F P [] [] fresh
  one_more : {ks : List Call} {os : List Outcome} {s r : State} {k : Call} {o : Outcome} → Answers F P ks os s → Serves F P s k o r → Answers F P (k ∷ ks) (o ∷ os) r

-- all that is promised is kept at set-up, and after each call
abbrev pub KeptThroughout : {F : Fabric} {P : Settings} {ks : List Call} {os : List Outcome} {s : State} → Answers F P ks os s → Type 0
KeptThroughout {F} {P} set_up = Kept F P [] fresh
KeptThroughout {F} {P} (one_more {ks} {r = r} {k = k} a v) = Kept F P (k ∷ ks) r × KeptThroughout a

-- a run has exactly these outcomes
pub record Exactly (F : Fabric) (P : Settings) (ks : List Call) (os : List Outcome) : Type 0 where
  pub state : State
  pub answers : Answers F P ks os state
  pub only : (us : List Outcome) (s : State) → Answers F P ks us s → (us ≡ os) × (s ≡ state)
  pub kept : KeptThroughout answers

-- the whole promise: whatever calls are made from here, however many, and whichever of them are refused
abbrev pub Whole : Fabric → Tables → Type 0
Whole F i = (ks : List Call) (os : List Outcome) (j : Tables) → Served F i ks os j → Exactly F i.settings ks os

-- until its first set-up a network stands as if set up with these
abbrev pub first_settings : Settings
first_settings = record { tickets = 1; words = 1; epoch = 4096; seed = 1 }

-- just set up, with the whole promise
pub record Begins (F : Fabric) (P : Settings) (i : Tables) : Type 0 where
  pub settings : i.settings ≡ P
  pub follows : Follows F i [] fresh
  pub whole : Whole F i

-- whatever calls come yet, each flit that entered is taken off when l more cycles are carried out
abbrev pub StaysInTime : Fabric → Tables → ℕ → Type 0
StaysInTime F i l = (run : List Call) (s : State) → Follows F i run s → (more : List Call) (r : State) → Leads F i.settings (more ++ run) r → InTime l r
