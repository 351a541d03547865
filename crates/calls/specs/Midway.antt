-- A network in the midst of a cycle: how the tables stand between two steps, and after the first n nodes.
use Rattle.std.specs.Prelude.{◌≡◌, ℕ, ◌+◌, ◌*◌, ◌/◌, ◌<◌, ◌≤◌, Bool, List, ◌++◌, length, None, Option, slice_index_or}
use Rattle.fabric.specs.declared.parts.Port.{Port}
use Rattle.fabric.specs.declared.parts.Flit.{Flit}
use Rattle.fabric.specs.Layouts.{Lawful}
use Rattle.switch.specs.Switches.{at, handed, turned}
use Rattle.line.specs.Queues.{Queue}
use Rattle.bounds.specs.declared.settings.Settings.{Settings}
use Rattle.bounds.specs.SetUp.{all_tickets}
use Rattle.clock.specs.Draws.{register}
use Rattle.network.specs.declared.event.Event.{Event}
use Rattle.network.specs.Log.{Log, packet, free, sent, waiting}
use Rattle.network.specs.Cycle.{Fabric, State, golden_in, off_at, entered_at, in_slot_order, wish_of}
use Rattle.network.specs.Runs.{Call, Leads, put_all, told, count_off}
use Rattle.network.specs.Computed.{taken, left, entering, ready, leaving, done}
use Rattle.calls.specs.declared.tables.Tables.{Tables}
use Rattle.calls.specs.Records.{all_waiting, Keeps}
use Rattle.calls.specs.Steps.{far_place, Spread}
use Rattle.calls.specs.Follow.{slot_of, Records, Queued}

-- a run leads to this state
abbrev pub Reached : Fabric → Settings → State → Type 0
Reached F P s = (run : List Call) × Leads F P run s

-- the slots and the cycle of a state, and the tickets of a log
pub record Between (F : Fabric) (s : State) (l : Log) (i : Tables) : Type 0 where
  pub cycles : i.cycles ≡ s.cycles
  pub slots : (n : ℕ) (p : Port) → n < F.plan.nodes → slot_of i.slots n p ≡ s.slot n p
  pub records : Records (all_tickets F.plan i.settings) i.tickets l
  pub queued : Queued F.plan.nodes i.settings.tickets (all_waiting i) l

-- a node takes off: the tables then show the log with that, and its event is put into the line
pub record Took (F : Fabric) (P : Settings) (s : State) (n : ℕ) (l : Log) (j : Tables) (q r : Queue Event) (places : List (Option Flit)) (off : ℕ) : Type 0 where
  pub shows : Between F s (off_at s.cycles n (taken F P s n) ++ l) j
  pub gives : places ≡ in_slot_order (left F P s n)
  pub line : r ≡ put_all q (told (off_at s.cycles n (taken F P s n)))
  pub count : off ≡ count_off (off_at s.cycles n (taken F P s n))

pub record TakesOff (i j : Tables) (n g : ℕ) (q r : Queue Event) (places : List (Option Flit)) (off : ℕ) : Type 0 where
  pub keeps : Keeps i j
  pub few : off < 2
  pub took : (F : Fabric) (s : State) (l : Log) → Lawful F.plan → Reached F i.settings s → n < F.plan.nodes → g ≡ golden_in F i.settings s.cycles →
      Between F s l i → q.held < length q.memory → Took F i.settings s n l j q r places off

-- a log that says of the node's own tickets what the state's log says
pub record Own (P : Settings) (s : State) (n : ℕ) (l : Log) : Type 0 where
  pub taken : (t : ℕ) → free t l ≡ free t s.log
  pub waits : waiting P.tickets n l ≡ waiting P.tickets n s.log
  pub packets : (t : ℕ) → packet t l ≡ packet t s.log
  pub flits : (t : ℕ) → t / P.tickets ≡ n → sent t l ≡ sent t s.log

-- a node lets in
pub record Let (F : Fabric) (P : Settings) (s : State) (n : ℕ) (l : Log) (j : Tables) (q r : Queue Event) (places : List (Option Flit)) : Type 0 where
  pub shows : Between F s (entered_at n (entering F P s n) ++ l) j
  pub gives : places ≡ in_slot_order (ready F P s n)
  pub line : r ≡ put_all q (told (entered_at n (entering F P s n)))

pub record Enters (i j : Tables) (n : ℕ) (q r : Queue Event) (before after : List (Option Flit)) : Type 0 where
  pub keeps : Keeps i j
  pub lets : (F : Fabric) (s : State) (l : Log) → Lawful F.plan → Reached F i.settings s → n < F.plan.nodes → Own i.settings s n l →
      Between F s l i → before ≡ in_slot_order (left F i.settings s n) → q.held < length q.memory → Let F i.settings s n l j q r after

-- a node's places are sent on, as the switch turns them
abbrev pub Sent : Fabric → ℕ → List (Option Flit) → ℕ → List Bool → List (Option Flit) → List (Option Flit) → Type 0
Sent F n places g ds before after =
    let wishes = in_slot_order (λ p. wish_of F.plan n (at places p)) in
    Spread F.plan n (turned (F.turn (handed places wishes g ds)) places) before after

-- after the first n nodes
pub record Midway (F : Fabric) (P : Settings) (s : State) (n : ℕ) (i : Tables) (arrived : List (Option Flit)) (q r : Queue Event) (off : ℕ) : Type 0 where
  pub settings : i.settings ≡ P
  pub shows : Between F s (done F P s n ++ s.log) i
  pub drawn : i.register ≡ register P.seed (s.cycles * F.plan.nodes + n)
  pub sent : (m : ℕ) (p : Port) → m < n → slice_index_or arrived (far_place F.plan m p) None ≡ leaving F P s m p
  pub line : r ≡ put_all q (told (done F P s n))
  pub count : off ≡ count_off (done F P s n)

-- one node's work takes the tables from one node to the next
pub record NodeWorks (F : Fabric) (i j : Tables) (n g : ℕ) (before after : List (Option Flit)) (u v : Queue Event) (off : ℕ) : Type 0 where
  pub same : j.settings ≡ i.settings
  pub cycles : j.cycles ≡ i.cycles
  pub few : off < 2
  pub works : (s : State) (q : Queue Event) (count : ℕ) → Reached F i.settings s → g ≡ golden_in F i.settings s.cycles → u.held + 2 ≤ length u.memory →
      Midway F i.settings s n i before q u count → Midway F i.settings s (n + 1) j after q v (count + off)
