-- The record of a ticket, a node's waiting tickets, and how calls change them.
use Rattle.std.specs.Prelude.{◌≡◌, ℕ, ◌+◌, ◌<◌, ◌≤◌, Bool, cond, ◌&&◌, List, [], ◌∷◌, length, min, map, drop, replicate, Some, None, Option, ◌==◌, ◌≢◌, slice_index, slice_index_or, slice_set}
use Rattle.fabric.specs.declared.parts.Flit.{Flit}
use Rattle.batch.specs.Items.{items, joined}
use Rattle.bounds.specs.declared.settings.Settings.{Settings}
use Rattle.clock.specs.Draws.{shifted, draw_bits}
use Rattle.network.specs.Log.{all_held, words_of}
use Rattle.calls.specs.declared.ticket.Ticket.{Ticket}
use Rattle.calls.specs.declared.tables.Tables.{Tables}

-- the tickets that wait at each node, the first in front
abbrev pub all_waiting : Tables → List (List ℕ)
all_waiting i = map items i.waits

abbrev pub waiting_at : Tables → ℕ → List ℕ
waiting_at i n = slice_index_or (all_waiting i) n []

-- the first m places all hold a word
abbrev pub all_in : List (Option ℕ) → ℕ → Bool
all_in xs = all_held (λ k. slice_index_or xs k None)

-- the words of the first m places
abbrev pub values : List (Option ℕ) → ℕ → List ℕ
values xs = words_of (λ k. slice_index_or xs k None)

-- the packet under a ticket, if it is complete and goes to this node
abbrev pub arrived : Option Ticket → ℕ → Option Ticket
arrived None n = None
arrived (Some r) n = cond (all_in r.received (min r.size 4) && r.destination == n) (Some r) None

-- just set up
pub record Starts (i : Tables) (P : Settings) : Type 0 where
  pub settings : i.settings ≡ P
  pub cycles : i.cycles ≡ 0
  pub register : i.register ≡ P.seed
  pub slots : i.slots ≡ replicate 256 None
  pub tickets : i.tickets ≡ replicate 512 None
  pub waits : all_waiting i ≡ replicate 64 []

-- a packet just accepted
pub record Packed (r : Ticket) (destination : ℕ) (ws : List ℕ) : Type 0 where
  pub goes : r.destination ≡ destination
  pub size : r.size ≡ length ws
  pub sent : r.sent ≡ 0
  pub words : (k : ℕ) → k < 4 → slice_index r.words k ≡ slice_index ws k
  pub received : r.received ≡ replicate 4 None

-- nothing but tickets and queues is changed
pub record Keeps (i j : Tables) : Type 0 where
  pub settings : j.settings ≡ i.settings
  pub cycles : j.cycles ≡ i.cycles
  pub register : j.register ≡ i.register
  pub slots : j.slots ≡ i.slots

-- a packet is accepted under a ticket of a node, and waits there
pub record Accepts (i j : Tables) (n t d : ℕ) (ws : List ℕ) : Type 0 where
  pub keeps : Keeps i j
  pub its : Ticket
  pub packed : Packed its d ws
  pub tickets : j.tickets ≡ slice_set i.tickets t (Some its)
  pub waits : all_waiting j ≡ slice_set (all_waiting i) n (joined 8 (waiting_at i n) t)

-- a ticket whose packet is collected is free
pub record Frees (i j : Tables) (t : ℕ) : Type 0 where
  pub keeps : Keeps i j
  pub waits : j.waits ≡ i.waits
  pub tickets : j.tickets ≡ slice_set i.tickets t None

-- a word is entered in its place
pub record Receives (r q : Ticket) (k w : ℕ) : Type 0 where
  pub destination : q.destination ≡ r.destination
  pub size : q.size ≡ r.size
  pub sent : q.sent ≡ r.sent
  pub words : q.words ≡ r.words
  pub received : (j : ℕ) → j < 4 → k < 4 → slice_index_or q.received j None ≡ cond (j == k) (Some w) (slice_index_or r.received j None)

-- the next flit is sent
pub record Sends (r q : Ticket) (t c : ℕ) (o : Option Flit) : Type 0 where
  pub destination : q.destination ≡ r.destination
  pub size : q.size ≡ r.size
  pub words : q.words ≡ r.words
  pub received : q.received ≡ r.received
  pub sent : r.sent < 4 → q.sent ≡ r.sent + 1
  pub flit : r.sent < 4 → o ≡ Some (record { ticket = t; number = r.sent; destination = r.destination; word = slice_index r.words r.sent; entered = c })

-- the word of a flit is entered in the record of its ticket, if that is taken
pub record TakesIn (i j : Tables) (f : Flit) : Type 0 where
  pub keeps : Keeps i j
  pub waits : j.waits ≡ i.waits
  pub none : slice_index_or i.tickets f.ticket None ≡ None → j.tickets ≡ i.tickets
  pub some : (r : Ticket) → slice_index_or i.tickets f.ticket None ≡ Some r →
      (q : Ticket) × Receives r q f.number f.word × (j.tickets ≡ slice_set i.tickets f.ticket (Some q))

-- the next flit of a ticket that waits first at a node; after its last flit the packet waits no more
pub record LetsGo (i j : Tables) (n t : ℕ) (r : Ticket) (o : Option Flit) : Type 0 where
  pub its : Ticket
  pub sends : Sends r its t i.cycles o
  pub room : n < length (all_waiting i)
  pub tickets : j.tickets ≡ slice_set i.tickets t (Some its)
  pub stays : (its.sent ≢ its.size) → j.waits ≡ i.waits
  pub leaves : its.sent ≡ its.size → all_waiting j ≡ slice_set (all_waiting i) n (drop 1 (waiting_at i n))

pub record LetsIn (i j : Tables) (n : ℕ) (o : Option Flit) : Type 0 where
  pub keeps : Keeps i j
  pub none : waiting_at i n ≡ [] → (o ≡ None) × (j.tickets ≡ i.tickets) × (j.waits ≡ i.waits)
  pub some : (t : ℕ) (ts : List ℕ) (r : Ticket) → waiting_at i n ≡ t ∷ ts → slice_index_or i.tickets t None ≡ Some r →
      LetsGo i j n t r o

-- the draw register is shifted
pub record Draws (i j : Tables) (ds : List Bool) : Type 0 where
  pub settings : j.settings ≡ i.settings
  pub cycles : j.cycles ≡ i.cycles
  pub register : j.register ≡ shifted i.register
  pub bits : ds ≡ draw_bits j.register
  pub slots : j.slots ≡ i.slots
  pub tickets : j.tickets ≡ i.tickets
  pub waits : j.waits ≡ i.waits

-- a cycle ends: what arrived stands in the first m slots
pub record Advances (i j : Tables) (m : ℕ) (arrived : List (Option Flit)) : Type 0 where
  pub settings : j.settings ≡ i.settings
  pub cycles : j.cycles ≡ i.cycles + 1
  pub register : j.register ≡ i.register
  pub slots : (k : ℕ) → k < m → slice_index_or j.slots k None ≡ slice_index_or arrived k None
  pub rest : (k : ℕ) → m ≤ k → slice_index_or j.slots k None ≡ slice_index_or i.slots k None
  pub tickets : j.tickets ≡ i.tickets
  pub waits : j.waits ≡ i.waits
