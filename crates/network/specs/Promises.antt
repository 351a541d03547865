-- What every run of a network keeps, whatever calls come and whichever are refused.
use Rattle.std.specs.Prelude.{◌≡◌, ℕ, ◌+◌, ◌%◌, ◌≤◌, ◌⊎◌, List, [], ◌∷◌, ◌++◌, length, Some}
use Rattle.fabric.specs.declared.parts.Flit.{Flit}
use Rattle.fabric.specs.declared.parts.Port.{Port}
use Rattle.fabric.specs.Layouts.{Plan, Exists, Lawful}
use Rattle.fabric.specs.Verdicts.Verdict.{granted}
use Rattle.switch.specs.Switches.{LawfulSwitch}
use Rattle.line.specs.Queues.{Queue, Sound, contents}
use Rattle.bounds.specs.declared.settings.Settings.{Settings}
use Rattle.bounds.specs.SetUp.{all_tickets, set_up_verdict}
use Rattle.bounds.specs.Lateness.{latest}
use Rattle.network.specs.declared.event.Event.{Event}
use Rattle.network.specs.Log.{Happening, Log, Packet, packet}
use Rattle.network.specs.Log.Happening.{offered, entered, off, collected}
use Rattle.network.specs.Cycle.{Fabric, State, golden_in, happened}
use Rattle.network.specs.Runs.{Call, Outcome, Serves, Leads, told}
use Rattle.network.specs.Runs.Call.{cycle}
use Rattle.network.specs.Runs.Outcome.{cycling}
use Rattle.network.specs.Runs.Serves.{offer_granted, offer_refused, cycle_granted, cycle_refused, collect_granted, collect_refused, looks}
use Rattle.network.specs.Runs.Leads.{set_up, one_more}

-- a flit is told by ticket, number and entry cycle
pub record Same (f g : Flit) : Type 0 where
  pub ticket : f.ticket ≡ g.ticket
  pub number : f.number ≡ g.number
  pub since : f.entered ≡ g.entered

-- h stands in a log, with what is newer and what is older
pub record Stands (h : Happening) (l : Log) : Type 0 where
  pub newer : Log
  pub older : Log
  pub split : l ≡ newer ++ (h ∷ older)

abbrev pub NeverOff : Flit → Log → Type 0
NeverOff f l = (g : Flit) (n c : ℕ) → Same g f → Stands (off g n c) l → ⊥

-- taken off exactly once, at its destination
pub record OffOnce (f : Flit) (l : Log) : Type 0 where
  pub flit : Flit
  pub node : ℕ
  pub cycle : ℕ
  pub same : Same flit f
  pub there : Stands (off flit node cycle) l
  pub at_destination : node ≡ f.destination
  pub before : NeverOff f there.newer
  pub behind : NeverOff f there.older

pub record InOneSlot (f : Flit) (s : State) : Type 0 where
  pub node : ℕ
  pub port : Port
  pub here : s.slot node port ≡ Some f
  pub only : (n : ℕ) (p : Port) (g : Flit) → s.slot n p ≡ Some g → Same g f → (n ≡ node) × (p ≡ port)

abbrev pub InNoSlot : Flit → State → Type 0
InNoSlot f s = (n : ℕ) (p : Port) (g : Flit) → s.slot n p ≡ Some g → Same g f → ⊥

-- the packet last accepted under a flit's ticket has the flit's destination, and its word at the flit's number
pub record OfPacket (f : Flit) (l : Log) : Type 0 where
  pub its : Packet
  pub accepted : packet f.ticket l ≡ Some its
  pub destination : f.destination ≡ its.destination
  pub front : List ℕ
  pub back : List ℕ
  pub words : its.words ≡ front ++ (f.word ∷ back)
  pub number : f.number ≡ length front

-- a packet's offer was accepted, and its ticket was neither offered nor collected since
pub record OfferedLast (t : ℕ) (p : Packet) (l : Log) : Type 0 where
  pub there : Stands (offered t p) l
  pub no_offer : (q : Packet) → Stands (offered t q) there.newer → ⊥
  pub no_collection : (r : ℕ) (ws : List ℕ) → Stands (collected t r ws) there.newer → ⊥

-- the events that a call puts into the caller's line, the oldest first
abbrev pub puts : {F : Fabric} {P : Settings} {s : State} {k : Call} {o : Outcome} {r : State} → Serves F P s k o r → List Event
puts (offer_granted v) = []
puts (offer_refused v) = []
puts (cycle_granted v c) = told (happened c)
puts (cycle_refused v) = []
puts (collect_granted v) = []
puts (collect_refused v) = []
puts looks = []

-- and those of a run
abbrev pub story : {F : Fabric} {P : Settings} {run : List Call} {s : State} → Leads F P run s → List Event
story set_up = []
story (one_more l v) = story l ++ puts v

-- the flits of a ticket stand alike in two networks: in slot, number and destination
abbrev pub AlikeFrom : ℕ → State → State → Type 0
AlikeFrom t s r = (n : ℕ) (p : Port) (f : Flit) → s.slot n p ≡ Some f → f.ticket ≡ t →
    (g : Flit) × (r.slot n p ≡ Some g) × (g.ticket ≡ t) × (g.number ≡ f.number) × (g.destination ≡ f.destination)

abbrev pub Alike : ℕ → State → State → Type 0
Alike t s r = AlikeFrom t s r × AlikeFrom t r s

-- a state begins an epoch of ticket t
abbrev pub Begins : Fabric → Settings → ℕ → State → Type 0
Begins F P t s = (s.cycles % P.epoch ≡ 0) × (golden_in F P s.cycles ≡ t)

-- no flit of a ticket entered between two states
abbrev pub NoneEntered : ℕ → State → State → Type 0
NoneEntered t early late = (l : Log) → late.log ≡ l ++ early.log → (f : Flit) (n : ℕ) → f.ticket ≡ t → Stands (entered f n) l → ⊥

-- a run that is k cycles into an epoch of ticket t, which began in the state early; no flit of t entered in it
pub record IntoEpoch (F : Fabric) (P : Settings) (t k : ℕ) (early : State) (run : List Call) (late : State) : Type 0 where
  pub earlier : List Call
  pub more : List Call
  pub split : run ≡ more ++ earlier
  pub led_early : Leads F P earlier early
  pub led_late : Leads F P run late
  pub begins : Begins F P t early
  pub within : k ≤ P.epoch
  pub passed : late.cycles ≡ early.cycles + k
  pub none_entered : NoneEntered t early late

-- two flits, one of each of two networks, are in the same slot, or both taken off
abbrev pub Together : State → State → Flit → Flit → Type 0
Together s r f g = ((n : ℕ) × (p : Port) × (s.slot n p ≡ Some f) × (r.slot n p ≡ Some g)) ⊎ (OffOnce f s.log × OffOnce g r.log)

-- each flit that entered is taken off, once and at its destination, when l more cycles are carried out
abbrev pub InTime : ℕ → State → Type 0
InTime l s = (f : Flit) (n : ℕ) → Stands (entered f n) s.log → f.entered + 1 + l ≤ s.cycles → OffOnce f s.log

-- once so many cycles are carried out, a flit that entered in this cycle is taken off
abbrev pub off_by : Plan → Settings → ℕ → ℕ
off_by p P c = c + 1 + latest p P

-- what is kept by a run that leads to s
pub record Kept (F : Fabric) (P : Settings) (run : List Call) (s : State) : Type 0 where
  -- in time: within (G + 1) × L cycles
  pub delivered : InTime (latest F.plan P) s
  -- all accounted for: every flit that entered is taken off or in exactly one slot
  pub accounted : (f : Flit) (n : ℕ) → Stands (entered f n) s.log →
      (OffOnce f s.log × InNoSlot f s) ⊎ (NeverOff f s.log × InOneSlot f s)
  -- slots hold nothing else
  pub nothing_else : (n : ℕ) (p : Port) (f : Flit) → s.slot n p ≡ Some f →
      Exists F.plan n × ((m : ℕ) × Stands (entered f m) s.log)
  -- only flits that entered are taken off
  pub only_entered : (f : Flit) (n c : ℕ) → Stands (off f n c) s.log → (m : ℕ) × Stands (entered f m) s.log
  -- no two entries are one flit
  pub told_apart : (f g : Flit) (n m : ℕ) (e : Stands (entered f n) s.log) → Stands (entered g m) e.older → Same g f → ⊥
  -- each flit carries the word and the destination of its ticket's packet last accepted before it entered
  pub carries : (f : Flit) (n : ℕ) (e : Stands (entered f n) s.log) → OfPacket f e.older
  -- collections bring accepted offers only, each at most once, at its destination, with exactly its words in order
  pub collections : (t r : ℕ) (ws : List ℕ) (e : Stands (collected t r ws) s.log) →
      OfferedLast t (record { destination = r; words = ws }) e.older
  -- the events put into the callers' lines are what entered and what was taken off, in order
  pub all_told : (led : Leads F P run s) → story led ≡ told s.log
  -- golden flits undisturbed: two networks that begin an epoch of ticket t with its flits alike have, as far into the epoch,
  -- each of these flits in the same slot or taken off in both, whatever other traffic and seeds they have
  pub undisturbed : (Q : Settings) → all_tickets F.plan Q ≡ all_tickets F.plan P → Q.epoch ≡ P.epoch →
      (t k : ℕ) (early early' : State) (run' : List Call) (r : State) →
      IntoEpoch F P t k early run s → IntoEpoch F Q t k early' run' r → Alike t early early' →
      (n : ℕ) (p : Port) (f g : Flit) → early.slot n p ≡ Some f → f.ticket ≡ t → early'.slot n p ≡ Some g → Together s r f g

-- a call has exactly one outcome, and leads to exactly one state
pub record Answered (F : Fabric) (P : Settings) (s : State) (k : Call) : Type 0 where
  pub outcome : Outcome
  pub state : State
  pub served : Serves F P s k outcome state
  pub only : (o : Outcome) (r : State) → Serves F P s k o r → (o ≡ outcome) × (r ≡ state)

-- what is promised of a run
pub record Promised (F : Fabric) (P : Settings) (run : List Call) : Type 0 where
  -- a run of calls leads to exactly one state
  pub state : State
  pub leads : Leads F P run state
  pub only : (s : State) → Leads F P run s → s ≡ state
  pub kept : (s : State) → Leads F P run s → Kept F P run s
  pub answered : (s : State) (k : Call) → Answered F P s k
  -- where a cycle is granted, its events come into the caller's line after what the line held
  pub seen : (s : State) (q q' : Queue Event) (k : ℕ) (r : State) (v : Serves F P s (cycle q) (cycling (granted k) q') r) →
      Sound q → contents q' ≡ contents q ++ puts v

-- it is promised of every layout and every switch that keep their laws, all settings that set-up accepts, and every run of calls
abbrev pub AlwaysKept : Type 0
AlwaysKept = (F : Fabric) (P : Settings) → Lawful F.plan → LawfulSwitch F.turn → set_up_verdict F.plan P ≡ granted tt →
    (run : List Call) → Promised F P run
