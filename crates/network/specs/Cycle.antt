-- One cycle of a network, as a relation between the state before it and the state after it.
-- All nodes work side by side, from the slots as they were before the cycle.
use Rattle.std.specs.Prelude.{◌≡◌, ℕ, ◌+◌, ◌*◌, ◌≤◌, Bool, ◌⊎◌, List, [], ◌∷◌, ◌++◌, Some, None, Option, ◌≢◌}
use Rattle.fabric.specs.declared.parts.Flit.{Flit}
use Rattle.fabric.specs.declared.parts.Port.{Port}
use Rattle.fabric.specs.declared.parts.Port.TheVariants.{N, E, S, W}
use Rattle.fabric.specs.Ports.{place_of}
use Rattle.fabric.specs.Layouts.{Plan, Exists, Missing}
use Rattle.switch.specs.Switches.{Handing, Turn, at, turned}
use Rattle.bounds.specs.declared.settings.Settings.{Settings}
use Rattle.bounds.specs.SetUp.{all_tickets}
use Rattle.clock.specs.Draws.{register, draw_bits}
use Rattle.clock.specs.Epochs.{golden_ticket}
use Rattle.network.specs.Log.{Log, packet, word, aim, sent, waiting}
use Rattle.network.specs.Log.Happening.{entered, off}

-- what a network is made of
pub record Fabric : Type 0 where
  pub plan : Plan
  -- the permutation by which a node's places leave, for each handing
  pub turn : Handing → Turn

-- four places of a node, one behind each port
abbrev pub Places : Type 0
Places = Port → Option Flit

pub record State : Type 0 where
  -- how many cycles are carried out; they are numbered from 0
  pub cycles : ℕ
  pub slot : ℕ → Places
  pub log : Log

abbrev pub golden_in : Fabric → Settings → ℕ → ℕ
golden_in F P c = golden_ticket (all_tickets F.plan P) P.epoch c

abbrev pub in_slot_order : {A : Type 0} → (Port → A) → List A
in_slot_order x = x N ∷ x E ∷ x S ∷ x W ∷ []

-- Step 1: taking off.

-- a flit in a slot of node n, whose destination is this node
abbrev pub Destined : ℕ → Places → Port → Flit → Type 0
Destined n slots p f = (slots p ≡ Some f) × (f.destination ≡ n)

-- where ticket g is golden, flit f in slot p goes before h in slot q: the golden one of the lowest number, else the first in slot order
pub record Before (g : ℕ) (p : Port) (f : Flit) (q : Port) (h : Flit) : Type 0 where
  -- a golden flit is preceded only by a golden one of a number as low
  pub golden_first : h.ticket ≡ g → (f.ticket ≡ g) × (f.number ≤ h.number)
  -- where f is not ahead of h by this, it stands no later in slot order
  pub else_first : (f.ticket ≡ g → (h.ticket ≡ g) × (h.number ≤ f.number)) → place_of p ≤ place_of q

-- of the flits destined for the node, the one before all others; none if none is destined for it
abbrev pub Takes : ℕ → ℕ → Places → Option (Port × Flit) → Type 0
Takes g n slots None = (p : Port) (f : Flit) → Destined n slots p f → ⊥
Takes g n slots (Some b) = Destined n slots b.0 b.1 × ((q : Port) (h : Flit) → Destined n slots q h → Before g b.0 b.1 q h)

-- one of four places is changed, and the others stay
pub record Changed (p : Port) (o : Option Flit) (here then : Places) : Type 0 where
  pub there : then p ≡ o
  pub others : (q : Port) → (q ≢ p) → then q ≡ here q

-- what remains when that flit is taken off
abbrev pub Remains : Option (Port × Flit) → Places → Places → Type 0
Remains None here then = (p : Port) → then p ≡ here p
Remains (Some b) here then = Changed b.0 None here then

-- Step 2: entering.

-- the next flit of the packet that waits first at a node, with this cycle as its entry cycle
pub record Next (P : Settings) (s : State) (n : ℕ) (f : Flit) : Type 0 where
  pub others : List ℕ
  pub ticket : waiting P.tickets n s.log ≡ f.ticket ∷ others
  pub number : f.number ≡ sent f.ticket s.log
  pub destination : f.destination ≡ aim (packet f.ticket s.log)
  pub its_word : f.word ≡ word (packet f.ticket s.log) f.number
  pub now : f.entered ≡ s.cycles

pub record FirstEmpty (places : Places) (p : Port) : Type 0 where
  pub empty : places p ≡ None
  pub first : (q : Port) → places q ≡ None → place_of p ≤ place_of q

-- where a packet waits and a slot is empty, its next flit enters the first empty slot; otherwise nothing enters
abbrev pub LetsIn : Settings → State → ℕ → Places → Option (Port × Flit) → Type 0
LetsIn P s n places None = (waiting P.tickets n s.log ≡ []) ⊎ ((p : Port) → places p ≢ None)
LetsIn P s n places (Some b) = FirstEmpty places b.0 × Next P s n b.1

-- the four places with that flit
abbrev pub Filled : Option (Port × Flit) → Places → Places → Type 0
Filled None here then = (p : Port) → then p ≡ here p
Filled (Some b) here then = Changed b.0 (Some b.1) here then

-- Steps 3 and 4: drawing and switching.

-- the wish of a flit at node n is its layout's, for its destination
abbrev pub wish_of : Plan → ℕ → Option Flit → Option Port
wish_of p n None = None
wish_of p n (Some f) = p.wish n f.destination

-- the draw register has moved once for each node in each earlier cycle, and in this one for the nodes up to n
abbrev pub draws_at : Fabric → Settings → State → ℕ → List Bool
draws_at F P s n = draw_bits (register P.seed (s.cycles * F.plan.nodes + n + 1))

-- what a node does in one cycle
pub record Work : Type 0 where
  -- the flit that it takes off, with its slot
  pub off : Option (Port × Flit)
  -- what remains in the slots
  pub left : Places
  -- the flit that enters, with its slot
  pub entry : Option (Port × Flit)
  -- what then stands in the slots
  pub ready : Places
  -- what the switch is handed
  pub handing : Handing

-- the work of node n, from the state before the cycle
pub record Works (F : Fabric) (P : Settings) (s : State) (n : ℕ) (w : Work) : Type 0 where
  pub takes_off : Takes (golden_in F P s.cycles) n (s.slot n) w.off
  pub remains : Remains w.off (s.slot n) w.left
  pub lets_in : LetsIn P s n w.left w.entry
  pub fills : Filled w.entry w.left w.ready
  -- the four places in slot order, their wishes, the golden ticket of the cycle and the draw bits
  pub places : w.handing.places ≡ in_slot_order w.ready
  pub wishes : w.handing.wishes ≡ in_slot_order (λ p. wish_of F.plan n (w.ready p))
  pub golden : w.handing.golden ≡ golden_in F P s.cycles
  pub draws : w.handing.draws ≡ draws_at F P s n

abbrev pub off_at : ℕ → ℕ → Option (Port × Flit) → Log
off_at c n None = []
off_at c n (Some b) = off b.1 n c ∷ []

abbrev pub entered_at : ℕ → Option (Port × Flit) → Log
entered_at n None = []
entered_at n (Some b) = entered b.1 n ∷ []

-- what the nodes below n did in cycle c, nodes in rising number, at a node the taking off first; the newest stands first
abbrev pub news : ℕ → (ℕ → Work) → ℕ → Log
news c work ℕ.zero = []
news c work (ℕ.suc n) = entered_at n (work n).entry ++ (off_at c n (work n).off ++ news c work n)

-- one cycle leads from s to r
pub record Cycle (F : Fabric) (P : Settings) (s r : State) : Type 0 where
  pub work : ℕ → Work
  pub works : (n : ℕ) → Exists F.plan n → Works F P s n (work n)
  -- what leaves a node by a port arrives at the port's far end
  pub arrives : (n : ℕ) (p : Port) → Exists F.plan n →
      r.slot (F.plan.far n p).node (F.plan.far n p).port ≡ at (turned (F.turn (work n).handing) (work n).handing.places) p
  -- nodes that do not exist have nothing
  pub nothing_else : (n : ℕ) (p : Port) → Missing F.plan n → r.slot n p ≡ None
  pub counted : r.cycles ≡ s.cycles + 1
  pub logged : r.log ≡ news s.cycles work F.plan.nodes ++ s.log

-- what happened in a cycle
abbrev pub happened : {F : Fabric} {P : Settings} {s r : State} → Cycle F P s r → Log
happened {F} {s = s} c = news s.cycles c.work F.plan.nodes
