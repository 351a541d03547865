-- How far the run of a sheet has come, between its calls.
use Rattle.std.specs.Prelude.{◌≡◌, ℕ, ◌+◌, ◌*◌, ◌^◌, ◌<◌, ◌≤◌, cond, List, [], ◌∷◌, ◌++◌, map, length, Some, None, Option, slice_index_or}
use Rattle.std.specs.List.{AllByRecursion}
use Rattle.fabric.specs.Verdicts.Verdict.{granted}
use Rattle.line.specs.Queues.{Queue}
use Rattle.line.specs.Lines.{holds}
use Rattle.bounds.specs.declared.settings.Settings.{Settings}
use Rattle.bounds.specs.SetUp.{all_tickets}
use Rattle.network.specs.declared.event.Event.{Event}
use Rattle.network.specs.Log.{Log, free, aim, packet}
use Rattle.network.specs.Log.Happening.{offered, entered, off, collected}
use Rattle.network.specs.Cycle.{Fabric, State}
use Rattle.network.specs.Runs.{Call, Serves, told, count_off, fresh}
use Rattle.network.specs.Runs.Call.{cycle}
use Rattle.network.specs.Runs.Outcome.{cycling}
use Rattle.network.specs.Promises.{puts}
use Rattle.calls.specs.declared.tables.Tables.{Tables}
use Rattle.calls.specs.Follow.{Follows}
use Rattle.text.specs.declared.parts.Packet.{Packet}
use Rattle.text.specs.Texts.{Field, Fits, text}
use Rattle.text.specs.Lines.{Sized, packet_line}
use Rattle.runsheet.specs.Sheets.{Rising}
use Rattle.writer.specs.declared.writer.Writer.{Writer}
use Rattle.runner.specs.declared.tally.Tally.{Tally}
use Rattle.runner.specs.declared.session.Session.{Session}
use Rattle.runner.specs.declared.planned.Planned.{Planned}
use Rattle.network.specs.Counts.{offers, entries, collections}
use Rattle.runner.specs.Listing.{Offers, Collects, Turn, Lists, line_of}
use Rattle.runner.specs.Tallies.{Tallied}
use Rattle.runner.specs.Answering.{Holds}

-- where the packet of each ticket that is not free goes
abbrev pub Aimed : ℕ → List (Option ℕ) → Log → Type 0
Aimed G aims l = (t : ℕ) → t < G → slice_index_or aims t None ≡ cond (free t l) None (Some (aim (packet t l)))

-- what happened, with k packets refused, has lines of no more bytes
abbrev pub most_bytes : ℕ → Log → ℕ
most_bytes k l = 60 * k + (20 * entries l + (20 * count_off l + 60 * collections l))

-- these lines are written of what happened when o packets were offered, of which some were refused, in a memory that is long enough for every listing
pub record Spent (M : List ℕ) (w : Writer) (ls : List (List Field)) (l : Log) (o : ℕ) : Type 0 where
  pub declined : ℕ
  pub packets : declined + offers l ≡ o
  pub few : o ≤ 256
  pub long : 65536 ≤ length M
  pub holds : Holds M w (text ls) (most_bytes declined l)

-- each packet that was accepted has at most four words, of 32 bits
abbrev pub Narrow : Log → Type 0
Narrow [] = Unit {0}
Narrow (offered t p ∷ l) = (length p.words ≤ 4) × AllByRecursion (λ w. w < 2 ^ 32) p.words × Narrow l
Narrow (entered f n ∷ l) = Narrow l
Narrow (off f n c ∷ l) = Narrow l
Narrow (collected t r ws ∷ l) = Narrow l

-- the calls that led the tables to state s
pub record Calls (F : Fabric) (P : Settings) (i : Tables) (s : State) : Type 0 where
  pub run : List Call
  pub follows : Follows F i run s
  pub settings : i.settings ≡ P

-- the network stands in state s after o packets were offered, and these lines are written of these events, at the start of the memory M
pub record At (F : Fabric) (P : Settings) (M : List ℕ) (i : Tables) (aims : List (Option ℕ)) (t : Tally) (w : Writer) (s : State) (ls : List (List Field)) (es : List Event) (o : ℕ) : Type 0 where
  pub calls : Calls F P i s
  pub aimed : Aimed (all_tickets F.plan P) aims s.log
  pub places : length aims ≡ 512
  pub events : told s.log ≡ es
  pub narrow : Narrow s.log
  pub tallied : Tallied t es
  pub spent : Spent M w ls s.log o

-- the same of a session, of which the sizes are known
pub record Stands {A B : Type 0} (F : Fabric) (P : Settings) (M : List ℕ) (x : Session A B) (w : Writer) (s : State) (ls : List (List Field)) (es : List Event) (o : ℕ) : Type 0 where
  pub at : At F P M x.network.inner x.aims x.tally w s ls es o
  pub nodes : x.nodes ≡ F.plan.nodes
  pub tickets : x.tickets ≡ P.tickets

-- wherever the session may stand
abbrev pub Wherever : {A B : Type 0} → Fabric → Session A B → Writer → (Settings → List ℕ → State → List (List Field) → List Event → ℕ → Type 0) → Type 0
Wherever F x w Q = (P : Settings) (M : List ℕ) (s : State) (ls : List (List Field)) (es : List Event) (o : ℕ) → Stands F P M x w s ls es o → Q P M s ls es o

-- a session under way in a sheet's run
pub record Going {A B : Type 0} (F : Fabric) (x : Session A B) (w : Writer) : Type 0 where
  pub settings : Settings
  pub memory : List ℕ
  pub state : State
  pub lines : List (List Field)
  pub events : List Event
  pub packets : ℕ
  pub stands : Stands F settings memory x w state lines events packets

-- a packet of a sheet
pub record Sendable (p : Packet) : Type 0 where
  pub sized : Sized p
  pub numbers : AllByRecursion Fits (packet_line p)

-- a packet was offered
pub record OfferedFrom {A B : Type 0} (F : Fabric) (P : Settings) (M : List ℕ) (p : Packet) (y : Session A B) (v : Writer) (s : State) (ls : List (List Field)) (es : List Event) (o : ℕ) : Type 0 where
  pub state : State
  pub more : List (List Field)
  pub offers : (s₀ : State) (ps : List Packet) (rs : List (List Field)) → Offers F P s₀ ps s rs → Offers F P s₀ (ps ++ p ∷ []) state (rs ++ more)
  pub counted : state.cycles ≡ s.cycles
  pub stands : Stands F P M y v state (ls ++ more) es (o + 1)

abbrev pub Offered : {A B : Type 0} → Fabric → Packet → Session A B → Writer → Session A B → Writer → Type 0
Offered F p x w y v = Wherever F x w (λ P M s ls es o. o < 256 → OfferedFrom F P M p y v s ls es o)

-- the packets that come yet: the next one, and those behind it
abbrev pub to_come : Option Packet → List Packet → List Packet
to_come None ps = []
to_come (Some p) ps = p ∷ ps

abbrev pub coming : Planned → List Packet
coming p = to_come p.next (holds p.rest)

-- the first of the packets is not due in cycle c, if there is one
abbrev pub NoneDue : ℕ → List Packet → Type 0
NoneDue c [] = Unit {0}
NoneDue c (p ∷ ps) = p.cycle ≡ c → ⊥

-- the packets wait in the same memory
abbrev pub SamePlaces : Planned → Planned → Type 0
SamePlaces p q = q.rest.memory.ghost_name ≡ p.rest.memory.ghost_name

-- the packets that come yet can be offered in cycle c and later
pub record Left (c : ℕ) (later : List Packet) : Type 0 where
  pub rising : Rising c later
  pub sendable : AllByRecursion Sendable later

-- a session under way before cycle c, with packets that come yet
pub record Ready {A B : Type 0} (F : Fabric) (c : ℕ) (coming : List Packet) (x : Session A B) (w : Writer) : Type 0 where
  pub going : Going F x w
  pub now : going.state.cycles ≡ c
  pub room : going.packets + length coming ≤ 256
  pub left : Left c coming

-- the packets due in cycle c were offered
pub record DueFrom {A B : Type 0} (F : Fabric) (P : Settings) (M : List ℕ) (c : ℕ) (coming later : List Packet) (y : Session A B) (v : Writer) (s : State) (ls : List (List Field)) (es : List Event) (o : ℕ) : Type 0 where
  pub due : List Packet
  pub split : coming ≡ due ++ later
  pub each_due : AllByRecursion (λ p. p.cycle ≡ c) due
  pub state : State
  pub more : List (List Field)
  pub offers : Offers F P s due state more
  pub counted : state.cycles ≡ s.cycles
  pub stands : Stands F P M y v state (ls ++ more) es (o + length due)

abbrev pub Due : {A B : Type 0} → Fabric → ℕ → List Packet → List Packet → Session A B → Writer → Session A B → Writer → Type 0
Due F c coming later x w y v = Wherever F x w (λ P M s ls es o. o + length coming ≤ 256 → DueFrom F P M c coming later y v s ls es o)

-- a cycle was carried out
pub record CycledFrom {A B : Type 0} (F : Fabric) (P : Settings) (M : List ℕ) (y : Session A B) (v : Writer) (s : State) (ls : List (List Field)) (es : List Event) (o : ℕ) : Type 0 where
  pub state : State
  pub line : Queue Event
  pub filled : Queue Event
  pub off : ℕ
  pub serves : Serves F P s (cycle line) (cycling (granted off) filled) state
  pub counted : state.cycles ≡ s.cycles + 1
  pub stands : Stands F P M y v state (ls ++ map line_of (puts serves)) (es ++ puts serves) o

abbrev pub Cycled : {A B : Type 0} → Fabric → Session A B → Writer → Session A B → Writer → Type 0
Cycled F x w y v = Wherever F x w (λ P M s ls es o. s.cycles < 65536 → CycledFrom F P M y v s ls es o)

-- a session that is not at its last cycle
pub record Early {A B : Type 0} (F : Fabric) (x : Session A B) (w : Writer) : Type 0 where
  pub going : Going F x w
  pub early : going.state.cycles < 65536

-- a ticket was collected if it was complete
pub record TriedFrom {A B : Type 0} (F : Fabric) (P : Settings) (M : List ℕ) (c g : ℕ) (y : Session A B) (v : Writer) (s : State) (ls : List (List Field)) (es : List Event) (o : ℕ) : Type 0 where
  pub state : State
  pub more : List (List Field)
  pub collects : (s₀ : State) (rs : List (List Field)) → Collects F P c s₀ g s rs → Collects F P c s₀ (g + 1) state (rs ++ more)
  pub counted : state.cycles ≡ s.cycles
  pub stands : Stands F P M y v state (ls ++ more) es o

abbrev pub Tried : {A B : Type 0} → Fabric → ℕ → ℕ → Session A B → Writer → Session A B → Writer → Type 0
Tried F c g x w y v = Wherever F x w (λ P M s ls es o. TriedFrom F P M c g y v s ls es o)

-- the complete tickets below g were collected
pub record CollectedFrom {A B : Type 0} (F : Fabric) (P : Settings) (M : List ℕ) (c g : ℕ) (y : Session A B) (v : Writer) (s : State) (ls : List (List Field)) (es : List Event) (o : ℕ) : Type 0 where
  pub state : State
  pub more : List (List Field)
  pub collects : Collects F P c s g state more
  pub counted : state.cycles ≡ s.cycles
  pub stands : Stands F P M y v state (ls ++ more) es o

abbrev pub Collected : {A B : Type 0} → Fabric → ℕ → ℕ → Session A B → Writer → Session A B → Writer → Type 0
Collected F c g x w y v = Wherever F x w (λ P M s ls es o. CollectedFrom F P M c g y v s ls es o)

-- one cycle of the run, from its offers to its collections
pub record TurnedFrom {A B : Type 0} (F : Fabric) (P : Settings) (M : List ℕ) (c : ℕ) (coming later : List Packet) (y : Session A B) (v : Writer) (s : State) (ls : List (List Field)) (es : List Event) (o : ℕ) : Type 0 where
  pub due : List Packet
  pub split : coming ≡ due ++ later
  pub state : State
  pub more : List (List Field)
  pub news : List Event
  pub turn : Turn F P c due s state more news
  pub counted : state.cycles ≡ s.cycles + 1
  pub stands : Stands F P M y v state (ls ++ more) (es ++ news) (o + length due)

abbrev pub Turned : {A B : Type 0} → Fabric → ℕ → List Packet → List Packet → Session A B → Writer → Session A B → Writer → Type 0
Turned F c coming later x w y v = Wherever F x w (λ P M s ls es o. s.cycles ≡ c → o + length coming ≤ 256 → TurnedFrom F P M c coming later y v s ls es o)

-- a session whose network was just set up, with all its packets to come
pub record Begun {A B : Type 0} (F : Fabric) (cycles : ℕ) (ps : List Packet) (x : Session A B) (w : Writer) : Type 0 where
  pub settings : Settings
  pub memory : List ℕ
  pub stands : Stands F settings memory x w fresh [] [] 0
  pub few : length ps ≤ 256
  pub left : Left 0 ps
  pub short : cycles ≤ 65535

-- the whole run is carried out, and its listing is written
pub record PlayedFrom (F : Fabric) (P : Settings) (M : List ℕ) (cycles : ℕ) (ps : List Packet) (v : Writer) : Type 0 where
  pub out : List ℕ
  pub lists : Lists F P ps cycles out
  pub holds : Holds M v out 65536

abbrev pub Played : {A B : Type 0} → Fabric → ℕ → List Packet → Session A B → Writer → Writer → Type 0
Played F cycles ps x w v = (P : Settings) (M : List ℕ) → Stands F P M x w fresh [] [] 0 → PlayedFrom F P M cycles ps v
