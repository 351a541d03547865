-- The listing of a run sheet: what the calls of its run are answered, line by line.
use Rattle.std.specs.Prelude.{◌≡◌, ℕ, ◌+◌, ◌-◌, ◌*◌, ◌/◌, ◌<◌, true, false, cond, List, [], ◌∷◌, ◌++◌, map, take, Some, None, Option, ◌==◌}
use Rattle.std.specs.List.{AllByRecursion, sum_by}
use Rattle.fabric.specs.Verdicts.Verdict.{granted, refused}
use Rattle.line.specs.Queues.{Queue}
use Rattle.bounds.specs.declared.settings.Settings.{Settings}
use Rattle.bounds.specs.SetUp.{all_tickets}
use Rattle.network.specs.declared.event.Event.{Event}
use Rattle.network.specs.Kinds.{event_word}
use Rattle.network.specs.declared.event.Kind.{Kind}
use Rattle.network.specs.declared.event.Kind.TheVariants.{In, Out}
use Rattle.network.specs.Log.{complete, aim, packet}
use Rattle.network.specs.Cycle.{Fabric, State}
use Rattle.network.specs.Runs.{Call, Serves, ticket, fresh}
use Rattle.network.specs.Runs.Call.{offer, cycle, collect}
use Rattle.network.specs.Runs.Outcome.{offering, cycling, collecting}
use Rattle.network.specs.Promises.{puts}
use Rattle.text.specs.declared.parts.Packet.{Packet}
use Rattle.text.specs.Lines.{payload}
use Rattle.text.specs.Texts.{Field, text}
use Rattle.writer.specs.Listings.{event_line, no_line, done_line, end_line}

-- Events.

abbrev pub line_of : Event → List Field
line_of e = event_line e.cycle (event_word e.kind) e.ticket e.number e.node

-- how many flits entered, and how many were taken off
abbrev pub enters : Kind → ℕ
enters In = 1
enters Out = 0

abbrev pub leaves : Kind → ℕ
leaves In = 0
leaves Out = 1

abbrev pub ins : List Event → ℕ
ins es = sum_by (λ e. enters e.kind) es

abbrev pub outs : List Event → ℕ
outs es = sum_by (λ e. leaves e.kind) es

-- the cycles for which those taken off were under way, added up
abbrev pub under_way : List Event → ℕ
under_way es = sum_by (λ e. leaves e.kind * (e.cycle - e.entered)) es

-- the mean over those taken off, in tenths, cut off; none if none came off
abbrev pub mean_of : ℕ → ℕ → Option ℕ
mean_of sum n = cond (n == 0) None (Some (10 * sum / n))

-- One cycle of a run.

abbrev pub offer_of : Packet → Call
offer_of p = offer p.node p.own p.destination (payload p)

module _ (F : Fabric) (P : Settings) where
  -- packets are offered one after another, and each that is refused has its line
  pub data Offers (s : State) : List Packet → State → List (List Field) → Type 0 where
    none : Offers s [] s []
    accepted : {ps : List Packet} {r t : State} {ls : List (List Field)} → Offers s ps r ls → (p : Packet) →
        Serves F P r (offer_of p) (offering (granted tt)) t → Offers s (ps ++ p ∷ []) t ls
    declined : {ps : List Packet} {r t : State} {ls : List (List Field)} {k : ℕ} {vs : List ℕ} → Offers s ps r ls → (p : Packet) →
        Serves F P r (offer_of p) (offering (refused k vs)) t → Offers s (ps ++ p ∷ []) t (ls ++ no_line p.cycle k p.node p.own ∷ [])

  -- of the tickets below g, in rising order, those that are complete are collected at their packets' destinations, and each has its line
  pub data Collects (c : ℕ) (s : State) : ℕ → State → List (List Field) → Type 0 where
    none : Collects c s 0 s []
    brought : {g n o k : ℕ} {r t : State} {ls : List (List Field)} {memory written : List ℕ} → Collects c s g r ls →
        complete g r.log ≡ true → ticket P n o ≡ g →
        Serves F P r (collect (aim (packet g r.log)) n o memory) (collecting (granted k) written) t →
        Collects c s (g + 1) t (ls ++ done_line c g (take k written) ∷ [])
    left : {g : ℕ} {r : State} {ls : List (List Field)} → Collects c s g r ls → complete g r.log ≡ false → Collects c s (g + 1) r ls

  -- cycle c of a run: the packets due are offered, the cycle is carried out, complete packets are collected
  pub record Turn (c : ℕ) (due : List Packet) (s r : State) (ls : List (List Field)) (es : List Event) : Type 0 where
    pub each_due : AllByRecursion (λ p. p.cycle ≡ c) due
    pub ready : State
    pub refusals : List (List Field)
    pub offers : Offers s due ready refusals
    pub line : Queue Event
    pub filled : Queue Event
    pub off : ℕ
    pub carried_out : State
    pub cycles : Serves F P ready (cycle line) (cycling (granted off) filled) carried_out
    pub told : es ≡ puts cycles
    pub collections : List (List Field)
    pub collects : Collects c carried_out (all_tickets F.plan P) r collections
    pub lines : ls ≡ refusals ++ (map line_of es ++ collections)

  -- after c cycles of a run with these packets: those not due yet, the state, the lines and the events
  pub data Turns (ps : List Packet) : ℕ → List Packet → State → List (List Field) → List Event → Type 0 where
    begun : Turns ps 0 ps fresh [] []
    one_more : {c : ℕ} (due : List Packet) {later : List Packet} {s r : State} {ls more : List (List Field)} {es news : List Event} →
        Turns ps c (due ++ later) s ls es → Turn c due s r more news → AllByRecursion (λ p. c < p.cycle) later →
        Turns ps (c + 1) later r (ls ++ more) (es ++ news)

  -- the bytes are the listing of a run of so many cycles with these packets; its last line sums it up
  pub record Lists (ps : List Packet) (cycles : ℕ) (bs : List ℕ) : Type 0 where
    pub later : List Packet
    pub state : State
    pub lines : List (List Field)
    pub events : List Event
    pub turns : Turns ps cycles later state lines events
    pub bytes : bs ≡ text (lines ++ end_line (ins events) (outs events) (mean_of (under_way events) (outs events)) ∷ [])
