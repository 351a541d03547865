-- The listing of any bytes: of the run of the sheet whose text they are, or of their fault.
use Rattle.std.specs.Prelude.{◌≡◌, ℕ, ◌<◌, ◌≤◌, ◌⊎◌, List, [], ◌++◌, length, drop, Result, MatchResult}
use Rattle.fabric.specs.Layouts.{Plan, Lawful}
use Rattle.fabric.specs.Verdicts.{Verdict}
use Rattle.fabric.specs.Verdicts.Verdict.{granted, refused}
use Rattle.switch.specs.Switches.{Handing, Turn}
use Rattle.switch.specs.Chippers.{chipper_turn}
use Rattle.switch.specs.Blesses.{bless_turn}
use Rattle.bounds.specs.declared.settings.Settings.{Settings}
use Rattle.bounds.specs.SetUp.{set_up_verdict}
use Rattle.network.specs.Cycle.{Fabric}
use Rattle.text.specs.declared.fault.Fault.{Fault}
use Rattle.text.specs.declared.parts.Packet.{Packet}
use Rattle.text.specs.declared.parts.SwitchKind.{SwitchKind}
use Rattle.text.specs.declared.parts.SwitchKind.TheVariants.{Chipper, Bless}
use Rattle.text.specs.Faults.{told, fault_fields}
use Rattle.runsheet.specs.declared.sheet.Sheet.{Sheet}
use Rattle.runsheet.specs.Said.{Said, said}
use Rattle.runsheet.specs.Sheets.{SheetText, Refused, Formed}
use Rattle.text.specs.Texts.{written}
use Rattle.laying.specs.Reports.{Report}
use Rattle.laying.specs.Reports.Report.{answers, faults}
use Rattle.laying.specs.Layings.{settings_of, settled, Judged}
use Rattle.writer.specs.declared.writer.Writer.{Writer}
use Rattle.writer.specs.Listings.{listed, beyond}
use Rattle.runner.specs.Listing.{Lists}

abbrev pub turn_of : SwitchKind → Handing → Turn
turn_of Chipper = chipper_turn
turn_of Bless = bless_turn

-- what a network of a layout of this plan and a switch of this turn is made of
abbrev pub made_of : Plan → (Handing → Turn) → Fabric
made_of p t = record { plan = p; turn = t }

-- what a sheet's network is made of, on a layout of this plan
abbrev pub network_of : Plan → Said → Fabric
network_of p s = made_of p (turn_of s.kind)

-- the listing of a sheet that is answered so
abbrev pub ListsSheet : Said → Report Plan → List ℕ → Type 0
ListsSheet s (answers p) bs = Lists (network_of p s) (settings_of s.run) s.packets s.run.cycles bs
ListsSheet s (faults x) bs = bs ≡ written (fault_fields x)

-- the listing of any bytes
abbrev pub Listing : List ℕ → List ℕ → Type 0
Listing text bs =
    ((s : Said) × SheetText text s × ((r : Report Plan) × Judged s.shape s.cables s.run r × ListsSheet s r bs))
    ⊎ ((f : Fault) × Refused text f × (bs ≡ written (fault_fields (told f))))

-- a run of packets in a network of a lawful layout has one listing, whatever lines of events its cycles are called with
abbrev pub OneListingOfRun : Type 0
OneListingOfRun = (F : Fabric) (P : Settings) → Lawful F.plan → (ps : List Packet) (cycles : ℕ) (bs bs' : List ℕ) →
    Lists F P ps cycles bs → Lists F P ps cycles bs' → bs ≡ bs'

-- the bytes have one listing, whatever lines of events the cycles of their run are called with
pub record OneListing (text : List ℕ) : Type 0 where
  pub listing : (bs bs' : List ℕ) → Listing text bs → Listing text bs' → bs ≡ bs'

-- the listing is written at the start of a memory of 65,536 bytes or more, which suffice for each, and the rest of the memory stays; none is empty;
-- a shorter memory is refused by 9, and stays
pub data WrittenOut (text memory : List ℕ) : Verdict ℕ → List ℕ → Type 0 where
  listing : {bs : List ℕ} → 65536 ≤ length memory → Listing text bs → 0 < length bs → length bs ≤ 65536 → WrittenOut text memory (granted (length bs)) (bs ++ drop (length bs) memory)
  short : length memory < 65536 → WrittenOut text memory (refused 9 []) memory

-- Between the call and the run.

-- nothing is written yet, and there is room for every listing
pub record Blank (w : Writer) : Type 0 where
  pub none : listed w ≡ []
  pub room : 65536 ≤ length (beyond w)

-- a sheet of its form is to be run, and nothing is written yet
abbrev pub Runnable : Sheet → Writer → Type 0
Runnable s w = Formed 128 256 (said s) × Blank w

-- these bytes, b at most, are written at the start of the memory M
pub record Holds (M : List ℕ) (w : Writer) (bs : List ℕ) (b : ℕ) : Type 0 where
  pub written : listed w ≡ bs
  -- what lies beyond them is as it was
  pub rest : beyond w ≡ drop (length bs) M
  pub few : length bs ≤ b

-- the run of a sheet in a network of this fabric, if set-up accepts its settings
abbrev pub Ran : Fabric → Said → Writer → Writer → Verdict (Unit {0}) → Type 0
Ran F s w v (granted tt) = (set_up_verdict F.plan (settings_of s.run) ≡ granted tt) × ((bs : List ℕ) × Lists F (settings_of s.run) s.packets s.run.cycles bs × Holds (beyond w) v bs 65536)
Ran F s w v (refused k vs) = (set_up_verdict F.plan (settings_of s.run) ≡ refused k vs) × (v ≡ w)

-- the same, with the fault of settings that are refused
abbrev pub Ended : Fabric → Said → Writer → Writer → Result (Unit {0}) Fault → Type 0
Ended F s w v r =
    MatchResult r (λ _. Ran F s w v (granted tt)) (λ f. (settled s.run F.plan ≡ faults (told f)) × (v ≡ w))

-- the bytes are no sheet's text, or that of a sheet whose layout or settings are refused
abbrev pub Faulted : List ℕ → Fault → Type 0
Faulted text f = ((s : Said) × SheetText text s × Judged s.shape s.cables s.run (faults (told f))) ⊎ Refused text f

-- what bytes are answered
abbrev pub Carried : List ℕ → Writer → Writer → Result (Unit {0}) Fault → Type 0
Carried text w v r =
    MatchResult r (λ _. (s : Said) × SheetText text s × ((p : Plan) × Judged s.shape s.cables s.run (answers p) × ((bs : List ℕ) × ListsSheet s (answers p) bs × Holds (beyond w) v bs 65536)))
    (λ f. Faulted text f × (v ≡ w))
