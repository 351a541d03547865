-- What a sheet is answered: the plan of its layout and the limits of its settings, or a fault.
use Rattle.std.specs.Prelude.{◌≡◌, ℕ, ◌⊎◌, List}
use Rattle.fabric.specs.Layouts.{Plan}
use Rattle.fabric.specs.Meshes.{mesh_plan}
use Rattle.cabled.specs.Plans.{plan_of}
use Rattle.switch.specs.Switches.{Handing, Turn, LawfulSwitch}
use Rattle.bounds.specs.declared.settings.Settings.{Settings}
use Rattle.bounds.specs.declared.limits.Limits.{Limits}
use Rattle.bounds.specs.Lateness.{limits_of}
use Rattle.network.specs.Cycle.{State}
use Rattle.network.specs.Runs.{Call, Leads}
use Rattle.network.specs.Promises.{InTime}
use Rattle.text.specs.declared.fault.Fault.{Fault}
use Rattle.text.specs.declared.fault.Layer.TheVariants.{Layout}
use Rattle.text.specs.declared.parts.Run.{Run}
use Rattle.text.specs.Faults.{told}
use Rattle.runsheet.specs.Said.{Said}
use Rattle.runsheet.specs.Sheets.{SheetText, Refused}
use Rattle.limit.specs.declared.answer.Answer.{Answer}
use Rattle.limit.specs.declared.answer.Answer.TheVariants.{OnMesh, OnCables}
use Rattle.laying.specs.Layings.{settings_of, RefusedBy, Judged}
use Rattle.laying.specs.Reports.{Report, then}
use Rattle.laying.specs.Reports.Report.{answers, faults}

-- in every network of this plan and these settings, whatever its switch and whatever calls come, each flit that entered is taken off when l more cycles are carried out
abbrev pub AlwaysInTime : Plan → Settings → ℕ → Type 0
AlwaysInTime p P l = (turn : Handing → Turn) → LawfulSwitch turn → (run : List Call) (s : State) → Leads (record { plan = p; turn = turn }) P run s → InTime l s

-- the limit that is answered is kept
abbrev pub Vouched : Run → Report (Plan × Limits) → Type 0
Vouched r (answers a) = AlwaysInTime a.0 (settings_of r) a.1.latest
Vouched r (faults x) = Unit {0}

-- the limits of the settings on the layout's plan, where both are accepted
abbrev pub Answers : Said → Report (Plan × Limits) → Type 0
Answers s r = (v : Report Plan) × Judged s.shape s.cables s.run v × (r ≡ then v (λ p. answers (p, limits_of p (settings_of s.run))))

-- the bytes are a sheet's text and it is answered, or they are none, by this fault
abbrev pub Answered : List ℕ → Report (Plan × Limits) → Type 0
Answered bs r =
    ((s : Said) × SheetText bs s × Answers s r × Vouched s.run r)
    ⊎ ((f : Fault) × Refused bs f × (r ≡ faults (told f)))

-- a fault of the layout names what refuses it: 13 the first cable that is not good, 14 a node that is cut off
abbrev pub Named : List ℕ → Fault → Type 0
Named bs f = f.layer ≡ Layout → (s : Said) → SheetText bs s → RefusedBy s.shape s.cables f.refusal

-- the bytes are answered one way
pub record OneAnswer (bs : List ℕ) : Type 0 where
  pub answer : (r r' : Report (Plan × Limits)) → Answered bs r → Answered bs r' → r ≡ r'

-- what an answer of the code means
abbrev pub meant : Answer → Plan × Limits
meant (OnMesh m l) = (mesh_plan m.width m.height, l)
meant (OnCables c l) = (plan_of c, l)
