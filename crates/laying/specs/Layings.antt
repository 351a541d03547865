-- What the lines of a sheet are answered that name a layout and its settings: the layout stands at line 1, the run at line 3 and the count of cables at line 4.
use Rattle.std.specs.Prelude.{◌≡◌, ℕ, ◌+◌, cond, List, ◌==◌, slice_index}
use Rattle.fabric.specs.declared.parts.Cable.{Cable}
use Rattle.fabric.specs.declared.refusal.Refusal.{Refusal}
use Rattle.fabric.specs.Layouts.{Plan, Lawful}
use Rattle.fabric.specs.Meshes.{mesh_verdict}
use Rattle.fabric.specs.Refusals.{numbered}
use Rattle.fabric.specs.Verdicts.{Verdict, granting}
use Rattle.fabric.specs.Verdicts.Verdict.{refused}
use Rattle.cabled.specs.Cables.{Cabling, lone}
use Rattle.bounds.specs.declared.settings.Settings.{Settings}
use Rattle.bounds.specs.SetUp.{set_up_verdict}
use Rattle.text.specs.declared.fault.Layer.TheVariants.{Layout, Network}
use Rattle.text.specs.declared.parts.Shape.{Shape}
use Rattle.text.specs.declared.parts.Shape.TheVariants.{Mesh, Cabled}
use Rattle.text.specs.declared.parts.Run.{Run}
use Rattle.laying.specs.Reports.{Report, by_layer, then}

-- where a refusal of the layout stands: 13 at its cable, 14 at the count of cables, any other at the layout's line
abbrev pub layout_line : ℕ → List ℕ → ℕ
layout_line k named = cond (k == 13) (5 + slice_index named 0) (cond (k == 14) 4 1)

-- what the layout's lines are answered; what a refusal names is told by `RefusedBy`, and the laws say what the plan says of missing nodes
abbrev pub Laid : Shape → List Cable → Report Plan → Type 0
Laid (Mesh w h) cs r = r ≡ by_layer Layout layout_line (mesh_verdict w h)
Laid (Cabled n) cs r = (p : Plan) × Lawful p × (v : Verdict Unit) × Cabling (λ q. q) n cs lone p v × (r ≡ by_layer Layout layout_line (granting (λ _. p) v))

-- the verdict on the layout's lines is this refusal, with what it names: 13 the first cable that is not good, 14 any node that is cut off
abbrev pub RefusedBy : Shape → List Cable → Refusal → Type 0
RefusedBy (Mesh w h) cs e = mesh_verdict w h ≡ refused (numbered e).0 (numbered e).1
RefusedBy (Cabled n) cs e = Cabling (λ q. q) n cs lone lone (refused (numbered e).0 (numbered e).1)

abbrev pub settings_of : Run → Settings
settings_of r = record { tickets = r.tickets; words = r.words; epoch = r.epoch; seed = r.seed }

-- what the run's line is answered on a layout of this plan, by the verdict of set-up
abbrev pub settled : Run → Plan → Report Plan
settled r p = by_layer Network (λ _ _. 3) (granting (λ _. p) (set_up_verdict p (settings_of r)))

-- the layout is judged before the settings: the plan of the layout, or a fault
abbrev pub Judged : Shape → List Cable → Run → Report Plan → Type 0
Judged x cs r v = (l : Report Plan) × Laid x cs l × (v ≡ then l (settled r))
