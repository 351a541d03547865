-- The fabric that a layout and a switch make.
use Rattle.std.proofs.Common.{◌≡◌, ◌∙◌, ap₂}
use Rattle.fabric.specs.Layouts.{Plan}
use Rattle.switch.specs.Switches.{Handing, Turn}
use Rattle.network.specs.Cycle.{Fabric}

module _ {L S : Type 0} where
  abbrev made : (L → Plan) → (S → Handing → Turn) → L → S → Fabric
  made plan turn l s = record { plan = plan l; turn = turn s }

  -- where the two stay, it stays
  pub same_fabric : (plan : L → Plan) (turn : S → Handing → Turn) {a b : L} {s t : S} → (b ≡ a) × (t ≡ s) → made plan turn b t ≡ made plan turn a s
  same_fabric plan turn h = ap₂ (made plan turn) h.0 h.1

  pub then_same : {a b c : L} {s t u : S} → (b ≡ a) × (t ≡ s) → (c ≡ b) × (u ≡ t) → (c ≡ a) × (u ≡ s)
  then_same h k = (k.0 ∙ h.0, k.1 ∙ h.1)
