-- A network as the calls see it: the fabric that its layout and its switch make.
use Rattle.std.specs.Prelude.{◌≡◌}
use Rattle.fabric.specs.Layouts.{Plan}
use Rattle.switch.specs.Switches.{Handing, Turn}
use Rattle.network.specs.Cycle.{Fabric}
use Rattle.calls.specs.declared.calls.Network.{Network}

-- by the plan of a layout and the turn of a switch
abbrev pub fabric_of : {L S : Type 0} → (L → Plan) → (S → Handing → Turn) → Network L S → Fabric
fabric_of plan turn n = record { plan = plan n.layout; turn = turn n.switch }

-- no call changes the layout or the switch
abbrev pub SameParts : {L S : Type 0} → Network L S → Network L S → Type 0
SameParts m n = (n.layout ≡ m.layout) × (n.switch ≡ m.switch)
