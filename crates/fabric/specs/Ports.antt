-- The four ports, by number and by letter, and the order in which they are tried; slots by number.
use Rattle.std.specs.Prelude.{ℕ, zero, suc, ◌+◌, ◌*◌, Bool, List, [], ◌∷◌, codes, Option, ◌==◌}
use Rattle.std.specs.List.{find}
use Rattle.fabric.specs.declared.parts.Port.{Port}
use Rattle.fabric.specs.declared.parts.Port.TheVariants.{N, E, S, W}
use Rattle.fabric.specs.declared.parts.Slot.{Slot}

-- slot order
abbrev pub place_of : Port → ℕ
place_of N = 0
place_of E = 1
place_of S = 2
place_of W = 3

abbrev pub port_of : ℕ → Port
port_of zero = N
port_of (suc zero) = E
port_of (suc (suc zero)) = S
port_of (suc (suc (suc k))) = W

-- the slots are numbered node by node, four of each in slot order
abbrev pub slot_number : Slot → ℕ
slot_number s = 4 * s.node + place_of s.port

abbrev pub same : Port → Port → Bool
same p q = place_of p == place_of q

-- the order in which ports are tried
abbrev pub looked_at : Port → ℕ
looked_at E = 0
looked_at W = 1
looked_at N = 2
looked_at S = 3

-- the first of E, W, N, S that passes
abbrev pub first : (Port → Bool) → Option Port
first f = find f (E ∷ W ∷ N ∷ S ∷ [])

abbrev pub letter : Port → List ℕ
letter N = codes "N"
letter E = codes "E"
letter S = codes "S"
letter W = codes "W"
