-- Worked examples: beside each question that the definitions answer, the answer worked out by hand.
use Rattle.std.specs.Prelude.{◌≡◌, ℕ, Bool, true, List, [], ◌∷◌, Some, None, Option}
use Rattle.fabric.specs.declared.parts.Cable.{Cable}
use Rattle.fabric.specs.declared.parts.Port.{Port}
use Rattle.fabric.specs.declared.parts.Port.TheVariants.{N, E, S, W}
use Rattle.fabric.specs.declared.parts.Slot.{Slot}
use Rattle.fabric.specs.declared.parts.Flit.{Flit}
use Rattle.fabric.specs.Layouts.{Plan}
use Rattle.fabric.specs.Meshes.{mesh_plan}
use Rattle.fabric.specs.Verdicts.{Verdict}
use Rattle.fabric.specs.Verdicts.Verdict.{granted, refused}
use Rattle.cabled.specs.Cables.{Cabling}
use Rattle.switch.specs.Switches.{Handing, handed}
use Rattle.switch.specs.Chippers.{chipper_turn}
use Rattle.switch.specs.Blesses.{bless_turn}
use Rattle.bounds.specs.declared.settings.Settings.{Settings}
use Rattle.bounds.specs.SetUp.{set_up_verdict}
use Rattle.clock.specs.Draws.{register}
use Rattle.clock.specs.Epochs.{golden_ticket}

pub data Answer : Type 0 where
  number : ℕ → Answer
  port : Option Port → Answer
  slot : Slot → Answer
  ports : List Port → Answer
  verdict : Verdict (Unit {0}) → Answer

pub data Row : Type 0 where
  is : Answer → Answer → Row
  -- cabling so many nodes is refused by this number, naming these
  refuses : ℕ → List Cable → ℕ → List ℕ → Row

-- a refusal is right where it is an outcome of the call, and the only one
abbrev pub Right : Row → Type 0
Right (is a b) = a ≡ b
Right (refuses k cs n vs) = (p : Plan) → Cabling (λ q. q) k cs p p (refused n vs) × ((q : Plan) (v : Verdict Unit) → Cabling (λ r. r) k cs p q v → v ≡ refused n vs)

-- three columns and two rows
abbrev six : Plan
six = mesh_plan 3 2

abbrev flit : ℕ → ℕ → Option Flit
flit ticket entered = Some (record { ticket = ticket; number = 0; destination = 0; word = 0; entered = entered })

abbrev ones : List Bool
ones = true ∷ true ∷ true ∷ true ∷ []

-- tickets 5 and 6 in slots N and E, both wishing N
abbrev pair : ℕ → Handing
pair golden = handed (flit 5 0 ∷ flit 6 0 ∷ None ∷ None ∷ []) (Some N ∷ Some N ∷ None ∷ None ∷ []) golden ones

-- tickets 5, 2 and 9, which entered in cycles 3, 3 and 1, in slots N, S and W, all wishing E
abbrev three : Handing
three = handed (flit 5 3 ∷ None ∷ flit 2 3 ∷ flit 9 1 ∷ []) (Some E ∷ None ∷ Some E ∷ Some E ∷ []) 0 ones

-- packets of two words
abbrev two_words : ℕ → Settings
two_words epoch = record { tickets = 1; words = 2; epoch = epoch; seed = 1 }

abbrev pub table : List Row
table =
    -- 0 E 1 W leaves node 2 without a way
    refuses 3 (record { one = record { node = 0; port = E }; other = record { node = 1; port = W } } ∷ []) 14 (2 ∷ [])
    ∷ is (number (six.distance 0 5)) (number 3)
    ∷ is (port (six.wish 0 5)) (port (Some E))
    ∷ is (number (six.distance 2 5)) (number 1)
    ∷ is (port (six.wish 2 5)) (port (Some S))
    ∷ is (slot (six.far 2 E)) (slot (record { node = 2; port = E }))
    -- both ordinary, then that in slot N golden
    ∷ is (ports ((chipper_turn (pair 0)).to E ∷ (chipper_turn (pair 0)).to N ∷ [])) (ports (N ∷ E ∷ []))
    ∷ is (ports ((chipper_turn (pair 5)).to N ∷ (chipper_turn (pair 5)).to E ∷ [])) (ports (N ∷ E ∷ []))
    ∷ is (ports ((bless_turn three).to N ∷ (bless_turn three).to S ∷ (bless_turn three).to W ∷ [])) (ports (N ∷ W ∷ E ∷ []))
    -- the draw register 0001h, shifted once and twice
    ∷ is (number (register 1 1)) (number 0xB400)
    ∷ is (number (register 1 2)) (number 0x5A00)
    -- two tickets, epochs of four cycles, in cycles 3, 4 and 8
    ∷ is (number (golden_ticket 2 4 3)) (number 0)
    ∷ is (number (golden_ticket 2 4 4)) (number 1)
    ∷ is (number (golden_ticket 2 4 8)) (number 0)
    -- a reach of 3 asks for epochs of 2 × 4 cycles
    ∷ is (verdict (set_up_verdict six (two_words 7))) (verdict (refused 2 []))
    ∷ is (verdict (set_up_verdict six (two_words 8))) (verdict (granted tt))
    ∷ []
