-- What a switch is handed, what it answers, and the laws that every switch keeps.
use Rattle.std.specs.Prelude.{◌≡◌, ℕ, ◌<◌, Bool, List, [], ◌∷◌, Some, None, Option, slice_index_or}
use Rattle.fabric.specs.declared.parts.Port.{Port}
use Rattle.fabric.specs.declared.parts.Port.TheVariants.{N, E, S, W}
use Rattle.fabric.specs.declared.parts.Flit.{Flit}
use Rattle.fabric.specs.Ports.{place_of}

-- what stands at a side, of four in slot order
abbrev pub at : {A : Type 0} → List (Option A) → Port → Option A
at xs p = slice_index_or xs (place_of p) None

pub record Handing : Type 0 where
  pub places : List (Option Flit)
  pub wishes : List (Option Port)
  -- the golden ticket
  pub golden : ℕ
  pub draws : List Bool

abbrev pub handed : List (Option Flit) → List (Option Port) → ℕ → List Bool → Handing
handed places wishes golden draws = record { places = places; wishes = wishes; golden = golden; draws = draws }

-- A permutation of the four sides: the port by which each slot's place leaves, and the slot from which each port's place comes.
-- The two undo each other, so that a place leaves by exactly one port: what is turned holds exactly the flits handed in, each once.
pub record Turn : Type 0 where
  pub to : Port → Port
  pub from : Port → Port
  pub to_from : (p : Port) → to (from p) ≡ p
  pub from_to : (p : Port) → from (to p) ≡ p

-- four places after a turn
abbrev pub turned : {A : Type 0} → Turn → List (Option A) → List (Option A)
turned t xs = at xs (t.from N) ∷ at xs (t.from E) ∷ at xs (t.from S) ∷ at xs (t.from W) ∷ []

-- the flit in this slot bears the golden ticket
abbrev pub Golden : Handing → Port → Flit → Type 0
Golden h s f = (at h.places s ≡ Some f) × (f.ticket ≡ h.golden)

-- no two golden flits share a number
abbrev pub Apart : Handing → Type 0
Apart h = (s r : Port) (f g : Flit) → Golden h s f → Golden h r g → f.number ≡ g.number → s ≡ r

-- each golden flit of the one stands in the same slot of the other, with its number, destination and wish
abbrev pub Carried : Handing → Handing → Type 0
Carried h k = (s : Port) (f : Flit) → Golden h s f →
    (g : Flit) × Golden k s g × (g.number ≡ f.number) × (g.destination ≡ f.destination) × (at k.wishes s ≡ at h.wishes s)

-- for every handing, also one that no network brings: golden flits of one number, no wish, wishes at empty places
pub record LawfulSwitch (turn : Handing → Turn) : Type 0 where
  -- where no two golden flits share a number, the lowest leaves by its wish, if it has one
  pub leads : (h : Handing) → Apart h → (s : Port) (f : Flit) → Golden h s f →
      ((r : Port) (g : Flit) → Golden h r g → (g.number < f.number) → ⊥) →
      (w : Port) → at h.wishes s ≡ Some w → (turn h).to s ≡ w
  -- where golden flits go depends on nothing but their slots, numbers, destinations and wishes
  pub steady : (h k : Handing) → Carried h k → Carried k h → (s : Port) (f : Flit) → Golden h s f → (turn h).to s ≡ (turn k).to s
