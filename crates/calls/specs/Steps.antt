-- What the steps of a node's work do to four places, and to the slots.
use Rattle.std.specs.Prelude.{◌≡◌, ℕ, ◌<◌, ◌≤◌, List, Bool, ◌&&◌, None, Option, ◌≢◌, slice_index_or}
use Rattle.fabric.specs.declared.parts.Port.{Port}
use Rattle.std.specs.Option.{is_none}
use Rattle.fabric.specs.declared.parts.Port.TheVariants.{N, E, S, W}
use Rattle.fabric.specs.declared.parts.Flit.{Flit}
use Rattle.fabric.specs.Layouts.{Plan}
use Rattle.fabric.specs.Ports.{slot_number}
use Rattle.switch.specs.Switches.{at}

-- no flit stands at any of the four
abbrev pub none_at : (Port → Option Flit) → Bool
none_at here = (is_none (here N) && is_none (here E)) && (is_none (here S) && is_none (here W))

-- the place in the table of slots that a node's port leads to
abbrev pub far_place : Plan → ℕ → Port → ℕ
far_place p n q = slot_number (p.far n q)

pub record Spread (p : Plan) (n : ℕ) (leaving before after : List (Option Flit)) : Type 0 where
  pub sent : (q : Port) → slice_index_or after (far_place p n q) None ≡ at leaving q
  pub rest : (k : ℕ) → ((q : Port) → k ≢ far_place p n q) → slice_index_or after k None ≡ slice_index_or before k None

-- nothing is sent yet to the far ends of the nodes from n on
abbrev pub Unsent : Plan → ℕ → List (Option Flit) → Type 0
Unsent p n slots = (m : ℕ) (q : Port) → n ≤ m → m < p.nodes → slice_index_or slots (far_place p m q) None ≡ None
