-- What each kind of line of a run sheet says.
use Rattle.std.specs.Prelude.{◌≡◌, ℕ, ◌≤◌, List, [], ◌∷◌, ◌++◌, map, length, take, codes, slice_index}
use Rattle.fabric.specs.Ports.{letter}
use Rattle.fabric.specs.declared.parts.Port.{Port}
use Rattle.fabric.specs.declared.parts.Slot.{Slot}
use Rattle.fabric.specs.declared.parts.Cable.{Cable}
use Rattle.text.specs.Texts.{Field, word, number}
use Rattle.text.specs.declared.parts.Shape.{Shape}
use Rattle.text.specs.declared.parts.Shape.TheVariants.{Mesh, Cabled}
use Rattle.text.specs.declared.parts.SwitchKind.{SwitchKind}
use Rattle.text.specs.declared.parts.SwitchKind.TheVariants.{Chipper, Bless}
use Rattle.text.specs.declared.parts.Run.{Run}
use Rattle.text.specs.declared.parts.Packet.{Packet}

abbrev pub shape_line : Shape → List Field
shape_line (Mesh w h) = word (codes "mesh") ∷ number w ∷ number h ∷ []
shape_line (Cabled n) = word (codes "cabled") ∷ number n ∷ []

abbrev pub kind_word : SwitchKind → List ℕ
kind_word Chipper = codes "chipper"
kind_word Bless = codes "bless"

-- the field that a kind of switch has in its line
abbrev pub kind_field : SwitchKind → List Field
kind_field k = word (kind_word k) ∷ []

abbrev pub kind_line : SwitchKind → List Field
kind_line k = word (codes "switch") ∷ kind_field k

abbrev pub run_line : Run → List Field
run_line r = word (codes "run") ∷ number r.tickets ∷ number r.words ∷ number r.epoch ∷ number r.seed ∷ number r.cycles ∷ []

-- the run's cycles are within their limit
abbrev pub Brief : Run → Type 0
Brief r = r.cycles ≤ 65535

abbrev pub cables_line : ℕ → List Field
cables_line n = word (codes "cables") ∷ number n ∷ []

-- a mesh has no cables
abbrev pub Uncabled : Shape → ℕ → Type 0
Uncabled (Mesh w h) n = n ≡ 0
Uncabled (Cabled m) n = Unit {0}

-- the fields that a number, a port and a slot have in a line
abbrev pub number_field : ℕ → List Field
number_field n = number n ∷ []

abbrev pub port_field : Port → List Field
port_field p = word (letter p) ∷ []

abbrev pub slot_fields : Slot → List Field
slot_fields s = number_field s.node ++ port_field s.port

abbrev pub cable_line : Cable → List Field
cable_line c = slot_fields c.one ++ slot_fields c.other

abbrev pub packets_line : ℕ → List Field
packets_line n = word (codes "packets") ∷ number n ∷ []

-- the words of a packet
abbrev pub payload : Packet → List ℕ
payload p = take p.count p.words

abbrev pub packet_line : Packet → List Field
packet_line p = number p.cycle ∷ number p.node ∷ number p.own ∷ number p.destination ∷ number p.count ∷ map number (payload p)

-- from place n on there are zeros
abbrev pub Blank : ℕ → List ℕ → Type 0
Blank n ws = (j : ℕ) → n ≤ j → slice_index ws j ≡ 0

-- one to four words, of the four places that a packet has, and 0 in the others
pub record Sized (p : Packet) : Type 0 where
  pub some : 1 ≤ p.count
  pub most : p.count ≤ 4
  pub places : length p.words ≡ 4
  pub blank : Blank p.count p.words
