-- A run sheet, and its one text.
use Rattle.std.specs.Prelude.{◌≡◌, ℕ, ◌^◌, ◌≤◌, List, [], ◌∷◌, ◌++◌, map, length}
use Rattle.std.specs.List.{AllByRecursion}
use Rattle.text.specs.Texts.{Field, Fits, text}
use Rattle.text.specs.Faults.{told, Faulty}
use Rattle.text.specs.Lines.{shape_line, kind_line, run_line, Brief, cables_line, Uncabled, cable_line, packets_line, packet_line, Sized}
use Rattle.text.specs.declared.fault.Fault.{Fault}
use Rattle.text.specs.declared.parts.Packet.{Packet}
use Rattle.runsheet.specs.Said.{Said}

-- the sections in their order, each after its count
abbrev pub lines : Said → List (List Field)
lines s =
    shape_line s.shape ∷ kind_line s.kind ∷ run_line s.run ∷ cables_line (length s.cables)
    ∷ (map cable_line s.cables ++ packets_line (length s.packets) ∷ map packet_line s.packets)

-- no packet is due before cycle c, or before the one that stands before it
abbrev pub Rising : ℕ → List Packet → Type 0
Rising c [] = Unit {0}
Rising c (p ∷ ps) = (c ≤ p.cycle) × Rising p.cycle ps

-- the sheet is of its form, with at most c cables and p packets
pub record Formed (c p : ℕ) (s : Said) : Type 0 where
  pub numbers : AllByRecursion (AllByRecursion Fits) (lines s)
  pub cycles : Brief s.run
  pub uncabled : Uncabled s.shape (length s.cables)
  pub cables : length s.cables ≤ c
  pub packets : length s.packets ≤ p
  pub sized : AllByRecursion Sized s.packets
  pub rising : Rising 0 s.packets

-- the bytes are the text of this sheet, which is of its form
abbrev pub SheetText : List ℕ → Said → Type 0
SheetText bs s = (length bs ≤ 65536) × Formed 128 256 s × (bs ≡ text (lines s))

-- the bytes are no sheet's text, by this fault
abbrev pub Refused : List ℕ → Fault → Type 0
Refused bs f = Faulty lines (Formed 128 256) (Formed (2 ^ 32) (2 ^ 32)) bs f

-- the bytes are the text of at most one sheet, and have at most one fault, and never both
pub record OneSheet (bs : List ℕ) : Type 0 where
  pub sheet : (s t : Said) → SheetText bs s → SheetText bs t → s ≡ t
  pub none : (s : Said) (f : Fault) → SheetText bs s → Refused bs f → ⊥
  pub fault : (f g : Fault) → Refused bs f → Refused bs g → told f ≡ told g
