-- How far the reader has come, and what may come next.
use Rattle.std.specs.Prelude.{◌≡◌, ℕ, ◌<◌, ◌≤◌, cond, ◌⊎◌, List, [], ◌∷◌, ◌++◌, map, length, Option, Some, None, IfSome, IsSomeAnd, Result, MatchResult, nat_lt}
use Rattle.std.specs.List.{AllByRecursion}
use Rattle.batch.specs.Items.{items}
use Rattle.fabric.specs.declared.parts.Cable.{Cable}
use Rattle.text.specs.Texts.{Field, Fits, shown, Any}
use Rattle.text.specs.Fields.{Unlike}
use Rattle.text.specs.Faults.{told, ill_formed, too_many}
use Rattle.text.specs.Lines.{shape_line, run_line, cables_line, cable_line, Brief, Uncabled, kind_line, packets_line, packet_line, Sized}
use Rattle.runsheet.specs.Sheets.{Rising}
use Rattle.text.specs.declared.fault.Fault.{Fault}
use Rattle.text.specs.declared.parts.Shape.{Shape}
use Rattle.text.specs.declared.parts.SwitchKind.{SwitchKind}
use Rattle.text.specs.declared.parts.Run.{Run}
use Rattle.text.specs.declared.parts.Packet.{Packet}
use Rattle.runsheet.specs.declared.reader.Section.{Section}
use Rattle.runsheet.specs.declared.reader.Section.TheVariants as section
use Rattle.runsheet.specs.declared.reader.Entry.{Entry}
use Rattle.runsheet.specs.declared.reader.Entry.TheVariants as entry
use Rattle.runsheet.specs.declared.reader.Reader.{Reader}

abbrev pub entry_line : Entry → List Field
entry_line (entry.Shape x) = shape_line x
entry_line (entry.Kind x) = kind_line x
entry_line (entry.Run x) = run_line x
entry_line (entry.Cables n) = cables_line n
entry_line (entry.Cable x) = cable_line x
entry_line (entry.Packets n) = packets_line n
entry_line (entry.Packet x) = packet_line x

-- what was read: the counts as they stand in their lines, and the lists as far as they go
pub record Draft : Type 0 where
  pub section : Section
  pub shape : Shape
  pub kind : SwitchKind
  pub run : Run
  pub cable_count : ℕ
  pub cables : List Cable
  pub packet_count : ℕ
  pub packets : List Packet
  pub last : ℕ

abbrev pub draft : Reader → Draft
draft r =
    record {
      section = r.section;
      shape = r.shape;
      kind = r.kind;
      run = r.run;
      cable_count = r.cable_count;
      cables = items r.cables;
      packet_count = r.packet_count;
      packets = items r.packets;
      last = r.last;
    }

-- the line may come next, but for the limits of counts
abbrev pub Suits : Draft → Entry → Type 0
Suits d (entry.Shape x) = d.section ≡ section.Layout
Suits d (entry.Kind x) = d.section ≡ section.Switch
Suits d (entry.Run x) = (d.section ≡ section.Run) × Brief x
Suits d (entry.Cables n) = (d.section ≡ section.Cables) × Uncabled d.shape n
Suits d (entry.Cable x) = d.section ≡ section.Cable
Suits d (entry.Packets n) = d.section ≡ section.Packets
Suits d (entry.Packet x) = (d.section ≡ section.Packet) × Sized x × (d.last ≤ x.cycle)

-- no line of the section has the words
abbrev pub Bars : Section → Draft → List (List ℕ) → Type 0
Bars section.Layout d ws = Unlike shape_line Any ws
Bars section.Switch d ws = Unlike kind_line Any ws
Bars section.Run d ws = Unlike run_line Brief ws
Bars section.Cables d ws = Unlike cables_line (Uncabled d.shape) ws
Bars section.Cable d ws = Unlike cable_line Any ws
Bars section.Packets d ws = Unlike packets_line Any ws
Bars section.Packet d ws = Unlike packet_line (λ x. Sized x × (d.last ≤ x.cycle)) ws
Bars section.End d ws = Unit {0}

-- the words of line k are those of a line that may come next, or of none
abbrev pub Judges : Draft → ℕ → List (List ℕ) → Result Entry Fault → Type 0
Judges d k ws r = MatchResult r (λ e. (ws ≡ map shown (entry_line e)) × AllByRecursion Fits (entry_line e) × Suits d e) (λ f. (told f ≡ ill_formed k) × Bars d.section d ws)

-- the count that a line tells, and its limit
abbrev pub count_told : Entry → Option (ℕ × ℕ)
count_told (entry.Cables n) = Some (n, 128)
count_told (entry.Packets n) = Some (n, 256)
count_told e = None

-- a count within its limit, and one above it
abbrev pub Within : Entry → Type 0
Within e = IfSome (count_told e) (λ c. c.0 ≤ c.1)

abbrev pub Exceeds : Entry → Type 0
Exceeds e = IsSomeAnd (count_told e) (λ c. c.1 < c.0)

-- the lines that were read
abbrev pub cabled_lines : Draft → List (List Field)
cabled_lines d = shape_line d.shape ∷ kind_line d.kind ∷ run_line d.run ∷ cables_line d.cable_count ∷ map cable_line d.cables

abbrev pub all_lines : Draft → List (List Field)
all_lines d = cabled_lines d ++ packets_line d.packet_count ∷ map packet_line d.packets

abbrev pub so_far : Section → Draft → List (List Field)
so_far section.Layout d = []
so_far section.Switch d = shape_line d.shape ∷ []
so_far section.Run d = shape_line d.shape ∷ kind_line d.kind ∷ []
so_far section.Cables d = shape_line d.shape ∷ kind_line d.kind ∷ run_line d.run ∷ []
so_far section.Cable d = cabled_lines d
so_far section.Packets d = cabled_lines d
so_far section.Packet d = all_lines d
so_far section.End d = all_lines d

abbrev pub lines_read : Draft → List (List Field)
lines_read d = so_far d.section d

-- no cable and no packet was read, or their counts
pub record Bare (d : Draft) : Type 0 where
  pub cable_count : d.cable_count ≡ 0
  pub cables : d.cables ≡ []
  pub packet_count : d.packet_count ≡ 0
  pub packets : d.packets ≡ []

-- what the section says of the lists
abbrev pub Stage : Section → Draft → Type 0
Stage section.Layout d = Bare d
Stage section.Switch d = Bare d
Stage section.Run d = Bare d
Stage section.Cables d = Bare d
Stage section.Cable d = (length d.cables < d.cable_count) × (d.packet_count ≡ 0) × (d.packets ≡ [])
Stage section.Packets d = (length d.cables ≡ d.cable_count) × (d.packet_count ≡ 0) × (d.packets ≡ [])
Stage section.Packet d = (length d.cables ≡ d.cable_count) × (length d.packets < d.packet_count)
Stage section.End d = (length d.cables ≡ d.cable_count) × (length d.packets ≡ d.packet_count)

-- the cycle of the last packet, c where there is none
abbrev pub latest : ℕ → List Packet → ℕ
latest c [] = c
latest c (p ∷ ps) = latest p.cycle ps

pub record Valid (d : Draft) : Type 0 where
  pub shape : AllByRecursion Fits (shape_line d.shape)
  pub run : AllByRecursion Fits (run_line d.run)
  pub cycles : Brief d.run
  pub uncabled : Uncabled d.shape d.cable_count
  pub cable_count : d.cable_count ≤ 128
  pub cables : AllByRecursion (λ x. AllByRecursion Fits (cable_line x)) d.cables
  pub packet_count : d.packet_count ≤ 256
  pub packets : AllByRecursion (λ x. AllByRecursion Fits (packet_line x)) d.packets
  pub sized : AllByRecursion Sized d.packets
  pub rising : Rising 0 d.packets
  pub last : d.last ≡ latest 0 d.packets
  pub stage : Stage d.section d

-- what was read after one line more
pub record Grown (d : Draft) (e : Entry) (d' : Draft) : Type 0 where
  pub valid : Valid d'
  pub lines : lines_read d' ≡ lines_read d ++ entry_line e ∷ []

-- the section of the next item while there are fewer than were told, then the one after the list
abbrev pub after : ℕ → ℕ → Section → Section → Section
after n m s t = cond (nat_lt n m) s t

-- the words of line k, which comes next, are those of none that may come next, or of one with a count above its limit
abbrev pub Refuses : Draft → ℕ → List (List ℕ) → Fault → Type 0
Refuses d k ws f =
    ((told f ≡ ill_formed k) × Bars d.section d ws)
    ⊎ ((told f ≡ too_many k) × ((e : Entry) × (ws ≡ map shown (entry_line e)) × AllByRecursion Fits (entry_line e) × Suits d e × Exceeds e))

-- the line that comes next was read
abbrev pub Reached : Draft → Draft → List (List ℕ) → Type 0
Reached d d' ws = (e : Entry) × Grown d e d' × (ws ≡ map shown (entry_line e))
