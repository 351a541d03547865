-- The lines of a sheet can be told from their bytes.
use Rattle.std.proofs.Common.{◌∷◌, map, length}
use Rattle.std.specs.List.{AllByRecursion}
use Rattle.std.proofs.Permutation.{every_append}
use Rattle.text.specs.Texts.{Fits}
use Rattle.text.specs.Lines.{cable_line, packets_line, packet_line}
use Rattle.text.proofs.Tidy.{Tidy, tidy_shape, tidy_kind, tidy_run, tidy_cables, tidy_cable, tidy_packets, tidy_packet, tidy_all}
use Rattle.text.proofs.Lists.{all_left, all_right}
use Rattle.runsheet.specs.Sheets.{lines}
use Rattle.runsheet.specs.Said.{Said}
use Rattle.runsheet.specs.Reading.{entry_line}
use Rattle.runsheet.specs.declared.reader.Entry.{Entry}
use Rattle.runsheet.specs.declared.reader.Entry.TheVariants as entry

pub tidy_entry : (e : Entry) → AllByRecursion Fits (entry_line e) → Tidy (entry_line e)
tidy_entry (entry.Shape x) f = tidy_shape x f
tidy_entry (entry.Kind x) f = tidy_kind x f
tidy_entry (entry.Run x) f = tidy_run x f
tidy_entry (entry.Cables n) f = tidy_cables n f
tidy_entry (entry.Cable x) f = tidy_cable x f
tidy_entry (entry.Packets n) f = tidy_packets n f
tidy_entry (entry.Packet x) f = tidy_packet x f

-- the numbers of a sheet's lists
pub fits_cables : (s : Said) → AllByRecursion (AllByRecursion Fits) (lines s) → AllByRecursion (AllByRecursion Fits) (map cable_line s.cables)
fits_cables s h = all_left (AllByRecursion Fits) (map cable_line s.cables) (packets_line (length s.packets) ∷ map packet_line s.packets) h.1.1.1.1

pub fits_packets : (s : Said) → AllByRecursion (AllByRecursion Fits) (lines s) → AllByRecursion (AllByRecursion Fits) (packets_line (length s.packets) ∷ map packet_line s.packets)
fits_packets s h = all_right (AllByRecursion Fits) (map cable_line s.cables) (packets_line (length s.packets) ∷ map packet_line s.packets) h.1.1.1.1

pub tidy_lines : (s : Said) → AllByRecursion (AllByRecursion Fits) (lines s) → AllByRecursion Tidy (lines s)
tidy_lines s h =
    let q = fits_packets s h in
    let rest =
    every_append Tidy (map cable_line s.cables) (packets_line (length s.packets) ∷ map packet_line s.packets) (tidy_all cable_line tidy_cable s.cables (fits_cables s h))
    (tidy_packets (length s.packets) q.0, tidy_all packet_line tidy_packet s.packets q.1) in
    (tidy_shape s.shape h.0, (tidy_kind s.kind h.1.0, (tidy_run s.run h.1.1.0, (tidy_cables (length s.cables) h.1.1.1.0, rest))))
