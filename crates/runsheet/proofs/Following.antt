-- What line follows in a sheet that goes along with the lines that were read.
use Rattle.std.proofs.Common.{◌≡◌, ℕ, suc, ◌+◌, ◌-◌, ◌<◌, ◌≤◌, ◌⊎◌, List, [], ◌∷◌, ◌++◌, map, length, get_or, sym, refl, ap, ◌∙◌, subst, inl, inr, arith}
use Rattle.std.specs.List.{AllByRecursion}
use Rattle.std.proofs.lemmas.List.{length-append, length-map, get_or-drop, get_or_append_left, get_or-append_right, get_or-map, get_or_at}
use Rattle.std.proofs.Permutation.{every_at}
use Rattle.fabric.specs.declared.parts.Cable.{Cable}
use Rattle.text.specs.Texts.{Field, Fits, row, Any}
use Rattle.text.specs.declared.parts.Shape.{Shape}
use Rattle.runsheet.specs.Said.{Said}
use Rattle.text.specs.Lines.{Sized, kind_line, packets_line, packet_line, Uncabled, shape_line, run_line, cables_line, cable_line}
use Rattle.runsheet.specs.Sheets.{lines, Formed, Rising}
use Rattle.runsheet.specs.Reading.{Draft, entry_line, Suits, cabled_lines, all_lines, so_far, Stage, latest, Valid}
use Rattle.text.specs.declared.parts.Packet.{Packet}
use Rattle.runsheet.specs.declared.reader.Section.{Section}
use Rattle.runsheet.specs.declared.reader.Section.TheVariants as section
use Rattle.runsheet.specs.declared.reader.Entry.{Entry}
use Rattle.runsheet.specs.declared.reader.Entry.TheVariants as entry
use Rattle.runsheet.proofs.Apart.{fits_cables, fits_packets}
use Rattle.text.proofs.Tidy.{tidy_shape, tidy_cables, tidy_packets, tidy_packet}
use Rattle.text.proofs.Values.{tell_shape, tell_cables, tell_packets, tell_packet, same_row}
use Rattle.text.proofs.Lists.{all_map_at}
use Rattle.text.proofs.Aligned.{Agree}
use Rattle.runsheet.proofs.Moves.{length_cabled, length_all}
use Rattle.runsheet.proofs.Filling.{spare_cable, spare_packet}

-- what a look-up beyond the end of the packets answers
no_packet : Packet
no_packet = spare_packet 0

pub length_lines : (s : Said) → length (lines s) ≡ 5 + length s.cables + length s.packets
length_lines s =
    let a = length-append (map cable_line s.cables) (packets_line (length s.packets) ∷ map packet_line s.packets) in
    let b = length-map s.cables cable_line in
    let c = length-map s.packets packet_line in
    omega arith

-- four lines, cables, a count and packets
abbrev table : List Field → List Field → List Field → List Field → List Cable → ℕ → List Packet → List (List Field)
table a b c e cs m qs = a ∷ b ∷ c ∷ e ∷ (map cable_line cs ++ packets_line m ∷ map packet_line qs)

-- its lines by their index
module _ (a b c e : List Field) (cs : List Cable) (m : ℕ) (qs : List Packet) where
  line_cable : (i : ℕ) → i < length cs → get_or (table a b c e cs m qs) (4 + i) [] ≡ cable_line (get_or cs i spare_cable)
  line_cable i l =
      sym (get_or-drop 4 (table a b c e cs m qs) i [])
      ∙ get_or_append_left (map cable_line cs) (packets_line m ∷ map packet_line qs) [] i (subst (λ n. i < n) (sym (length-map cs cable_line)) l)
      ∙ get_or-map cable_line cs i spare_cable [] l

  line_packets : get_or (table a b c e cs m qs) (4 + length cs) [] ≡ packets_line m
  line_packets = sym (get_or-drop 4 (table a b c e cs m qs) (length cs) []) ∙ get_or_at (map cable_line cs) (packets_line m) (map packet_line qs) [] (length cs) (length-map cs cable_line)

  line_packet : (i : ℕ) → i < length qs → get_or (table a b c e cs m qs) (5 + length cs + i) [] ≡ packet_line (get_or qs i no_packet)
  line_packet i l =
      let k : 5 + length cs + i ≡ 4 + (length cs + suc i) = omega arith in
      let f : (length cs + suc i) - length cs ≡ suc i = omega arith in
      ap (λ j. get_or (table a b c e cs m qs) j []) k
      ∙ sym (get_or-drop 4 (table a b c e cs m qs) (length cs + suc i) [])
      ∙ get_or-append_right (map cable_line cs) (packets_line m ∷ map packet_line qs) (length cs) (length cs + suc i) [] (length-map cs cable_line) (omega arith)
      ∙ ap (λ j. get_or (packets_line m ∷ map packet_line qs) j []) f
      ∙ get_or-map packet_line qs i no_packet [] l

-- packets that agree in their cycles are due no later than the next one
latest_le : (c : ℕ) (ps qs : List Packet) → Rising c qs → length ps < length qs → ((j : ℕ) → j < length ps → (get_or ps j no_packet).cycle ≡ (get_or qs j no_packet).cycle) → latest c ps ≤ (get_or qs (length ps) no_packet).cycle
latest_le c [] [] r l h = absurd (let z : ⊥ = omega arith in z)
latest_le c [] (q ∷ qs) r l h = r.0
latest_le c (p ∷ ps) [] r l h = absurd (let z : ⊥ = omega arith in z)
latest_le c (p ∷ ps) (q ∷ qs) r l h = subst (λ k. latest k ps ≤ (get_or qs (length ps) no_packet).cycle) (sym (h 0 (omega arith))) (latest_le q.cycle ps qs r.1 (omega arith) (λ j k. h (suc j) (omega arith)))

-- line k + 1 of the lines L says what may come next, or there is none and none may come
abbrev Coming : Draft → List (List Field) → ℕ → Type 0
Coming d L k = (e : Entry) × (k < length L) × AllByRecursion Fits (entry_line e) × Suits d e × (get_or L k [] ≡ entry_line e)

abbrev pub Follows : Draft → List (List Field) → ℕ → Type 0
Follows d L k = Coming d L k ⊎ ((d.section ≡ section.End) × (length L ≡ k))

module _ (d : Draft) (c p : ℕ) (s : Said) (v : Valid d) (F : Formed c p s) where
  same_cable_count : row (cables_line d.cable_count) ≡ row (cables_line (length s.cables)) → d.cable_count ≡ length s.cables
  same_cable_count e = same_row cables_line Any tell_cables tidy_cables d.cable_count (length s.cables) (tt, (omega (arith, v.cable_count), tt)) F.numbers.1.1.1.0 tt tt e

  -- the lines after the cables, of what was read and of the sheet
  read_packets : get_or (all_lines d) (4 + length d.cables) [] ≡ packets_line d.packet_count
  read_packets = line_packets (shape_line d.shape) (kind_line d.kind) (run_line d.run) (cables_line d.cable_count) d.cables d.packet_count d.packets

  read_packet : (j : ℕ) → j < length d.packets → get_or (all_lines d) (5 + length d.cables + j) [] ≡ packet_line (get_or d.packets j no_packet)
  read_packet j l = line_packet (shape_line d.shape) (kind_line d.kind) (run_line d.run) (cables_line d.cable_count) d.cables d.packet_count d.packets j l

  sheet_packets : (n : ℕ) → n ≡ length s.cables → get_or (lines s) (4 + n) [] ≡ packets_line (length s.packets)
  sheet_packets n e = ap (λ k. get_or (lines s) (4 + k) []) e ∙ line_packets (shape_line s.shape) (kind_line s.kind) (run_line s.run) (cables_line (length s.cables)) s.cables (length s.packets) s.packets

  sheet_packet : (n j : ℕ) → n ≡ length s.cables → j < length s.packets → get_or (lines s) (5 + n + j) [] ≡ packet_line (get_or s.packets j no_packet)
  sheet_packet n j e l = ap (λ k. get_or (lines s) (5 + k + j) []) e ∙ line_packet (shape_line s.shape) (kind_line s.kind) (run_line s.run) (cables_line (length s.cables)) s.cables (length s.packets) s.packets j l

  fits_of : (j : ℕ) → j < length s.packets → AllByRecursion Fits (packet_line (get_or s.packets j no_packet))
  fits_of j l = all_map_at (AllByRecursion Fits) packet_line s.packets j no_packet l (fits_packets s F.numbers).1

  same_packet_count : Agree (all_lines d) (lines s) (length (all_lines d)) → length d.cables ≡ length s.cables → d.packet_count ≡ length s.packets
  same_packet_count a e =
      same_row packets_line Any tell_packets tidy_packets d.packet_count (length s.packets) (tt, (omega (arith, v.packet_count), tt)) (fits_packets s F.numbers).0 tt tt
      (ap row (sym read_packets) ∙ a (4 + length d.cables) (omega (arith, length_all d)) ∙ ap row (sheet_packets (length d.cables) e))

  -- the line that comes next
  next_cable : d.section ≡ section.Cable → Stage section.Cable d → Agree (cabled_lines d) (lines s) (length (cabled_lines d)) → Coming d (lines s) (length (cabled_lines d))
  next_cable at st a =
      let n = same_cable_count (a 3 (omega (arith, length_cabled d))) in
      let i = length d.cables in
      let l : i < length s.cables = omega (arith, st.0) in
      subst (Coming d (lines s)) (sym (length_cabled d)) (
        entry.Cable (get_or s.cables i spare_cable),
        omega (arith, length_lines s),
        all_map_at (AllByRecursion Fits) cable_line s.cables i spare_cable l (fits_cables s F.numbers),
        at,
        line_cable (shape_line s.shape) (kind_line s.kind) (run_line s.run) (cables_line (length s.cables)) s.cables (length s.packets) s.packets i l,
      )

  pub next_packets : Stage section.Packets d → Agree (cabled_lines d) (lines s) (length (cabled_lines d)) → (length (cabled_lines d) < length (lines s)) × (get_or (lines s) (length (cabled_lines d)) [] ≡ packets_line (length s.packets))
  next_packets st a =
      let n = same_cable_count (a 3 (omega (arith, length_cabled d))) in
      (omega (arith, length_cabled d, length_lines s, st.0), ap (λ k. get_or (lines s) k []) (length_cabled d) ∙ sheet_packets (length d.cables) (omega (arith, st.0)))

  next_packet : d.section ≡ section.Packet → Stage section.Packet d → Agree (all_lines d) (lines s) (length (all_lines d)) → Coming d (lines s) (length (all_lines d))
  next_packet at st a =
      let n = same_cable_count (a 3 (omega (arith, length_all d))) in
      let w : length d.cables ≡ length s.cables = omega (arith, st.0) in
      let m = same_packet_count a w in
      let i = length d.packets in
      let l : i < length s.packets = omega (arith, st.1) in
      let like : (j : ℕ) → j < i → (get_or d.packets j no_packet).cycle ≡ (get_or s.packets j no_packet).cycle =
      λ j k. ap (λ (x : Packet). x.cycle) (same_row packet_line Sized tell_packet tidy_packet (get_or d.packets j no_packet) (get_or s.packets j no_packet)
      (every_at (λ x. AllByRecursion Fits (packet_line x)) d.packets j no_packet k v.packets) (fits_of j (omega arith))
      (every_at Sized d.packets j no_packet k v.sized) (every_at Sized s.packets j no_packet (omega arith) F.sized)
      (ap row (sym (read_packet j k)) ∙ a (5 + length d.cables + j) (omega (arith, length_all d)) ∙ ap row (sheet_packet (length d.cables) j w (omega arith)))) in
      subst (Coming d (lines s)) (sym (length_all d)) (
        entry.Packet (get_or s.packets i no_packet),
        omega (arith, length_lines s),
        fits_of i l,
        (at, every_at Sized s.packets i no_packet l F.sized, subst (λ k. k ≤ (get_or s.packets i no_packet).cycle) (sym v.last) (latest_le 0 d.packets s.packets F.rising l like)),
        sheet_packet (length d.cables) i w l,
      )

  none_next : Stage section.End d → Agree (all_lines d) (lines s) (length (all_lines d)) → length (lines s) ≡ length (all_lines d)
  none_next st a =
      let n = same_cable_count (a 3 (omega (arith, length_all d))) in
      let m = same_packet_count a (omega (arith, st.0)) in
      omega (arith, length_lines s, length_all d, st.0, st.1)

  pub follows : (e : Section) → d.section ≡ e → Stage e d → Agree (so_far e d) (lines s) (length (so_far e d)) → Follows d (lines s) (length (so_far e d))
  follows section.Layout at st a = inl (entry.Shape s.shape, omega (arith, length_lines s), F.numbers.0, at, refl)
  follows section.Switch at st a = inl (entry.Kind s.kind, omega (arith, length_lines s), F.numbers.1.0, at, refl)
  follows section.Run at st a = inl (entry.Run s.run, omega (arith, length_lines s), F.numbers.1.1.0, (at, F.cycles), refl)
  follows section.Cables at st a =
      let u : Uncabled d.shape (length s.cables) = subst (λ (x : Shape). Uncabled x (length s.cables)) (sym (same_row shape_line Any tell_shape tidy_shape d.shape s.shape v.shape F.numbers.0 tt tt (a 0 (omega arith)))) F.uncabled in
      inl (entry.Cables (length s.cables), omega (arith, length_lines s), F.numbers.1.1.1.0, (at, u), refl)
  follows section.Cable at st a = inl (next_cable at st a)
  follows section.Packets at st a = let h = next_packets st a in inl (entry.Packets (length s.packets), h.0, (fits_packets s F.numbers).0, at, h.1)
  follows section.Packet at st a = inl (next_packet at st a)
  follows section.End at st a = inr (at, none_next st a)
