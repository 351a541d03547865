-- How a reader moves on by a line.
use Rattle.std.proofs.Common.{◌≡◌, ℕ, ◌+◌, ◌<◌, ◌≤◌, ltb, List, [], ◌∷◌, ◌++◌, map, length, sym, refl, ap, ◌∙◌, subst, append_assoc, arith}
use Rattle.std.specs.List.{AllByRecursion}
use Rattle.std.proofs.lemmas.List.{length-append, length-map, length_push, map_push}
use Rattle.std.proofs.SliceLists.{all_by_recursion_push}
use Rattle.std.proofs.lemmas.Bool.{cond_both, ltb-true, ltb-false}
use Rattle.batch.specs.Items.{joined}
use Rattle.batch.proofs.Rooms.{joined_room}
use Rattle.text.specs.Texts.{Fits}
use Rattle.text.specs.Lines.{Sized, packets_line, packet_line, cable_line}
use Rattle.runsheet.specs.Sheets.{Rising}
use Rattle.runsheet.specs.Reading.{Draft, Suits, cabled_lines, all_lines, so_far, Stage, latest, Valid, Grown, after}
use Rattle.text.specs.declared.parts.Packet.{Packet}
use Rattle.runsheet.specs.declared.reader.Section.{Section}
use Rattle.runsheet.specs.declared.reader.Section.TheVariants as section
use Rattle.runsheet.specs.declared.reader.Entry.{Entry}
use Rattle.runsheet.specs.declared.reader.Entry.TheVariants as entry

-- how many lines were read
pub length_cabled : (d : Draft) → length (cabled_lines d) ≡ 4 + length d.cables
length_cabled d = let e = length-map d.cables cable_line in omega arith

pub length_all : (d : Draft) → length (all_lines d) ≡ 5 + length d.cables + length d.packets
length_all d =
    let e = length-append (cabled_lines d) (packets_line d.packet_count ∷ map packet_line d.packets) in
    let f = length_cabled d in
    let g = length-map d.packets packet_line in
    omega arith

-- the lists are no longer than their counts
pub few_cables : (s : Section) (d : Draft) → Stage s d → length d.cables ≤ d.cable_count
few_cables section.Layout d h = omega (arith, ap length h.cables)
few_cables section.Switch d h = omega (arith, ap length h.cables)
few_cables section.Run d h = omega (arith, ap length h.cables)
few_cables section.Cables d h = omega (arith, ap length h.cables)
few_cables section.Cable d h = omega (arith, h.0)
few_cables section.Packets d h = omega (arith, h.0)
few_cables section.Packet d h = omega (arith, h.0)
few_cables section.End d h = omega (arith, h.0)

pub few_packets : (s : Section) (d : Draft) → Stage s d → length d.packets ≤ d.packet_count
few_packets section.Layout d h = omega (arith, ap length h.packets)
few_packets section.Switch d h = omega (arith, ap length h.packets)
few_packets section.Run d h = omega (arith, ap length h.packets)
few_packets section.Cables d h = omega (arith, ap length h.packets)
few_packets section.Cable d h = omega (arith, ap length h.2)
few_packets section.Packets d h = omega (arith, ap length h.2)
few_packets section.Packet d h = omega (arith, h.1)
few_packets section.End d h = omega (arith, h.1)

-- one more of two ways to go on
goes : (P : Section → Type 0) (n m : ℕ) (s t : Section) → (n < m → P s) → (m ≤ n → P t) → P (after n m s t)
goes P n m s t f g = cond_both (ltb n m) s t P (λ e. f (ltb-true n m e)) (λ e. g (ltb-false n m e))

rising_push : (c : ℕ) (ps : List Packet) (x : Packet) → Rising c ps → latest c ps ≤ x.cycle → Rising c (ps ++ x ∷ [])
rising_push c [] x r h = (h, tt)
rising_push c (p ∷ ps) x r h = (r.0, rising_push p.cycle ps x r.1 h)

latest_push : (c : ℕ) (ps : List Packet) (x : Packet) → latest c (ps ++ x ∷ []) ≡ x.cycle
latest_push c [] x = refl
latest_push c (p ∷ ps) x = latest_push p.cycle ps x

-- with a packet more
abbrev pub with_packets : Draft → List Packet → ℕ → Section → Draft
with_packets d ps c s = record { section = s; shape = d.shape; kind = d.kind; run = d.run; cable_count = d.cable_count; cables = d.cables; packet_count = d.packet_count; packets = ps; last = c }

module _ (d : Draft) (x : Packet) (v : Valid d) (u : Suits d (entry.Packet x)) (f : AllByRecursion Fits (packet_line x)) where
  grown_to : (s : Section) → so_far s (with_packets d (d.packets ++ x ∷ []) x.cycle s) ≡ all_lines (with_packets d (d.packets ++ x ∷ []) x.cycle s) → Stage s (with_packets d (d.packets ++ x ∷ []) x.cycle s) → Grown d (entry.Packet x) (with_packets d (d.packets ++ x ∷ []) x.cycle s)
  grown_to s far st =
      record {
        valid =
            record {
              shape = v.shape;
              run = v.run;
              cycles = v.cycles;
              uncabled = v.uncabled;
              cable_count = v.cable_count;
              cables = v.cables;
              packet_count = v.packet_count;
              packets = all_by_recursion_push (λ y. AllByRecursion Fits (packet_line y)) d.packets x v.packets f;
              sized = all_by_recursion_push Sized d.packets x v.sized u.1;
              rising = rising_push 0 d.packets x v.rising (subst (λ c. c ≤ x.cycle) v.last u.2);
              last = sym (latest_push 0 d.packets x);
              stage = st;
            };
        lines =
            far
            ∙ ap (λ q. cabled_lines d ++ packets_line d.packet_count ∷ q) (map_push packet_line d.packets x)
            ∙ sym (append_assoc (cabled_lines d) (packets_line d.packet_count ∷ map packet_line d.packets) (packet_line x ∷ []))
            ∙ ap (λ y. so_far y d ++ packet_line x ∷ []) (sym u.0);
      }

  moved_packet : (k : ℕ) → k ≡ length d.packets + 1 → Grown d (entry.Packet x) (with_packets d (d.packets ++ x ∷ []) x.cycle (after k d.packet_count section.Packet section.End))
  moved_packet k e =
      let at : Stage section.Packet d = subst (λ y. Stage y d) u.0 v.stage in
      let m = length_push d.packets x in
      goes (λ s. Grown d (entry.Packet x) (with_packets d (d.packets ++ x ∷ []) x.cycle s)) k d.packet_count section.Packet section.End
      (λ l. grown_to section.Packet refl (at.0, omega arith))
      (λ l. grown_to section.End refl (at.0, omega (arith, at.1)))

-- with a packet that its batch takes
module _ (d : Draft) (v : Valid d) where
  pub packet_room : (x : Packet) → Suits d (entry.Packet x) → length d.packets < 256
  packet_room x u = let at : Stage section.Packet d = subst (λ y. Stage y d) u.0 v.stage in omega (arith, at.1, v.packet_count)

  pub put_packet : (x : Packet) (ps : List Packet) → ps ≡ joined 256 d.packets x → Suits d (entry.Packet x) → AllByRecursion Fits (packet_line x) → Grown d (entry.Packet x) (with_packets d ps x.cycle (after (length ps) d.packet_count section.Packet section.End))
  put_packet x ps h u f =
      subst (λ ys. Grown d (entry.Packet x) (with_packets d ys x.cycle (after (length ys) d.packet_count section.Packet section.End))) (sym (h ∙ joined_room 256 d.packets x (packet_room x u)))
      (moved_packet d x v u f _ (length_push d.packets x))

-- the entry that was put, and what was read then
pub entered : (d d' q : Draft) (e e₀ : Entry) → e ≡ e₀ → d' ≡ q → Grown d e₀ q → Grown d e d'
entered d d' q e e₀ i g h = subst (λ x. Grown d x d') (sym i) (subst (Grown d e₀) (sym g) h)
