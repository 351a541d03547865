-- Whatever was read, some sheet begins so: what was read, filled up to the counts.
use Rattle.std.proofs.Common.{◌≡◌, ℕ, zero, suc, ◌-◌, ◌^◌, ◌<◌, ◌≤◌, List, [], ◌∷◌, ◌++◌, map, length, drop, replicate, slice_index, sym, refl, ap, ◌∙◌, subst, append_assoc, arith}
use Rattle.std.specs.List.{AllByRecursion}
use Rattle.std.proofs.lemmas.List.{length-append, length-replicate, map-append}
use Rattle.std.proofs.Permutation.{every_append}
use Rattle.fabric.specs.declared.parts.Port.TheVariants.{N}
use Rattle.fabric.specs.declared.parts.Cable.{Cable}
use Rattle.text.specs.Texts.{Field, Fits}
use Rattle.runsheet.specs.Said.{Said}
use Rattle.text.proofs.Lists.{all_map}
use Rattle.text.specs.Lines.{Sized, kind_line, packets_line, packet_line, Uncabled, shape_line, run_line, cables_line, cable_line}
use Rattle.runsheet.specs.Sheets.{lines, Formed, Rising}
use Rattle.runsheet.specs.Reading.{Draft, cabled_lines, all_lines, so_far, Stage, latest, Valid}
use Rattle.text.specs.declared.parts.Packet.{Packet}
use Rattle.runsheet.specs.declared.reader.Section.{Section}
use Rattle.runsheet.specs.declared.reader.Section.TheVariants as section

-- what fills the lists up, and what a look-up beyond the end of the cables answers
abbrev pub spare_cable : Cable
spare_cable = record { one = record { node = 0; port = N }; other = record { node = 0; port = N } }

abbrev pub spare_packet : ℕ → Packet
spare_packet c = record { cycle = c; node = 0; own = 0; destination = 0; count = 1; words = 0 ∷ 0 ∷ 0 ∷ 0 ∷ [] }

abbrev pub spare_cables : Draft → ℕ → List Cable
spare_cables d n = replicate (n - length d.cables) spare_cable

no_words : (j : ℕ) → slice_index (0 ∷ 0 ∷ 0 ∷ 0 ∷ []) j ≡ 0
no_words zero = refl
no_words (suc zero) = refl
no_words (suc (suc zero)) = refl
no_words (suc (suc (suc zero))) = refl
no_words (suc (suc (suc (suc j)))) = refl

abbrev pub spare_packets : Draft → ℕ → List Packet
spare_packets d m = replicate (m - length d.packets) (spare_packet d.last)

-- n cables and m packets, of which the first were read
abbrev pub fill : Draft → ℕ → ℕ → Said
fill d n m = record { shape = d.shape; kind = d.kind; run = d.run; cables = d.cables ++ spare_cables d n; packets = d.packets ++ spare_packets d m }

all_replicate : {X : Type 0} (P : X → Type 0) (n : ℕ) (x : X) → P x → AllByRecursion P (replicate n x)
all_replicate P zero x h = tt
all_replicate P (suc n) x h = (h, all_replicate P n x h)

rising_spare : (c k : ℕ) → Rising c (replicate k (spare_packet c))
rising_spare c zero = tt
rising_spare c (suc k) = (omega arith, rising_spare c k)

rising_filled : (c k : ℕ) (ps : List Packet) → Rising c ps → Rising c (ps ++ replicate k (spare_packet (latest c ps)))
rising_filled c k [] r = rising_spare c k
rising_filled c k (p ∷ ps) r = (r.0, rising_filled p.cycle k ps r.1)

latest_fits : (c : ℕ) (ps : List Packet) → c < 2 ^ 32 → AllByRecursion (λ x. AllByRecursion Fits (packet_line x)) ps → latest c ps < 2 ^ 32
latest_fits c [] h a = h
latest_fits c (p ∷ ps) h a = latest_fits p.cycle ps a.0.0 a.1

module _ (d : Draft) (n m : ℕ) (hn : length d.cables ≤ n) (hm : length d.packets ≤ m) where
  length_cables : length (fill d n m).cables ≡ n
  length_cables = length-append d.cables (spare_cables d n) ∙ (let b = length-replicate (n - length d.cables) spare_cable in omega arith)

  length_packets : length (fill d n m).packets ≡ m
  length_packets = length-append d.packets (spare_packets d m) ∙ (let b = length-replicate (m - length d.packets) (spare_packet d.last) in omega arith)

  fits_cables : Valid d → AllByRecursion (AllByRecursion Fits) (map cable_line (fill d n m).cables)
  fits_cables v =
      all_map (AllByRecursion Fits) cable_line (fill d n m).cables
      (every_append (λ x. AllByRecursion Fits (cable_line x)) d.cables (spare_cables d n) v.cables (all_replicate (λ x. AllByRecursion Fits (cable_line x)) (n - length d.cables) spare_cable (omega arith, (tt, (omega arith, (tt, tt))))))

  fits_packets : Valid d → AllByRecursion (AllByRecursion Fits) (map packet_line (fill d n m).packets)
  fits_packets v =
      let l : d.last < 2 ^ 32 = subst (λ c. c < 2 ^ 32) (sym v.last) (latest_fits 0 d.packets (omega arith) v.packets) in
      all_map (AllByRecursion Fits) packet_line (fill d n m).packets
      (every_append (λ x. AllByRecursion Fits (packet_line x)) d.packets (spare_packets d m) v.packets
      (all_replicate (λ x. AllByRecursion Fits (packet_line x)) (m - length d.packets) (spare_packet d.last) (l, (omega arith, (omega arith, (omega arith, (omega arith, (omega arith, tt))))))))

  pub formed_fill : Valid d → n < 2 ^ 32 → m < 2 ^ 32 → Uncabled d.shape n → Formed n m (fill d n m)
  formed_fill v a b u =
      let S = fill d n m in
      record {
        numbers = (
          v.shape,
          (
            (tt, (tt, tt)),
            (
              v.run,
              (
                (tt, (omega (arith, length_cables), tt)),
                every_append (AllByRecursion Fits) (map cable_line S.cables) (packets_line (length S.packets) ∷ map packet_line S.packets) (fits_cables v) ((tt, (omega (arith, length_packets), tt)), fits_packets v),
              ),
            ),
          ),
        );
        cycles = v.cycles;
        uncabled = subst (Uncabled d.shape) (sym length_cables) u;
        cables = omega (arith, length_cables);
        packets = omega (arith, length_packets);
        sized = every_append Sized d.packets (spare_packets d m) v.sized (all_replicate Sized (m - length d.packets) (spare_packet d.last) (record { some = omega arith; most = omega arith; places = refl; blank = λ j l. no_words j }));
        rising = subst (λ c. Rising 0 (d.packets ++ replicate (m - length d.packets) (spare_packet c))) (sym v.last) (rising_filled 0 (m - length d.packets) d.packets v.rising);
      }

  pub lines_fill : lines (fill d n m) ≡ shape_line d.shape ∷ kind_line d.kind ∷ run_line d.run ∷ cables_line n ∷ (map cable_line d.cables ++ (map cable_line (spare_cables d n) ++ packets_line m ∷ (map packet_line d.packets ++ map packet_line (spare_packets d m))))
  lines_fill =
      let S = fill d n m in
      ap (λ k. shape_line d.shape ∷ kind_line d.kind ∷ run_line d.run ∷ cables_line k ∷ (map cable_line S.cables ++ packets_line (length S.packets) ∷ map packet_line S.packets)) length_cables
      ∙ ap (λ y. shape_line d.shape ∷ kind_line d.kind ∷ run_line d.run ∷ cables_line n ∷ y)
      (ap (λ y. y ++ packets_line (length S.packets) ∷ map packet_line S.packets) (map-append cable_line d.cables (spare_cables d n))
      ∙ append_assoc (map cable_line d.cables) (map cable_line (spare_cables d n)) (packets_line (length S.packets) ∷ map packet_line S.packets)
      ∙ ap (λ y. map cable_line d.cables ++ (map cable_line (spare_cables d n) ++ y))
      (ap (λ k. packets_line k ∷ map packet_line S.packets) length_packets ∙ ap (λ y. packets_line m ∷ y) (map-append packet_line d.packets (spare_packets d m))))

pub weaker : (a b c e : ℕ) (s : Said) → a ≤ c → b ≤ e → Formed a b s → Formed c e s
weaker a b c e s h k F = record { numbers = F.numbers; cycles = F.cycles; uncabled = F.uncabled; cables = omega (arith, F.cables); packets = omega (arith, F.packets); sized = F.sized; rising = F.rising }

-- a list that is as long as its count is not filled up
pub no_spare_cables : (d : Draft) (n : ℕ) → length d.cables ≡ n → spare_cables d n ≡ []
no_spare_cables d n e = ap (λ j. replicate j spare_cable) (let z : n - length d.cables ≡ 0 = omega arith in z)

pub no_spare_packets : (d : Draft) (m : ℕ) → length d.packets ≡ m → spare_packets d m ≡ []
no_spare_packets d m e = ap (λ j. replicate j (spare_packet d.last)) (let z : m - length d.packets ≡ 0 = omega arith in z)

-- the lines that were read come first
abbrev Begun : List (List Field) → Draft → Type 0
Begun A d = (Z : List (List Field)) × (lines (fill d d.cable_count d.packet_count) ≡ A ++ Z)

begun_all : (d : Draft) → length d.cables ≡ d.cable_count → length d.packets ≤ d.packet_count → Begun (all_lines d) d
begun_all d w h =
    let Q = map packet_line (spare_packets d d.packet_count) in (
      Q,
      lines_fill d d.cable_count d.packet_count (omega arith) h
          ∙ ap (λ y. cabled_lines d ++ (y ++ packets_line d.packet_count ∷ (map packet_line d.packets ++ Q))) (ap (map cable_line) (no_spare_cables d d.cable_count w))
          ∙ sym (append_assoc (cabled_lines d) (packets_line d.packet_count ∷ map packet_line d.packets) Q),
    )

pub begun : (s : Section) (d : Draft) → Stage s d → length d.cables ≤ d.cable_count → length d.packets ≤ d.packet_count → Begun (so_far s d) d
begun section.Layout d st g h = (lines (fill d d.cable_count d.packet_count), refl)
begun section.Switch d st g h = (drop 1 (lines (fill d d.cable_count d.packet_count)), refl)
begun section.Run d st g h = (drop 2 (lines (fill d d.cable_count d.packet_count)), refl)
begun section.Cables d st g h = (drop 3 (lines (fill d d.cable_count d.packet_count)), refl)
begun section.Cable d st g h = (_, lines_fill d d.cable_count d.packet_count g h)
begun section.Packets d st g h = (_, lines_fill d d.cable_count d.packet_count g h)
begun section.Packet d st g h = begun_all d st.0 h
begun section.End d st g h = begun_all d st.0 h
