-- Where the reader stops, no sheet goes on; where it ends, the text is the sheet's.
use Rattle.std.proofs.Common.{◌≡◌, ℕ, ◌+◌, ◌^◌, ◌<◌, ◌≤◌, List, [], ◌∷◌, ◌++◌, map, length, get_or, sym, refl, ap, ◌∙◌, subst, inr, ⊎_elim, append_assoc, append-nil, arith}
use Rattle.std.specs.List.{AllByRecursion}
use Rattle.std.proofs.lemmas.List.{length-append, length_push}
use Rattle.std.proofs.Permutation.{every_at}
use Rattle.fabric.specs.declared.parts.Cable.{Cable}
use Rattle.text.specs.Texts.{Field, Fits, Free, Lined, row, written, text, Any}
use Rattle.runsheet.specs.Said.{Said}
use Rattle.text.specs.Lines.{packets_line, packet_line, kind_line, cables_line, cable_line, shape_line, run_line}
use Rattle.runsheet.specs.Sheets.{lines, Formed, SheetText, Refused}
use Rattle.text.specs.Faults.{told, ill_formed, too_many, GoesOn, Stops}
use Rattle.runsheet.specs.Reading.{Draft, entry_line, Suits, Exceeds, cabled_lines, so_far, lines_read, Stage, Valid, Refuses}
use Rattle.text.specs.declared.fault.Fault.{Fault}
use Rattle.text.specs.declared.parts.Packet.{Packet}
use Rattle.runsheet.specs.declared.reader.Section.TheVariants as section
use Rattle.runsheet.specs.declared.reader.Entry.{Entry}
use Rattle.runsheet.specs.declared.reader.Entry.TheVariants as entry
use Rattle.text.proofs.Tidy.{Tidy, tidy_cables, tidy_packets}
use Rattle.text.proofs.Values.{tell_cables, tell_packets, same_row}
use Rattle.runsheet.proofs.Apart.{tidy_entry, tidy_lines, fits_packets}
use Rattle.text.proofs.Lists.{all_left}
use Rattle.text.proofs.Aligned.{Agree, Matched, cut, ended}
use Rattle.text.proofs.Stopping.{Barred, along, goes_on, halted, onward, is_line, no_line, other_line}
use Rattle.runsheet.proofs.Sections.{unlike}
use Rattle.runsheet.proofs.Moves.{few_cables, few_packets}
use Rattle.runsheet.proofs.Filling.{fill, spare_cables, spare_packets, formed_fill, lines_fill, weaker, no_spare_cables, no_spare_packets, begun}
use Rattle.runsheet.proofs.Following.{length_lines, next_packets, follows}

abbrev Lawful : Said → Type 0
Lawful s = Formed 128 256 s

abbrev Unlimited : Said → Type 0
Unlimited s = Formed (2 ^ 32) (2 ^ 32) s

unlimited : (s : Said) → Lawful s → Unlimited s
unlimited s F = weaker 128 256 (2 ^ 32) (2 ^ 32) s (omega arith) (omega arith) F

tidied : (s : Said) → Unlimited s → AllByRecursion Tidy (lines s)
tidied s F = tidy_lines s F.numbers

some_line : (rest : List ℕ) (ws : List (List ℕ)) (more : List ℕ) → Lined rest ws more → rest ≡ [] → ⊥
some_line rest ws more l z = let e = length-append l.0 (10 ∷ more) in omega (arith, ap length (sym z ∙ l.1))

-- what was read, filled up, is lawful
lawful : (d : Draft) → Valid d → Lawful (fill d d.cable_count d.packet_count)
lawful d v =
    weaker d.cable_count d.packet_count 128 256 (fill d d.cable_count d.packet_count) v.cable_count v.packet_count
    (formed_fill d d.cable_count d.packet_count (few_cables d.section d v.stage) (few_packets d.section d v.stage) v (omega (arith, v.cable_count)) (omega (arith, v.packet_count)) v.uncabled)

module _ (d : Draft) (bs rest : List ℕ) (v : Valid d) (o : bs ≡ text (lines_read d) ++ rest) where
  first : (Z : List (List Field)) × (lines (fill d d.cable_count d.packet_count) ≡ lines_read d ++ Z)
  first = begun d.section d v.stage (few_cables d.section d v.stage) (few_packets d.section d v.stage)

  tidy_read : AllByRecursion Tidy (lines_read d)
  tidy_read = all_left Tidy (lines_read d) first.0 (subst (AllByRecursion Tidy) first.1 (tidied (fill d d.cable_count d.packet_count) (unlimited (fill d d.cable_count d.packet_count) (lawful d v))))

  refuted : Barred entry_line (Suits d) rest → (d.section ≡ section.End → rest ≡ [] → ⊥) → (s : Said) → Unlimited s → Matched (lines_read d) (lines s) rest → ⊥
  refuted b z s F m =
      ⊎_elim
      (λ h. ⊎_elim (λ i. omega (arith, i.0, h.1)) (λ i. b h.0 i.1.0 h.2 h.3 (i.1.1 ∙ ap (λ l. written l ++ i.1.0) h.4)) m.1)
      (λ h. ⊎_elim (λ i. z h.0 i.1) (λ i. omega (arith, i.0, h.1)) m.1)
      (follows d (2 ^ 32) (2 ^ 32) s v F d.section refl v.stage m.0)

  stuck : (f : Fault) → told f ≡ ill_formed (length (lines_read d) + 1) → Barred entry_line (Suits d) rest → (d.section ≡ section.End → rest ≡ [] → ⊥) → Stops lines Lawful Unlimited bs (length (lines_read d)) f
  stuck f at b z = halted lines (lines_read d) bs rest o Lawful Unlimited f (fill d d.cable_count d.packet_count) first.0 unlimited tidied (lawful d v) first.1 at tidy_read (refuted b z)

  -- a line that is too much for lawful sheets, but not for larger ones
  over : (f : Fault) (l : List Field) (more : List ℕ) (s : Said) (Z : List (List Field)) → told f ≡ too_many (length (lines_read d) + 1) → Tidy l → rest ≡ written l ++ more → Unlimited s → lines s ≡ (lines_read d ++ l ∷ []) ++ Z →
      ((t : Said) → Lawful t → Agree (lines_read d) (lines t) (length (lines_read d)) → (length (lines_read d) < length (lines t)) × (row (get_or (lines t) (length (lines_read d)) []) ≡ row l → ⊥)) → Stops lines Lawful Unlimited bs (length (lines_read d)) f
  over f l more s Z at T w big e none =
      let A = lines_read d in
      record {
        before = along lines A bs rest o Lawful (fill d d.cable_count d.packet_count) first.0 (lawful d v) first.1;
        ends = λ g.
            let L = lines g.0 in
            let t = tidied g.0 (unlimited g.0 g.1) in
            let m = goes_on lines A bs rest o Lawful (λ q G. tidied q (unlimited q G)) tidy_read g in
            let h = none g.0 g.1 m.0 in
            ⊎_elim
            (λ i. omega (arith, i.0, h.0))
            (λ i. h.1 (cut (row (get_or L (length A) [])) (row l) i.1.0 more (every_at Tidy L (length A) [] h.0 t).ends T.ends (sym (ended (get_or L (length A) []) i.1.0) ∙ sym i.1.1 ∙ w ∙ ended l more)).0)
            m.1;
        fault = inr (at, subst (λ k. GoesOn lines Unlimited k bs) (length_push A l) (along lines (A ++ l ∷ []) bs more (onward A (A ++ l ∷ []) l bs rest more o refl w) Unlimited s Z big e));
      }

  over_cables : (f : Fault) (n : ℕ) (more : List ℕ) → told f ≡ too_many (length (lines_read d) + 1) → AllByRecursion Fits (cables_line n) → Suits d (entry.Cables n) → 128 < n → rest ≡ written (cables_line n) ++ more → Stops lines Lawful Unlimited bs (length (lines_read d)) f
  over_cables f n more at g u x w =
      let st : Stage section.Cables d = subst (λ s. Stage s d) u.0 v.stage in
      let three : length (lines_read d) ≡ 3 = ap (λ s. length (so_far s d)) u.0 in
      let S = fill d n d.packet_count in
      let hn : length d.cables ≤ n = omega (arith, ap length st.cables) in
      let hm = few_packets d.section d v.stage in
      let Z = map cable_line d.cables ++ (map cable_line (spare_cables d n) ++ packets_line d.packet_count ∷ (map packet_line d.packets ++ map packet_line (spare_packets d d.packet_count))) in
      over f (cables_line n) more S Z at (tidy_cables n g) w
      (weaker n d.packet_count (2 ^ 32) (2 ^ 32) S (omega (arith, g.1.0)) (omega (arith, v.packet_count)) (formed_fill d n d.packet_count hn hm v g.1.0 (omega (arith, v.packet_count)) u.1))
      (lines_fill d n d.packet_count hn hm ∙ ap (λ s. (so_far s d ++ cables_line n ∷ []) ++ Z) (sym u.0))
      (λ t F a. (
        omega (arith, length_lines t),
        λ e. let same = same_row cables_line Any tell_cables tidy_cables (length t.cables) n F.numbers.1.1.1.0 g tt tt (ap (λ k. row (get_or (lines t) k [])) (sym three) ∙ e) in omega (arith, F.cables),
      ))

  over_packets : (f : Fault) (n : ℕ) (more : List ℕ) → told f ≡ too_many (length (lines_read d) + 1) → AllByRecursion Fits (packets_line n) → Suits d (entry.Packets n) → 256 < n → rest ≡ written (packets_line n) ++ more → Stops lines Lawful Unlimited bs (length (lines_read d)) f
  over_packets f n more at g u x w =
      let st : Stage section.Packets d = subst (λ s. Stage s d) u v.stage in
      let all : lines_read d ≡ cabled_lines d = ap (λ s. so_far s d) u in
      let S = fill d d.cable_count n in
      let hn = few_cables d.section d v.stage in
      let hm : length d.packets ≤ n = omega (arith, ap length st.2) in
      let Z = map packet_line d.packets ++ map packet_line (spare_packets d n) in
      over f (packets_line n) more S Z at (tidy_packets n g) w
      (weaker d.cable_count n (2 ^ 32) (2 ^ 32) S (omega (arith, v.cable_count)) (omega (arith, g.1.0)) (formed_fill d d.cable_count n hn hm v (omega (arith, v.cable_count)) g.1.0 v.uncabled))
      (lines_fill d d.cable_count n hn hm
      ∙ ap (λ y. cabled_lines d ++ (y ++ packets_line n ∷ Z)) (ap (map cable_line) (no_spare_cables d d.cable_count st.0))
      ∙ sym (append_assoc (cabled_lines d) (packets_line n ∷ []) Z)
      ∙ ap (λ B. (B ++ packets_line n ∷ []) ++ Z) (sym all))
      (λ t F a.
      let h = next_packets d 128 256 t v F st (subst (λ B. Agree B (lines t) (length B)) all a) in (
        subst (λ B. length B < length (lines t)) (sym all) h.0,
        λ e.
            let same = same_row packets_line Any tell_packets tidy_packets (length t.packets) n (fits_packets t F.numbers).0 g tt tt (ap row (sym h.1) ∙ ap (λ B. row (get_or (lines t) (length B) [])) (sym all) ∙ e) in
            omega (arith, F.packets),
      ))

  overs : (f : Fault) (e : Entry) (more : List ℕ) → told f ≡ too_many (length (lines_read d) + 1) → AllByRecursion Fits (entry_line e) → Suits d e → Exceeds e → rest ≡ written (entry_line e) ++ more → Stops lines Lawful Unlimited bs (length (lines_read d)) f
  overs f (entry.Cables n) more at g u x w = over_cables f n more at g u x w
  overs f (entry.Packets n) more at g u x w = over_packets f n more at g u x w
  overs f e more at g u x w = absurd x

  module _ (short : length bs ≤ 65536) (f : Fault) (k : ℕ) (n : k ≡ length (lines_read d)) where
    -- the line that comes next is refused
    pub refused : (ws : List (List ℕ)) (more : List ℕ) → Lined rest ws more → Refuses d (k + 1) ws f → Refused bs f
    refused ws more l q =
        inr (
          short,
          (
            length (lines_read d),
            ⊎_elim
                (λ i. stuck f (i.0 ∙ ap (λ j. ill_formed (j + 1)) n) (other_line entry_line (Suits d) rest tidy_entry ws more l (unlike d ws i.1)) (λ _ z. some_line rest ws more l z))
                (λ i. overs f i.1.0 more (i.0 ∙ ap (λ j. too_many (j + 1)) n) i.1.2 i.1.3 i.1.4 (is_line (entry_line i.1.0) rest more ws l i.1.1))
                q,
          ),
        )

    -- it lacks its end
    pub unended : told f ≡ ill_formed (k + 1) → Free 10 rest → (rest ≡ [] → ⊥) → Refused bs f
    unended at free some = inr (short, (length (lines_read d), stuck f (at ∙ ap (λ j. ill_formed (j + 1)) n) (no_line entry_line (Suits d) rest free) (λ _. some)))

    -- a line is missing
    pub missing : told f ≡ ill_formed (k + 1) → (d.section ≡ section.End → ⊥) → rest ≡ [] → Refused bs f
    missing at more z =
        inr (
          short,
          (
            length (lines_read d),
            stuck f (at ∙ ap (λ j. ill_formed (j + 1)) n)
                (λ e t g u w. let y = length-append (row (entry_line e)) (10 ∷ t) in omega (arith, ap length (sym z ∙ w ∙ ended (entry_line e) t)))
                (λ s _. more s),
          ),
        )

-- what was read, as a sheet
abbrev pub sheet_of : Draft → Said
sheet_of d = record { shape = d.shape; kind = d.kind; run = d.run; cables = d.cables; packets = d.packets }

abbrev with_lists : Draft → List Cable → List Packet → Said
with_lists d cs ps = record { shape = d.shape; kind = d.kind; run = d.run; cables = cs; packets = ps }

full : (d : Draft) → Stage section.End d → fill d d.cable_count d.packet_count ≡ sheet_of d
full d st =
    ap (λ x. with_lists d (d.cables ++ x) (d.packets ++ spare_packets d d.packet_count)) (no_spare_cables d d.cable_count st.0)
    ∙ ap (λ x. with_lists d (d.cables ++ []) (d.packets ++ x)) (no_spare_packets d d.packet_count st.1)
    ∙ ap (λ x. with_lists d x (d.packets ++ [])) (append-nil d.cables)
    ∙ ap (with_lists d d.cables) (append-nil d.packets)

-- the last line is read, and nothing is left
pub finished : (d : Draft) (bs rest : List ℕ) (s : Said) → Valid d → bs ≡ text (lines_read d) ++ rest → d.section ≡ section.End → rest ≡ [] → length bs ≤ 65536 → s ≡ sheet_of d → SheetText bs s
finished d bs rest s v o at z short same =
    let st : Stage section.End d = subst (λ x. Stage x d) at v.stage in
    subst (SheetText bs) (sym same) (
      short,
      subst (Formed 128 256) (full d st) (lawful d v),
      o
          ∙ ap (λ q. text (lines_read d) ++ q) z
          ∙ append-nil (text (lines_read d))
          ∙ ap (λ x. text (so_far x d)) at
          ∙ ap (λ k. text (shape_line d.shape ∷ kind_line d.kind ∷ run_line d.run ∷ cables_line k ∷ (map cable_line d.cables ++ packets_line d.packet_count ∷ map packet_line d.packets))) (sym st.0)
          ∙ ap (λ k. text (shape_line d.shape ∷ kind_line d.kind ∷ run_line d.run ∷ cables_line (length d.cables) ∷ (map cable_line d.cables ++ packets_line k ∷ map packet_line d.packets))) (sym st.1),
    )
