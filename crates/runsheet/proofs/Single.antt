-- A text is that of one sheet at most, or has one fault.
use Rattle.std.proofs.Common.{◌≡◌, ℕ, ◌^◌, List, [], ◌∷◌, ◌++◌, map, length, get_or, take, drop, sym, ap, ◌∙◌, ap₂}
use Rattle.std.specs.List.{AllByRecursion}
use Rattle.std.proofs.lemmas.List.{map-append, length-map, take_at, drop_at}
use Rattle.text.specs.Texts.{Field, Fits, shown, Any}
use Rattle.text.specs.Lines.{cable_line, packets_line, packet_line, Sized}
use Rattle.text.proofs.Single.{same_text, one_fault, no_fault}
use Rattle.text.proofs.Values.{tell_shape, tell_kind, tell_run, tell_cables, tell_cable, tell_packet, tell_all}
use Rattle.runsheet.specs.Said.{Said}
use Rattle.runsheet.specs.Sheets.{lines, Formed, SheetText, OneSheet}
use Rattle.runsheet.proofs.Apart.{tidy_lines, fits_cables, fits_packets}

-- the words of lines
abbrev words : List (List Field) → List (List (List ℕ))
words ls = map (map shown) ls

all_any : {X : Type 0} (xs : List X) → AllByRecursion Any xs
all_any [] = tt
all_any (x ∷ xs) = (tt, all_any xs)

-- what follows the cables
abbrev tail : Said → List (List Field)
tail s = packets_line (length s.packets) ∷ map packet_line s.packets

module _ (s : Said) where
  parted : words (map cable_line s.cables ++ tail s) ≡ words (map cable_line s.cables) ++ words (tail s)
  parted = map-append (map shown) (map cable_line s.cables) (tail s)

  count : length (words (map cable_line s.cables)) ≡ length s.cables
  count = length-map (map cable_line s.cables) (map shown) ∙ length-map s.cables cable_line

  front : take (length s.cables) (drop 4 (words (lines s))) ≡ words (map cable_line s.cables)
  front = ap (take (length s.cables)) parted ∙ take_at (words (map cable_line s.cables)) (words (tail s)) (length s.cables) count

  back : drop (length s.cables) (drop 4 (words (lines s))) ≡ words (tail s)
  back = ap (drop (length s.cables)) parted ∙ drop_at (words (map cable_line s.cables)) (words (tail s)) (length s.cables) count

same_sheet : (bs : List ℕ) (s t : Said) → SheetText bs s → SheetText bs t → s ≡ t
same_sheet bs s t a b = λ i. record {
  shape = tell_shape s.shape t.shape f.0 g.0 tt tt (ap (λ w. get_or w 0 []) e) i;
  kind = tell_kind s.kind t.kind f.1.0 g.1.0 tt tt (ap (λ w. get_or w 1 []) e) i;
  run = tell_run s.run t.run f.1.1.0 g.1.1.0 tt tt (ap (λ w. get_or w 2 []) e) i;
  cables = tell_all cable_line Any tell_cable s.cables t.cables (fits_cables s f) (fits_cables t g) (all_any s.cables) (all_any t.cables) cables i;
  packets = tell_all packet_line Sized tell_packet s.packets t.packets (fits_packets s f).1 (fits_packets t g).1 a.1.sized b.1.sized (ap (drop 1) packets) i;
}
  where
    f : AllByRecursion (AllByRecursion Fits) (lines s)
    f = a.1.numbers

    g : AllByRecursion (AllByRecursion Fits) (lines t)
    g = b.1.numbers

    e : words (lines s) ≡ words (lines t)
    e = same_text (lines s) (lines t) (tidy_lines s f) (tidy_lines t g) (sym a.2 ∙ b.2)

    n : length s.cables ≡ length t.cables
    n = tell_cables (length s.cables) (length t.cables) f.1.1.1.0 g.1.1.1.0 tt tt (ap (λ w. get_or w 3 []) e)

    cables : words (map cable_line s.cables) ≡ words (map cable_line t.cables)
    cables = sym (front s) ∙ ap₂ (λ (k : ℕ) (w : List (List (List ℕ))). take k (drop 4 w)) n e ∙ front t

    packets : words (tail s) ≡ words (tail t)
    packets = sym (back s) ∙ ap₂ (λ (k : ℕ) (w : List (List (List ℕ))). drop k (drop 4 w)) n e ∙ back t

pub one_sheet : (bs : List ℕ) → OneSheet bs
one_sheet bs = record {
  sheet = same_sheet bs;
  none = λ s f a. no_fault lines (Formed 128 256) (Formed (2 ^ 32) (2 ^ 32)) bs s f a.1 a.0 a.2;
  fault = one_fault lines (Formed 128 256) (Formed (2 ^ 32) (2 ^ 32)) bs;
}
