-- A line's fields can be told from its bytes: no field holds a space or a byte 10.
use Rattle.std.proofs.Common.{◌≡◌, ℕ, ◌^◌, ◌<◌, List, [], ◌∷◌, map, decimal, sym, ap, ◌∙◌, arith}
use Rattle.std.specs.List.{AllByRecursion}
use Rattle.std.proofs.lemmas.Str.Parse.{digit_at}
use Rattle.std.proofs.Permutation.{every_append, every_of}
use Rattle.text.specs.Texts.{Field, word, number, shown, Fits, Free, after_spaces, row, parted}
use Rattle.text.specs.Lines.{shape_line, kind_word, kind_line, run_line, cables_line, cable_line, packets_line, payload, packet_line}
use Rattle.text.specs.declared.parts.Shape.{Shape}
use Rattle.text.specs.declared.parts.Shape.TheVariants.{Mesh, Cabled}
use Rattle.text.specs.declared.parts.SwitchKind.{SwitchKind}
use Rattle.text.specs.declared.parts.SwitchKind.TheVariants.{Chipper, Bless}
use Rattle.text.specs.declared.parts.Run.{Run}
use Rattle.text.specs.declared.parts.Packet.{Packet}
use Rattle.fabric.specs.Ports.{letter}
use Rattle.fabric.specs.declared.parts.Cable.{Cable}
use Rattle.fabric.specs.declared.parts.Port.{Port}
use Rattle.fabric.specs.declared.parts.Port.TheVariants.{N, E, S, W}
use Rattle.text.proofs.Numbers.{writes}
use Rattle.text.proofs.Parting.{parted_spaced}

decimal_free : (b n : ℕ) → n < 2 ^ 32 → b < 48 → Free b (decimal n)
decimal_free b n h l = every_of (λ x. x ≡ b → ⊥) (decimal n) 0 (λ i k e. let d = digit_at (decimal n) i (writes n h).digits k in omega (arith, d.0))

-- a word without a space and a byte 10
abbrev pub Plain : Field → Type 0
Plain (word w) = Free 32 w × Free 10 w
Plain (number n) = Unit {0}

free_32 : (f : Field) → Fits f → Plain f → Free 32 (shown f)
free_32 (word w) h p = p.0
free_32 (number n) h p = decimal_free 32 n h (omega arith)

free_10 : (f : Field) → Fits f → Plain f → Free 10 (shown f)
free_10 (word w) h p = p.1
free_10 (number n) h p = decimal_free 10 n h (omega arith)

all_32 : (fs : List Field) → AllByRecursion Fits fs → AllByRecursion Plain fs → AllByRecursion (Free 32) (map shown fs)
all_32 [] h p = tt
all_32 (f ∷ fs) h p = (free_32 f h.0 p.0, all_32 fs h.1 p.1)

joined_free : (fs : List Field) → AllByRecursion Fits fs → AllByRecursion Plain fs → Free 10 (after_spaces (map shown fs))
joined_free [] h p = tt
joined_free (f ∷ fs) h p = (omega arith, every_append (λ x. x ≡ 10 → ⊥) (shown f) (after_spaces (map shown fs)) (free_10 f h.0 p.0) (joined_free fs h.1 p.1))

pub record Tidy (fs : List Field) : Type 0 where
  pub ends : Free 10 (row fs)
  pub parts : parted 32 (row fs) ≡ map shown fs

pub tidy : (f : Field) (fs : List Field) → AllByRecursion Fits (f ∷ fs) → AllByRecursion Plain (f ∷ fs) → Tidy (f ∷ fs)
tidy f fs h p =
    record {
      ends = every_append (λ x. x ≡ 10 → ⊥) (shown f) (after_spaces (map shown fs)) (free_10 f h.0 p.0) (joined_free fs h.1 p.1);
      parts = parted_spaced (shown f) (map shown fs) (all_32 (f ∷ fs) h p);
    }

pub tidy_shape : (x : Shape) → AllByRecursion Fits (shape_line x) → Tidy (shape_line x)
tidy_shape (Mesh w h) f = tidy _ _ f ((omega arith, omega arith), (tt, (tt, tt)))
tidy_shape (Cabled n) f = tidy _ _ f ((omega arith, omega arith), (tt, tt))

kind_plain : (x : SwitchKind) → Plain (word (kind_word x))
kind_plain Chipper = (omega arith, omega arith)
kind_plain Bless = (omega arith, omega arith)

pub tidy_kind : (x : SwitchKind) → AllByRecursion Fits (kind_line x) → Tidy (kind_line x)
tidy_kind x f = tidy _ _ f ((omega arith, omega arith), (kind_plain x, tt))

pub tidy_run : (x : Run) → AllByRecursion Fits (run_line x) → Tidy (run_line x)
tidy_run x f = tidy _ _ f ((omega arith, omega arith), (tt, (tt, (tt, (tt, (tt, tt))))))

pub tidy_cables : (n : ℕ) → AllByRecursion Fits (cables_line n) → Tidy (cables_line n)
tidy_cables n f = tidy _ _ f ((omega arith, omega arith), (tt, tt))

letter_plain : (p : Port) → Plain (word (letter p))
letter_plain N = (omega arith, omega arith)
letter_plain E = (omega arith, omega arith)
letter_plain S = (omega arith, omega arith)
letter_plain W = (omega arith, omega arith)

pub tidy_cable : (x : Cable) → AllByRecursion Fits (cable_line x) → Tidy (cable_line x)
tidy_cable x f = tidy _ _ f (tt, (letter_plain x.one.port, (tt, (letter_plain x.other.port, tt))))

pub tidy_packets : (n : ℕ) → AllByRecursion Fits (packets_line n) → Tidy (packets_line n)
tidy_packets n f = tidy _ _ f ((omega arith, omega arith), (tt, tt))

numbers_plain : (ns : List ℕ) → AllByRecursion Plain (map number ns)
numbers_plain [] = tt
numbers_plain (n ∷ ns) = (tt, numbers_plain ns)

pub tidy_packet : (x : Packet) → AllByRecursion Fits (packet_line x) → Tidy (packet_line x)
tidy_packet x f = tidy _ _ f (tt, (tt, (tt, (tt, (tt, numbers_plain (payload x))))))

pub tidy_all : {X : Type 0} (line : X → List Field) → ((x : X) → AllByRecursion Fits (line x) → Tidy (line x)) → (xs : List X) → AllByRecursion (AllByRecursion Fits) (map line xs) → AllByRecursion Tidy (map line xs)
tidy_all line t [] h = tt
tidy_all line t (x ∷ xs) h = (t x h.0, tidy_all line t xs h.1)

-- equal bytes have equal fields
pub same_words : (a b : List Field) → Tidy a → Tidy b → row a ≡ row b → map shown a ≡ map shown b
same_words a b t u e = sym t.parts ∙ ap (parted 32) e ∙ u.parts
