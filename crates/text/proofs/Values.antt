-- What a line says can be told from its words.
use Rattle.std.proofs.Common.{◌≡◌, ℕ, ◌^◌, ◌<◌, cond, eqb, List, [], ◌∷◌, map, length, get_or, drop, decimal, sym, refl, ap, ◌∙◌, ap₂, ⊎_elim, arith}
use Rattle.std.specs.List.{AllByRecursion}
use Rattle.std.proofs.lemmas.Bool.{cases_lt}
use Rattle.std.proofs.lemmas.Fmt.{decimal_injective}
use Rattle.std.proofs.lemmas.List.{ext_get_or, get_or-take}
use Rattle.fabric.specs.Ports.{letter}
use Rattle.fabric.specs.declared.parts.Port.{Port}
use Rattle.fabric.specs.declared.parts.Port.TheVariants.{N, E, S, W}
use Rattle.fabric.specs.declared.parts.Slot.{Slot}
use Rattle.text.specs.Texts.{Field, number, shown, Fits, row, figures, Any}
use Rattle.text.specs.Lines.{shape_line, kind_word, kind_line, run_line, cables_line, cable_line, packets_line, payload, packet_line, Sized}
use Rattle.text.specs.declared.parts.Shape.TheVariants.{Mesh, Cabled}
use Rattle.text.specs.declared.parts.SwitchKind.{SwitchKind}
use Rattle.text.specs.declared.parts.SwitchKind.TheVariants.{Chipper, Bless}
use Rattle.text.proofs.Tidy.{Tidy, same_words}

-- two values of a kind with the same words are one
abbrev pub Telling : {X : Type 0} → (X → List Field) → (X → Type 0) → Type 0
Telling {X} line P = (x y : X) → AllByRecursion Fits (line x) → AllByRecursion Fits (line y) → P x → P y → map shown (line x) ≡ map shown (line y) → x ≡ y

abbrev at : ℕ → List (List ℕ) → List ℕ
at i ws = get_or ws i []

-- the number at one place of both
number_at : (i m n : ℕ) (ws vs : List (List ℕ)) → m < 2 ^ 32 → n < 2 ^ 32 → at i ws ≡ decimal m → at i vs ≡ decimal n → ws ≡ vs → m ≡ n
number_at i m n ws vs h k a b e = decimal_injective m n (omega arith) (omega arith) (sym a ∙ ap (at i) e ∙ b)

abbrev port_by_letter : List ℕ → Port
port_by_letter w = let x = get_or w 0 0 in cond (eqb x 78) N (cond (eqb x 69) E (cond (eqb x 83) S W))

by_letter : (p : Port) → port_by_letter (letter p) ≡ p
by_letter N = refl
by_letter E = refl
by_letter S = refl
by_letter W = refl

same_port : (p q : Port) → letter p ≡ letter q → p ≡ q
same_port p q e = sym (by_letter p) ∙ ap port_by_letter e ∙ by_letter q

abbrev kind_by_word : List ℕ → SwitchKind
kind_by_word w = cond (eqb (get_or w 0 0) 99) Chipper Bless

by_word : (k : SwitchKind) → kind_by_word (kind_word k) ≡ k
by_word Chipper = refl
by_word Bless = refl

pub tell_shape : Telling shape_line Any
tell_shape (Mesh w h) (Mesh v i) f g a b e = ap₂ Mesh (number_at 1 w v _ _ f.1.0 g.1.0 refl refl e) (number_at 2 h i _ _ f.1.1.0 g.1.1.0 refl refl e)
tell_shape (Mesh w h) (Cabled n) f g a b e = cc
tell_shape (Cabled m) (Mesh v i) f g a b e = cc
tell_shape (Cabled m) (Cabled n) f g a b e = ap Cabled (number_at 1 m n _ _ f.1.0 g.1.0 refl refl e)

pub tell_kind : Telling kind_line Any
tell_kind x y f g a b e = sym (by_word x) ∙ ap (λ ws. kind_by_word (at 1 ws)) e ∙ by_word y

pub tell_run : Telling run_line Any
tell_run x y f g a b e = λ i. record {
  tickets = number_at 1 x.tickets y.tickets _ _ f.1.0 g.1.0 refl refl e i;
  words = number_at 2 x.words y.words _ _ f.1.1.0 g.1.1.0 refl refl e i;
  epoch = number_at 3 x.epoch y.epoch _ _ f.1.1.1.0 g.1.1.1.0 refl refl e i;
  seed = number_at 4 x.seed y.seed _ _ f.1.1.1.1.0 g.1.1.1.1.0 refl refl e i;
  cycles = number_at 5 x.cycles y.cycles _ _ f.1.1.1.1.1.0 g.1.1.1.1.1.0 refl refl e i;
}

pub tell_cables : Telling cables_line Any
tell_cables m n f g a b e = number_at 1 m n _ _ f.1.0 g.1.0 refl refl e

pub tell_packets : Telling packets_line Any
tell_packets m n f g a b e = number_at 1 m n _ _ f.1.0 g.1.0 refl refl e

same_slot : (s t : Slot) → s.node ≡ t.node → letter s.port ≡ letter t.port → s ≡ t
same_slot s t n p = λ j. record { node = n j; port = same_port s.port t.port p j }

pub tell_cable : Telling cable_line Any
tell_cable x y f g a b e = λ i. record {
  one = same_slot x.one y.one (number_at 0 x.one.node y.one.node _ _ f.0 g.0 refl refl e) (ap (at 1) e) i;
  other = same_slot x.other y.other (number_at 2 x.other.node y.other.node _ _ f.1.1.0 g.1.1.0 refl refl e) (ap (at 3) e) i;
}

same_figures : (xs ys : List ℕ) → AllByRecursion Fits (map number xs) → AllByRecursion Fits (map number ys) → figures xs ≡ figures ys → xs ≡ ys
same_figures [] [] f g e = refl
same_figures [] (y ∷ ys) f g e = absurd (let z : ⊥ = omega (arith, ap length e) in z)
same_figures (x ∷ xs) [] f g e = absurd (let z : ⊥ = omega (arith, ap length e) in z)
same_figures (x ∷ xs) (y ∷ ys) f g e =
    ap₂ (λ (n : ℕ) (ns : List ℕ). n ∷ ns) (number_at 0 x y _ _ f.0 g.0 refl refl e) (same_figures xs ys f.1 g.1 (ap (drop 1) e))

pub tell_packet : Telling packet_line Sized
tell_packet x y f g a b e = λ i. record {
  cycle = number_at 0 x.cycle y.cycle _ _ f.0 g.0 refl refl e i;
  node = number_at 1 x.node y.node _ _ f.1.0 g.1.0 refl refl e i;
  own = number_at 2 x.own y.own _ _ f.1.1.0 g.1.1.0 refl refl e i;
  destination = number_at 3 x.destination y.destination _ _ f.1.1.1.0 g.1.1.1.0 refl refl e i;
  count = count i;
  words = ext_get_or 0 x.words y.words (a.places ∙ sym b.places) word i;
}
  where
    count : x.count ≡ y.count
    count = number_at 4 x.count y.count _ _ f.1.1.1.1.0 g.1.1.1.1.0 refl refl e

    written : payload x ≡ payload y
    written = same_figures (payload x) (payload y) f.1.1.1.1.1 g.1.1.1.1.1 (ap (drop 5) e)

    word : (j : ℕ) → j < length x.words → get_or x.words j 0 ≡ get_or y.words j 0
    word j l =
        ⊎_elim
        (λ k. sym (get_or-take x.count x.words j 0 k) ∙ ap (λ ws. get_or ws j 0) written ∙ get_or-take y.count y.words j 0 (omega (arith, count)))
        (λ k. a.blank j k ∙ sym (b.blank j (omega (arith, count))))
        (cases_lt j x.count)

-- and from its bytes
pub same_row : {X : Type 0} (line : X → List Field) (P : X → Type 0) → Telling line P → ((x : X) → AllByRecursion Fits (line x) → Tidy (line x)) → (x y : X) →
    AllByRecursion Fits (line x) → AllByRecursion Fits (line y) → P x → P y → row (line x) ≡ row (line y) → x ≡ y
same_row line P tell tidy x y f g a b e = tell x y f g a b (same_words (line x) (line y) (tidy x f) (tidy y g) e)

-- and so can the values of a list
pub tell_all : {X : Type 0} (line : X → List Field) (P : X → Type 0) → Telling line P → (xs ys : List X) →
    AllByRecursion (AllByRecursion Fits) (map line xs) → AllByRecursion (AllByRecursion Fits) (map line ys) → AllByRecursion P xs → AllByRecursion P ys →
    map (map shown) (map line xs) ≡ map (map shown) (map line ys) → xs ≡ ys
tell_all line P tell [] [] f g a b e = refl
tell_all line P tell [] (y ∷ ys) f g a b e = absurd (let z : ⊥ = omega (arith, ap length e) in z)
tell_all line P tell (x ∷ xs) [] f g a b e = absurd (let z : ⊥ = omega (arith, ap length e) in z)
tell_all {X} line P tell (x ∷ xs) (y ∷ ys) f g a b e =
    ap₂ (λ (z : X) (zs : List X). z ∷ zs) (tell x y f.0 g.0 a.0 b.0 (ap (λ w. get_or w 0 []) e)) (tell_all line P tell xs ys f.1 g.1 a.1 b.1 (ap (drop 1) e))
