-- Numbers that stand one after another in a line, and those of a packet's line.
use Rattle.std.proofs.Common.{◌≡◌, ℕ, ◌+◌, ◌^◌, ◌<◌, ◌≤◌, List, [], ◌∷◌, ◌++◌, map, length, get_or, take, drop, decimal, sym, ap, ◌∙◌, subst, arith}
use Rattle.std.specs.List.{AllByRecursion}
use Rattle.std.proofs.lemmas.List.{append-nil, get_or_past, length-append, length-map, length-take-le, get_or_append_left, get_or-map, get_or-take, drop_at, drop_more, nil_from_length}
use Rattle.std.proofs.Permutation.{every_at}
use Rattle.std.proofs.lemmas.Fmt.{decimal_injective}
use Rattle.text.specs.Texts.{Fits, number, shown, figures}
use Rattle.text.specs.Lines.{packet_line, Blank}
use Rattle.text.specs.declared.parts.Packet.{Packet}

pub length_figures : (ns : List ℕ) → length (figures ns) ≡ length ns
length_figures ns = length-map (map number ns) shown ∙ length-map ns number

get_or_figures : (ns : List ℕ) (i : ℕ) → i < length ns → get_or (figures ns) i [] ≡ decimal (get_or ns i 0)
get_or_figures ns i l =
    get_or-map shown (map number ns) i (number 0) [] (subst (λ n. i < n) (sym (length-map ns number)) l)
    ∙ ap shown (get_or-map number ns i 0 (number 0) l)

-- of k numbers and more words the word at i
pub figure_at : (ns : List ℕ) (k i : ℕ) (more : List (List ℕ)) → i < k → k ≤ length ns → get_or (figures (take k ns) ++ more) i [] ≡ decimal (get_or ns i 0)
figure_at ns k i more l m =
    let b : length (figures (take k ns)) ≡ k = length_figures (take k ns) ∙ length-take-le k ns m in
    get_or_append_left (figures (take k ns)) more [] i (omega arith) ∙ get_or_figures (take k ns) i (omega (arith, length-take-le k ns m)) ∙ ap decimal (get_or-take k ns i 0 l)

-- there are zeros from the end of a list on
pub blank_at_end : (ns : List ℕ) → Blank (length ns) ns
blank_at_end ns j l = get_or_past ns j 0 l

-- i numbers were read, and what follows is the one that stands at i
pub figures_next : (xs ns : List ℕ) (k i : ℕ) (rest more : List (List ℕ)) → i < k → k ≤ length xs → i ≤ length ns →
    figures (take i ns) ++ rest ≡ figures (take k xs) ++ more → rest ≡ decimal (get_or xs i 0) ∷ drop (i + 1) (figures (take k xs) ++ more)
figures_next xs ns k i rest more l m n e =
    let a : length (figures (take i ns)) ≡ i = length_figures (take i ns) ∙ length-take-le i ns n in
    let b : length (figures (take k xs)) ≡ k = length_figures (take k xs) ∙ length-take-le k xs m in
    let inside : i < length (figures (take k xs)) = omega arith in
    sym (drop_at (figures (take i ns)) rest i a)
    ∙ ap (drop i) e
    ∙ drop_more (figures (take k xs) ++ more) i [] (omega (arith, length-append (figures (take k xs)) more))
    ∙ ap (λ h. h ∷ drop (i + 1) (figures (take k xs) ++ more))
    (figure_at xs k i more l m)

pub fits_at : (xs : List ℕ) (k i : ℕ) → i < k → k ≤ length xs → AllByRecursion Fits (map number (take k xs)) → get_or xs i 0 < 2 ^ 32
fits_at xs k i l m a =
    let b = length-take-le k xs m in
    let c : i < length (map number (take k xs)) = subst (λ n. i < n) (sym (length-map (take k xs) number ∙ b)) l in
    subst Fits (get_or-map number (take k xs) i 0 (number 0) (omega arith) ∙ ap number (get_or-take k xs i 0 l)) (every_at Fits (map number (take k xs)) i (number 0) c a)

pub figures_only : (ns : List ℕ) (ws : List (List ℕ)) → ws ≡ figures ns → ws ≡ figures ns ++ []
figures_only ns ws e = e ∙ sym (append-nil (figures ns))

-- as many numbers, and nothing after them
pub figures_end : (xs ns : List ℕ) (k : ℕ) (ws rest : List (List ℕ)) → k ≤ length xs → k ≤ length ns → ws ≡ figures (take k ns) ++ rest → ws ≡ figures (take k xs) → rest ≡ []
figures_end xs ns k ws rest l m h e =
    let a : length (figures (take k ns)) ≡ k = length_figures (take k ns) ∙ length-take-le k ns m in
    let b : length (figures (take k xs)) ≡ k = length_figures (take k xs) ∙ length-take-le k xs l in
    nil_from_length rest (omega (arith, length-append (figures (take k ns)) rest, ap length h, ap length e))

-- the numbers before a packet's words, and what was left behind them
pub same_front : (ws rest : List (List ℕ)) (ns : List ℕ) (x : Packet) → length ns ≡ 5 → ws ≡ figures (take 5 ns) ++ rest → AllByRecursion Fits (map number (take 5 ns)) →
    AllByRecursion Fits (packet_line x) → ws ≡ map shown (packet_line x) → (get_or ns 0 0 ≡ x.cycle) × (get_or ns 4 0 ≡ x.count) × (rest ≡ figures (take (get_or ns 4 0) x.words))
same_front ws rest ns x five h g f e =
    let l : 5 ≤ length ns = omega arith in
    let at : (i : ℕ) → i < 5 → decimal (get_or ns i 0) ≡ get_or (map shown (packet_line x)) i [] = λ i k. sym (figure_at ns 5 i rest k l) ∙ ap (λ v. get_or v i []) (sym h ∙ e) in
    let c : get_or ns 0 0 ≡ x.cycle = decimal_injective _ _ (omega (arith, fits_at ns 5 0 (omega arith) l g)) (omega (arith, f.0)) (at 0 (omega arith)) in
    let n : get_or ns 4 0 ≡ x.count = decimal_injective _ _ (omega (arith, fits_at ns 5 4 (omega arith) l g)) (omega (arith, f.1.1.1.1.0)) (at 4 (omega arith)) in
    let more = sym (drop_at (figures (take 5 ns)) rest 5 (length_figures (take 5 ns) ∙ length-take-le 5 ns l)) ∙ ap (drop 5) (sym h ∙ e) in
    (c, n, more ∙ ap (λ k. figures (take k x.words)) (sym n))
