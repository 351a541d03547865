-- Two texts made of lines agree line by line.
use Rattle.std.proofs.Common.{◌≡◌, ℕ, zero, suc, ◌+◌, ◌<◌, ◌≤◌, ◌⊎◌, List, [], ◌∷◌, ◌++◌, length, get_or, take, drop, sym, refl, ap, ◌∙◌, inl, inr, ⊎_elim, append_assoc, arith}
use Rattle.std.specs.List.{AllByRecursion}
use Rattle.std.proofs.lemmas.List.{length-append, length-drop, length-take-le, take_all, get_or-take, drop-take, drop_more, append-nil}
use Rattle.std.proofs.lemmas.Bool.{cases_lt}
use Rattle.text.specs.Texts.{Field, row, written, text, Free}
use Rattle.text.proofs.Tidy.{Tidy}
use Rattle.text.proofs.Lists.{all_take}

-- the bytes up to the first 10 and those after it
pub cut : (a b s t : List ℕ) → Free 10 a → Free 10 b → a ++ 10 ∷ s ≡ b ++ 10 ∷ t → (a ≡ b) × (s ≡ t)
cut [] [] s t f g e = (refl, ap (drop 1) e)
cut [] (y ∷ b) s t f g e = absurd (g.0 (ap (λ l. get_or l 0 10) (sym e)))
cut (x ∷ a) [] s t f g e = absurd (f.0 (ap (λ l. get_or l 0 10) e))
cut (x ∷ a) (y ∷ b) s t f g e =
    let k = cut a b s t f.1 g.1 (ap (drop 1) e) in
    (ap (λ z. z ∷ a) (ap (λ l. get_or l 0 x) e) ∙ ap (λ l. y ∷ l) k.0, k.1)

-- the bytes of a line and what follows it
pub ended : (l : List Field) (more : List ℕ) → written l ++ more ≡ row l ++ 10 ∷ more
ended l more = append_assoc (row l) (10 ∷ []) more

-- and two texts that follow it
pub ended_both : (l : List Field) (J r : List ℕ) → (written l ++ J) ++ r ≡ row l ++ 10 ∷ (J ++ r)
ended_both l J r = append_assoc (written l) J r ∙ ended l (J ++ r)

abbrev pub Agree : List (List Field) → List (List Field) → ℕ → Type 0
Agree A B k = (j : ℕ) → j < k → row (get_or A j []) ≡ row (get_or B j [])

agree_more : (a b : List Field) (A B : List (List Field)) (k : ℕ) → row a ≡ row b → Agree A B k → Agree (a ∷ A) (b ∷ B) (suc k)
agree_more a b A B k e h zero l = e
agree_more a b A B k e h (suc j) l = h j (omega arith)

pub aligned : (A B : List (List Field)) (r s : List ℕ) → AllByRecursion Tidy A → AllByRecursion Tidy B → length A ≤ length B → text A ++ r ≡ text B ++ s →
    Agree A B (length A) × (r ≡ text (drop (length A) B) ++ s)
aligned [] B r s f g l e = ((λ j k. absurd (let z : ⊥ = omega arith in z)), e)
aligned (a ∷ A) [] r s f g l e = absurd (let z : ⊥ = omega arith in z)
aligned (a ∷ A) (b ∷ B) r s f g l e =
    let k = cut (row a) (row b) (text A ++ r) (text B ++ s) f.0.ends g.0.ends (sym (ended_both a (text A) r) ∙ e ∙ ended_both b (text B) s) in
    let h = aligned A B r s f.1 g.1 (omega arith) k.1 in
    (agree_more a b A B (length A) k.0 h.0, h.1)

-- what follows the lines A, where the text goes along with the lines L through one line more
abbrev pub Next : List (List Field) → ℕ → List ℕ → Type 0
Next L k rest = ((length L ≡ k) × (rest ≡ [])) ⊎ ((k < length L) × ((more : List ℕ) × (rest ≡ written (get_or L k []) ++ more)))

abbrev pub Matched : List (List Field) → List (List Field) → List ℕ → Type 0
Matched A L rest = Agree A L (length A) × Next L (length A) rest

none_joined : (B : List (List Field)) (r : List ℕ) → [] ≡ text B ++ r → (B ≡ []) × (r ≡ [])
none_joined [] r e = (refl, sym e)
none_joined (b ∷ B) r e =
    absurd (let z : ⊥ = omega (arith, ap length (e ∙ ended_both b (text B) r), length-append (row b) (10 ∷ (text B ++ r))) in z)

pub matched : (A L : List (List Field)) (rest s : List ℕ) → AllByRecursion Tidy A → AllByRecursion Tidy L → text A ++ rest ≡ text (take (length A + 1) L) ++ s → (length L < length A + 1 → s ≡ []) → Matched A L rest
matched A L rest s f g e n =
    ⊎_elim
    (λ l.
    let t : length (take (length A + 1) L) ≡ length A + 1 = length-take-le (length A + 1) L (omega arith) in
    let h = aligned A (take (length A + 1) L) rest s f (all_take Tidy (length A + 1) L g) (omega arith) e in (
      (λ j k. h.0 j k ∙ ap row (get_or-take (length A + 1) L j [] (omega arith))),
      inr (l, (s, h.1 ∙ ap (λ q. text q ++ s) (drop-take (length A) 1 L ∙ ap (take 1) (drop_more L (length A) [] l)) ∙ ap (λ q. q ++ s) (append-nil (written (get_or L (length A) []))))),
    ))
    (λ l.
    let t : take (length A + 1) L ≡ L = take_all (length A + 1) L (omega arith) in
    let z : s ≡ [] = n (omega arith) in
    let e' : text L ++ [] ≡ text A ++ rest = sym (e ∙ ap (λ q. text q ++ s) t ∙ ap (λ q. text L ++ q) z) in
    let h = aligned L A [] rest g f l e' in
    let o = none_joined (drop (length L) A) rest h.1 in
    let same : length L ≡ length A = omega (arith, ap length o.0, length-drop (length L) A) in
    ((λ j k. sym (h.0 j (omega arith))), inl (same, o.1)))
    (cases_lt (length A) (length L))
