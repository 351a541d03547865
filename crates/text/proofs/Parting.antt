-- Parting a text by a byte, and joining the parts by it.
use Rattle.std.proofs.Common.{◌≡◌, ℕ, ◌+◌, ◌<◌, ◌≤◌, eqb, List, [], ◌∷◌, ◌++◌, length, get_or, take, drop, sym, refl, ap, ◌∙◌, subst, Option, None, Some, Bor, true, false, arith}
use Rattle.std.specs.List.{position, position_or_len, AllByRecursion, join_with_byte}
use Rattle.std.specs.Option.{is_some, unwrap_or}
use Rattle.std.specs.Slice.{IsGetRangeResult}
use Rattle.std.proofs.lemmas.List.{append-nil, take-append-drop, drop_more, take_all, take_rest, length-take-le, get_or-take}
use Rattle.std.proofs.lemmas.List.Elements.{All-from_recursion}
use Rattle.std.proofs.lemmas.List.Splits.{slice_split_none, slice_split_at, length-slice_split, join_with_byte-slice_split}
use Rattle.std.proofs.lemmas.List.Quantifiers.{position-Some}
use Rattle.std.proofs.lemmas.List.Sums.{fails_before_first}
use Rattle.std.proofs.lemmas.Grind.{common_steps}
use Rattle.std.proofs.Permutation.{every_of}
use Rattle.std.proofs.lemmas.Bool.{eq-eqb, ne_eqb, eqb-true, false≢true}
use Rattle.text.specs.Texts.{parted, spaced, Free}
use Rattle.text.specs.Fields.{left}

-- b is not among these bytes, as the library says it
apart : (b : ℕ) (w : List ℕ) → Free b w → AllByRecursion (λ x. eqb x b ≡ false) w
apart b [] h = tt
apart b (x ∷ xs) h = (ne_eqb x b h.0, apart b xs h.1)

pub parted_free : (b : ℕ) (w : List ℕ) → Free b w → parted b w ≡ w ∷ []
parted_free b w h = slice_split_none (λ x. eqb x b) w (All-from_recursion _ w (apart b w h))

pub parted_at : (b : ℕ) (w r : List ℕ) → Free b w → parted b (w ++ b ∷ r) ≡ w ∷ parted b r
parted_at b w r h = slice_split_at (λ x. eqb x b) w b r (All-from_recursion _ w (apart b w h)) (eq-eqb b b refl)

-- what stands before the first b, which is at index e
pub first_at : (b : ℕ) (s : List ℕ) (e : ℕ) → position (λ x. eqb x b) s ≡ Some e → (e < length s) × Free b (take e s) × (get_or s e 0 ≡ b)
first_at b s e h =
    let k = position-Some (λ x. eqb x b) s e 0 h in (
      k.0,
      every_of (λ x. x ≡ b → ⊥) (take e s) 0 (λ i l y.
          let m : i < e = omega (arith, length-take-le e s (omega (arith, k.0))) in
          false≢true (sym (k.2 i m) ∙ eq-eqb (get_or s i 0) b (sym (get_or-take e s i 0 m) ∙ y))),
      eqb-true (get_or s e 0) b k.1,
    )

-- there is no b
pub none_at : (b : ℕ) (s : List ℕ) → position (λ x. eqb x b) s ≡ None → Free b s
none_at b s h =
    let k : length s ≤ position_or_len (λ x. eqb x b) s = grind (arith, common_steps) in
    every_of (λ x. x ≡ b → ⊥) s 0 (λ i l y. false≢true (sym (fails_before_first (λ x. eqb x b) s i 0 (omega arith)) ∙ eq-eqb (get_or s i 0) b y))

-- up to the first b, at index e
pub parted_found : (b : ℕ) (s : List ℕ) (e : ℕ) → e < length s → Free b (take e s) → get_or s e 0 ≡ b → parted b s ≡ take e s ∷ parted b (drop (e + 1) s)
parted_found b s e l f g =
    ap (parted b) (sym (take-append-drop e s) ∙ ap (λ r. take e s ++ r) (drop_more s e 0 l ∙ ap (λ x. x ∷ drop (e + 1) s) g))
    ∙ parted_at b (take e s) (drop (e + 1) s) f

-- there is no b
pub parted_none : (b : ℕ) (s : List ℕ) (e : ℕ) → length s ≤ e → Free b s → parted b s ≡ take e s ∷ []
parted_none b s e l f = parted_free b s f ∙ ap (λ w. w ∷ []) (sym (take_all e s l))

-- parting undoes the joining
pub parted_spaced : (w : List ℕ) (ws : List (List ℕ)) → AllByRecursion (Free 32) (w ∷ ws) → parted 32 (spaced (w ∷ ws)) ≡ w ∷ ws
parted_spaced w [] h = ap (parted 32) (append-nil w) ∙ parted_free 32 w h.0
parted_spaced w (v ∷ vs) h = parted_at 32 w (spaced (v ∷ vs)) h.0 ∙ ap (λ r. w ∷ r) (parted_spaced v vs h.1)

joined : (ws : List (List ℕ)) → spaced ws ≡ join_with_byte 32 ws
joined [] = refl
joined (w ∷ []) = append-nil w
joined (w ∷ v ∷ vs) = ap (λ r. w ++ 32 ∷ r) (joined (v ∷ vs))

-- joining undoes the parting
pub spaced_parted : (s : List ℕ) → spaced (parted 32 s) ≡ s
spaced_parted s = joined (parted 32 s) ∙ join_with_byte-slice_split 32 s

-- a text has a part
pub parted_not_none : (b : ℕ) (s : List ℕ) → parted b s ≡ [] → ⊥
parted_not_none b s e = omega (arith, length-slice_split (λ x. eqb x b) s, ap length e)

pub left_some : (r : Option (Bor (List ℕ))) → is_some r ≡ true → left r ≡ [] → ⊥
left_some None h e = false≢true h
left_some (Some x) h e = parted_not_none 32 x.now e

-- up to the first space, and what follows it, if there is one
pub parted_get : (s : List ℕ) (o : Option ℕ) (e : ℕ) (r : Option (Bor (List ℕ))) → o ≡ position (λ x. eqb x 32) s → e ≡ unwrap_or o (length s) → IsGetRangeResult s (e + 1) (length s) r → parted 32 s ≡ take e s ∷ left r
parted_get s None e None p q g = parted_none 32 s e (omega (arith, q)) (none_at 32 s (sym p))
parted_get s None e (Some x) p q g = absurd (let z : ⊥ = omega (arith, q, g.0) in z)
parted_get s (Some i) e None p q g = absurd (let z : ⊥ = omega (arith, q, g.0, (first_at 32 s i (sym p)).0) in z)
parted_get s (Some i) e (Some x) p q g =
    let f = first_at 32 s i (sym p) in
    subst (λ k. parted 32 s ≡ take k s ∷ parted 32 (drop (k + 1) s)) (sym q) (parted_found 32 s i f.0 f.1 f.2)
    ∙ ap (λ r. take e s ∷ parted 32 r) (sym (take_rest s (e + 1)) ∙ sym g.0.2)
