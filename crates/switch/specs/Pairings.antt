-- Turns by pairs of a slot and the port that it takes.
use Rattle.std.specs.Prelude.{◌≡◌, Bool, true, false, cond, List, [], ◌∷◌, refl}
use Rattle.std.proofs.Common.{sym, ◌∙◌, ap, subst, true≢false}
use Rattle.fabric.specs.declared.parts.Port.{Port}
use Rattle.fabric.specs.Ports.{same}
use Rattle.fabric.specs.Places.{same_true, same_self}
use Rattle.switch.specs.Switches.{Turn}
use Rattle.switch.specs.Sides.{Sides, every, without, without_has}

abbrev pub Pairs : Type 0
Pairs = List (Port × Port)

-- what the first pair that begins so ends in
abbrev pub look : Pairs → Port → Port
look [] s = s
look (x ∷ xs) s = cond (same s x.0) x.1 (look xs s)

abbrev pub flipped : Pairs → Pairs
flipped [] = []
flipped (x ∷ xs) = (x.1, x.0) ∷ flipped xs

-- each slot of the one set, and each port of the other, stands in one pair
abbrev pub Matches : Sides → Sides → Pairs → Type 0
Matches w f [] = (s : Port) → (w s ≡ false) × (f s ≡ false)
Matches w f (x ∷ xs) = (w x.0 ≡ true) × (f x.1 ≡ true) × Matches (without w x.0) (without f x.1) xs

pub flip : (xs : Pairs) (w f : Sides) → Matches w f xs → Matches f w (flipped xs)
flip [] w f m = λ s. ((m s).1, (m s).0)
flip (x ∷ xs) w f m = (m.1, m.0, flip xs (without w x.0) (without f x.1) m.2)

pub flipped_twice : (xs : Pairs) → flipped (flipped xs) ≡ xs
flipped_twice [] = refl
flipped_twice (x ∷ xs) = ap (λ (ys : Pairs). x ∷ ys) (flipped_twice xs)

-- what a slot finds is in the other set, and finds it
abbrev pub Found : Sides → Pairs → Port → Port → Type 0
Found f xs s p = (f p ≡ true) × (look (flipped xs) p ≡ s)

find_on : (x : Port × Port) (xs : Pairs) (w f : Sides) (s : Port) → w s ≡ true → f x.1 ≡ true
    → (without w x.0 s ≡ true → Found (without f x.1) xs s (look xs s))
    → (b : Bool) → same s x.0 ≡ b → Found f (x ∷ xs) s (cond b x.1 (look xs s))
find_on x xs w f s e o more true here = (o, rw (same_self x.1) (sym (same_true s x.0 here)))
find_on x xs w f s e o more false here =
    let r = more (rw here e) in
    let k = without_has f x.1 (look xs s) r.0 in
    (k.1, rw k.0 r.1)

pub find : (xs : Pairs) (w f : Sides) → Matches w f xs → (s : Port) → w s ≡ true → Found f xs s (look xs s)
find [] w f m s e = absurd (true≢false (sym e ∙ (m s).0))
find (x ∷ xs) w f m s e = find_on x xs w f s e m.1 (find xs (without w x.0) (without f x.1) m.2 s) (same s x.0) refl

abbrev pub paired : (xs : Pairs) → Matches every every xs → Turn
paired xs m = record {
  to = look xs;
  from = look (flipped xs);
  to_from = λ p. subst (λ (ys : Pairs). look ys (look (flipped xs) p) ≡ p) (flipped_twice xs) (find (flipped xs) every every (flip xs every every m) p refl).1;
  from_to = λ s. (find xs every every m s refl).1;
}
