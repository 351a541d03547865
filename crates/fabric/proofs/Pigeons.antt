-- Pigeonholes: different numbers in a row of k places are at most k, and numbers that fill k places are at least k.
use Rattle.std.proofs.Common.{◌≡◌, ℕ, zero, suc, ◌+◌, ◌-◌, ◌<◌, ◌≤◌, ◌||◌, eqb, false, true, List, [], ◌∷◌, length, map, refl, ap, subst, ⊎_elim, arith}
use Rattle.std.proofs.lemmas.Bool.{cases_Bool, cases_eq, eqb-true, eq-eqb, ne_eqb, or_left, or_right}
use Rattle.std.specs.List.{AllByRecursion, IsDistinct, list_any}
use Rattle.std.proofs.lemmas.List.{length-map}
use Rattle.std.proofs.lemmas.Map.Steps.{length-le_from_distinct_below, le-length_from_below}

-- no number is equal to one after it
abbrev pub Distinct : List ℕ → Type 0
Distinct [] = Unit {0}
Distinct (x ∷ xs) = AllByRecursion (λ y. x ≡ y → ⊥) xs × Distinct xs

module _ (k a : ℕ) where
  abbrev Inside : ℕ → Type 0
  Inside x = (a ≤ x) × (x < a + k)

  abbrev moved : List ℕ → List ℕ
  moved = map (λ x. x - a)

  below : (xs : List ℕ) → AllByRecursion Inside xs → (q : ℕ) → list_any (eqb q) (moved xs) ≡ true → q < k
  below [] e q h = cc
  below (x ∷ xs) e q h =
      ⊎_elim
      (λ t. let y = e.0.0 in let z = e.0.1 in omega (arith, eqb-true q (x - a) t))
      (λ f. below xs e.1 q (subst (λ b. (b || list_any (eqb q) (moved xs)) ≡ true) f h))
      (cases_Bool (eqb q (x - a)))

  apart : (x : ℕ) (xs : List ℕ) → a ≤ x → AllByRecursion Inside xs → AllByRecursion (λ y. x ≡ y → ⊥) xs → AllByRecursion (λ y. eqb (x - a) y ≡ false) (moved xs)
  apart x [] l e d = tt
  apart x (y ∷ ys) l e d = (ne_eqb (x - a) (y - a) (λ q. let z = e.0.0 in d.0 (omega arith)), apart x ys l e.1 d.1)

  distinct : (xs : List ℕ) → AllByRecursion Inside xs → Distinct xs → IsDistinct eqb (moved xs)
  unfolding IsDistinct
  distinct [] e d = tt
  distinct (x ∷ xs) e d = (apart x xs e.0.0 e.1 d.0, distinct xs e.1 d.1)

  pub few : (xs : List ℕ) → AllByRecursion Inside xs → Distinct xs → length xs ≤ k
  few xs e d = subst (λ n. n ≤ k) (length-map xs (λ x. x - a)) (length-le_from_distinct_below (moved xs) k (distinct xs e d) (below xs e))

module _ (f : ℕ → ℕ) where
  -- what the first n numbers are mapped to
  abbrev values : ℕ → List ℕ
  values zero = []
  values (suc n) = f n ∷ values n

  length_values : (n : ℕ) → length (values n) ≡ n
  length_values zero = refl
  length_values (suc n) = ap suc (length_values n)

  met : (n u : ℕ) → u < n → list_any (eqb (f u)) (values n) ≡ true
  met zero u l = absurd (omega arith)
  met (suc n) u l = ⊎_elim (λ e. or_left _ _ (eq-eqb (f u) (f n) (ap f e))) (λ h. or_right (eqb (f u) (f n)) _ (met n u (omega arith))) (cases_eq u n)

  -- where each place below k is met by one of the first n numbers, k is at most n
  pub filled : (n k : ℕ) → ((j : ℕ) → j < k → (u : ℕ) × (u < n) × (f u ≡ j)) → k ≤ n
  filled n k h =
      subst (λ m. k ≤ m) (length_values n)
      (le-length_from_below (values n) k (λ j l. let m = h j l in subst (λ v. list_any (eqb v) (values n) ≡ true) m.2 (met n m.0 m.1)))

  module _ (n k : ℕ) (inside : (u : ℕ) → u < n → f u < k) (differ : (u v : ℕ) → v < u → u < n → f u ≡ f v → ⊥) where
    all_inside : (m : ℕ) → m ≤ n → AllByRecursion (Inside k 0) (values m)
    all_inside zero l = tt
    all_inside (suc m) l = ((omega arith, omega (arith, inside m (omega arith))), all_inside m (omega arith))

    all_differ : (u m : ℕ) → m ≤ u → u < n → AllByRecursion (λ y. f u ≡ y → ⊥) (values m)
    all_differ u zero l i = tt
    all_differ u (suc m) l i = (differ u m (omega arith) i, all_differ u m (omega arith) i)

    all_distinct : (m : ℕ) → m ≤ n → Distinct (values m)
    all_distinct zero l = tt
    all_distinct (suc m) l = (all_differ m m (omega arith) (omega arith), all_distinct m (omega arith))

    -- where the first n numbers are at different places below k, n is at most k
    pub apiece : n ≤ k
    apiece = subst (λ m. m ≤ k) (length_values n) (few k 0 (values n) (all_inside n (omega arith)) (all_distinct n (omega arith)))
