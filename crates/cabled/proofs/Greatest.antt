-- The greatest of some numbers.
use Rattle.std.proofs.Common.{◌≡◌, ℕ, zero, suc, ◌<◌, ◌≤◌, ◌⊎◌, List, [], ◌∷◌, length, get_or, max, unwrap_or, refl, inl, inr, ⊎_elim, arith}
use Rattle.std.proofs.lemmas.Bool.{cases_lt}
use Rattle.std.specs.List.{fold, reduce}

least : (a : ℕ) (xs : List ℕ) → a ≤ fold max a xs
least a [] = omega arith
least a (x ∷ xs) = omega (arith, least (max a x) xs)

within_fold : (a : ℕ) (xs : List ℕ) (i : ℕ) → i < length xs → get_or xs i 0 ≤ fold max a xs
within_fold a (x ∷ xs) zero l = omega (arith, least (max a x) xs)
within_fold a (x ∷ xs) (suc i) l = within_fold (max a x) xs i (omega arith)
within_fold a [] i l = absurd (omega arith)

-- the numbers a ∷ xs have the number m
abbrev Has : ℕ → List ℕ → ℕ → Type 0
Has a xs m = (a ≡ m) ⊎ ((i : ℕ) × (i < length xs) × (get_or xs i 0 ≡ m))

has_fold : (a : ℕ) (xs : List ℕ) → Has a xs (fold max a xs)
has_fold a [] = inl refl
has_fold a (x ∷ xs) = go (has_fold (max a x) xs)
  where
    go : Has (max a x) xs (fold max (max a x) xs) → Has a (x ∷ xs) (fold max (max a x) xs)
    go (inr m) = inr (suc m.0, omega (arith, m.1), m.2)
    go (inl e) = ⊎_elim (λ l. inr (0, omega arith, omega (arith, e))) (λ l. inl (omega (arith, e))) (cases_lt a x)

pub within : (xs : List ℕ) (i : ℕ) → i < length xs → get_or xs i 0 ≤ unwrap_or (reduce max xs) 0
within [] i l = absurd (omega arith)
within (x ∷ xs) zero l = least x xs
within (x ∷ xs) (suc i) l = within_fold x xs i (omega arith)

pub met : (xs : List ℕ) → 0 < length xs → (i : ℕ) × (i < length xs) × (get_or xs i 0 ≡ unwrap_or (reduce max xs) 0)
met [] l = absurd (omega arith)
met (x ∷ xs) l = ⊎_elim (λ e. (0, omega arith, e)) (λ m. (suc m.0, omega (arith, m.1), m.2)) (has_fold x xs)
