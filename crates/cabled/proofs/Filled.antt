-- A list that is filled from the front.
use Rattle.std.proofs.Common.{ℕ, ◌+◌, ◌<◌, List, length, get_or, set, sym, subst, arith, below_more}
use Rattle.std.proofs.lemmas.List.{get_or-set_same, get_or-set_other}

module _ {A : Type 0} (P : ℕ → A → Type 0) (d : A) (xs : List A) (i : ℕ) (x : A) where
  pub set_here : i < length xs → P i x → P i (get_or (set xs i x) i d)
  set_here l h = subst (P i) (sym (get_or-set_same xs i x d l)) h

  pub set_before : (j : ℕ) → j < i → P j (get_or xs j d) → P j (get_or (set xs i x) j d)
  set_before j l h = subst (P j) (sym (get_or-set_other xs i j x d (λ e. omega arith))) h

  pub set_more : i < length xs → ((j : ℕ) → j < i → P j (get_or xs j d)) → P i x → (j : ℕ) → j < i + 1 → P j (get_or (set xs i x) j d)
  set_more l below here = below_more (λ j. P j (get_or (set xs i x) j d)) i (λ j k. set_before j k (below j k)) (set_here l here)
