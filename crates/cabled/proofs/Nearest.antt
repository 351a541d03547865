-- The rounds find the fewest steps.
use Rattle.std.proofs.Common.{◌≡◌, ℕ, zero, suc, ◌+◌, ◌<◌, ◌≤◌, Bool, true, false, ◌⊎◌, List, [], ◌∷◌, get_or, set, replicate, Some, None, Option, unwrap_or, sym, refl, ap, ◌∙◌, subst, inl, inr, ⊎_elim, add-one, arith}
use Rattle.std.proofs.lemmas.List.{get_or-set_same, get_or-set_other, get_or-replicate, length-replicate}
use Rattle.std.proofs.lemmas.List.Folds.{Any-from_list_any}
use Rattle.std.proofs.lemmas.Bool.{eqb-true, eq-eqb, both_ways, false≢true, or_left, or_right, cases_eq, cases_lt}
use Rattle.std.specs.Bool.{then_some}
use Rattle.std.specs.Option.{option_or}
use Rattle.fabric.specs.declared.parts.Port.{Port}
use Rattle.fabric.specs.declared.parts.Port.TheVariants.{N, E, S, W}
use Rattle.fabric.proofs.Pigeons.{filled}
use Rattle.cabled.specs.Levels.{any, at, again, Way, Nearest, Level}

-- what l rounds find of node u: the fewest steps to t where these are at most l, else nothing
abbrev pub Found : (ℕ → Port → ℕ) → ℕ → ℕ → ℕ → Option ℕ → Type 0
Found next t l u (Some d) = (d ≤ l) × Nearest next t u d
Found next t l u None = (k : ℕ) → Way next t k u → l < k

any_some : (f : Port → Bool) → any f ≡ true → (p : Port) × (f p ≡ true)
any_some f e = let a = Any-from_list_any f (N ∷ E ∷ S ∷ W ∷ []) e in (a.1, a.4)

some_any : (f : Port → Bool) (p : Port) → f p ≡ true → any f ≡ true
some_any f N e = or_left _ _ e
some_any f E e = or_right (f N) _ (or_left _ _ e)
some_any f S e = or_right (f N) _ (or_right (f E) _ (or_left _ _ e))
some_any f W e = or_right (f N) _ (or_right (f E) _ (or_right (f S) _ (or_left _ _ e)))

at_true : (l : ℕ) (o : Option ℕ) → at l o ≡ true → o ≡ Some l
at_true l (Some d) e = ap Some (eqb-true d l e)
at_true l None e = absurd (false≢true e)

true_at : (l : ℕ) (o : Option ℕ) → o ≡ Some l → at l o ≡ true
true_at l o e = ap (at l) e ∙ eq-eqb l l refl

module _ (next : ℕ → Port → ℕ) (t : ℕ) where
  abbrev first_row : List (Option ℕ)
  first_row = set (replicate 64 None) t (Some 0)

  -- before the first round
  pub start : (u : ℕ) → u < 64 → t < 64 → Found next t 0 u (get_or first_row u None)
  start u l h = go (cases_eq u t)
    where
      none : (u ≡ t → ⊥) → (k : ℕ) → Way next t k u → 0 < k
      none e zero w = absurd (e w)
      none e (suc k) w = omega arith

      go : (u ≡ t) ⊎ (u ≡ t → ⊥) → Found next t 0 u (get_or first_row u None)
      go (inl e) =
          let z : get_or first_row u None ≡ Some 0 =
          ap (λ v. get_or first_row v None) e ∙ get_or-set_same (replicate 64 None) t (Some 0) None (omega (arith, length-replicate {A = Option ℕ} 64 None)) in
          subst (Found next t 0 u) (sym z) (omega arith, (e, λ k w. omega arith))
      go (inr e) =
          let z : get_or first_row u None ≡ None = get_or-set_other (replicate 64 None) t u (Some 0) None e ∙ get_or-replicate 64 u None None l in
          subst (Found next t 0 u) (sym z) (none e)

  module _ (n : ℕ) (few : n ≤ 64) (inside : (u : ℕ) (p : Port) → u < n → next u p < n) (f : ℕ → Option ℕ) where
    module _ (l : ℕ) (found : (u : ℕ) → u < n → Found next t l u (f u)) where
      -- a node beside one of level l
      beside : (u : ℕ) (p : Port) → u < n → Found next t l u None → f (next u p) ≡ Some l → Found next t (l + 1) u (Some (l + 1))
      beside u p q a e =
          let b = subst (Found next t l (next u p)) e (found (next u p) (inside u p q)) in
          (omega arith, (subst (λ k. Way next t k u) (sym (add-one l)) (p, b.1.0), λ k w. omega (arith, a k w)))

      -- a node beside none of level l
      apart : (u : ℕ) → u < n → Found next t l u None → ((p : Port) → f (next u p) ≡ Some l → ⊥) → Found next t (l + 1) u None
      apart u q a none = longer
        where
          step : (k : ℕ) (p : Port) → k ≡ l → Way next t k (next u p) → (o : Option ℕ) → f (next u p) ≡ o → Found next t l (next u p) o → ⊥
          step k p s w (Some d) e b =
              let same : d ≡ l = omega (arith, b.0, b.1.1 k w, a (suc d) (p, b.1.0)) in
              none p (e ∙ ap Some same)
          step k p s w None e b = omega (arith, b k w)

          longer : (k : ℕ) → Way next t k u → l + 1 < k
          longer zero w = omega (arith, a 0 w)
          longer (suc k) w =
              ⊎_elim (λ s. absurd (step k w.0 s w.1 (f (next u w.0)) refl (found (next u w.0) (inside u w.0 q)))) (λ s. omega (arith, a (suc k) w)) (cases_eq k l)

      abbrev met : ℕ → Bool
      met u = any (λ p. at l (f (next u p)))

      -- one round more
      pub round : (u : ℕ) (d : Option ℕ) → u < n → d ≡ again next f l u → Found next t (l + 1) u d
      round u d q same = subst (Found next t (l + 1) u) (sym same) (go (f u) (found u q))
        where
          go : (o : Option ℕ) → Found next t l u o → Found next t (l + 1) u (option_or o (then_some (met u) (l + 1)))
          go (Some d) a = (omega (arith, a.0), a.1)
          go None a = more (met u) refl
            where
              more : (b : Bool) → met u ≡ b → Found next t (l + 1) u (then_some b (l + 1))
              more true e = let s = any_some (λ p. at l (f (next u p))) e in beside u s.0 q a (at_true l (f (next u s.0)) s.1)
              more false e = apart u q a (λ p h. both_ways _ e (some_any (λ r. at l (f (next u r))) p (true_at l (f (next u p)) h)))

    module _ (found : (u : ℕ) → u < n → Found next t 63 u (f u)) where
      -- from a level a port leads one down
      down : (k v : ℕ) → v < n → f v ≡ Some (suc k) → (p : Port) × (f (next v p) ≡ Some k)
      down k v q e =
          let a = subst (Found next t 63 v) e (found v q) in
          let p = a.1.0.0 in
          (p, go p a.0 a.1.0.1 a.1.1 (f (next v p)) (found (next v p) (inside v p q)))
        where
          go : (p : Port) → suc k ≤ 63 → Way next t k (next v p) → ((j : ℕ) → Way next t j v → suc k ≤ j) → (o : Option ℕ) → Found next t 63 (next v p) o → o ≡ Some k
          go p l w least (Some d) b = ap Some (omega (arith, b.1.1 k w, least (suc d) (p, b.1.0)))
          go p l w least None b = absurd (omega (arith, b k w))

      -- below each level that is met, each level is met
      each : (k v : ℕ) → v < n → f v ≡ Some k → (j : ℕ) → j ≤ k → (u : ℕ) × (u < n) × (f u ≡ Some j)
      each zero v q e j i = (v, q, e ∙ ap Some (omega arith))
      each (suc k) v q e j i =
          ⊎_elim (λ a. let d = down k v q e in each k (next v d.0) (inside v d.0 q) d.1 j (omega arith)) (λ a. (v, q, e ∙ ap Some (omega arith))) (cases_lt j (suc k))

      -- a node beside one with a level has a level: else 65 values were met among at most 64 nodes
      known : (u : ℕ) (p : Port) (d : ℕ) → u < n → f (next u p) ≡ Some d → f u ≡ None → ⊥
      known u p d q g e =
          let a = subst (Found next t 63 u) e (found u q) in
          let b = subst (Found next t 63 (next u p)) g (found (next u p) (inside u p q)) in
          let top = a (suc d) (p, b.1.0) in
          let value : Option ℕ → ℕ = λ o. unwrap_or o 64 in
          let all : 65 ≤ n =
          filled (λ v. value (f v)) n 65
          (λ j i.
          ⊎_elim (λ c. let m = each d (next u p) (inside u p q) g j (omega (arith, b.0)) in (m.0, m.1, ap value m.2))
          (λ c. (u, q, ap value e ∙ (let z : 64 ≡ j = omega arith in z))) (cases_lt j 64)) in
          omega arith

      reached : (k u : ℕ) → u < n → Way next t k u → f u ≡ None → ⊥
      reached zero u q w e = omega (arith, (subst (Found next t 63 u) e (found u q)) 0 w)
      reached (suc k) u q w e = go (f (next u w.0)) refl (reached k (next u w.0) (inside u w.0 q) w.1)
        where
          go : (o : Option ℕ) → f (next u w.0) ≡ o → (f (next u w.0) ≡ None → ⊥) → ⊥
          go (Some d) g h = known u w.0 d q g e
          go None g h = h g

      -- after all rounds
      pub levelled : (u : ℕ) → u < n → Level next t u (f u)
      levelled u q = go (f u) refl (found u q)
        where
          go : (o : Option ℕ) → f u ≡ o → Found next t 63 u o → Level next t u o
          go (Some d) e a = (omega (arith, a.0), a.1)
          go None e a = λ k w. reached k u q w e
