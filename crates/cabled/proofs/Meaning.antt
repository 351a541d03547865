-- The tables that the rounds make mean what the cables say.
use Rattle.std.proofs.Common.{◌≡◌, ℕ, zero, suc, ◌≤◌, Bool, true, cond, eqb, ltb, List, length, is_some, Some, None, Option, sym, refl, ◌∙◌, subst, ⊎_elim, arith}
use Rattle.std.proofs.lemmas.Bool.{le-ltb, eq-eqb, ne_eqb, cond-true, cond-false, both_ways, cases_eq, cases_lt}
use Rattle.fabric.specs.declared.parts.Cable.{Cable}
use Rattle.fabric.specs.declared.parts.Port.{Port}
use Rattle.fabric.specs.declared.parts.Slot.{Slot}
use Rattle.fabric.specs.Ports.{first}
use Rattle.fabric.specs.Places.{Pick, pick}
use Rattle.cabled.specs.Cables.{Least, Means}
use Rattle.cabled.specs.Levels.{Nearest}
use Rattle.cabled.specs.Tables.{far_at, next_at, distance_at, leads, wish_at, cabled_plan, Paired, Wired, Nearing, Measured}
use Rattle.cabled.specs.Laws.{far_in, distance_in, wished}
use Rattle.cabled.proofs.Plugs.{return, ends, led, there}
use Rattle.cabled.proofs.Walks.{least}

some_first : (f : Port → Bool) (p : Port) → f p ≡ true → is_some (first f) ≡ true
some_first f p e = go (first f) (pick f)
  where
    go : (o : Option Port) → Pick f o → is_some o ≡ true
    go (Some w) h = refl
    go None h = absurd (both_ways _ (h p) e)

module _ (k : ℕ) (few : k ≤ 64) (cs : List Cable) (ts : List (Option Slot)) (ds : List (List ℕ)) (r : ℕ) (w : Wired k (length cs) cs ts)
    (paired : Paired k ts) (measured : Measured k ts ds r) where
  pub nearing : Nearing k ts ds
  nearing m n l = ⊎_elim same other (cases_eq m n)
    where
      same : m ≡ n → cond (eqb m n) (eqb (distance_at ds m n) 0) (is_some (wish_at ts ds m n)) ≡ true
      same e = cond-true (eqb m n) _ _ (eq-eqb m n e) ∙ eq-eqb _ _ (omega (arith, (measured.exact m n l).1.1 0 e))

      some : (j : ℕ) → Nearest (next_at ts) n m j → distance_at ds m n ≡ j → (m ≡ n → ⊥) → is_some (wish_at ts ds m n) ≡ true
      some zero h e f = absurd (f h.0)
      some (suc j) h e f =
          let p = h.0.0 in
          let b = (measured.exact (next_at ts m p) n ((paired (record { node = m; port = p }) l.0).0, l.1)).1 in
          some_first (leads ts ds m n) p (eq-eqb _ _ (omega (arith, b.1 j h.0.1, h.1 (suc (distance_at ds (next_at ts m p) n)) (p, b.0))))

      other : (m ≡ n → ⊥) → cond (eqb m n) (eqb (distance_at ds m n) 0) (is_some (wish_at ts ds m n)) ≡ true
      other e = cond-false (eqb m n) _ _ (ne_eqb m n e) ∙ some (distance_at ds m n) (measured.exact m n l).1 refl e

  pub means : Means k cs (cabled_plan k ts ds r)
  means = record {
    nodes = refl;
    plugged = λ s t j. far_in k ts ds r s (there k few cs ts w t s (return cs (length cs) s t j)) ∙ led k few cs ts w s t j;
    bare = λ s h.
        ⊎_elim (λ l. far_in k ts ds r s l ∙ ⊎_elim (λ e. e) (λ j. absurd (h (far_at ts s) j)) (ends k few cs ts w s l)) (λ l. cond-false (ltb s.node k) _ _ (le-ltb _ _ l))
        (cases_lt s.node k);
    distance = λ m n p q. subst (Least cs m n) (sym (distance_in k ts ds r m n p q)) (least k few cs ts w m n (distance_at ds m n) p (measured.exact m n (p, q)).1);
    within = λ m n p q. omega (arith, distance_in k ts ds r m n p q, measured.within m n (p, q));
    met = let h = measured.met in (h.0, h.1, h.2, h.3, distance_in k ts ds r h.0 h.1 h.2 h.3 ∙ h.4);
    wish = wished k ts ds r paired nearing;
  }
