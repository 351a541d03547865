-- The tables of a cabled layout keep the laws of a layout.
use Rattle.std.specs.Prelude.{◌≡◌, ℕ, ◌+◌, ◌<◌, ◌≤◌, true, List, is_some, Some, None, Option, ◌==◌, ◌≢◌, nat_lt, refl}
use Rattle.std.proofs.Common.{sym, ◌∙◌, ap, subst, ⊎_elim, arith}
use Rattle.std.proofs.lemmas.Bool.{lt-ltb, le-ltb, eqb-true, eq-eqb, ne_eqb, cond-true, cond-false, both_ways, cases_eq}
use Rattle.fabric.specs.declared.parts.Port.{Port}
use Rattle.fabric.specs.declared.parts.Slot.{Slot}
use Rattle.fabric.specs.Layouts.{Plan, Lawful, LeadsNearer, both}
use Rattle.fabric.specs.Grid.{both_in, both_out}
use Rattle.fabric.specs.Places.{Pick, pick}
use Rattle.cabled.specs.Cables.{Wished}
use Rattle.cabled.specs.Tables.{far_at, distance_at, leads, wish_at, cabled_plan, Paired, Within, Nearing}

module _ (k : ℕ) (ts : List (Option Slot)) (ds : List (List ℕ)) (r : ℕ) where
  abbrev plan : Plan
  plan = cabled_plan k ts ds r

  pub far_in : (s : Slot) → s.node < k → plan.far s.node s.port ≡ far_at ts s
  far_in s l = cond-true (nat_lt s.node k) _ _ (lt-ltb _ _ l)

  pub distance_in : (m n : ℕ) → m < k → n < k → plan.distance m n ≡ distance_at ds m n
  distance_in m n p q = cond-true (both k m n) _ _ (both_in k m n p q)

  wish_in : (m n : ℕ) → m < k → n < k → plan.wish m n ≡ wish_at ts ds m n
  wish_in m n p q = cond-true (both k m n) _ _ (both_in k m n p q)

  module _ (paired : Paired k ts) (nearing : Nearing k ts ds) where
    back : (n : ℕ) (s : Port) → n < k → plan.far (plan.far n s).node (plan.far n s).port ≡ record { node = n; port = s }
    back n s l =
        let t : Slot = record { node = n; port = s } in
        ap (λ (u : Slot). plan.far u.node u.port) (far_in t l) ∙ far_in (far_at ts t) (paired t l).0 ∙ (paired t l).1

    itself : (n : ℕ) → n < k → plan.distance n n ≡ 0
    itself n l = distance_in n n l l ∙ eqb-true _ _ (sym (cond-true (n == n) _ _ (eq-eqb n n refl)) ∙ nearing n n (l, l))

    some_wish : (m n : ℕ) → m < k → n < k → (m ≢ n) → is_some (wish_at ts ds m n) ≡ true
    some_wish m n p q e = sym (cond-false (m == n) _ _ (ne_eqb m n e)) ∙ nearing m n (p, q)

    -- the test of a port says whether it leads one nearer
    module _ (m n : ℕ) (p : m < k) (q : n < k) (w : Port) where
      abbrev Nearer : Slot → Type 0
      Nearer s = (s.node < k) × (plan.distance s.node n + 1 ≡ plan.distance m n)

      abbrev next : Slot
      next = far_at ts (record { node = m; port = w })

      next_in : plan.far m w ≡ next
      next_in = far_in (record { node = m; port = w }) p

      leads_from : leads ts ds m n w ≡ true → LeadsNearer plan m n w
      leads_from e =
          let l = (paired (record { node = m; port = w }) p).0 in
          subst Nearer (sym next_in) (l, omega (arith, distance_in m n p q, distance_in next.node n l q, eqb-true _ _ e))

      leads_to : LeadsNearer plan m n w → leads ts ds m n w ≡ true
      leads_to h = let g = subst Nearer next_in h in eq-eqb _ _ (omega (arith, g.1, distance_in m n p q, distance_in next.node n g.0 q))

    pub wished : (m n : ℕ) → m < k → n < k → Wished plan m n (plan.wish m n)
    wished m n p q = subst (Wished plan m n) (sym (wish_in m n p q)) (go (wish_at ts ds m n) refl)
      where
        go : (o : Option Port) → wish_at ts ds m n ≡ o → Wished plan m n o
        go (Some w) e =
            let h = subst (Pick (leads ts ds m n)) e (pick (leads ts ds m n)) in
            (leads_from m n p q w h.0, λ v l a. both_ways _ (h.1 v l) (leads_to m n p q v a))
        go None e =
            ⊎_elim (λ x. subst (λ y. plan.distance m y ≡ 0) x (itself m p)) (λ x. absurd (both_ways _ (ap is_some e) (some_wish m n p q x))) (cases_eq m n)

    absent : (m n : ℕ) → m < k → n < k → plan.distance m n ≡ 0 → plan.wish m n ≡ None
    absent m n p q z = go (plan.wish m n) refl (wished m n p q)
      where
        go : (o : Option Port) → plan.wish m n ≡ o → Wished plan m n o → plan.wish m n ≡ None
        go (Some w) e h = absurd (omega (arith, h.0.1))
        go None e h = e

    nearer : (m n : ℕ) → m < k → n < k → (plan.distance m n ≢ 0) → (w : Port) × (plan.wish m n ≡ Some w) × LeadsNearer plan m n w
    nearer m n p q z = go (plan.wish m n) refl (wished m n p q)
      where
        go : (o : Option Port) → plan.wish m n ≡ o → Wished plan m n o → (w : Port) × (plan.wish m n ≡ Some w) × LeadsNearer plan m n w
        go (Some w) e h = (w, e, h.0)
        go None e h = absurd (z h)

    apart : (m n : ℕ) → m < k → n < k → plan.distance m n ≡ 0 → m ≡ n
    apart m n p q z =
        ⊎_elim (λ e. e) (λ e. absurd (both_ways _ (ap is_some (sym (wish_in m n p q) ∙ absent m n p q z)) (some_wish m n p q e))) (cases_eq m n)

    pub lawful : (0 < k) × (k ≤ 64) × (r ≤ 63) → Within k ds r → Lawful plan
    lawful few within = record {
      some_node = few.0;
      few_nodes = few.1;
      back = back;
      itself = itself;
      apart = apart;
      within = λ m n p q. omega (arith, distance_in m n p q, within m n (p, q));
      near = few.2;
      absent = absent;
      nearer = nearer;
      missing_distance = λ m n l. cond-false (both k m n) _ _ (both_out k m n l);
      missing_wish = λ m n l. cond-false (both k m n) _ _ (both_out k m n l);
      missing_far = λ n s l. cond-false (nat_lt n k) _ _ (le-ltb _ _ l);
    }
