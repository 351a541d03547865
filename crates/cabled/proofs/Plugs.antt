-- A table of ends has exactly the cables that were plugged in.
use Rattle.std.proofs.Common.{◌≡◌, ℕ, ◌+◌, ◌<◌, ◌≤◌, ◌⊎◌, List, length, set, replicate, Some, None, Option, unwrap_or, sym, refl, ap, ◌∙◌, subst, inl, inr, ⊎_elim, arith, below_more}
use Rattle.std.proofs.lemmas.List.{get_or-set_same, get_or-set_other, get_or-replicate, length-set}
use Rattle.std.proofs.lemmas.Bool.{cases_eq}
use Rattle.std.proofs.lemmas.Option.{same_Some}
use Rattle.fabric.specs.declared.parts.Cable.{Cable}
use Rattle.fabric.specs.declared.parts.Port.{Port}
use Rattle.fabric.specs.declared.parts.Slot.{Slot}
use Rattle.fabric.specs.Ports.{slot_number}
use Rattle.fabric.proofs.Numbers.{slot_below, slot_same, slot_cases}
use Rattle.cabled.specs.Cables.{cable_at, Runs, Joined, Good}
use Rattle.cabled.specs.Tables.{end_at, far_at, next_at, Paired, Wired, Free, Fits, plugged}

none_if : (o : Option Slot) → ((t : Slot) → o ≡ Some t → ⊥) → o ≡ None
none_if None h = refl
none_if (Some t) h = absurd (h t refl)

turned : (c : Cable) (s t : Slot) → Runs c s t → Runs c t s
turned c s t (inl h) = inr (h.1, h.0)
turned c s t (inr h) = inl (h.1, h.0)

-- a cable runs both ways
pub return : (cs : List Cable) (n : ℕ) (s t : Slot) → Joined cs n s t → Joined cs n t s
return cs n s t j = (j.0, j.1, turned (cable_at cs j.0) s t j.2)

pub inside : (k : ℕ) (ts : List (Option Slot)) → Paired k ts → (u : ℕ) (p : Port) → u < k → next_at ts u p < k
inside k ts paired u p l = (paired (record { node = u; port = p }) l).0

-- without cables
pub paired_none : (k : ℕ) → k ≤ 64 → Paired k (replicate 256 None)
paired_none k few s l = (omega (arith, ap (λ (x : Slot). x.node) own), ap (far_at (replicate 256 None)) own ∙ own)
  where
    own : far_at (replicate 256 None) s ≡ s
    own = ap (λ o. unwrap_or o s) (get_or-replicate 256 (slot_number s) None None (slot_below s (omega arith)))

pub wired_none : (k : ℕ) (cs : List Cable) → Wired k 0 cs (replicate 256 None)
wired_none k cs = record {
  good = λ i l. absurd (omega arith);
  has = λ s t j. absurd (omega (arith, j.1));
  only = λ s t l e. cc (get_or-replicate {A = Option Slot} 256 (slot_number s) None None (slot_below s l), e);
}

-- a good cable fits
pub good_fits : (k i : ℕ) → k ≤ 64 → (cs : List Cable) (ts : List (Option Slot)) → Wired k i cs ts → Good k cs i → Fits k ts (cable_at cs i)
good_fits k i few cs ts w g = (g.two, free _ _ (inl (refl, refl)), free _ _ (inr (refl, refl)))
  where
    free : (s t : Slot) → Runs (cable_at cs i) s t → Free k ts s
    free s t r = let l = g.there s t r in (l, none_if (end_at ts s) (λ u e. g.fresh s t u r (w.only s u (omega arith) e)))

-- one cable more
module _ (k : ℕ) (few : k ≤ 64) (c : Cable) (ts : List (Option Slot)) (long : length ts ≡ 256) (fits : Fits k ts c) where
  abbrev after : List (Option Slot)
  after = plugged ts c

  at_one : end_at after c.one ≡ Some c.other
  at_one =
      get_or-set_other (set ts (slot_number c.one) (Some c.other)) (slot_number c.other) (slot_number c.one) (Some c.one) None (λ e. fits.0 (slot_same c.one c.other e))
      ∙ get_or-set_same ts (slot_number c.one) (Some c.other) None (omega (arith, slot_below c.one (omega (arith, fits.1.0))))

  at_other : end_at after c.other ≡ Some c.one
  at_other =
      get_or-set_same (set ts (slot_number c.one) (Some c.other)) (slot_number c.other) (Some c.one) None
      (omega (arith, slot_below c.other (omega (arith, fits.2.0)), length-set ts (slot_number c.one) (Some c.other)))

  at_rest : (s : Slot) → (s ≡ c.one → ⊥) → (s ≡ c.other → ⊥) → end_at after s ≡ end_at ts s
  at_rest s p q =
      get_or-set_other (set ts (slot_number c.one) (Some c.other)) (slot_number c.other) (slot_number s) (Some c.one) None (λ e. q (slot_same s c.other e))
      ∙ get_or-set_other ts (slot_number c.one) (slot_number s) (Some c.other) None (λ e. p (slot_same s c.one e))

  abbrev Leads : Slot → Slot → Type 0
  Leads s t = far_at after s ≡ t

  leads_rest : (s : Slot) → (s ≡ c.one → ⊥) → (s ≡ c.other → ⊥) → Leads s (far_at ts s)
  leads_rest s p q = ap (λ o. unwrap_or o s) (at_rest s p q)

  both : (s t : Slot) → t.node < k → Leads s t → Leads t s → ((far_at after s).node < k) × Leads (far_at after s) s
  both s t l e f = (omega (arith, ap (λ (x : Slot). x.node) e), ap (far_at after) e ∙ f)

  pub paired_more : Paired k ts → Paired k after
  paired_more paired s l = go (slot_cases s c.one) (slot_cases s c.other)
    where
      one_other : Leads c.one c.other
      one_other = ap (λ o. unwrap_or o c.one) at_one

      other_one : Leads c.other c.one
      other_one = ap (λ o. unwrap_or o c.other) at_other

      -- a port without a cable leads to itself, so no other leads there
      apart : (t : Slot) → end_at ts t ≡ None → (s ≡ t → ⊥) → far_at ts s ≡ t → ⊥
      apart t e p f = p (sym (paired s l).1 ∙ ap (far_at ts) f ∙ ap (λ o. unwrap_or o t) e)

      go : (s ≡ c.one) ⊎ (s ≡ c.one → ⊥) → (s ≡ c.other) ⊎ (s ≡ c.other → ⊥) → ((far_at after s).node < k) × Leads (far_at after s) s
      go (inl p) q = both s c.other fits.2.0 (ap (far_at after) p ∙ one_other) (other_one ∙ sym p)
      go (inr p) (inl q) = both s c.one fits.1.0 (ap (far_at after) q ∙ other_one) (one_other ∙ sym q)
      go (inr p) (inr q) =
          both s (far_at ts s) (paired s l).0 (leads_rest s p q)
          (leads_rest (far_at ts s) (apart c.one fits.1.1 p) (apart c.other fits.2.1 q) ∙ (paired s l).1)

-- one of the cables more
module _ (k i : ℕ) (few : k ≤ 64) (cs : List Cable) (ts : List (Option Slot)) (long : length ts ≡ 256) (w : Wired k i cs ts) (fits : Fits k ts (cable_at cs i)) where
  abbrev c : Cable
  c = cable_at cs i

  -- an end of the new cable is free
  free : (s t : Slot) → Runs c s t → Free k ts s
  free s t (inl h) = subst (Free k ts) h.0 fits.1
  free s t (inr h) = subst (Free k ts) h.0 fits.2

  new : (s t : Slot) → Runs c s t → end_at (plugged ts c) s ≡ Some t
  new s t (inl h) = ap (end_at (plugged ts c)) (sym h.0) ∙ at_one k few c ts long fits ∙ ap Some h.1
  new s t (inr h) = ap (end_at (plugged ts c)) (sym h.0) ∙ at_other k few c ts long fits ∙ ap Some h.1

  old : (s t : Slot) → end_at ts s ≡ Some t → end_at (plugged ts c) s ≡ Some t
  old s t e =
      at_rest k few c ts long fits s (λ p. cc (ap (end_at ts) p ∙ fits.1.1, e)) (λ p. cc (ap (end_at ts) p ∙ fits.2.1, e)) ∙ e

  only_more : (s t : Slot) → s.node < 64 → end_at (plugged ts c) s ≡ Some t → Joined cs (i + 1) s t
  only_more s t l e = go (slot_cases s c.one) (slot_cases s c.other)
    where
      go : (s ≡ c.one) ⊎ (s ≡ c.one → ⊥) → (s ≡ c.other) ⊎ (s ≡ c.other → ⊥) → Joined cs (i + 1) s t
      go (inl p) q = (i, omega arith, inl (sym p, same_Some c.other t (sym (ap (end_at (plugged ts c)) p ∙ at_one k few c ts long fits) ∙ e)))
      go (inr p) (inl q) = (i, omega arith, inr (sym q, same_Some c.one t (sym (ap (end_at (plugged ts c)) q ∙ at_other k few c ts long fits) ∙ e)))
      go (inr p) (inr q) = let j = w.only s t l (sym (at_rest k few c ts long fits s p q) ∙ e) in (j.0, omega (arith, j.1), j.2)

  pub wired_more : Wired k (i + 1) cs (plugged ts c)
  wired_more = record {
    good = below_more (Good k cs) i w.good (record {
      there = λ s t r. (free s t r).0;
      two = fits.0;
      fresh = λ s t u r j. cc ((free s t r).1, w.has s u j);
    });
    has = λ s t j.
        ⊎_elim (λ e. new s t (subst (λ x. Runs (cable_at cs x) s t) e j.2)) (λ e. old s t (w.has s t (j.0, omega (arith, j.1), j.2)))
        (cases_eq j.0 i);
    only = only_more;
  }

-- the wires of all the cables
module _ (k : ℕ) (few : k ≤ 64) (cs : List Cable) (ts : List (Option Slot)) (w : Wired k (length cs) cs ts) where
  -- a port leads to its own slot, or over a cable
  pub ends : (s : Slot) → s.node < k → (far_at ts s ≡ s) ⊎ (Joined cs (length cs) s (far_at ts s))
  ends s l = go (end_at ts s) refl
    where
      go : (o : Option Slot) → end_at ts s ≡ o → (unwrap_or o s ≡ s) ⊎ (Joined cs (length cs) s (unwrap_or o s))
      go None e = inl refl
      go (Some t) e = inr (w.only s t (omega arith) e)

  pub led : (s t : Slot) → Joined cs (length cs) s t → far_at ts s ≡ t
  led s t j = ap (λ o. unwrap_or o s) (w.has s t j)

  pub there : (s t : Slot) → Joined cs (length cs) s t → t.node < k
  there s t j = (w.good j.0 j.1).there t s (turned (cable_at cs j.0) s t j.2)
