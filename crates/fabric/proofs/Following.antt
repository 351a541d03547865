-- What follows from the laws of a layout, for every plan that keeps them.
use Rattle.std.proofs.Common.{◌≡◌, ℕ, ◌⊎◌, Some, None, sym, ap, ◌∙◌, subst, inl, inr, ⊎_elim, arith}
use Rattle.std.proofs.lemmas.Bool.{cases_lt, cases_eq}
use Rattle.std.proofs.lemmas.Option.{same_Some}
use Rattle.fabric.specs.declared.parts.Port.{Port}
use Rattle.fabric.specs.declared.parts.Slot.{Slot}
use Rattle.fabric.specs.Layouts.{Plan, Lawful, Exists, Missing, LeadsNearer}

module _ (p : Plan) (l : Lawful p) where
  -- both nodes exist, or one is missing
  pub present : (m n : ℕ) → (Exists p m × Exists p n) ⊎ (Missing p m ⊎ Missing p n)
  present m n = go (cases_lt m p.nodes) (cases_lt n p.nodes)
    where
      go : Exists p m ⊎ Missing p m → Exists p n ⊎ Missing p n → (Exists p m × Exists p n) ⊎ (Missing p m ⊎ Missing p n)
      go (inl h) (inl k) = inl (h, k)
      go (inl h) (inr k) = inr (inr k)
      go (inr h) k = inr (inl h)

  -- where there is no wish, the flit has arrived or a node is missing: the distance is 0
  pub settled : (m n : ℕ) → p.wish m n ≡ None → p.distance m n ≡ 0
  settled m n e = ⊎_elim (λ h. go h (cases_eq (p.distance m n) 0)) (l.missing_distance m n) (present m n)
    where
      go : Exists p m × Exists p n → (p.distance m n ≡ 0) ⊎ (p.distance m n ≡ 0 → ⊥) → p.distance m n ≡ 0
      go h (inl z) = z
      go h (inr z) = let o = l.nearer m n h.0 h.1 z in cc

  -- a wish leads one nearer
  pub wish_leads : (m n : ℕ) (w : Port) → p.wish m n ≡ Some w → LeadsNearer p m n w
  wish_leads m n w e = ⊎_elim (λ h. go h (cases_eq (p.distance m n) 0)) (λ h. cc (l.missing_wish m n h)) (present m n)
    where
      go : Exists p m × Exists p n → (p.distance m n ≡ 0) ⊎ (p.distance m n ≡ 0 → ⊥) → LeadsNearer p m n w
      go h (inl z) = cc (l.absent m n h.0 h.1 z)
      go h (inr z) = let o = l.nearer m n h.0 h.1 z in subst (LeadsNearer p m n) (same_Some o.0 w (sym o.1 ∙ e)) o.2

  -- a far end of a node that exists is at a node that exists: else it would lead back to itself
  pub far_exists : (n : ℕ) (s : Port) → Exists p n → Exists p (p.far n s).node
  far_exists n s h =
      ⊎_elim (λ k. k)
      (λ k.
      let e : n ≡ (p.far n s).node = ap (λ (t : Slot). t.node) (sym (l.back n s h) ∙ l.missing_far (p.far n s).node (p.far n s).port k) in
      omega arith)
      (cases_lt (p.far n s).node p.nodes)
