-- The layout of one node without cables.
use Rattle.std.proofs.Common.{◌≡◌, ℕ, cond, ltb, [], replicate, None, unwrap_or, refl, ap, ◌∙◌, subst, ap₂, arith}
use Rattle.std.proofs.lemmas.List.{get_or-replicate}
use Rattle.std.proofs.lemmas.Bool.{ltb-true, and_parts, cond_both}
use Rattle.fabric.specs.declared.parts.Port.{Port}
use Rattle.fabric.specs.Layouts.{both}
use Rattle.fabric.specs.declared.parts.Slot.{Slot}
use Rattle.fabric.specs.Ports.{slot_number}
use Rattle.fabric.proofs.Numbers.{slot_below}
use Rattle.cabled.specs.Cables.{Walk, Means, lone}
use Rattle.cabled.specs.Cables.Walk.{stay}
use Rattle.cabled.specs.Tables.{far_at, distance_at, wish_at, cabled_plan}

-- what node 0 answers of itself, it answers of all
only : {A : Type 0} (x : ℕ → ℕ → A) (y : A) → x 0 0 ≡ y → (m n : ℕ) → cond (both 1 m n) (x m n) y ≡ y
only x y e m n =
    cond_both (both 1 m n) (x m n) y (λ z. z ≡ y)
    (λ b.
    let h = and_parts (ltb m 1) (ltb n 1) b in
    let p : m ≡ 0 = omega (arith, ltb-true _ _ h.0) in
    let q : n ≡ 0 = omega (arith, ltb-true _ _ h.1) in
    ap₂ x p q ∙ e)
    (λ _. refl)

own : (n : ℕ) (p : Port) → cond (ltb n 1) (far_at (replicate 256 None) (record { node = n; port = p })) (record { node = n; port = p }) ≡ record { node = n; port = p }
own n p =
    let s : Slot = record { node = n; port = p } in
    cond_both (ltb n 1) (far_at (replicate 256 None) s) s (λ t. t ≡ s)
    (λ b. ap (λ o. unwrap_or o s) (get_or-replicate 256 (slot_number s) None None (slot_below s (omega (arith, ltb-true _ _ b)))))
    (λ _. refl)

pub alone : cabled_plan 1 (replicate 256 None) (replicate 64 (replicate 64 0)) 0 ≡ lone
alone = λ i. record {
  nodes = 1;
  far = λ n p. own n p i;
  distance = λ m n. only (distance_at (replicate 64 (replicate 64 0))) 0 refl m n i;
  wish = λ m n. only (wish_at (replicate 256 None) (replicate 64 (replicate 64 0))) None refl m n i;
  reach = 0;
}

pub lone_means : Means 1 [] lone
lone_means = record {
  nodes = refl;
  plugged = λ s t j. absurd (omega (arith, j.1));
  bare = λ s h. refl;
  distance = λ m n p q. (subst (Walk [] 0 m) (let e : m ≡ n = omega arith in e) stay, λ k w. omega arith);
  within = λ m n p q. omega arith;
  met = (0, 0, omega arith, omega arith, refl);
  wish = λ m n p q. refl;
}
