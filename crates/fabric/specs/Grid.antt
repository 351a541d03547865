-- A mesh keeps the laws of a layout.
use Rattle.std.specs.Prelude.{◌≡◌, ℕ, zero, suc, ◌+◌, ◌-◌, ◌*◌, ◌/◌, ◌%◌, ◌<◌, ◌≤◌, true, false, ◌⊎◌, Some, None, Option, ◌≢◌, nat_lt, refl}
use Rattle.std.proofs.Common.{sym, ◌∙◌, ap, ap₂, subst, inl, inr, arith, mul-suc, suc-mul}
use Rattle.std.proofs.lemmas.Nat.{mul-add-lt, div-mul-add, mod-mul-add, div_below, mod_below, div-add-mod'}
use Rattle.std.proofs.lemmas.Bool.{ltb-true, lt-ltb, le-ltb, cond-true, cond-false, cond_both, and_from, and_left, and_right}
use Rattle.std.proofs.lemmas.Bool.Decides.{nat_tests}
use Rattle.std.specs.Int.{abs_diff}
use Rattle.fabric.specs.declared.parts.Port.{Port}
use Rattle.fabric.specs.declared.parts.Port.TheVariants.{N, E, S, W}
use Rattle.fabric.specs.declared.parts.Slot.{Slot}
use Rattle.fabric.specs.Layouts.{Lawful, LeadsNearer, both}
use Rattle.fabric.specs.Meshes.{Fair, spot, across, towards, mesh_plan}

-- a mesh has at least as many nodes as its first row and first column together
pub sides : (w h : ℕ) → 0 < w → 0 < h → w + h ≤ w * h + 1
sides zero h p q = omega arith
sides (suc a) zero p q = omega arith
sides (suc a) (suc b) p q = omega (arith, mul-suc (suc a) b, suc-mul a b)

-- what a wish says of the columns and rows
towards-E : (x y u v : ℕ) → towards x y u v ≡ Some E → x < u
towards-E x y u v e = grind (arith, nat_tests)

towards-W : (x y u v : ℕ) → towards x y u v ≡ Some W → u < x
towards-W x y u v e = grind (arith, nat_tests)

towards-S : (x y u v : ℕ) → towards x y u v ≡ Some S → (x ≡ u) × (y < v)
towards-S x y u v e = grind (arith, nat_tests)

towards-N : (x y u v : ℕ) → towards x y u v ≡ Some N → (x ≡ u) × (v < y)
towards-N x y u v e = grind (arith, nat_tests)

towards_none : (x y u v : ℕ) → towards x y u v ≡ None → abs_diff x u + abs_diff y v ≡ 0
towards_none x y u v e = grind (arith, nat_tests)

towards_here : (x y u v : ℕ) → abs_diff x u + abs_diff y v ≡ 0 → towards x y u v ≡ None
towards_here x y u v e = grind (arith, nat_tests)

some_or_none : (o : Option Port) → (o ≡ None) ⊎ ((w : Port) × (o ≡ Some w))
some_or_none None = inl refl
some_or_none (Some w) = inr (w, refl)

pub both_in : (k m n : ℕ) → m < k → n < k → both k m n ≡ true
both_in k m n p q = and_from _ _ (lt-ltb _ _ p) (lt-ltb _ _ q)

pub both_out : (k m n : ℕ) → (k ≤ m) ⊎ (k ≤ n) → both k m n ≡ false
both_out k m n (inl p) = and_left _ _ (le-ltb _ _ p)
both_out k m n (inr p) = and_right _ _ (le-ltb _ _ p)

module _ (w h : ℕ) (ok : Fair w h) where
  pub column_in : (n : ℕ) → n % w < w
  column_in n = mod_below n w ok.0

  pub row_in : (n : ℕ) → n < w * h → n / w < h
  row_in n l = div_below n w h ok.0 (omega arith)

  far_in : (n : ℕ) (p : Port) → n < w * h → (mesh_plan w h).far n p ≡ across w h (n % w) (n / w) p
  far_in n p l = cond-true (nat_lt n (w * h)) _ _ (lt-ltb _ _ l)

  spot_in : (x y : ℕ) → x < w → y < h → y * w + x < w * h
  spot_in x y p q = mul-add-lt y w x h q p

  far_at : (x y : ℕ) → x < w → y < h → (p : Port) → (mesh_plan w h).far (y * w + x) p ≡ across w h x y p
  far_at x y p q o =
      far_in (y * w + x) o (spot_in x y p q) ∙ ap₂ (λ a b. across w h a b o) (mod-mul-add y w x p) (div-mul-add y w x p)

  -- the far end of a far end, by column and row
  home : (x y : ℕ) → x < w → y < h → (p : Port) → (mesh_plan w h).far (across w h x y p).node (across w h x y p).port ≡ spot w x y p
  home x y p q N =
      cond_both (nat_lt 0 y) _ _ (λ (s : Slot). (mesh_plan w h).far s.node s.port ≡ spot w x y N)
      (λ e.
      let l : 0 < y = ltb-true _ _ e in
      let k : y - 1 + 1 ≡ y = omega arith in
      far_at x (y - 1) p (omega arith) S ∙ cond-true (nat_lt (y - 1 + 1) h) _ _ (lt-ltb _ _ (omega arith)) ∙ ap (λ j. spot w x j N) k)
      (λ e. far_at x y p q N ∙ cond-false (nat_lt 0 y) _ _ e)
  home x y p q E =
      cond_both (nat_lt (x + 1) w) _ _ (λ (s : Slot). (mesh_plan w h).far s.node s.port ≡ spot w x y E)
      (λ e.
      let k : x + 1 - 1 ≡ x = omega arith in
      far_at (x + 1) y (ltb-true _ _ e) q W ∙ cond-true (nat_lt 0 (x + 1)) _ _ (lt-ltb _ _ (omega arith)) ∙ ap (λ j. spot w j y E) k)
      (λ e. far_at x y p q E ∙ cond-false (nat_lt (x + 1) w) _ _ e)
  home x y p q S =
      cond_both (nat_lt (y + 1) h) _ _ (λ (s : Slot). (mesh_plan w h).far s.node s.port ≡ spot w x y S)
      (λ e.
      let k : y + 1 - 1 ≡ y = omega arith in
      far_at x (y + 1) p (ltb-true _ _ e) N ∙ cond-true (nat_lt 0 (y + 1)) _ _ (lt-ltb _ _ (omega arith)) ∙ ap (λ j. spot w x j S) k)
      (λ e. far_at x y p q S ∙ cond-false (nat_lt (y + 1) h) _ _ e)
  home x y p q W =
      cond_both (nat_lt 0 x) _ _ (λ (s : Slot). (mesh_plan w h).far s.node s.port ≡ spot w x y W)
      (λ e.
      let l : 0 < x = ltb-true _ _ e in
      let k : x - 1 + 1 ≡ x = omega arith in
      far_at (x - 1) y (omega arith) q E ∙ cond-true (nat_lt (x - 1 + 1) w) _ _ (lt-ltb _ _ (omega arith)) ∙ ap (λ j. spot w j y W) k)
      (λ e. far_at x y p q W ∙ cond-false (nat_lt 0 x) _ _ e)

  back : (n : ℕ) (p : Port) → n < w * h → (mesh_plan w h).far ((mesh_plan w h).far n p).node ((mesh_plan w h).far n p).port ≡ record { node = n; port = p }
  back n p l =
      ap (λ (s : Slot). (mesh_plan w h).far s.node s.port) (far_in n p l)
      ∙ home (n % w) (n / w) (column_in n) (row_in n l) p
      ∙ ap (λ k. let t : Slot = record { node = k; port = p } in t) (div-add-mod' n w)

  distance_in : (m n : ℕ) → m < w * h → n < w * h → (mesh_plan w h).distance m n ≡ abs_diff (m % w) (n % w) + abs_diff (m / w) (n / w)
  distance_in m n p q = cond-true (both (w * h) m n) _ _ (both_in (w * h) m n p q)

  wish_in : (m n : ℕ) → m < w * h → n < w * h → (mesh_plan w h).wish m n ≡ towards (m % w) (m / w) (n % w) (n / w)
  wish_in m n p q = cond-true (both (w * h) m n) _ _ (both_in (w * h) m n p q)

  distance_at : (x y n : ℕ) → x < w → y < h → n < w * h →
      (mesh_plan w h).distance (y * w + x) n ≡ abs_diff x (n % w) + abs_diff y (n / w)
  distance_at x y n p q l =
      distance_in (y * w + x) n (spot_in x y p q) l ∙ ap₂ (λ a b. abs_diff a (n % w) + abs_diff b (n / w)) (mod-mul-add y w x p) (div-mul-add y w x p)

  -- a slot at a node that stands one nearer to node n than d
  abbrev Closer : ℕ → ℕ → Slot → Type 0
  Closer n d s = (s.node < w * h) × ((mesh_plan w h).distance s.node n + 1 ≡ d)

  closer : (n d x y : ℕ) (o : Port) (s : Slot) → n < w * h → x < w → y < h → s ≡ spot w x y o → abs_diff x (n % w) + abs_diff y (n / w) + 1 ≡ d → Closer n d s
  closer n d x y o s l p q e g = subst (Closer n d) (sym e) (spot_in x y p q, ap (λ k. k + 1) (distance_at x y n p q l) ∙ g)

  step : (x y n : ℕ) (o : Port) → x < w → y < h → n < w * h → towards x y (n % w) (n / w) ≡ Some o →
      Closer n (abs_diff x (n % w) + abs_diff y (n / w)) (across w h x y o)
  step x y n N p q l e =
      let t = towards-N x y (n % w) (n / w) e in
      closer n _ x (y - 1) S _ l p (omega arith) (cond-true (nat_lt 0 y) _ _ (lt-ltb _ _ (omega arith))) (omega arith)
  step x y n E p q l e =
      let t = towards-E x y (n % w) (n / w) e in
      let k : x + 1 < w = omega (arith, column_in n) in
      closer n _ (x + 1) y W _ l k q (cond-true (nat_lt (x + 1) w) _ _ (lt-ltb _ _ k)) (omega arith)
  step x y n S p q l e =
      let t = towards-S x y (n % w) (n / w) e in
      let k : y + 1 < h = omega (arith, row_in n l) in
      closer n _ x (y + 1) N _ l p k (cond-true (nat_lt (y + 1) h) _ _ (lt-ltb _ _ k)) (omega arith)
  step x y n W p q l e =
      let t = towards-W x y (n % w) (n / w) e in
      closer n _ (x - 1) y E _ l (omega arith) q (cond-true (nat_lt 0 x) _ _ (lt-ltb _ _ (omega arith))) (omega arith)

  apart : (m n : ℕ) → m < w * h → n < w * h → (mesh_plan w h).distance m n ≡ 0 → m ≡ n
  apart m n p q e =
      let d = sym (distance_in m n p q) ∙ e in
      let c : m % w ≡ n % w = omega arith in
      let r : m / w ≡ n / w = omega arith in
      sym (div-add-mod' m w) ∙ ap₂ (λ a b. a * w + b) r c ∙ div-add-mod' n w

  nearer : (m n : ℕ) → m < w * h → n < w * h → ((mesh_plan w h).distance m n ≢ 0) →
      (o : Port) × ((mesh_plan w h).wish m n ≡ Some o) × LeadsNearer (mesh_plan w h) m n o
  nearer m n p q z = go (some_or_none ((mesh_plan w h).wish m n))
    where
      go : ((mesh_plan w h).wish m n ≡ None) ⊎ ((o : Port) × ((mesh_plan w h).wish m n ≡ Some o)) →
          (o : Port) × ((mesh_plan w h).wish m n ≡ Some o) × LeadsNearer (mesh_plan w h) m n o
      go (inl e) = absurd (z (distance_in m n p q ∙ towards_none _ _ _ _ (sym (wish_in m n p q) ∙ e)))
      go (inr (o, e)) =
          let s = step (m % w) (m / w) n o (column_in m) (row_in m p) q (sym (wish_in m n p q) ∙ e) in
          let c : Closer n ((mesh_plan w h).distance m n) ((mesh_plan w h).far m o) =
          subst (Closer n ((mesh_plan w h).distance m n)) (sym (far_in m o p)) (s.0, s.1 ∙ sym (distance_in m n p q)) in
          (o, e, c)

  pub mesh_lawful : Lawful (mesh_plan w h)
  mesh_lawful = record {
    some_node = omega (arith, sides w h ok.0 ok.1);
    few_nodes = ok.2;
    back = back;
    itself = λ n l. distance_in n n l l ∙ omega arith;
    apart = apart;
    within = λ m n p q. omega (arith, distance_in m n p q, column_in m, column_in n, row_in m p, row_in n q);
    near = omega (arith, sides w h ok.0 ok.1);
    absent = λ m n p q e. wish_in m n p q ∙ towards_here _ _ _ _ (sym (distance_in m n p q) ∙ e);
    nearer = nearer;
    missing_distance = λ m n l. cond-false (both (w * h) m n) _ _ (both_out (w * h) m n l);
    missing_wish = λ m n l. cond-false (both (w * h) m n) _ _ (both_out (w * h) m n l);
    missing_far = λ n p l. cond-false (nat_lt n (w * h)) _ _ (le-ltb _ _ l);
  }
