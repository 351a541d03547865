-- Walks over cables, and ways through the ports of a table that has these cables.
use Rattle.std.proofs.Common.{◌≡◌, ℕ, zero, suc, ◌<◌, ◌≤◌, List, length, Option, sym, refl, ap, subst, ⊎_elim, arith}
use Rattle.fabric.specs.declared.parts.Cable.{Cable}
use Rattle.fabric.specs.declared.parts.Slot.{Slot}
use Rattle.cabled.specs.Cables.{Walk, Least}
use Rattle.cabled.specs.Cables.Walk.{stay, cross}
use Rattle.cabled.specs.Levels.{Way, Nearest}
use Rattle.cabled.specs.Tables.{far_at, next_at, Wired}
use Rattle.cabled.proofs.Plugs.{return, ends, led, there}

after : {cs : List Cable} {j l m k n : ℕ} → Walk cs j l m → Walk cs k m n → (i : ℕ) × Walk cs i l n
after {k = k} stay v = (k, v)
after (cross j w) v = let r = after w v in (suc r.0, cross j r.1)

pub reverse : {cs : List Cable} {k m n : ℕ} → Walk cs k m n → (i : ℕ) × Walk cs i n m
reverse stay = (0, stay)
reverse {cs = cs} (cross {s = s} {t = t} j w) = after (reverse w).1 (cross (return cs (length cs) s t j) stay)

module _ (k : ℕ) (few : k ≤ 64) (cs : List Cable) (ts : List (Option Slot)) (w : Wired k (length cs) cs ts) where
  pub way : {j m n : ℕ} → Walk cs j m n → Way (next_at ts) n j m
  way stay = refl
  way {n = n} (cross {s = s} {t = t} {k = j} h v) =
      (s.port, subst (Way (next_at ts) n j) (sym (ap (λ (x : Slot). x.node) (led k few cs ts w s t h))) (way v))

  -- a way has steps that stay at a node, so the walk may be shorter
  pub walk : (n j m : ℕ) → m < k → Way (next_at ts) n j m → (i : ℕ) × (i ≤ j) × Walk cs i m n
  walk n zero m l e = (0, omega arith, subst (Walk cs 0 m) e stay)
  walk n (suc j) m l v =
      let s : Slot = record { node = m; port = v.0 } in
      ⊎_elim
      (λ e. let r = walk n j m l (subst (Way (next_at ts) n j) (ap (λ (x : Slot). x.node) e) v.1) in (r.0, omega (arith, r.1), r.2))
      (λ h. let r = walk n j (far_at ts s).node (there k few cs ts w s (far_at ts s) h) v.1 in (suc r.0, omega (arith, r.1), cross h r.2))
      (ends k few cs ts w s l)

  -- the fewest steps are the fewest cables
  pub least : (m n d : ℕ) → m < k → Nearest (next_at ts) n m d → Least cs m n d
  least m n d l h =
      let r = walk n d m l h.0 in
      let same : r.0 ≡ d = omega (arith, r.1, h.1 r.0 (way r.2)) in
      (subst (λ i. Walk cs i m n) same r.2, λ j v. h.1 j (way v))
