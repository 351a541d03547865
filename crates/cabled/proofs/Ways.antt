-- Ways through the ports of a table in which each port leads back.
use Rattle.std.proofs.Common.{ℕ, zero, suc, ◌<◌, List, Option, sym, ap, subst}
use Rattle.fabric.specs.declared.parts.Port.{Port}
use Rattle.fabric.specs.declared.parts.Slot.{Slot}
use Rattle.cabled.specs.Levels.{Way}
use Rattle.cabled.specs.Tables.{far_at, next_at, Paired}

along : (next : ℕ → Port → ℕ) (t m i j u : ℕ) → Way next m i u → Way next t j m → (k : ℕ) × Way next t k u
along next t m zero j u e v = (j, subst (Way next t j) (sym e) v)
along next t m (suc i) j u w v = let r = along next t m i j (next u w.0) w.1 v in (suc r.0, (w.0, r.1))

module _ (k : ℕ) (ts : List (Option Slot)) (paired : Paired k ts) where
  back : (t j u : ℕ) → u < k → Way (next_at ts) t j u → (i : ℕ) × Way (next_at ts) u i t
  back t zero u l e = (0, sym e)
  back t (suc j) u l w =
      let s : Slot = record { node = u; port = w.0 } in
      let p = paired s l in
      let r = back t j (far_at ts s).node p.0 w.1 in
      along (next_at ts) u (far_at ts s).node r.0 (suc zero) t r.1 ((far_at ts s).port, ap (λ (x : Slot). x.node) p.1)

  -- where each node has a way to node 0, each has a way to each
  pub joined : ((m : ℕ) → m < k → (j : ℕ) × Way (next_at ts) 0 j m) → (m n : ℕ) → m < k → n < k → (j : ℕ) × Way (next_at ts) n j m
  joined h m n p q =
      let a = h m p in
      let b = back 0 (h n q).0 n q (h n q).1 in
      along (next_at ts) n 0 a.0 b.0 m a.1 b.1
