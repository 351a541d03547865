use Rattle.std.proofs.Common.{◌≡◌, ℕ, ◌<◌, ◌≤◌, List, [], length, get_or, take, unwrap_or, max, ◌∙◌, subst, ⊎_elim, rules, arith}
use Rattle.std.proofs.lemmas.List.{length-set, length-take-le, get_or-take}
use Rattle.std.proofs.lemmas.Bool.{cases_eq, cases_lt}
use Rattle.std.proofs.lemmas.Result.{err_from_is_err_and}
use Rattle.std.specs.List.{reduce}
use Rattle.cabled.specs.Levels.{AllSteps, NoWay}
use Rattle.cabled.specs.Tables.{next_at, distance_at}
use Rattle.cabled.proofs.Filled.{set_here, set_before, set_more}
use Rattle.cabled.proofs.Greatest.{within, met}
use Rattle.cabled.proofs.Ways.{joined}
use Rattle.cabled.proofs.wiring.Wiring.measure.Goals as goal

pub returns-in_err-row : goal.returns-in_err-row
returns-in_err-row c =
    let w = c.args.self.now in
    let t = c.loop-to.to in
    let p = err_from_is_err_and c.from_residual.result c.from_residual.ensures.1 in
    let u = c.in_err-row.ensures in
    let l : t < w.nodes = c.loop-to-test.true in
    let none : NoWay (next_at w.ends) 0 u.node =
    ⊎_elim (λ e. subst (λ n. NoWay (next_at w.ends) n u.node) e u.no_way)
    (λ e.
    let j = joined w.nodes w.ends w.paired (λ m q. let s = c.loop-to.invariant.exact 0 (omega arith) m q in (distance_at c.loop-to.distances m 0, s.1.0)) u.node t u.there l in
    absurd (u.no_way j.0 j.1)) (cases_eq t 0) in
    rw (p.1, p.2) (record { node = u.node; named = u.named; there = u.there; no_way = none })

pub loop-to-preserved : goal.loop-to-preserved
loop-to-preserved c =
    let w = c.args.self.now in
    let t = c.loop-to.to in
    let ds = c.loop-to.distances in
    let row = c.in_ok-row.row in
    let some = take w.nodes row in
    let reach = c.max-reach.result in
    let inv = c.loop-to.invariant in
    let low : t < length ds = omega (arith, inv.rows) in
    let long : length some ≡ w.nodes = length-take-le w.nodes row (search rules) in
    let greatest : c.greatest.result ≡ unwrap_or (reduce max some) 0 = c.greatest.ensures in
    let Met : ℕ → List ℕ → Type 0 = (λ n r. (m : ℕ) × (m < w.nodes) × (get_or r m 0 ≡ reach)) in
    record {
      rows = length-set ds t row ∙ inv.rows;
      exact = set_more (λ n r. AllSteps (next_at w.ends) n w.nodes r) [] ds t row low inv.exact c.in_ok-row.ensures;
      within = set_more (λ n r. (m : ℕ) → m < w.nodes → get_or r m 0 ≤ reach) [] ds t row low (λ n l m p. omega (arith, inv.within n l m p))
          (λ m p. omega (arith, get_or-take w.nodes row m 0 p, within some m (omega (arith, long))));
      begun = omega arith;
      met = λ _.
          ⊎_elim
          (λ e.
          let o = inv.met (⊎_elim (λ z. omega (arith, inv.begun z)) (λ z. omega arith) (cases_eq t 0)) in
          (o.0, omega (arith, o.1), set_before Met [] ds t row o.0 o.1 (o.2.0, o.2.1, omega (arith, o.2.2))))
          (λ e.
          let o = met some (omega (arith, long, w.fair.0)) in
          let l : o.0 < w.nodes = omega (arith, long, o.1) in
          (t, omega arith, set_here Met [] ds t row low (o.0, l, omega (arith, o.2, get_or-take w.nodes row o.0 0 l))))
          (cases_lt c.greatest.result c.loop-to.reach);
    }
