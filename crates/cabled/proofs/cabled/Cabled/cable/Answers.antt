use Rattle.std.proofs.Common.{⊎_elim, arith}
use Rattle.std.proofs.lemmas.Result.{err_from_is_err_and}
use Rattle.cabled.specs.Cables.Cabling.{unfair, bad, unreached, cabled}
use Rattle.cabled.specs.Tables.{distance_at}
use Rattle.cabled.proofs.Meaning.{nearing, means}
use Rattle.cabled.proofs.Walks.{reverse, walk, way}
use Rattle.cabled.proofs.cabled.Cabled.cable.Goals as goal

pub returns-then-nodes-eq0 : goal.returns-then-nodes-eq0
returns-then-nodes-eq0 c = unfair (λ f. ⊎_elim (λ e. omega arith) (λ e. omega arith) c.then-nodes-eq0.either)

pub returns-in_err-wiring : goal.returns-in_err-wiring
returns-in_err-wiring c =
    let p = err_from_is_err_and c.from_residual.result c.from_residual.ensures.1 in
    let h = c.in_err-wiring.ensures in
    rw (p.1, p.2, h.named) (bad (omega arith, omega arith) h.place h.there h.before h.bad)

pub returns-in_err-spans : goal.returns-in_err-spans
returns-in_err-spans c =
    let x = c.in_ok-wiring.wiring in
    let p = err_from_is_err_and c.from_residual-in_err-spans.result c.from_residual-in_err-spans.ensures.1 in
    let h = c.in_ok-wiring.ensures in
    let u = c.in_err-spans.ensures in
    rw (p.1, p.2, u.named, ← h.same)
    (unreached x.fair h.wired.good u.node u.there (λ j v. let r = reverse v in u.no_way r.0 (way x.nodes x.fair.1 c.args.cables.now x.ends h.wired r.1)))

pub invariant_of-self : goal.invariant_of-self
invariant_of-self c =
    let x = c.in_ok-wiring.wiring in
    let s = c.in_ok-spans.spans in
    let measured = c.in_ok-spans.ensures in
    record {
      within = measured.within;
      nearing = nearing x.nodes x.fair.1 c.args.cables.now x.ends s.distances s.reach c.in_ok-wiring.ensures.wired x.paired measured;
    }

pub returns : goal.returns
returns c =
    let x = c.in_ok-wiring.wiring in
    let k = x.nodes in
    let cs = c.args.cables.now in
    let h = c.in_ok-wiring.ensures in
    let s = c.in_ok-spans.spans in
    let measured = c.in_ok-spans.ensures in
    rw (← h.same)
    (cabled x.fair h.wired.good
    (λ n l cut. let r = reverse (walk k x.fair.1 cs x.ends h.wired 0 (distance_at s.distances n 0) n l (measured.exact n 0 (l, x.fair.0)).1.0).2 in cut r.0 r.1)
    (means k x.fair.1 cs x.ends s.distances s.reach h.wired x.paired measured))
