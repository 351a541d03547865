use Rattle.std.proofs.Common.{ℕ, ◌∷◌, refl, ◌∙◌, subst}
use Rattle.std.proofs.Math.Numerals.{suc-eq-add-one}
use Rattle.fabric.specs.Refusals.{shown}
use Rattle.bounds.specs.declared.settings.Settings.{Settings}
use Rattle.line.specs.Lines.{queue_of}
use Rattle.network.specs.Cycle.{Fabric}
use Rattle.calls.specs.Networks.{fabric_of}
use Rattle.network.specs.Runs.{Serves}
use Rattle.network.specs.Runs.Call.{cycle}
use Rattle.network.specs.Runs.Outcome.{cycling}
use Rattle.network.specs.Promises.{Kept}
use Rattle.network.proofs.Kept.{kept}
use Rattle.calls.specs.Follow.{Promised}
use Rattle.calls.proofs.Fabrics.{same_fabric, then_same}
use Rattle.uses.specs.History.{Cycled, RanOn}
use Rattle.uses.specs.History.Cycled.{none, one_more}
use Rattle.uses.proofs.cycles.run_on.Goals as goal

pub loop-init : goal.loop-init
loop-init g c =
    let n = c.args.network.now in
    let F = fabric_of g.L.Layout.plan g.S.Switch.turn n in
    record {
      parts = (refl, refl);
      lender = refl;
      ran = λ run s f. record {
        longer = run;
        state = s;
        cycled = none;
        same = refl;
        follows = f;
        kept = (kept F n.inner.settings (g.met.L.Layout.lawful n.layout) (g.met.S.Switch.lawful n.switch) f.lawful run).kept s f.leads;
      };
    }

pub loop-preserved : goal.loop-preserved
loop-preserved g c =
    let n = c.args.network.now in
    let F = fabric_of g.L.Layout.plan g.S.Switch.turn n in
    let i = c.loop.invariant in
    let e = c.cycle.ensures in
    let q = queue_of c.args.line.now in
    let u = queue_of c.loop.line in
    let v = queue_of c.cycle.new.line in
    let a = shown c.cycle.result in
    let promise = subst (λ (G : Fabric). Promised G c.loop.network.inner c.cycle.new.self.inner (cycle u) (cycling a v)) (same_fabric g.L.Layout.plan g.S.Switch.turn i.parts) e.promised in
    record {
      parts = then_same i.parts e.parts;
      lender = e.lender ∙ i.lender;
      ran = λ run s f.
          let h : RanOn F n.inner c.loop.network.inner c.loop.counter run s q u = i.ran run s f in
          let more = promise.continues h.longer h.state h.follows in
          let longer = cycle u ∷ h.longer in
          let same = more.same ∙ h.same in
          let serves = subst (λ (P : Settings). Serves F P h.state (cycle u) (cycling a v) more.state) h.same more.serves in
          record {
            longer = longer;
            state = more.state;
            cycled = subst (λ (m : ℕ). Cycled F n.inner.settings run s q m longer more.state v) (suc-eq-add-one c.loop.counter) (one_more h.cycled serves);
            same = same;
            follows = more.follows;
            kept = subst (λ (P : Settings). Kept F P longer more.state) same more.kept;
          };
    }
