use Rattle.std.proofs.Common.{length, Option, sym, refl, ap, subst, ◌∙◌, arith}
use Rattle.std.proofs.lemmas.Bool.{both_ways}
use Rattle.std.proofs.lemmas.List.{length-set}
use Rattle.fabric.specs.declared.parts.Slot.{Slot}
use Rattle.cabled.specs.Tables.{Wired}
use Rattle.cabled.proofs.Plugs.{wired_none, wired_more, good_fits}
use Rattle.cabled.proofs.wiring.Wiring.new.Goals as goal

pub loop-i-init : goal.loop-i-init
loop-i-init c =
    let w = c.bare-wiring.result in
    let e = c.bare-wiring.ensures in
    (ap length e.ends, record { same = e.nodes; wired = subst (Wired w.nodes 0 c.args.cables.now) (sym e.ends) (wired_none w.nodes c.args.cables.now) })

pub returns-then-not-can_plug : goal.returns-then-not-can_plug
returns-then-not-can_plug c =
    let w = c.loop-i.wiring in
    let i = c.loop-i.i in
    let cables = c.args.cables.now in
    let so_far = c.loop-i.invariant.1 in
    record {
      place = i;
      named = refl;
      there = c.loop-i-test.true;
      before = rw (← so_far.same) so_far.wired.good;
      bad = rw (← so_far.same) (λ g. both_ways _ c.if-not-can_plug.true (c.can_plug.ensures.1 (good_fits w.nodes i w.fair.1 cables w.ends so_far.wired g)));
    }

pub loop-i-preserved : goal.loop-i-preserved
loop-i-preserved c =
    let w = c.loop-i.wiring in
    let inv = c.loop-i.invariant in
    let e = c.plug.ensures in (
      omega (arith, ap length e.ends, length-set {A = Option Slot}),
      record {
        same = e.nodes ∙ inv.1.same;
        wired = rw (e.nodes, e.ends) (wired_more w.nodes c.loop-i.i w.fair.1 c.args.cables.now w.ends inv.0 inv.1.wired (c.can_plug.ensures.0 c.if-not-can_plug.false));
      },
    )
