use Rattle.std.proofs.Common.{◌≡◌, ◌+◌, List, Option, length, get_or, None, sym, ◌∙◌, subst, arith}
use Rattle.std.proofs.lemmas.List.{length-set}
use Rattle.fabric.specs.declared.parts.Flit.{Flit}
use Rattle.calls.proofs.Stepping.{SpreadUpto, spread_more, spread_past}
use Rattle.calls.proofs.steps.spread.Goals.{then-is_some, else-is_some}
use Rattle.calls.proofs.steps.spread.Goals as goal

pub loop-k-preserved : goal.loop-k-preserved
loop-k-preserved g c =
    let p = g.L.Layout.plan c.args.layout.now in
    let law = g.met.L.Layout.lawful c.args.layout.now in
    let k = c.loop-k.k in
    let i = c.loop-k.invariant in
    let Sent = λ (xs : List (Option Flit)). (length xs ≡ 256) × SpreadUpto p c.args.node (k + 1) c.args.leaving c.args.slots.now xs in
    elim c.if-is_some.branch [
      | then-is_some w ↦
          let l = i.0 in
          let b = w.far-to.ensures.below in
          subst Sent (sym w.slots-is) (
            length-set c.loop-k.slots w.far-to.result (get_or c.args.leaving k None) ∙ l,
            spread_more p law c.args.node c.requires.known c.args.leaving c.args.slots.now k w.far-to.result c.loop-k.slots (omega arith) w.far-to.ensures.is (omega arith) i.1,
          )
      | else-is_some w ↦
          subst Sent (sym w.slots-is)
          (i.0, spread_past p law c.args.node c.requires.known c.args.leaving c.args.slots.now c.requires.unsent k c.loop-k.slots (omega arith) (sym c.is_some.ensures ∙ w.if-is_some.false) i.1)
    ]
