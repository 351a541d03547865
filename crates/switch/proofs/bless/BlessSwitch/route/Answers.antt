use Rattle.std.proofs.Common.{refl, ap, ap₂, ◌∙◌}
use Rattle.fabric.specs.Ports.{place_of}
use Rattle.switch.specs.Blesses.{best}
use Rattle.switch.specs.Sides.{held}
use Rattle.switch.specs.Switches.{handed}
use Rattle.switch.proofs.Serving.{begins, round, ends}
use Rattle.switch.specs.Ordered.{bless_lawful}
use Rattle.switch.proofs.bless.BlessSwitch.route.Goals as goal

pub loop-init : goal.loop-init
loop-init c = record { places = refl; golden = refl; going = begins c.args.golden c.args.places c.args.wishes }

pub loop-preserved : goal.loop-preserved
loop-preserved c =
    let l = c.loop.invariant in
    record {
      places = l.places;
      golden = l.golden;
      going = round c.args.golden c.args.places c.args.wishes c.loop.counter c.loop.out c.loop.round.waiting c.loop.free l.going c.loop-test.true
          c.index-slot.result c.index-port.result
          (c.index-slot.ensures ∙ ap place_of (c.best.ensures ∙ ap₂ (λ g p. best g p (held c.loop.round.waiting)) l.golden l.places))
          (c.index-port.ensures ∙ ap place_of c.choose.ensures);
    }

pub returns : goal.returns
returns c = record {
  value = ends c.args.golden c.args.places c.args.wishes c.loop.counter c.loop.out c.loop.round.waiting c.loop.free c.loop.invariant.going c.loop-test.false;
  ranked = bless_lawful (handed c.args.places c.args.wishes c.args.golden c.args.draws);
}
