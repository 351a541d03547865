use Rattle.std.proofs.Common.{List, ◌∙◌, subst}
use Rattle.network.specs.declared.event.Event.{Event}
use Rattle.line.specs.Lines.{holds}
use Rattle.runner.proofs.Telling.{Telling, next}
use Rattle.runner.proofs.tally.Tally.tell.Goals as goal

pub loop-event-preserved : goal.loop-event-preserved
loop-event-preserved c =
    let l = c.loop-event in
    let a = c.args in
    record {
      telling =
          next c.in-Some.event (holds c.take.new.self)
          (subst (λ (es : List Event). Telling a.self.now a.writer.now (holds a.line.now) l.self l.writer es) c.in-Some.ensures.contents l.invariant.telling) c.event.ensures.told.1;
      lender = c.event.ensures.lender ∙ l.invariant.lender;
      places = c.take.ensures.lender ∙ l.invariant.places;
    }
