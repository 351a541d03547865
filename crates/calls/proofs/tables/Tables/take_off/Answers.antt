use Rattle.std.proofs.Common.{set, None, sym, ap, ◌∙◌, arith}
use Rattle.fabric.specs.Ports.{place_of}
use Rattle.switch.specs.Switches.{at}
use Rattle.line.specs.Lines.{queue_of}
use Rattle.network.specs.Computed.{best, due}
use Rattle.calls.proofs.Stepping.{none_there, none_best}
use Rattle.calls.proofs.Takes.{none_taken, took_some, same_best}
use Rattle.calls.proofs.tables.Tables.take_off.Goals as goal

pub returns-then-are_empty-clause-takes : goal.returns-then-are_empty-clause-takes
returns-then-are_empty-clause-takes c =
    none_taken c.args.self.now c.args.node c.args.golden (queue_of c.args.line.now) c.places-places.result c.places-places.ensures
    (none_best c.args.golden c.args.node c.places-places.result (none_there (at c.places-places.result) (sym c.are_empty.ensures ∙ c.if-are_empty.true)))

pub returns-in-None-clause-takes : goal.returns-in-None-clause-takes
returns-in-None-clause-takes c =
    none_taken c.args.self.now c.args.node c.args.golden (queue_of c.args.line.now) c.places-places.result c.places-places.ensures (sym c.in-None.ensures)

pub returns-in-Some-clause-takes : goal.returns-in-Some-clause-takes
returns-in-Some-clause-takes c =
    let i = c.args.self.now in
    let n = c.args.node in
    let g = c.args.golden in
    record {
      keeps = c.take_in.ensures.keeps;
      few = omega arith;
      took = λ F s l law led h gold b room.
          took_some F i s l n g law led h gold b c.in-Some.port c.in-Some.flit
          (sym (same_best F i s l n g law led h gold b) ∙ ap (λ xs. best g (λ p. due n (at xs p))) (sym c.places-places.ensures) ∙ sym c.in-Some.ensures)
          c.take_in.new.self (queue_of c.args.line.now) (queue_of c.tell.new.line) c.with.result c.take_in.new.self.cycles c.take_in.ensures
          (c.with.ensures ∙ ap (λ xs. set xs (place_of c.in-Some.port) None) c.places-places.ensures) c.take_in.ensures.keeps.cycles (c.tell.ensures.put room);
    }
