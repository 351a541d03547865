use Rattle.std.proofs.Common.{sym, refl}
use Rattle.line.specs.Lines.{queue_of}
use Rattle.calls.proofs.Lets.{let_full, let_none, let_some}
use Rattle.calls.proofs.tables.Tables.enter.Goals as goal

pub returns-in_default-clause-enters : goal.returns-in_default-clause-enters
returns-in_default-clause-enters c =
    let i = c.args.self.now in
    record {
      keeps = record { settings = refl; cycles = refl; register = refl; slots = refl };
      lets = λ F s l law led h own b pl room. let_full F i s l c.args.node law led h own b c.args.places pl (queue_of c.args.line.now) (sym c.in_default.ensures);
    }

pub returns-in_default-let_in-clause-enters : goal.returns-in_default-let_in-clause-enters
returns-in_default-let_in-clause-enters c =
    let i = c.args.self.now in
    record {
      keeps = c.let_in.ensures.keeps;
      lets = λ F s l law led h own b pl room.
          let_none F i s l c.args.node law led h own b c.args.places pl c.in-Some.port (sym c.in-Some.ensures) c.let_in.new.self c.let_in.result c.let_in.ensures (queue_of c.args.line.now) c.in_default-let_in.is;
    }

pub returns-clause-enters : goal.returns-clause-enters
returns-clause-enters c =
    let i = c.args.self.now in
    record {
      keeps = c.let_in.ensures.keeps;
      lets = λ F s l law led h own b pl room.
          let_some F i s l c.args.node law led h own b c.args.places pl c.in-Some.port (sym c.in-Some.ensures) c.let_in.new.self c.let_in.result c.let_in.ensures
          c.in-Some-let_in.flit c.in-Some-let_in.is (queue_of c.args.line.now) (queue_of c.tell.new.line) c.with.result c.let_in.new.self.cycles c.with.ensures c.let_in.ensures.keeps.cycles (c.tell.ensures.put room);
    }
