use Rattle.std.proofs.Common.{refl, arith}
use Rattle.batch.specs.Items.{joined}
use Rattle.calls.proofs.Recording.{one_changed}
use Rattle.calls.proofs.tables.Tables.accept.Goals as goal

pub returns : goal.returns
returns c =
    record {
      keeps = record { settings = refl; cycles = refl; register = refl; slots = refl };
      its = c.new.result;
      packed = c.new.ensures;
      tickets = refl;
      waits = one_changed c.args.self.now.waits c.args.node c.push.new.self _ (λ xs. joined 8 xs c.args.ticket) (omega arith) c.push.ensures.held;
    }
