use Rattle.std.proofs.Common.{◌+◌, length, sym, refl, ap, ◌∙◌, arith}
use Rattle.std.proofs.lemmas.List.{length-set, length-drop, drop-drop, take_more_set, drop-set-lt}
use Rattle.writer.proofs.Written.{at_room}
use Rattle.writer.proofs.writer.Writer.byte.Goals as goal

pub bounds-self-self : goal.bounds-self-self
bounds-self-self c = at_room c.args.self.now c.requires

pub invariant_of-self : goal.invariant_of-self
invariant_of-self c = record { fits = omega (arith, at_room c.args.self.now c.requires, length-set c.args.self.now.memory.now c.args.self.now.len c.args.b) }

pub returns : goal.returns
returns c =
    let m = c.args.self.now.memory.now in
    let n = c.args.self.now.len in
    let gone = drop-set-lt (n + 1) m n c.args.b (omega arith) in
    record {
      appends = record {
        listed = take_more_set m n c.args.b (at_room c.args.self.now c.requires);
        beyond = gone ∙ sym (drop-drop 1 n m);
      };
      lender = refl;
      room = omega (arith, ap length gone, length-drop n m, length-drop (n + 1) m, c.requires);
    }
