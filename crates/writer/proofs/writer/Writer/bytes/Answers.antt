use Rattle.std.proofs.Common.{[], ◌∷◌, get_or, take, sym, subst, arith}
use Rattle.std.proofs.lemmas.List.{take_more, take_all, length-take-le}
use Rattle.writer.specs.Steps.{Puts}
use Rattle.writer.proofs.Written.{puts_both}
use Rattle.writer.proofs.writer.Writer.bytes.Goals as goal

pub byte-requires : goal.byte-requires
byte-requires c = omega (arith, c.requires, c.loop-b-test.true, c.loop-b.invariant.room, length-take-le c.loop-b.b-index c.args.s.now (omega arith))

pub loop-b-preserved : goal.loop-b-preserved
loop-b-preserved c =
    let s = c.args.s.now in
    let i = c.loop-b.b-index in
    subst (λ x. Puts c.args.self.now x c.byte.new.self) (sym (take_more s i 0 c.loop-b-test.true))
    (puts_both c.args.self.now c.loop-b.self c.byte.new.self (take i s) (get_or s i 0 ∷ []) c.loop-b.invariant c.byte.ensures)

pub returns : goal.returns
returns c = subst (λ x. Puts c.args.self.now x c.loop-b.self) (take_all c.loop-b.b-index c.args.s.now c.loop-b-test.false) c.loop-b.invariant
