use Rattle.std.proofs.Common.{◌+◌, sym, subst, lt_of_not-le, arith}
use Rattle.text.specs.Texts.{figures}
use Rattle.writer.specs.Steps.{bytes_taken, Leaves}
use Rattle.writer.proofs.Written.{taken_more, taken_first}
use Rattle.writer.proofs.widths.after_numbers.Goals as goal

pub returns-in_err-left : goal.returns-in_err-left
returns-in_err-left c =
    let ns = c.args.numbers.now in
    let i = c.loop-n.n-index in
    subst (Leaves c.args.room (bytes_taken (figures ns))) (sym c.from_residual.ensures)
    (omega (arith, lt_of_not-le c.in_err-left.ensures, c.loop-n.invariant, c.digits.ensures.exact, taken_more ns i c.loop-n-test.true, taken_first ns (i + 1)))

pub loop-n-preserved : goal.loop-n-preserved
loop-n-preserved c =
    omega (arith, c.loop-n.invariant, c.digits.ensures.exact, c.in_ok-left.ensures, taken_more c.args.numbers.now c.loop-n.n-index c.loop-n-test.true)
