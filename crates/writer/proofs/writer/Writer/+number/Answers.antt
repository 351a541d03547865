use Rattle.std.proofs.Common.{◌+◌, ◌/◌, ◌%◌, [], ◌∷◌, decimal, sym, subst, arith, rules}
use Rattle.std.proofs.lemmas.Fmt.{decimal_step, decimal_digit}
use Rattle.writer.specs.Steps.{Puts}
use Rattle.writer.proofs.Written.{puts_both, length_step, length_digit}
use Rattle.writer.proofs.writer.Writer.+number.Goals as goal

pub number-requires : goal.number-requires
number-requires t c = (search rules, omega (arith, c.requires, length_step c.args.n c.if-n-lt10.false c.ranges.n.fits))

pub byte-requires : goal.byte-requires
byte-requires t c = omega (arith, c.requires, length_digit c.args.n c.if-n-lt10.true)

pub byte-requires-else-n-lt10 : goal.byte-requires-else-n-lt10
byte-requires-else-n-lt10 t c = omega (arith, c.requires, length_step c.args.n c.if-n-lt10.false c.ranges.n.fits, c.number.ensures.room)

pub returns-then-n-lt10 : goal.returns-then-n-lt10
returns-then-n-lt10 t c =
    subst (λ x. Puts c.args.self.now x c.byte.new.self) (sym (decimal_digit c.args.n c.if-n-lt10.true)) c.byte.ensures

pub returns-else-n-lt10 : goal.returns-else-n-lt10
returns-else-n-lt10 t c =
    subst (λ x. Puts c.args.self.now x c.byte-else-n-lt10.new.self) (sym (decimal_step c.args.n c.if-n-lt10.false (omega (arith, c.ranges.n.fits))))
    (puts_both c.args.self.now c.number.new.self c.byte-else-n-lt10.new.self (decimal (c.args.n / 10)) ((48 + c.args.n % 10) ∷ []) c.number.ensures c.byte-else-n-lt10.ensures)
