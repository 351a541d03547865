use Rattle.std.proofs.Common.{◌+◌, ◌∷◌, get_or, take, decimal, subst, arith}
use Rattle.text.specs.Texts.{figures}
use Rattle.writer.specs.Steps.{Puts}
use Rattle.writer.proofs.Written.{puts_both, figures_step, length_after_spaces, taken_more, taken_first}
use Rattle.writer.proofs.writer.Writer.all.Goals as goal

pub next-requires : goal.next-requires
next-requires c =
    let ns = c.args.ns.now in
    let i = c.loop-n.n-index in
    omega (arith, c.requires, c.loop-n.invariant.room, length_after_spaces (figures (take i ns)), taken_more ns i c.loop-n-test.true, taken_first ns (i + 1))

pub loop-n-preserved : goal.loop-n-preserved
loop-n-preserved c =
    let ns = c.args.ns.now in
    let i = c.loop-n.n-index in
    subst (λ x. Puts c.args.self.now x c.next.new.self) (figures_step ns i c.loop-n-test.true)
    (puts_both c.args.self.now c.loop-n.self c.next.new.self _ (32 ∷ decimal (get_or ns i 0)) c.loop-n.invariant c.next.ensures)
