use Rattle.std.proofs.Common.{[], ◌∷◌, sym, subst}
use Rattle.writer.specs.Listings.{mean_word}
use Rattle.writer.specs.Steps.{Puts}
use Rattle.writer.proofs.Written.{puts_both}
use Rattle.writer.proofs.writer.Writer.mean.Goals as goal

pub returns-in-Some : goal.returns-in-Some
returns-in-Some c =
    subst (λ m. Puts c.args.self.now (32 ∷ mean_word m) c.number.new.self) (sym c.in-Some.is)
    (puts_both c.args.self.now c.byte.new.self c.number.new.self _ _
    (puts_both c.args.self.now c.next.new.self c.byte.new.self _ (46 ∷ []) c.next.ensures c.byte.ensures)
    c.number.ensures)
