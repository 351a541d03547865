use Rattle.std.proofs.Common.{sym, ◌∙◌}
use Rattle.text.proofs.Parting.{left_some}
use Rattle.text.proofs.field.Fields.end.Goals as goal

pub returns-then-is_some : goal.returns-then-is_some
returns-then-is_some c = (c.fault.ensures, left_some c.args.self.now.rest (sym c.is_some.ensures ∙ c.if-is_some.true))
