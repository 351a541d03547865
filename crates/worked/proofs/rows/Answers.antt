use Rattle.std.proofs.Common.{rules}
use Rattle.worked.proofs.Cut.{right}
use Rattle.worked.proofs.rows.Goals as goal

pub returns-clause-right : goal.returns-clause-right
returns-clause-right c = (right, search rules)
