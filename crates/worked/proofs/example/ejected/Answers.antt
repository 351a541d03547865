use Rattle.std.proofs.Common.{refl}
use Rattle.worked.proofs.Small.{example, excluded}
use Rattle.worked.proofs.example.ejected.Goals as goal

pub returns : goal.returns
returns g = record { run = example; excluded = excluded; count = refl }
