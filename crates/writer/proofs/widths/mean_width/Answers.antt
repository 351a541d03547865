use Rattle.std.proofs.Common.{rules}
use Rattle.writer.proofs.Written.{length_mean}
use Rattle.writer.proofs.widths.mean_width.Goals as goal

pub returns-clause-exact : goal.returns-clause-exact
returns-clause-exact c = search (rules, length_mean)
