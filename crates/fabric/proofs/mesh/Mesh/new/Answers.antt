use Rattle.std.proofs.Common.{arith}
use Rattle.fabric.specs.Grid.{sides}
use Rattle.fabric.proofs.Refused.{unfair}
use Rattle.fabric.proofs.mesh.Mesh.new.Goals as goal

pub returns-in_default : goal.returns-in_default
returns-in_default c = unfair c.args.width c.args.height (λ f. omega (arith, sides c.args.width c.args.height f.0 f.1, c.in_default.ensures))
