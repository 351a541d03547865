use Rattle.cabled.proofs.Plugs.{paired_none}
use Rattle.cabled.proofs.wiring.Wiring.bare.Goals as goal

pub invariant_of-result-clause-paired : goal.invariant_of-result-clause-paired
invariant_of-result-clause-paired c = paired_none c.args.nodes c.requires.1
