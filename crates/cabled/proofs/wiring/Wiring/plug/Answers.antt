use Rattle.std.proofs.Common.{rules}
use Rattle.cabled.proofs.Plugs.{paired_more}
use Rattle.cabled.proofs.wiring.Wiring.plug.Goals as goal

pub invariant_of-self-clause-paired : goal.invariant_of-self-clause-paired
invariant_of-self-clause-paired c =
    let w = c.args.self.now in
    let at_one = c.number.ensures.here (search rules) in
    let at_other = c.number-2.ensures.here (search rules) in
    rw (at_one.0, at_other.0) (paired_more w.nodes w.fair.1 c.args.cable w.ends (search rules) c.requires w.paired)
