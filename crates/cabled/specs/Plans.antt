-- The plan of a cabled layout, which keeps the laws of layouts.
use Rattle.fabric.specs.Layouts.{Plan, Lawful}
use Rattle.cabled.specs.declared.cabled.Cabled.{Cabled}
use Rattle.cabled.specs.Tables.{cabled_plan}
use Rattle.cabled.specs.Laws.{lawful}

abbrev pub plan_of : Cabled → Plan
plan_of c = cabled_plan c.wiring.nodes c.wiring.ends c.spans.distances c.spans.reach

pub lawful_of : (c : Cabled) → Lawful (plan_of c)
lawful_of c = lawful c.wiring.nodes c.wiring.ends c.spans.distances c.spans.reach c.wiring.paired c.nearing (c.wiring.fair.0, c.wiring.fair.1, c.spans.near) c.within
