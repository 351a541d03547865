use Rattle.std.proofs.Common.{ℕ, refl, ap}
use Rattle.fabric.specs.Refusals.{number}
use Rattle.cabled.specs.Plans.{lawful_of}
use Rattle.text.specs.declared.fault.Layer.TheVariants.{Layout}
use Rattle.laying.specs.Reports.Report.{faults}
use Rattle.laying.proofs.Laying.{as_plans, refused_alone, named_below}
use Rattle.laying.proofs.lay_cables.Goals as goal

pub line_of-requires : goal.line_of-requires
line_of-requires c = named_below c.in-Err.ensures

pub returns-in-Ok-clause-laid : goal.returns-in-Ok-clause-laid
returns-in-Ok-clause-laid c = (_, lawful_of c.cable.new.self, _, as_plans _ c.new-layout.ensures.plan c.in-Ok.ensures, refl)

pub returns-in-Err-clause-laid : goal.returns-in-Err-clause-laid
returns-in-Err-clause-laid c = (
  _,
  lawful_of c.cable.new.self,
  _,
  as_plans _ c.new-layout.ensures.plan c.in-Err.ensures,
  ap (λ (k : ℕ). faults (number c.in-Err.refusal, Layout, k)) c.line_of.ensures,
)

pub returns-in-Err-clause-named : goal.returns-in-Err-clause-named
returns-in-Err-clause-named c = refused_alone c.in-Err.ensures
