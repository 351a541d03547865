use Rattle.std.proofs.Common.{◌∙◌, ap₂}
use Rattle.switch.specs.declared.chipper.Block.TheVariants.{Entry}
use Rattle.switch.specs.Switches.{handed}
use Rattle.switch.specs.Chippers.{draw, passed}
use Rattle.switch.proofs.Blocks.{wired}
use Rattle.switch.proofs.chipper.ChipperSwitch.route.Goals as goal

pub returns-clause-value : goal.returns-clause-value
returns-clause-value c =
    let h = handed c.args.places c.args.wishes c.args.golden c.args.draws in
    wired h c.pass.result c.pass-2.result c.pass-3.result c.pass-4.result
    (c.pass.ensures.value ∙ ap₂ (passed Entry (draw h 0)) c.new-n.ensures c.new-e.ensures)
    (c.pass-2.ensures.value ∙ ap₂ (passed Entry (draw h 1)) c.new-s.ensures c.new-w.ensures)
    c.pass-3.ensures.value c.pass-4.ensures.value
