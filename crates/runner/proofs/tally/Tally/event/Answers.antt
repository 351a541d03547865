use Rattle.runner.proofs.Telling.{as_line, one_told}
use Rattle.runner.proofs.tally.Tally.event.Goals as goal

pub returns-clause-told : goal.returns-clause-told
returns-clause-told c =
    let e = c.event.ensures in
    one_told c.args.event c.event.result c.requires.tellable c.count.ensures
    (as_line c.args.event c.word.ensures c.from.ensures c.from-2.ensures c.from-3.ensures e.line)
