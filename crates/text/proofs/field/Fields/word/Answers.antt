use Rattle.std.proofs.Common.{ap, ◌∙◌}
use Rattle.text.specs.Fields.{left}
use Rattle.text.proofs.Parting.{parted_get}
use Rattle.text.proofs.field.Fields.word.Goals as goal

pub returns-clause-words : goal.returns-clause-words
returns-clause-words c =
    ap left c.in_ok-rest.ensures.ok_part ∙ parted_get c.in_ok-rest.rest.now c.find.result c.unwrap_or-end.result c.get-self.result c.find.ensures c.unwrap_or-end.ensures c.get-self.ensures.lookup
