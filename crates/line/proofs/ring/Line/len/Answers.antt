use Rattle.std.proofs.Common.{sym}
use Rattle.line.specs.Lines.{queue_of}
use Rattle.line.proofs.Contents.{in_turn}
use Rattle.line.proofs.ring.Line.len.Goals as goal

pub returns-clause-count : goal.returns-clause-count
returns-clause-count g c = sym (in_turn (queue_of c.args.self.now) c.args.self.now.sound).count

pub returns-clause-places : goal.returns-clause-places
returns-clause-places g c = in_turn (queue_of c.args.self.now) c.args.self.now.sound
