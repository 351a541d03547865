use Rattle.std.proofs.Common.{◌≡◌, ◌+◌, set, ap, ◌∙◌, rules, arith}
use Rattle.line.specs.Queues.{contents, place}
use Rattle.line.specs.Runs.Use.{puts}
use Rattle.line.specs.Lines.{queue_of}
use Rattle.line.proofs.Contents.{put_contents}
use Rattle.line.proofs.Orders.{continues}
use Rattle.line.proofs.ring.Line.put.Goals as goal

pub returns-clause-contents : goal.returns-clause-contents
returns-clause-contents g c =
    let q = queue_of c.args.self.now in
    let p : c.place-next.result ≡ place q q.held = omega arith in
    ap (λ i. contents (record { memory = set q.memory i c.args.x; first = q.first; held = q.held + 1 })) p
    ∙ put_contents q c.args.self.now.sound c.args.x (omega arith)

pub returns-then-self-clause-runs : goal.returns-then-self-clause-runs
returns-then-self-clause-runs g c = continues (queue_of c.args.self.now) (puts c.args.x) _ (search rules)

pub returns-clause-runs : goal.returns-clause-runs
returns-clause-runs g c = continues (queue_of c.args.self.now) (puts c.args.x) _ (search rules)
