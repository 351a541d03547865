use Rattle.std.proofs.Common.{◌≡◌, ◌-◌, ◌∷◌, get_or, sym, ap, ◌∙◌, rules, arith}
use Rattle.line.specs.Queues.{contents, place}
use Rattle.line.specs.Runs.Use.{takes}
use Rattle.line.specs.Lines.{queue_of}
use Rattle.line.proofs.Contents.{take_contents}
use Rattle.line.proofs.Orders.{continues}
use Rattle.line.proofs.ring.Line.take.Goals as goal

pub returns-clause-contents : goal.returns-clause-contents
returns-clause-contents g c =
    let s = c.args.self.now in
    let q = queue_of s in
    let x = c.index-self-self.result in
    let p : c.place-self.result ≡ place q 1 = omega arith in
    take_contents q s.sound x (omega arith) ∙ ap (λ i. get_or q.memory q.first x ∷ contents (record { memory = q.memory; first = i; held = q.held - 1 })) (sym p)

pub returns-then-self-eq0-clause-runs : goal.returns-then-self-eq0-clause-runs
returns-then-self-eq0-clause-runs g c = continues (queue_of c.args.self.now) takes _ (search rules)

pub returns-clause-runs : goal.returns-clause-runs
returns-clause-runs g c = continues (queue_of c.args.self.now) takes _ (search rules)
