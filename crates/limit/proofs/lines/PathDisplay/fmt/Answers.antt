use Rattle.std.proofs.Common.{◌++◌, ◌∷◌, List, ℕ, take_all, decimal, codes, rules, ap, ◌∙◌}
use Rattle.std.proofs.lemmas.Grind.{put_two}
use Rattle.bounds.specs.declared.path.Hop.{Hop}
use Rattle.limit.proofs.Printing.{steps, one_more, at_end}
use Rattle.limit.proofs.lines.PathDisplay.fmt.Goals as goal

pub loop-hop-init : goal.loop-hop-init
loop-hop-init g c = search rules

pub loop-hop-preserved : goal.loop-hop-preserved
loop-hop-preserved g c = λ plain.
    let i = c.loop-hop.hop-index in
    let hops = c.args.self.now.hops.now in
    let so_far = c.loop-hop.invariant plain in
    put_two _ _ _ _ _ _ _ so_far (c.in_ok-write.ensures.writes so_far.plain (search rules)) (ap (λ (bs : List ℕ). codes "path" ++ bs) (one_more hops i _ c.loop-hop-test.true))

pub returns-clause-writes : goal.returns-clause-writes
returns-clause-writes g c = λ plain ok.
    let i = c.loop-hop.hop-index in
    let hops = c.args.self.now.hops.now in
    let so_far = c.loop-hop.invariant plain in
    put_two _ _ _ _ _ _ _ so_far (c.write-2.ensures.writes so_far.plain ok)
    (ap (λ (bs : List ℕ). codes "path" ++ bs) (ap (λ (hs : List Hop). steps hs ++ 32 ∷ decimal c.args.self.now.to) (take_all i hops c.loop-hop-test.false) ∙ at_end hops c.args.self.now.to))
