use Rattle.std.proofs.Common.{◌≡◌, get_or, None, subst, arith}
use Rattle.cabled.specs.Tables.{next_at}
use Rattle.cabled.proofs.Nearest.{Found, start, round, levelled}
use Rattle.cabled.proofs.Plugs.{inside}
use Rattle.cabled.proofs.wiring.Wiring.levels.Goals as goal

pub loop-level-init : goal.loop-level-init
loop-level-init c = λ u l. start (next_at c.args.self.now.ends) c.args.to u (omega arith) (omega arith)

pub loop-level-preserved : goal.loop-level-preserved
loop-level-preserved c =
    let w = c.args.self.now in
    λ u l.
    round (next_at w.ends) c.args.to w.nodes w.fair.1 (inside w.nodes w.ends w.paired) (λ v. get_or c.loop-level.row v None) c.loop-level.level
    c.loop-level.invariant u (get_or c.round.new.row u None) l (c.round.ensures u l)

pub returns : goal.returns
returns c =
    let w = c.args.self.now in
    let next = next_at w.ends in
    let done : c.loop-level.level ≡ 63 = omega arith in
    levelled next c.args.to w.nodes w.fair.1 (inside w.nodes w.ends w.paired) (λ v. get_or c.loop-level.row v None)
    (λ u l. subst (λ k. Found next c.args.to k u (get_or c.loop-level.row u None)) done (c.loop-level.invariant u l))
