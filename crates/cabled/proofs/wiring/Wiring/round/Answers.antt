use Rattle.std.proofs.Common.{◌≡◌, ℕ, ◌+◌, List, Option, length, get_or, None, sym, ◌∙◌, subst, rules, arith}
use Rattle.std.proofs.lemmas.List.{length-set}
use Rattle.cabled.specs.Tables.{next_at}
use Rattle.cabled.proofs.InPlace.{Midway, one_raised, one_kept}
use Rattle.cabled.proofs.wiring.Wiring.round.Goals as goal
use Rattle.cabled.proofs.wiring.Wiring.round.Goals.{then-is_none, else-is_none}

pub loop-node-preserved : goal.loop-node-preserved
loop-node-preserved c =
    let next = next_at c.args.self.now.ends in
    let f : ℕ → Option ℕ = λ v. get_or c.args.row.now v None in
    let n = c.loop-node.node in
    let row = c.loop-node.row in
    let i = c.loop-node.invariant in
    elim c.if-is_none.branch [
      | then-is_none w ↦
          subst (λ (r : List (Option ℕ)). (length r ≡ 64) × Midway next f c.args.level (n + 1) r) (sym w.row-is)
          (length-set row n w.raised.result ∙ i.0, one_raised next f c.args.level n row i.1 w.raised.result (omega arith) w.raised.ensures)
      | else-is_none w ↦
          subst (λ (r : List (Option ℕ)). (length r ≡ 64) × Midway next f c.args.level (n + 1) r) (sym w.row-is)
          (i.0, one_kept next f c.args.level n row i.1 (search rules))
    ]
