use Rattle.std.proofs.Common.{ap, sym, take, ◌∙◌, ◌-◌, arith}
use Rattle.batch.proofs.Fronts.{front_leaves, some_held}
use Rattle.batch.proofs.batch.Batch.remove_first.Goals as goal

pub returns-clause-held : goal.returns-clause-held
returns-clause-held g c = ap (take (c.args.self.now.held - 1)) c.rotate_left.ensures.after ∙ front_leaves c.args.self.now.places c.args.self.now.held (some_held c.args.self.now.places _ _ (sym c.first.ensures ∙ c.in_ok-first.was)) (omega arith)
