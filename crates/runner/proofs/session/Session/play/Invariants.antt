use Rattle.std.proofs.Common.{ℕ, List, []}
use Rattle.bounds.specs.declared.settings.Settings.{Settings}
use Rattle.calls.specs.Networks.{fabric_of, SameParts}
use Rattle.network.specs.Runs.{fresh}
use Rattle.writer.specs.Listings.{SameLender}
use Rattle.runner.specs.Progress.{Stands, coming, Left, SamePlaces}
use Rattle.runner.proofs.Turning.{Through}
use Rattle.runner.proofs.session.Session.play.Given as goal

abbrev pub invariant-loop-cycle : goal.invariant-loop-cycle
invariant-loop-cycle g l =
    record {
      through : (P : Settings) (M : List ℕ) → Stands (fabric_of g.L.Layout.plan g.S.Switch.turn l.initial.self.network) P M l.initial.self l.initial.writer fresh [] [] 0 →
          Through (fabric_of g.L.Layout.plan g.S.Switch.turn l.initial.self.network) P M (coming l.initial.planned) l.cycle (coming l.planned) l.self l.writer;
      left : Left l.cycle (coming l.planned);
      parts : SameParts l.initial.self.network l.self.network;
      lender : SameLender l.initial.writer l.writer;
      places : SamePlaces l.initial.planned l.planned;
    }
