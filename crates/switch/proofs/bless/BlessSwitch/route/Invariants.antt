use Rattle.std.proofs.Common.{◌≡◌}
use Rattle.switch.proofs.Serving.{Going}
use Rattle.switch.proofs.bless.BlessSwitch.route.Given as goal

abbrev pub invariant-loop : goal.invariant-loop
invariant-loop l = record {
  places : l.round.places ≡ l.places;
  golden : l.round.golden ≡ l.fn.golden;
  going : Going l.fn.golden l.places l.wishes l.counter l.out l.round.waiting l.free;
}
