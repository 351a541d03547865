-- The hops of a lone flit under way, and its end.
use Rattle.std.proofs.Common.{◌≡◌, ℕ, ◌+◌, List, [], ◌++◌, length, None, subst, arith}
use Rattle.std.proofs.lemmas.List.{append-nil}
use Rattle.fabric.specs.Layouts.{Plan, Lawful}
use Rattle.fabric.proofs.Following.{settled}
use Rattle.bounds.specs.declared.path.Hop.{Hop}
use Rattle.bounds.specs.Ways.{Goes, Way}

-- the hops lead to a node: joined to any way on from there they are a way, and they have brought the flit nearer one by one
pub record Gone (p : Plan) (from to node : ℕ) (hops : List Hop) : Type 0 where
  pub way : (on : List Hop) → Goes p node to on → Goes p from to (hops ++ on)
  pub nearer : length hops + p.distance node to ≡ p.distance from to

pub arrived : (p : Plan) (l : Lawful p) (from to node : ℕ) (hops : List Hop) → Gone p from to node hops → p.wish node to ≡ None → Way p from to hops
arrived p l from to node hops gone e = record {
  goes = subst (Goes p from to) (append-nil hops) (gone.way [] e);
  long = omega (arith, gone.nearer, settled p l node to e);
}
