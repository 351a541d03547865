-- How late a word can be.
use Rattle.std.specs.Prelude.{◌≡◌, ℕ, ◌+◌, ◌*◌, ◌≤◌}
use Rattle.fabric.specs.Layouts.{Plan}
use Rattle.bounds.specs.declared.settings.Settings.{Settings}
use Rattle.bounds.specs.declared.limits.Limits.{Limits}
use Rattle.fabric.specs.Verdicts.Verdict.{granted}
use Rattle.bounds.specs.SetUp.{all_tickets, shortest_epoch, set_up_verdict}

-- an epoch of each ticket, and the rest of the one that has begun
abbrev pub latest : Plan → Settings → ℕ
latest p s = (all_tickets p s + 1) * s.epoch

abbrev pub limits_of : Plan → Settings → Limits
limits_of p s = record {
  nodes = p.nodes;
  reach = p.reach;
  tickets = all_tickets p s;
  epoch = shortest_epoch p s;
  latest = latest p s;
}

abbrev pub with_epoch : Settings → ℕ → Settings
with_epoch s k = record { tickets = s.tickets; words = s.words; epoch = k; seed = s.seed }

-- the smallest epoch that set-up accepts beside the other settings
pub record Shortest (p : Plan) (s : Settings) (k : ℕ) : Type 0 where
  pub accepted : set_up_verdict p (with_epoch s k) ≡ granted tt
  pub least : (j : ℕ) → set_up_verdict p (with_epoch s j) ≡ granted tt → k ≤ j
