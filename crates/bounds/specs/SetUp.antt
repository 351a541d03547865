-- The settings that set-up accepts.
use Rattle.std.specs.Prelude.{ℕ, ◌+◌, ◌*◌, ◌||◌, [], ◌∷◌, ◌==◌, nat_lt}
use Rattle.fabric.specs.Layouts.{Plan}
use Rattle.fabric.specs.Verdicts.{Verdict, judged}
use Rattle.bounds.specs.declared.settings.Settings.{Settings}

-- all tickets of the network: own ticket o of node n has the number n * tickets + o
abbrev pub all_tickets : Plan → Settings → ℕ
all_tickets p s = p.nodes * s.tickets

-- time enough for the words of a packet to come in one after another from the farthest node
abbrev pub shortest_epoch : Plan → Settings → ℕ
shortest_epoch p s = s.words * (p.reach + 1)

-- 1: 1 to 8 tickets a node, and 1 to 4 words a packet; 2: the epoch from its shortest to 4,096 cycles; 3: a seed of 16 bits, not 0
abbrev pub set_up_verdict : Plan → Settings → Verdict (Unit {0})
set_up_verdict p s =
    judged
    ((1, nat_lt s.tickets 1 || nat_lt 8 s.tickets || nat_lt s.words 1 || nat_lt 4 s.words)
    ∷ (2, nat_lt s.epoch (shortest_epoch p s) || nat_lt 4096 s.epoch)
    ∷ (3, (s.seed == 0) || nat_lt 65535 s.seed)
    ∷ [])
    tt
