-- Which of two flits goes ahead.
use Rattle.std.specs.Prelude.{ℕ, ◌<◌, Bool, true, false, cond, Some, None, Option, ◌==◌, nat_lt}
use Rattle.fabric.specs.declared.parts.Flit.{Flit}
use Rattle.switch.specs.declared.rank.Rank.{Rank}
use Rattle.switch.specs.declared.rank.Rank.TheVariants.{Golden, Ordinary}

-- a flit's rank, under a golden ticket
abbrev pub rank_of : ℕ → Flit → Rank
rank_of golden f = cond (f.ticket == golden) (Golden f.number) Ordinary

-- the rank at a place, if a flit stands there
abbrev pub rank_at : ℕ → Option Flit → Option Rank
rank_at golden None = None
rank_at golden (Some f) = Some (rank_of golden f)

-- golden goes ahead of ordinary, and of two golden ones the lower number
abbrev pub Outranks : Rank → Rank → Type 0
Outranks (Golden m) (Golden n) = m < n
Outranks (Golden m) Ordinary = Unit {0}
Outranks Ordinary a = ⊥

-- whether the first gives way to the second: never to nothing, and to an equal only where both are ordinary and `tie` says so
abbrev pub gives_way : Option Rank → Option Rank → Bool → Bool
gives_way a None tie = false
gives_way None (Some b) tie = true
gives_way (Some (Golden m)) (Some (Golden n)) tie = nat_lt n m
gives_way (Some (Golden m)) (Some Ordinary) tie = false
gives_way (Some Ordinary) (Some (Golden n)) tie = true
gives_way (Some Ordinary) (Some Ordinary) tie = tie
