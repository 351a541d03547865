-- A block keeps its law, and what four blocks do to four lanes is the chipper's turn.
use Rattle.std.proofs.Common.{◌≡◌, Bool, true, false, cond, [], ◌∷◌, Option, refl, ◌∙◌, arith}
use Rattle.std.proofs.lemmas.Grind.{common_steps}
use Rattle.fabric.specs.declared.parts.Port.{Port}
use Rattle.fabric.specs.declared.parts.Port.TheVariants.{N, E, S, W}
use Rattle.switch.specs.declared.rank.Rank.{Rank}
use Rattle.switch.specs.declared.chipper.Lane.{Lane}
use Rattle.switch.specs.declared.chipper.Block.{Block}
use Rattle.switch.specs.declared.chipper.Block.TheVariants.{Entry, NorthSouth, EastWest}
use Rattle.switch.specs.Ranks.{gives_way}
use Rattle.switch.specs.Switches.{Handing, turned}
use Rattle.switch.specs.Chippers.{then, by_first, by_second, FirstWins, BlockLaw, draw, passed, crossed, lane, entry_turn, exit_turn, halfway, chipper_turn}

first_stays : (d : Bool) (a b : Option Rank) → FirstWins d a b → gives_way a b d ≡ false
first_stays d a b w = grind (arith, common_steps)

second_passes : (d : Bool) (a b : Option Rank) → (FirstWins d a b → ⊥) → gives_way a b d ≡ true
second_passes d a b w = grind (arith, common_steps)

-- no port is led to by both outputs
one_output : (b : Block) (p : Port) → by_first b p ≡ true → by_second b p ≡ false
one_output b p e = grind (arith, common_steps)

pub block_lawful : (b : Block) (d : Bool) (i j : Lane) (out : Lane × Lane) → out ≡ passed b d i j → BlockLaw b d i j out
block_lawful b d i j out o = record {
  first_wins = λ w. let g = first_stays d i.rank j.rank w in grind (arith, common_steps, one_output);
  second_wins = λ w. let g = second_passes d i.rank j.rank w in grind (arith, common_steps, one_output);
}

module _ (h : Handing) where
  -- what a block lets out, by the slots that it came from
  sent : (x : Bool) (i j : Port) → ◌≡◌ {A = Lane × Lane} (cond x (lane h j, lane h i) (lane h i, lane h j)) (lane h (cond x j i), lane h (cond x i j))
  sent true i j = refl
  sent false i j = refl

  joined : (a b c d : Bool) → let from : Port → Port = (entry_turn a b).from in
      ((lane h (cond c (from S) (from N))).flit ∷ (lane h (cond d (from W) (from E))).flit
      ∷ (lane h (cond c (from N) (from S))).flit ∷ (lane h (cond d (from E) (from W))).flit ∷ [])
      ≡ turned (then (entry_turn a b) (exit_turn c d)) h.places
  joined a b true true = refl
  joined a b true false = refl
  joined a b false true = refl
  joined a b false false = refl

  pub wired : (a b c d : Lane × Lane)
      → a ≡ passed Entry (draw h 0) (lane h N) (lane h E)
      → b ≡ passed Entry (draw h 1) (lane h S) (lane h W)
      → c ≡ passed NorthSouth (draw h 2) a.0 b.0
      → d ≡ passed EastWest (draw h 3) a.1 b.1
      → (c.0.flit ∷ d.0.flit ∷ c.1.flit ∷ d.1.flit ∷ []) ≡ turned (chipper_turn h) h.places
  wired a b c d ea eb ec ed =
      let a' = ea ∙ sent _ N E in
      let b' = eb ∙ sent _ S W in
      let c' = (rw (a', b') at ec) ∙ sent _ ((halfway h).from N) ((halfway h).from S) in
      let d' = (rw (a', b') at ed) ∙ sent _ ((halfway h).from E) ((halfway h).from W) in
      rw (c', d')
      (joined (crossed h Entry 0 N E) (crossed h Entry 1 S W) (crossed h NorthSouth 2 ((halfway h).from N) ((halfway h).from S))
      (crossed h EastWest 3 ((halfway h).from E) ((halfway h).from W)))
