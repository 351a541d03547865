-- The chipper switch: four blocks of two inputs and two outputs, each of which lets two lanes pass straight or crossed.
use Rattle.std.specs.Prelude.{◌≡◌, ℕ, Bool, true, false, cond, not, ◌||◌, ◌⊎◌, List, [], ◌∷◌, Some, None, Option, slice_index_or, refl}
use Rattle.std.proofs.Common.{◌∙◌, ap}
use Rattle.fabric.specs.declared.parts.Port.{Port}
use Rattle.fabric.specs.declared.parts.Port.TheVariants.{N, E, S, W}
use Rattle.fabric.specs.declared.parts.Flit.{Flit}
use Rattle.fabric.specs.Ports.{same}
use Rattle.switch.specs.declared.rank.Rank.{Rank}
use Rattle.switch.specs.declared.rank.Rank.TheVariants.{Ordinary}
use Rattle.switch.specs.declared.chipper.Lane.{Lane}
use Rattle.switch.specs.declared.chipper.Block.{Block}
use Rattle.switch.specs.declared.chipper.Block.TheVariants.{Entry, NorthSouth, EastWest}
use Rattle.switch.specs.Ranks.{rank_at, Outranks, gives_way}
use Rattle.switch.specs.Switches.{Handing, Turn, at}

-- the ports to which a block's first output leads, and those of the second
abbrev pub outputs : Block → List Port × List Port
outputs Entry = (N ∷ S ∷ [], E ∷ W ∷ [])
outputs NorthSouth = (N ∷ [], S ∷ [])
outputs EastWest = (E ∷ [], W ∷ [])

abbrev pub among : List Port → Port → Bool
among [] p = false
among (x ∷ xs) p = same p x || among xs p

abbrev pub by_first : Block → Port → Bool
by_first b p = among (outputs b).0 p

abbrev pub by_second : Block → Port → Bool
by_second b p = among (outputs b).1 p

-- The law of a block, over ranks.

-- When the first input wins: a flit alone does, and of two the one that outranks the other. Of two golden flits of one number the first does,
-- and of two ordinary ones if the draw bit is 0. Of two empty lanes the first counts as the winner. Otherwise the second input wins.
abbrev pub FirstWins : Bool → Option Rank → Option Rank → Type 0
FirstWins draw a None = Unit {0}
FirstWins draw None (Some b) = ⊥
FirstWins draw (Some a) (Some b) = Outranks a b ⊎ ((a ≡ b) × (a ≡ Ordinary → draw ≡ false))

-- the winner takes the output that leads to its wish, or the first if none does, and the loser the other
pub record LetOut (b : Block) (winner loser : Lane) (out : Lane × Lane) : Type 0 where
  pub first : (w : Port) → winner.wish ≡ Some w → by_first b w ≡ true → out ≡ (winner, loser)
  pub second : (w : Port) → winner.wish ≡ Some w → by_second b w ≡ true → out ≡ (loser, winner)
  pub neither : ((w : Port) → winner.wish ≡ Some w → (by_first b w ≡ false) × (by_second b w ≡ false)) → out ≡ (winner, loser)

pub record BlockLaw (b : Block) (draw : Bool) (first second : Lane) (out : Lane × Lane) : Type 0 where
  pub first_wins : FirstWins draw first.rank second.rank → LetOut b first second out
  pub second_wins : (FirstWins draw first.rank second.rank → ⊥) → LetOut b second first out

-- The law of the switch.

abbrev pub lane_of : ℕ → Option Flit → Option Port → Lane
lane_of golden place wish = record { flit = place; rank = rank_at golden place; wish = wish }

-- what a slot puts on its wire
abbrev pub lane : Handing → Port → Lane
lane h s = lane_of h.golden (at h.places s) (at h.wishes s)

-- the draw bit of a block, counted from 0
abbrev pub draw : Handing → ℕ → Bool
draw h i = slice_index_or h.draws i false

-- Block 1 takes slots N and E, block 2 takes S and W. The first outputs of both lead to block 3, the second to block 4,
-- block 1's on the first input. Block 3 drives N, then S; block 4 drives E, then W.
pub record ChipperLaw (h : Handing) (out : List (Option Flit)) : Type 0 where
  pub out_1 : Lane × Lane
  pub out_2 : Lane × Lane
  pub out_3 : Lane × Lane
  pub out_4 : Lane × Lane
  pub block_1 : BlockLaw Entry (draw h 0) (lane h N) (lane h E) out_1
  pub block_2 : BlockLaw Entry (draw h 1) (lane h S) (lane h W) out_2
  pub block_3 : BlockLaw NorthSouth (draw h 2) out_1.0 out_2.0 out_3
  pub block_4 : BlockLaw EastWest (draw h 3) out_1.1 out_2.1 out_4
  pub ports : out ≡ out_3.0.flit ∷ out_4.0.flit ∷ out_3.1.flit ∷ out_4.1.flit ∷ []

-- The turn, which keeps the law.

-- a winner takes the second output if that leads to its wish, else the first
abbrev pub wants_second : Block → Option Port → Bool
wants_second b None = false
wants_second b (Some w) = by_second b w

-- whether the two inputs of a block cross
abbrev pub crossing : Block → Bool → Lane → Lane → Bool
crossing b draw first second =
    cond (gives_way first.rank second.rank draw) (not (wants_second b second.wish)) (wants_second b first.wish)

abbrev pub passed : Block → Bool → Lane → Lane → Lane × Lane
passed b draw first second = cond (crossing b draw first second) (second, first) (first, second)

-- the first two blocks: N with E, and S with W, each crossed or straight
abbrev pub enters : Bool → Bool → Port → Port
enters a b N = cond a E N
enters a b E = cond a N E
enters a b S = cond b W S
enters a b W = cond b S W

-- the last two: N with S, and E with W
abbrev pub leaves : Bool → Bool → Port → Port
leaves a b N = cond a S N
leaves a b E = cond b W E
leaves a b S = cond a N S
leaves a b W = cond b E W

-- crossed twice is straight
pub enters_twice : (a b : Bool) (p : Port) → enters a b (enters a b p) ≡ p
enters_twice true b N = refl
enters_twice false b N = refl
enters_twice true b E = refl
enters_twice false b E = refl
enters_twice a true S = refl
enters_twice a false S = refl
enters_twice a true W = refl
enters_twice a false W = refl

pub leaves_twice : (a b : Bool) (p : Port) → leaves a b (leaves a b p) ≡ p
leaves_twice true b N = refl
leaves_twice false b N = refl
leaves_twice a true E = refl
leaves_twice a false E = refl
leaves_twice true b S = refl
leaves_twice false b S = refl
leaves_twice a true W = refl
leaves_twice a false W = refl

abbrev pub entry_turn : Bool → Bool → Turn
entry_turn a b = record { to = enters a b; from = enters a b; to_from = enters_twice a b; from_to = enters_twice a b }

abbrev pub exit_turn : Bool → Bool → Turn
exit_turn a b = record { to = leaves a b; from = leaves a b; to_from = leaves_twice a b; from_to = leaves_twice a b }

-- one turn, then another
abbrev pub then : Turn → Turn → Turn
then t u = record {
  to = λ p. u.to (t.to p);
  from = λ p. t.from (u.from p);
  to_from = λ p. ap u.to (t.to_from (u.from p)) ∙ u.to_from p;
  from_to = λ p. ap t.from (u.from_to (t.to p)) ∙ t.from_to p;
}

module _ (h : Handing) where
  -- whether block i crosses the slots that came to its two inputs
  abbrev pub crossed : Block → ℕ → Port → Port → Bool
  crossed b i first second = crossing b (draw h i) (lane h first) (lane h second)

  -- blocks 1 and 2 take the slots
  abbrev pub halfway : Turn
  halfway = entry_turn (crossed Entry 0 N E) (crossed Entry 1 S W)

  -- and blocks 3 and 4 what those send them
  abbrev pub onward : Turn
  onward = exit_turn (crossed NorthSouth 2 (halfway.from N) (halfway.from S)) (crossed EastWest 3 (halfway.from E) (halfway.from W))

  abbrev pub chipper_turn : Turn
  chipper_turn = then halfway onward
