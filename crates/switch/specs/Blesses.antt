-- The bless switch: in the order of their rank, each takes its wish if that is free, or else the first free port of E, W, N, S.
use Rattle.std.specs.Prelude.{◌≡◌, ℕ, zero, suc, ◌+◌, ◌<◌, Bool, true, false, cond, not, ◌&&◌, ◌||◌, ◌⊎◌, List, [], ◌∷◌, Some, None, Option, ◌==◌, nat_lt, refl}
use Rattle.std.proofs.Common.{◌∙◌, ap, arith}
use Rattle.std.specs.Option.{unwrap_or}
use Rattle.fabric.specs.declared.parts.Port.{Port}
use Rattle.fabric.specs.declared.parts.Port.TheVariants.{N, E, S, W}
use Rattle.fabric.specs.declared.parts.Flit.{Flit}
use Rattle.fabric.specs.Ports.{place_of, looked_at, first}
use Rattle.fabric.specs.Places.{Pick, pick}
use Rattle.switch.specs.declared.rank.Rank.{Rank}
use Rattle.switch.specs.declared.rank.Rank.TheVariants.{Golden, Ordinary}
use Rattle.switch.specs.Ranks.{rank_of, rank_at, gives_way}
use Rattle.switch.specs.Switches.{Handing, Turn, at}
use Rattle.switch.specs.Sides.{Sides, every, without, bit, size, none_left, one_less}
use Rattle.switch.specs.Pairings.{Pairs, Matches, paired}

-- The law of the switch.

-- what a flit in a slot is ranked by, the lowest first: golden flits by number, then ordinary ones by entry cycle, ticket and number,
-- any still equal by slot order
abbrev pub standing_as : Rank → Flit → Port → List ℕ
standing_as (Golden n) f s = 0 ∷ n ∷ place_of s ∷ []
standing_as Ordinary f s = 1 ∷ f.entered ∷ f.ticket ∷ f.number ∷ place_of s ∷ []

abbrev pub standing : Handing → Flit → Port → List ℕ
standing h f = standing_as (rank_of h.golden f) f

-- the first number in which the two differ is lower in the one
abbrev pub Lower : List ℕ → List ℕ → Type 0
Lower [] ys = ⊥
Lower (x ∷ xs) [] = ⊥
Lower (x ∷ xs) (y ∷ ys) = (x < y) ⊎ ((x ≡ y) × Lower xs ys)

-- slot r holds a flit that ranks before the one in slot s
pub record Before (h : Handing) (r s : Port) : Type 0 where
  pub one : Flit
  pub other : Flit
  pub in_one : at h.places r ≡ Some one
  pub in_other : at h.places s ≡ Some other
  pub lower : Lower (standing h one r) (standing h other s)

-- a flit that ranks before the one in slot s leaves by port p
abbrev pub Taken : Handing → (Port → Port) → Port → Port → Type 0
Taken h to s p = (r : Port) × Before h r s × (to r ≡ p)

-- The flit leaves by its wish unless that is taken by a flit before it. Where the wish is taken, and where there is none,
-- it leaves by the first port of E, W, N, S that no flit before it takes.
pub record Leaves (taken : Port → Type 0) (wish : Option Port) (p : Port) : Type 0 where
  pub wished : (w : Port) → wish ≡ Some w → (taken w → ⊥) → p ≡ w
  pub free : ((w : Port) → wish ≡ Some w → taken w) → taken p → ⊥
  pub first : ((w : Port) → wish ≡ Some w → taken w) → (q : Port) → looked_at q < looked_at p → taken q

abbrev pub BlessLaw : Handing → (Port → Port) → Type 0
BlessLaw h to = (s : Port) (f : Flit) → at h.places s ≡ Some f → Leaves (Taken h to s) (at h.wishes s) (to s)

-- The turn, which keeps the law.

-- of two ordinary flits, by entry cycle, ticket and number
abbrev pub sooner : Flit → Flit → Bool
sooner f g =
    cond (f.entered == g.entered)
    (cond (f.ticket == g.ticket) (nat_lt f.number g.number) (nat_lt f.ticket g.ticket))
    (nat_lt f.entered g.entered)

abbrev pub later : Option Flit → Option Flit → Bool
later a None = false
later None (Some g) = false
later (Some f) (Some g) = sooner g f

-- whether what stands first ranks below what stands second; an empty place ranks last
abbrev pub outranked : ℕ → Option Flit → Option Flit → Bool
outranked golden first second = gives_way (rank_at golden first) (rank_at golden second) (later first second)

-- of two slots the one to be served first: of those that wait the better in rank, the first if equal
abbrev pub better : ℕ → List (Option Flit) → Sides → Port → Port → Port
better golden places waiting s r = cond (waiting r && (not (waiting s) || outranked golden (at places s) (at places r))) r s

abbrev pub best : ℕ → List (Option Flit) → Sides → Port
best golden places waiting =
    let more : Port → Port → Port = better golden places waiting in
    more (more (more N E) S) W

abbrev pub first_free : Sides → Port
first_free free = unwrap_or (first free) S

-- the port that is taken, by one with this wish
abbrev pub chosen : Sides → Option Port → Port
chosen free None = first_free free
chosen free (Some w) = cond (free w) w (first_free free)

module _ (golden : ℕ) (places : List (Option Flit)) (wishes : List (Option Port)) where
  -- the next n that are served: who is first, and what that takes
  abbrev pub served : ℕ → Sides → Sides → Pairs
  served zero waiting free = []
  served (suc n) waiting free =
      let s : Port = best golden places waiting in
      let p : Port = chosen free (at wishes s) in
      (s, p) ∷ served n (without waiting s) (without free p)

module _ (xs : Sides) where
  -- the better of two waits if one does
  one_waits : (s r : Port) (a b x : Bool) → xs s ≡ a → xs r ≡ b → xs (cond (b && (not a || x)) r s) ≡ (a || b)
  one_waits s r true true true p q = q
  one_waits s r true true false p q = p
  one_waits s r true false x p q = p
  one_waits s r false true x p q = q
  one_waits s r false false x p q = p

  some_of : (a b c d : Bool) → 0 < bit a + bit b + bit c + bit d → (((a || b) || c) || d) ≡ true
  some_of true b c d h = refl
  some_of false true c d h = refl
  some_of false false true d h = refl
  some_of false false false true h = refl
  some_of false false false false h = absurd (omega arith)

  pub best_waits : (golden : ℕ) (places : List (Option Flit)) → 0 < size xs → xs (best golden places xs) ≡ true
  best_waits golden places h =
      let more : Port → Port → Port = better golden places xs in
      let kept : (s r : Port) → xs (more s r) ≡ (xs s || xs r) = λ s r. one_waits s r (xs s) (xs r) (outranked golden (at places s) (at places r)) refl refl in
      kept (more (more N E) S) W
      ∙ ap (λ b. b || xs W) (kept (more N E) S ∙ ap (λ b. b || xs S) (kept N E))
      ∙ some_of (xs N) (xs E) (xs S) (xs W) h

  -- if any is free, the first free one is free, and none before it
  pub first_frees : 0 < size xs → (xs (first_free xs) ≡ true) × ((q : Port) → looked_at q < looked_at (first_free xs) → xs q ≡ false)
  first_frees h = go (first xs) (pick xs)
    where
      go : (o : Option Port) → Pick xs o → (xs (unwrap_or o S) ≡ true) × ((q : Port) → looked_at q < looked_at (unwrap_or o S) → xs q ≡ false)
      go (Some p) e = e
      go None e = absurd (omega (arith, ap bit (e N), ap bit (e E), ap bit (e S), ap bit (e W)))

  pub chosen_free : (wish : Option Port) → 0 < size xs → xs (chosen xs wish) ≡ true
  chosen_free None h = (first_frees h).0
  chosen_free (Some w) h = go (xs w) refl
    where
      go : (b : Bool) → xs w ≡ b → xs (cond b w (first_free xs)) ≡ true
      go true e = e
      go false e = (first_frees h).0

-- each is served once, and takes a port of its own
module _ (golden : ℕ) (places : List (Option Flit)) (wishes : List (Option Port)) where
  pub served_match : (n : ℕ) (w f : Sides) → size w ≡ n → size f ≡ n → Matches w f (served golden places wishes n w f)
  served_match zero w f p q = λ s. (none_left w p s, none_left f q s)
  served_match (suc n) w f p q =
      let s = best golden places w in
      let o = chosen f (at wishes s) in
      let ws : w s ≡ true = best_waits w golden places (omega arith) in
      let fo : f o ≡ true = chosen_free f (at wishes s) (omega arith) in
      (ws, fo, served_match n (without w s) (without f o) (one_less w n s ws p) (one_less f n o fo q))

abbrev pub bless_turn : Handing → Turn
bless_turn h = paired (served h.golden h.places h.wishes 4 every every) (served_match h.golden h.places h.wishes 4 every every refl refl)
