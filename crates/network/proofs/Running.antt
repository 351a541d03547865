-- The invariant after every run of calls, and what one call changes.
use Rattle.std.proofs.Common.{◌≡◌, ℕ, ◌<◌, ◌≤◌, Bool, true, false, cond, not, ◌||◌, eqb, ltb, leb, ◌⊎◌, List, [], ◌∷◌, ◌++◌, length, None, refl, inl, inr, arith}
use Rattle.std.proofs.lemmas.Bool.{eqb-true, eqb-false, leb-false, ltb-false, or_parts, not-false, both_ways}
use lib.Arith.{digits_lt}
use Rattle.fabric.specs.Layouts.{Lawful}
use Rattle.network.specs.Log.{Log, packet, aim, free, complete}
use Rattle.network.specs.Log.Happening.{offered, collected}
use Rattle.fabric.specs.Verdicts.{Verdict}
use Rattle.bounds.specs.declared.settings.Settings.{Settings}
use Rattle.bounds.specs.SetUp.{all_tickets}
use Rattle.network.specs.Cycle.{Fabric, State}
use Rattle.network.specs.Runs.{Call, ticket, missing, offer_verdict, cycle_verdict, collection, collect_verdict, with_log, fresh}
use Rattle.network.specs.Computed.{cycled, decided, next, after}
use Rattle.fabric.specs.Verdicts.Verdict.{granted, refused}
use Rattle.network.specs.Runs.Call.{offer, cycle, collect, look}
use Rattle.network.proofs.Stand.{none_stands}
use Rattle.network.proofs.Places.{some_none}
use Rattle.network.proofs.Invariant.{Inv}
use Rattle.network.proofs.Offering.{inv_offer, inv_collect}
use Rattle.network.proofs.Cycling.{inv_cycle}

-- the first test of a verdict that grants has failed
pub peel : {A : Type 0} (k : ℕ) (b : Bool) (v : Verdict A) (a : A) → cond b (refused k []) v ≡ granted a → (b ≡ false) × (v ≡ granted a)
peel k true v a e = cc
peel k false v a e = (refl, e)

module _ (F : Fabric) (P : Settings) where
  -- a verdict refuses, and nothing changes, or grants
  pub by_verdict : {A : Type 0} (R : State → Type 0) (v : Verdict A) (x y : State) → R y → ((a : A) → v ≡ granted a → R x) → R (decided v x y)
  by_verdict R (granted a) x y r g = g a refl
  by_verdict R (refused k vs) x y r g = r

  pub inv_fresh : Inv F P fresh 0
  inv_fresh =
      record {
        sits = λ n p f e. some_none None f refl e;
        alone = λ n m p q f g e. some_none None f refl e;
        in_turn = λ n m p q f g e. some_none None f refl e;
        opens = λ t o. absurd (both_ways true o refl);
        right_words = λ t k w o. absurd (both_ways true o refl);
        unsent = λ t k o. absurd (both_ways true o refl);
        queue = λ n. tt;
        queue_apart = λ n. tt;
        timely = λ f m e. absurd (none_stands e);
        apart = λ f g n m e. absurd (none_stands e);
        offs = λ f n d e. absurd (none_stands e);
        accounted = λ f n e. absurd (none_stands e);
        carries = λ f n e. absurd (none_stands e);
        collections = λ t r ws e. absurd (none_stands e);
      }

  -- what an accepted offer was tested for
  pub record Offerable (s : State) (n o d : ℕ) (ws : List ℕ) : Type 0 where
    pub is_free : free (ticket P n o) s.log ≡ true
    pub ticket_exists : ticket P n o < all_tickets F.plan P
    pub goes : d < F.plan.nodes
    pub some : 0 < length ws
    pub short : length ws ≤ P.words

  pub offerable : (s : State) (n o d : ℕ) (ws : List ℕ) (a : Unit {0}) → offer_verdict F P s n o d ws ≡ granted a → Offerable s n o d ws
  offerable s n o d ws a e =
      let v4 = peel 4 (missing F n || leb P.tickets o) _ a e in
      let v5 = peel 5 (missing F d || eqb d n) _ a v4.1 in
      let v6 = peel 6 (eqb (length ws) 0 || ltb P.words (length ws)) _ a v5.1 in
      let v7 = peel 7 (not (free (ticket P n o) s.log)) _ a v6.1 in
      let n_o = or_parts (missing F n) (leb P.tickets o) v4.0 in
      let d_n = or_parts (missing F d) (eqb d n) v5.0 in
      let w_w = or_parts (eqb (length ws) 0) (ltb P.words (length ws)) v6.0 in
      let l0 = eqb-false (length ws) 0 w_w.0 in
      record {
        is_free = not-false (free (ticket P n o) s.log) v7.0;
        ticket_exists = digits_lt (leb-false F.plan.nodes n n_o.0) (leb-false P.tickets o n_o.1);
        goes = leb-false F.plan.nodes d d_n.0;
        some = omega arith;
        short = ltb-false P.words (length ws) w_w.1;
      }

  -- what a collection was tested for
  pub record Collectable (s : State) (r n o : ℕ) : Type 0 where
    pub whole : complete (ticket P n o) s.log ≡ true
    pub at_home : aim (packet (ticket P n o) s.log) ≡ r

  pub collectable : (s : State) (r n o : ℕ) (memory : List ℕ) (a : ℕ) → collect_verdict F P s r n o memory ≡ granted a → Collectable s r n o
  collectable s r n o memory a e =
      let t : ℕ = ticket P n o in
      let v4 = peel 4 (missing F r || missing F n || leb P.tickets o) _ a e in
      let v8 = peel 8 (not (complete t s.log) || not (eqb (aim (packet t s.log)) r)) _ a v4.1 in
      let c_a = or_parts (not (complete t s.log)) (not (eqb (aim (packet t s.log)) r)) v8.0 in
      record {
        whole = not-false (complete t s.log) c_a.0;
        at_home = eqb-true (aim (packet t s.log)) r (not-false (eqb (aim (packet t s.log)) r) c_a.1);
      }

  inv_next : Lawful F.plan → (s : State) → Inv F P s 0 → (k : Call) → Inv F P (next F P s k) 0
  inv_next law s i (offer n o d ws) =
      by_verdict (λ x. Inv F P x 0) (offer_verdict F P s n o d ws) (with_log s (offered (ticket P n o) (record { destination = d; words = ws }))) s i
      (λ a e.
      let z = offerable s n o d ws a e in
      inv_offer F P s 0 i (ticket P n o) (record { destination = d; words = ws }) z.is_free z.ticket_exists z.goes z.some z.short)
  inv_next law s i (cycle q) =
      by_verdict (λ x. Inv F P x 0) (cycle_verdict F P s q) (cycled F P s) s i (λ a e. inv_cycle F P s i law)
  inv_next law s i (collect r n o memory) =
      by_verdict (λ x. Inv F P x 0) (collect_verdict F P s r n o memory)
      (with_log s (collected (ticket P n o) r (collection s (ticket P n o)))) s i
      (λ a e. let z = collectable s r n o memory a e in inv_collect F P s 0 i (ticket P n o) r z.whole z.at_home)
  inv_next law s i (look n p) = i

  pub invariant : Lawful F.plan → (run : List Call) → Inv F P (after F P run) 0
  invariant law [] = inv_fresh
  invariant law (k ∷ ks) = inv_next law (after F P ks) (invariant law ks) k

  -- what one call changes: nothing in the slots, or a cycle is carried out
  pub record Still (s r : State) : Type 0 where
    pub cycles : r.cycles ≡ s.cycles
    pub slot : r.slot ≡ s.slot
    pub newer : Log
    pub log : r.log ≡ newer ++ s.log

  pub steps : (s : State) (k : Call) → Still s (next F P s k) ⊎ (next F P s k ≡ cycled F P s)
  steps s (offer n o d ws) =
      by_verdict (λ x. Still s x ⊎ (x ≡ cycled F P s)) (offer_verdict F P s n o d ws) (with_log s (offered (ticket P n o) (record { destination = d; words = ws }))) s
      (inl (record { cycles = refl; slot = refl; newer = []; log = refl })) (λ a e. inl (record { cycles = refl; slot = refl; newer = _ ∷ []; log = refl }))
  steps s (cycle q) =
      by_verdict (λ x. Still s x ⊎ (x ≡ cycled F P s)) (cycle_verdict F P s q) (cycled F P s) s
      (inl (record { cycles = refl; slot = refl; newer = []; log = refl })) (λ a e. inr refl)
  steps s (collect r n o memory) =
      by_verdict (λ x. Still s x ⊎ (x ≡ cycled F P s)) (collect_verdict F P s r n o memory)
      (with_log s (collected (ticket P n o) r (collection s (ticket P n o)))) s
      (inl (record { cycles = refl; slot = refl; newer = []; log = refl })) (λ a e. inl (record { cycles = refl; slot = refl; newer = _ ∷ []; log = refl }))
  steps s (look n p) = inl (record { cycles = refl; slot = refl; newer = []; log = refl })
