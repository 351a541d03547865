-- How often things happen: an accepted packet brings at most four entries, four takings off and one collection.
-- What each ticket may still bring is summed over all tickets. An accepted offer raises that sum by at most as much,
-- and an entry, a taking off or a collection lowers its own sum by one.
use Rattle.std.proofs.Common.{◌≡◌, ℕ, zero, suc, ◌+◌, ◌-◌, ◌*◌, ◌<◌, ◌≤◌, true, false, cond, eqb, ◌⊎◌, List, [], ◌∷◌, ◌++◌, length, Some, None, Option, sym, refl, ap, ◌∙◌, subst, inl, inr, arith, is_some}
use Rattle.std.specs.List.{AllByRecursion}
use Rattle.std.proofs.lemmas.Bool.{eq-eqb, ne_eqb, cases_eq}
use Rattle.fabric.specs.declared.parts.Flit.{Flit}
use Rattle.fabric.specs.declared.parts.Port.{Port}
use Rattle.fabric.specs.Layouts.{Lawful}
use Rattle.fabric.specs.Verdicts.Verdict.{granted}
use Rattle.bounds.specs.declared.settings.Settings.{Settings}
use Rattle.bounds.specs.SetUp.{all_tickets, set_up_verdict}
use Rattle.network.specs.Log.{Log, Packet, packet, size, free, sent, received}
use Rattle.network.specs.Log.Happening.{offered, entered, off, collected}
use Rattle.network.specs.Cycle.{Fabric, State, off_at, entered_at}
use Rattle.network.specs.Runs.{Call, ticket, offer_verdict, cycle_verdict, collection, collect_verdict, with_log, count_off, Leads}
use Rattle.network.specs.Runs.Call.{offer, cycle, collect, look}
use Rattle.network.specs.Computed.{taken, entering, cycled, next, after}
use Rattle.network.specs.Counts.{offers, entries, collections}
use Rattle.network.proofs.Nodes.{taken_here}
use Rattle.network.proofs.Invariant.{Waits, Inv}
use Rattle.network.proofs.Offering.{complete_parts}
use Rattle.network.proofs.Cycling.{grown, half_log, grown_none, grown_more, stage_here, take_step, next_of_half, stages}
use Rattle.network.proofs.Running.{by_verdict, offerable, collectable, invariant}
use Rattle.network.proofs.Solving.{led_one}
use Rattle.network.proofs.Kept.{accepted}

-- few things happen, for so many accepted offers
pub record Few (l : Log) : Type 0 where
  pub entered : entries l ≤ 4 * offers l
  pub off : count_off l ≤ 4 * offers l
  pub collected : collections l ≤ offers l

-- the sum of a function over the numbers below g
abbrev total : (ℕ → ℕ) → ℕ → ℕ
total f zero = 0
total f (suc g) = total f g + f g

total_most : (b : ℕ) (f : ℕ → ℕ) (g : ℕ) → ((t : ℕ) → f t ≤ b) → total f g ≤ b * g
total_most b f zero e = omega arith
total_most b f (suc g) e = omega (arith, total_most b f g e, e g)

total_le : (f h : ℕ → ℕ) (g : ℕ) → ((t : ℕ) → t < g → h t ≤ f t) → total h g ≤ total f g
total_le f h zero e = omega arith
total_le f h (suc g) e = omega (arith, total_le f h g (λ t k. e t (omega arith)), e g (omega arith))

-- where no value rises but that at u, the sum rises at most as that value does
total_at : (f h : ℕ → ℕ) (u g : ℕ) → u < g → ((t : ℕ) → (t ≡ u → ⊥) → h t ≤ f t) → total h g + f u ≤ total f g + h u
total_at f h u zero k e = absurd (omega arith)
total_at f h u (suc g) k e = go (cases_eq g u) (total_at f h u g)
  where
    go : (g ≡ u) ⊎ (g ≡ u → ⊥) → (u < g → ((t : ℕ) → (t ≡ u → ⊥) → h t ≤ f t) → total h g + f u ≤ total f g + h u) → total h (suc g) + f u ≤ total f (suc g) + h u
    go (inl d) ih = omega (arith, total_le f h g (λ t l. e t (λ c. omega arith)), ap f d, ap h d)
    go (inr d) ih = omega (arith, ih (omega arith) e, e g d)

-- what a ticket may still bring: the flits of its packet that are to enter,
abbrev to_enter : Log → ℕ → ℕ
to_enter l t = size (packet t l) - sent t l

-- the places of its record that are to be filled, each counted as 1,
abbrev awaited : Log → ℕ → ℕ → ℕ
awaited l t k = cond (is_some (received t k l)) 0 1

abbrev to_come_off : Log → ℕ → ℕ
to_come_off l t = total (λ k. awaited l t k) (size (packet t l))

-- and its collection, if it is open
abbrev to_collect : Log → ℕ → ℕ
to_collect l t = cond (free t l) 0 1

-- what has happened, and what g tickets may still bring, is covered by the accepted offers
record Covered (g : ℕ) (l : Log) : Type 0 where
  entered : entries l + total (to_enter l) g ≤ 4 * offers l
  off : count_off l + total (to_come_off l) g ≤ 4 * offers l
  collected : collections l + total (to_collect l) g ≤ offers l

covered_none : (g : ℕ) → Covered g []
covered_none g =
    record {
      entered = omega (arith, total_most 0 (to_enter []) g (λ t. omega arith));
      off = omega (arith, total_most 0 (to_come_off []) g (λ t. omega arith));
      collected = omega (arith, total_most 0 (to_collect []) g (λ t. omega arith));
    }

module _ {g : ℕ} {l : Log} (w : Covered g l) where
  covered_few : Few l
  covered_few = record { entered = omega arith; off = omega arith; collected = omega arith }

  offer_covered : (u : ℕ) (p : Packet) → u < g → length p.words ≤ 4 → Covered g (offered u p ∷ l)
  offer_covered u p k short =
      record {
        entered = omega (arith, total_at (to_enter l) (to_enter new) u g k (λ t d. rw (ne_eqb t u d) (omega arith)), entries_most, w.entered);
        off = omega (arith, total_at (to_come_off l) (to_come_off new) u g k (λ t d. rw (ne_eqb t u d) (omega arith)), offs_most, w.off);
        collected = omega (arith, total_at (to_collect l) (to_collect new) u g k (λ t d. rw (ne_eqb t u d) (omega arith)), collections_most, w.collected);
      }
    where
      new : Log
      new = offered u p ∷ l

      entries_most : to_enter new u ≤ 4
      entries_most = rw (eq-eqb u u refl) (omega arith)

      offs_most : to_come_off new u ≤ 4
      offs_most = rw (eq-eqb u u refl) (omega (arith, total_most 1 (λ k. 1) (length p.words) (λ k. omega arith)))

      collections_most : to_collect new u ≤ 1
      collections_most = rw (eq-eqb u u refl) (omega arith)

  entry_covered : (f : Flit) (n : ℕ) → f.ticket < g → sent f.ticket l < size (packet f.ticket l) → Covered g (entered f n ∷ l)
  entry_covered f n k more =
      record {
        entered = omega (arith, total_at (to_enter l) (to_enter (entered f n ∷ l)) f.ticket g k (λ t d. rw (ne_eqb t f.ticket d) (omega arith)), fewer, w.entered);
        off = w.off;
        collected = w.collected;
      }
    where
      fewer : to_enter (entered f n ∷ l) f.ticket + 1 ≤ to_enter l f.ticket
      fewer = rw (eq-eqb f.ticket f.ticket refl) (omega arith)

  off_covered : (f : Flit) (n c : ℕ) → f.ticket < g → f.number < size (packet f.ticket l) → received f.ticket f.number l ≡ None → Covered g (off f n c ∷ l)
  off_covered f n c k in_size unreceived =
      record {
        entered = w.entered;
        off = omega (arith, total_at (to_come_off l) (to_come_off (off f n c ∷ l)) f.ticket g k (λ t d. rw (ne_eqb t f.ticket d) (omega arith)), fewer, w.off);
        collected = w.collected;
      }
    where
      same : eqb f.ticket f.ticket ≡ true
      same = eq-eqb f.ticket f.ticket refl

      was : awaited l f.ticket f.number ≡ 1
      was = rw unreceived

      is : awaited (off f n c ∷ l) f.ticket f.number ≡ 0
      is = rw (same, eq-eqb f.number f.number refl)

      fewer : to_come_off (off f n c ∷ l) f.ticket + 1 ≤ to_come_off l f.ticket
      fewer =
          omega (
            arith,
            total_at (awaited l f.ticket) (awaited (off f n c ∷ l) f.ticket) f.number (size (packet f.ticket l)) in_size
                (λ j d. rw (same, ne_eqb j f.number d) (omega arith)),
            was,
            is,
          )

  collection_covered : (u r : ℕ) (ws : List ℕ) → u < g → free u l ≡ false → Covered g (collected u r ws ∷ l)
  collection_covered u r ws k is_open =
      record {
        entered = w.entered;
        off = w.off;
        collected = omega (arith, total_at (to_collect l) (to_collect (collected u r ws ∷ l)) u g k (λ t d. rw (ne_eqb t u d) (omega arith)), was, is, w.collected);
      }
    where
      was : to_collect l u ≡ 1
      was = rw is_open

      is : to_collect (collected u r ws ∷ l) u ≡ 0
      is = rw (eq-eqb u u refl)

module _ (F : Fabric) (P : Settings) where
  abbrev AllCovered : Log → Type 0
  AllCovered l = Covered (all_tickets F.plan P) l

  -- in a cycle, node after node
  module _ (s : State) (i : Inv F P s 0) where
    take_covered : (k : ℕ) → k ≤ F.plan.nodes → AllCovered (grown F P s k) → AllCovered (half_log F P s k)
    take_covered k h w = go (taken F P s k) refl
      where
        go : (o : Option (Port × Flit)) → taken F P s k ≡ o → AllCovered (off_at s.cycles k o ++ grown F P s k)
        go None e = w
        go (Some b) e =
            let j = stages F P s i k h in
            let z = j.sits k b.0 b.1 (stage_here F P s i k k b.0 (omega arith) ∙ (taken_here F P s k b.0 b.1 e).0) in
            off_covered w b.1 k s.cycles (j.opens b.1.ticket z.open_ticket).ticket z.in_size z.unreceived

    enter_covered : (k : ℕ) → k ≤ F.plan.nodes → AllCovered (half_log F P s k) → AllCovered (grown F P s (suc k))
    enter_covered k h w = subst AllCovered (sym (grown_more F P s k)) (go (entering F P s k) refl)
      where
        go : (o : Option (Port × Flit)) → entering F P s k ≡ o → AllCovered (entered_at k o ++ half_log F P s k)
        go None e = w
        go (Some b) e =
            let j = take_step F P s i k (stages F P s i k h) in
            let x = next_of_half F P s i k b.0 b.1 e in
            let z : AllByRecursion (Waits P (half_log F P s k) k) (b.1.ticket ∷ x.others) = subst (AllByRecursion (Waits P (half_log F P s k) k)) x.ticket (j.queue k) in
            entry_covered w b.1 k (j.opens b.1.ticket z.0.open_ticket).ticket z.0.more

    nodes_covered : AllCovered s.log → (k : ℕ) → k ≤ F.plan.nodes → AllCovered (grown F P s k)
    nodes_covered w zero h = subst AllCovered (sym (grown_none F P s)) w
    nodes_covered w (suc k) h = enter_covered k (omega arith) (take_covered k (omega arith) (nodes_covered w k (omega arith)))

  module _ (short : P.words ≤ 4) where
    next_covered : (s : State) → Inv F P s 0 → AllCovered s.log → (k : Call) → AllCovered (next F P s k).log
    next_covered s i w (offer n o d ws) =
        by_verdict F P (λ x. AllCovered x.log) (offer_verdict F P s n o d ws) (with_log s (offered (ticket P n o) (record { destination = d; words = ws }))) s w
        (λ a e. let z = offerable F P s n o d ws a e in offer_covered w (ticket P n o) (record { destination = d; words = ws }) z.ticket_exists (omega (arith, z.short)))
    next_covered s i w (cycle q) =
        by_verdict F P (λ x. AllCovered x.log) (cycle_verdict F P s q) (cycled F P s) s w (λ a e. nodes_covered s i w F.plan.nodes (omega arith))
    next_covered s i w (collect r n o memory) =
        by_verdict F P (λ x. AllCovered x.log) (collect_verdict F P s r n o memory)
        (with_log s (collected (ticket P n o) r (collection s (ticket P n o)))) s w
        (λ a e.
        let is_open = (complete_parts (ticket P n o) s.log (collectable F P s r n o memory a e).whole).0 in
        collection_covered w (ticket P n o) r (collection s (ticket P n o)) (i.opens (ticket P n o) is_open).ticket is_open)
    next_covered s i w (look n p) = w

    run_covered : Lawful F.plan → (run : List Call) → AllCovered (after F P run).log
    run_covered law [] = covered_none (all_tickets F.plan P)
    run_covered law (k ∷ ks) = next_covered (after F P ks) (invariant F P law ks) (run_covered law ks) k

-- few things happen in every run
pub few : (F : Fabric) (P : Settings) → Lawful F.plan → set_up_verdict F.plan P ≡ granted tt → {run : List Call} {s : State} → Leads F P run s → Few s.log
few F P law ok {run} {s} leads =
    subst (λ (x : State). Few x.log) (sym (led_one F P law leads)) (covered_few (run_covered F P (accepted F.plan P ok).short law run))
