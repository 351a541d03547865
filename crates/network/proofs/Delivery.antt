-- A golden ticket's flits are all taken off within its epoch, so every flit is taken off in time.
use Rattle.std.proofs.Common.{◌≡◌, ℕ, ◌+◌, ◌*◌, ◌/◌, ◌%◌, ◌<◌, ◌≤◌, ◌⊎◌, List, [], ◌∷◌, Some, None, Option, sym, refl, ap, ◌∙◌, subst, inl, inr, ⊎_elim, mul-le-mul_right, arith}
use native.Mathlib.Nat.{div-eq_of_lt-le}
use Rattle.std.proofs.lemmas.Nat.{div-add-mod', div-mul-add, mod-mul-add, mod_below}
use Rattle.std.proofs.lemmas.Bool.{cases_lt, cases_eq}
use Rattle.std.proofs.lemmas.Option.{same_Some}
use Rattle.fabric.specs.declared.parts.Flit.{Flit}
use Rattle.fabric.specs.declared.parts.Port.{Port}
use Rattle.fabric.specs.Layouts.{Lawful}
use Rattle.fabric.proofs.Following.{present}
use Rattle.switch.specs.Switches.{LawfulSwitch}
use Rattle.network.specs.Log.Happening.{entered}
use Rattle.bounds.specs.declared.settings.Settings.{Settings}
use Rattle.bounds.specs.SetUp.{all_tickets}
use Rattle.network.specs.Cycle.{Fabric, State, golden_in}
use Rattle.network.specs.Runs.{Call}
use Rattle.network.specs.Computed.{left, entering, arriving, cycled, next, after}
use Rattle.network.specs.Promises.{Stands, OffOnce, NeverOff, InOneSlot, InNoSlot}
use Rattle.network.proofs.Places.{some_none}
use Rattle.network.proofs.Nodes.{left_slot, ready_split, Came, came}
use Rattle.network.proofs.Invariant.{Inv}
use Rattle.network.proofs.Golden.{enters_now, Lowest, lead, least}
use Rattle.network.proofs.Running.{Still, steps, invariant}

-- the first epoch of a ticket that begins after a cycle
pub record Epoch (x t G L : ℕ) : Type 0 where
  pub start : ℕ
  pub begins : start % L ≡ 0
  pub golden : (start / L) % G ≡ t
  pub after_it : x < start
  pub soon : start + L ≤ x + 1 + (G + 1) * L

module _ (x t G L : ℕ) (small : t < G) (some : 0 < L) where
  from_turn : (q : ℕ) → q % G ≡ t → x / L + 1 ≤ q → q + 1 ≤ x / L + 1 + G → Epoch x t G L
  from_turn q e lo hi =
      let d = div-add-mod' x L in
      let m = mod_below x L some in
      let a : (x / L + 1) * L ≤ q * L = mul-le-mul_right L lo in
      let b : (q + 1) * L ≤ (x / L + 1 + G) * L = mul-le-mul_right L hi in
      let z : q * L + 0 ≡ q * L = omega arith in
      record {
        start = q * L;
        begins = ap (λ (y : ℕ). y % L) (sym z) ∙ mod-mul-add q L 0 some;
        golden = ap (λ (y : ℕ). y % G) (ap (λ (y : ℕ). y / L) (sym z) ∙ div-mul-add q L 0 some) ∙ e;
        after_it = omega arith;
        soon = omega arith;
      }

  pub next_epoch : Epoch x t G L
  next_epoch = go (cases_lt t (q % G))
    where
      q : ℕ
      q = x / L + 1

      d : q / G * G + q % G ≡ q
      d = div-add-mod' q G

      m : q % G < G
      m = mod_below q G (omega arith)

      go : (t < q % G) ⊎ (q % G ≤ t) → Epoch x t G L
      go (inl h) = from_turn ((q / G + 1) * G + t) (mod-mul-add (q / G + 1) G t small) (omega (arith, d, m)) (omega (arith, d, m))
      go (inr h) = from_turn (q / G * G + t) (mod-mul-add (q / G) G t small) (omega (arith, d, m)) (omega (arith, d, m))

-- the golden ticket stays over an epoch
pub same_golden : (F : Fabric) (P : Settings) (e c : ℕ) → e % P.epoch ≡ 0 → e ≤ c → c < e + P.epoch → golden_in F P c ≡ golden_in F P e
same_golden F P e c b lo hi =
    let d = div-add-mod' e P.epoch in
    let k : c / P.epoch ≡ e / P.epoch = div-eq_of_lt-le P.epoch (let y : e / P.epoch * P.epoch ≤ c = omega arith in y) (let y : c < (e / P.epoch + 1) * P.epoch = omega arith in y) in
    ap (λ (y : ℕ). y % all_tickets F.plan P) k

module _ (F : Fabric) (P : Settings) where
  abbrev room : ℕ → ℕ
  room k = k * (F.plan.reach + 1) + F.plan.reach

  -- golden flits that were there when the epoch began are as near as their number asks
  abbrev Near : State → Type 0
  Near s = (e : ℕ) → e % P.epoch ≡ 0 → e ≤ s.cycles → s.cycles ≤ e + P.epoch →
      (n : ℕ) (p : Port) (g : Flit) → s.slot n p ≡ Some g → g.ticket ≡ golden_in F P e → g.entered < e →
      s.cycles + F.plan.distance n g.destination ≤ e + room g.number

  abbrev pub Gone : State → Type 0
  Gone s = (e : ℕ) → e % P.epoch ≡ 0 → e + P.epoch ≤ s.cycles →
      (n : ℕ) (p : Port) (g : Flit) → s.slot n p ≡ Some g → g.ticket ≡ golden_in F P e → g.entered < e → ⊥

  module _ (law : Lawful F.plan) (sw : LawfulSwitch F.turn) (enough : P.words * (F.plan.reach + 1) ≤ P.epoch) where
    reached : (m n : ℕ) → F.plan.distance m n ≤ F.plan.reach
    reached m n =
        ⊎_elim (λ h. law.within m n h.0 h.1)
        (λ h. let e = law.missing_distance m n h in omega arith)
        (present F.plan law m n)

    -- a flit that did not enter now was in a slot
    was_there : (s : State) → (m : ℕ) (q : Port) (g : Flit) → Inv F P s 0 → arriving F P s m q ≡ Some g → g.entered < s.cycles → (n : ℕ) × (p : Port) × (s.slot n p ≡ Some g)
    was_there s m q g i u h = go (ready_split F P s z.node z.port g z.there)
      where
        z : Came F P s m q g
        z = came F P s law m q g u

        go : (entering F P s z.node ≡ Some (z.port, g)) ⊎ (left F P s z.node z.port ≡ Some g) → (n : ℕ) × (p : Port) × (s.slot n p ≡ Some g)
        go (inl a) = let b = enters_now F P s i z.node z.port g a in absurd (omega arith)
        go (inr a) = (z.node, z.port, left_slot F P s z.node z.port g a)

    near_step : (s : State) → Inv F P s 0 → Near s → Near (cycled F P s)
    near_step s i near e b lo hi m q g u t k = go (cases_lt s.cycles e)
      where
        far : F.plan.distance m g.destination ≤ F.plan.reach
        far = reached m g.destination

        go : (s.cycles < e) ⊎ (e ≤ s.cycles) → s.cycles + 1 + F.plan.distance m g.destination ≤ e + room g.number
        go (inl h) = let y = far in omega arith
        go (inr h) = check (cases_lt (e + room g.number) (s.cycles + 1 + F.plan.distance m g.destination))
          where
            w : (n : ℕ) × (p : Port) × (s.slot n p ≡ Some g)
            w = was_there s m q g i u (omega arith)

            gold : g.ticket ≡ golden_in F P s.cycles
            gold = t ∙ sym (same_golden F P e s.cycles b h (omega arith))

            check : (e + room g.number < s.cycles + 1 + F.plan.distance m g.destination) ⊎ (s.cycles + 1 + F.plan.distance m g.destination ≤ e + room g.number) →
                s.cycles + 1 + F.plan.distance m g.destination ≤ e + room g.number
            check (inr y) = y
            check (inl y) = absurd (least F P s i g.number w.0 w.1 g (omega arith) w.2 no_lowest)
              where
                no_lowest : (a : ℕ) (r : Port) (h' : Flit) → s.slot a r ≡ Some h' → h'.ticket ≡ g.ticket → h'.number ≤ g.number → Lowest F P s i h' → ⊥
                no_lowest a r h' v x z low = split (cases_eq h'.number g.number)
                  where
                    split : (h'.number ≡ g.number) ⊎ (h'.number ≡ g.number → ⊥) → ⊥
                    split (inl d) =
                        let o = i.alone a w.0 r w.1 h' g v w.2 x d in
                        let same : h' ≡ g = same_Some h' g (sym (sym (λ j. s.slot (o.0 j) (o.1 j)) ∙ v) ∙ w.2) in
                        let l = lead F P s i law sw w.0 m w.1 q g w.2 gold (subst (λ (f : Flit). Lowest F P s i f) same low) u in
                        let n = near e b h (omega arith) w.0 w.1 g w.2 t k in
                        omega arith
                    split (inr d) =
                        let o = i.in_turn a w.0 r w.1 h' g v w.2 x (omega arith) in
                        let n = near e b h (omega arith) a r h' v (x ∙ t) (omega arith) in
                        let l : (h'.number + 1) * (F.plan.reach + 1) ≤ g.number * (F.plan.reach + 1) = mul-le-mul_right (F.plan.reach + 1) (let y : h'.number + 1 ≤ g.number = omega arith in y) in
                        let f = far in
                        omega arith

    gone_step : (s : State) → Inv F P s 0 → Inv F P (cycled F P s) 0 → Near (cycled F P s) → Gone s → Gone (cycled F P s)
    gone_step s i j near gone e b h m q g u t k = go (cases_lt s.cycles (e + P.epoch))
      where
        go : (s.cycles < e + P.epoch) ⊎ (e + P.epoch ≤ s.cycles) → ⊥
        go (inl y) =
            let n = near e b (omega arith) (omega arith) m q g u t k in
            let z = j.sits m q g u in
            let size_in = z.in_size in
            let o = (j.opens g.ticket z.open_ticket).short in
            let l : (g.number + 1) * (F.plan.reach + 1) ≤ P.words * (F.plan.reach + 1) = mul-le-mul_right (F.plan.reach + 1) (let y : g.number + 1 ≤ P.words = omega arith in y) in
            omega arith
        go (inr y) = let w = was_there s m q g i u (omega arith) in gone e b y w.0 w.1 g w.2 t k

    both : (run : List Call) → Near (after F P run) × Gone (after F P run)
    both [] = (λ e b lo hi n p g u. some_none None g refl u, λ e b h n p g u. some_none None g refl u)
    both (c ∷ run) = go (steps F P (after F P run) c) (both run)
      where
        s : State
        s = after F P run

        go : Still F P s (next F P s c) ⊎ (next F P s c ≡ cycled F P s) → Near s × Gone s → Near (next F P s c) × Gone (next F P s c)
        go (inl z) ih = (
          λ e b lo hi n p g u t k.
              subst (λ (x : ℕ). x + F.plan.distance n g.destination ≤ e + room g.number) (sym z.cycles)
              (ih.0 e b (subst (λ (x : ℕ). e ≤ x) z.cycles lo) (subst (λ (x : ℕ). x ≤ e + P.epoch) z.cycles hi) n p g (sym (ap (λ (x : ℕ → Port → Option Flit). x n p) z.slot) ∙ u) t k),
          λ e b h n p g u t k. ih.1 e b (subst (λ (x : ℕ). e + P.epoch ≤ x) z.cycles h) n p g (sym (ap (λ (x : ℕ → Port → Option Flit). x n p) z.slot) ∙ u) t k,
        )
        go (inr z) ih =
            let i : Inv F P s 0 = invariant F P law run in
            let j : Inv F P (cycled F P s) 0 = subst (λ (x : State). Inv F P x 0) z (invariant F P law (c ∷ run)) in
            let n : Near (cycled F P s) = near_step s i ih.0 in
            subst (λ (x : State). Near x × Gone x) (sym z) (n, gone_step s i j n ih.1)

    -- in time
    pub delivered : 0 < P.epoch → (run : List Call) (f : Flit) (n : ℕ) → Stands (entered f n) (after F P run).log →
        f.entered + 1 + (all_tickets F.plan P + 1) * P.epoch ≤ (after F P run).cycles → OffOnce f (after F P run).log
    delivered some run f n e h = go (i.accounted f n e)
      where
        s : State
        s = after F P run

        i : Inv F P s 0
        i = invariant F P law run

        go : (OffOnce f s.log × InNoSlot f s) ⊎ (NeverOff f s.log × InOneSlot f s) → OffOnce f s.log
        go (inl k) = k.0
        go (inr k) =
            let o = k.1 in
            let z = i.sits o.node o.port f o.here in
            let t = (i.opens f.ticket z.open_ticket).ticket in
            let x = next_epoch f.entered f.ticket (all_tickets F.plan P) P.epoch t some in
            absurd ((both run).1 x.start x.begins (omega (arith, x.soon)) o.node o.port f o.here (sym x.golden) x.after_it)
