-- Every run of every network that set-up accepts keeps the promises.
use Rattle.std.proofs.Common.{◌≡◌, ℕ, ◌+◌, ◌*◌, ◌<◌, ◌≤◌, ◌||◌, ltb, ◌⊎◌, List, ◌++◌, Some, sym, refl, ap, ◌∙◌, subst, subst₂, inl, inr, mul-le-mul_right, arith, eqb}
use Rattle.std.proofs.lemmas.Bool.{or_parts, ltb-false}
use Rattle.std.proofs.lemmas.Option.{same_Some}
use Rattle.fabric.specs.declared.parts.Flit.{Flit}
use Rattle.fabric.specs.declared.parts.Port.{Port}
use Rattle.fabric.specs.Layouts.{Lawful, Plan}
use Rattle.fabric.specs.Verdicts.Verdict.{granted}
use Rattle.switch.specs.Switches.{LawfulSwitch}
use Rattle.bounds.specs.declared.settings.Settings.{Settings}
use Rattle.bounds.specs.SetUp.{shortest_epoch, set_up_verdict}
use Rattle.network.specs.Log.{Log}
use Rattle.network.specs.Log.Happening.{entered}
use Rattle.network.specs.Cycle.{Fabric, State}
use Rattle.network.specs.Runs.{Call}
use Rattle.network.specs.Promises.{Stands, OffOnce, NeverOff, InOneSlot, InNoSlot, Begins, Alike, NoneEntered, IntoEpoch, Together, Kept, Promised}
use Rattle.network.specs.Computed.{after}
use Rattle.network.proofs.Stand.{stands_below}
use Rattle.network.proofs.Invariant.{Sits, Inv}
use Rattle.network.proofs.Running.{peel, invariant}
use Rattle.network.proofs.Delivery.{delivered}
use Rattle.network.proofs.Alikes.{Tied}
use Rattle.network.proofs.Undisturbed.{Grew, grew, follow}
use Rattle.network.proofs.Seen.{seen}
use Rattle.network.proofs.Solving.{answered, led, led_one, all_told}

-- what set-up has seen to
pub record Accepted (p : Plan) (P : Settings) : Type 0 where
  pub enough : P.words * (p.reach + 1) ≤ P.epoch
  pub some_tickets : 0 < P.tickets
  pub few_tickets : P.tickets ≤ 8
  pub short : P.words ≤ 4
  pub some : 0 < P.epoch
  pub ending : P.epoch ≤ 4096
  pub narrow : P.seed < 65536

pub accepted : (p : Plan) (P : Settings) → set_up_verdict p P ≡ granted tt → Accepted p P
accepted p P e =
    let v1 = peel 1 (ltb P.tickets 1 || ltb 8 P.tickets || ltb P.words 1 || ltb 4 P.words) _ tt e in
    let v2 = peel 2 (ltb P.epoch (shortest_epoch p P) || ltb 4096 P.epoch) _ tt v1.1 in
    let v3 = peel 3 (eqb P.seed 0 || ltb 65535 P.seed) _ tt v2.1 in
    let words = or_parts (ltb P.tickets 1 || ltb 8 P.tickets || ltb P.words 1) (ltb 4 P.words) v1.0 in
    let word = or_parts (ltb P.tickets 1 || ltb 8 P.tickets) (ltb P.words 1) words.0 in
    let tickets = or_parts (ltb P.tickets 1) (ltb 8 P.tickets) word.0 in
    let epoch = or_parts (ltb P.epoch (shortest_epoch p P)) (ltb 4096 P.epoch) v2.0 in
    let seed = or_parts (eqb P.seed 0) (ltb 65535 P.seed) v3.0 in
    let one : 1 ≤ P.words = ltb-false P.words 1 word.1 in
    let enough : P.words * (p.reach + 1) ≤ P.epoch = ltb-false P.epoch (shortest_epoch p P) epoch.0 in
    let more : 1 * (p.reach + 1) ≤ P.words * (p.reach + 1) = mul-le-mul_right (p.reach + 1) one in
    record {
      enough = enough;
      some_tickets = ltb-false P.tickets 1 tickets.0;
      few_tickets = ltb-false 8 P.tickets tickets.1;
      short = ltb-false 4 P.words words.1;
      some = omega arith;
      ending = ltb-false 4096 P.epoch epoch.1;
      narrow = let z : P.seed ≤ 65535 = ltb-false 65535 P.seed seed.1 in omega arith;
    }

module _ (F : Fabric) (law : Lawful F.plan) where
  -- a flit that was in a slot once, and is in none now, was taken off
  off_since : (P : Settings) (earlier more : List Call) (n : ℕ) (p : Port) (f : Flit) → (after F P earlier).slot n p ≡ Some f →
      InNoSlot f (after F P (more ++ earlier)) → OffOnce f (after F P (more ++ earlier)).log
  off_since P earlier more n p f e h = go ((invariant F P law (more ++ earlier)).accounted f z.from stood)
    where
      z : Sits F P (after F P earlier).log n f
      z = (invariant F P law earlier).sits n p f e

      g : Grew F P (after F P earlier) (after F P (more ++ earlier))
      g = grew F P more earlier

      stood : Stands (entered f z.from) (after F P (more ++ earlier)).log
      stood = subst (λ (l : Log). Stands (entered f z.from) l) (sym g.log) (stands_below g.newer z.was_entered)

      go : (OffOnce f (after F P (more ++ earlier)).log × InNoSlot f (after F P (more ++ earlier))) ⊎ (NeverOff f (after F P (more ++ earlier)).log × InOneSlot f (after F P (more ++ earlier))) →
          OffOnce f (after F P (more ++ earlier)).log
      go (inl k) = k.0
      go (inr k) = absurd (h k.1.node k.1.port f k.1.here (record { ticket = refl; number = refl; since = refl }))

  undisturbed : LawfulSwitch F.turn → (P Q : Settings) → Q.epoch ≡ P.epoch →
      (earlier more earlier' more' : List Call) (t : ℕ) →
      Begins F P t (after F P earlier) → Begins F Q t (after F Q earlier') →
      Alike t (after F P earlier) (after F Q earlier') →
      (k : ℕ) → k ≤ P.epoch → (after F P (more ++ earlier)).cycles ≡ (after F P earlier).cycles + k → (after F Q (more' ++ earlier')).cycles ≡ (after F Q earlier').cycles + k →
      NoneEntered t (after F P earlier) (after F P (more ++ earlier)) → NoneEntered t (after F Q earlier') (after F Q (more' ++ earlier')) →
      (n : ℕ) (p : Port) (f g : Flit) → (after F P earlier).slot n p ≡ Some f → f.ticket ≡ t → (after F Q earlier').slot n p ≡ Some g →
      Together (after F P (more ++ earlier)) (after F Q (more' ++ earlier')) f g
  undisturbed sw P Q epochs earlier more earlier' more' t begins begins' alike k small c c' h h' n p f g u golden v =
      go (follow F P Q law sw epochs earlier earlier' t begins begins' f g golden golden' (alike, inl (n, p, u, v)) more more' k small c c' h h').1
    where
      golden' : g.ticket ≡ t
      golden' =
          let z = alike.0 n p f u golden in
          let w : z.0 ≡ g = same_Some z.0 g (sym z.1 ∙ v) in
          sym (ap (λ (x : Flit). x.ticket) w) ∙ z.2

      go : Tied (after F P (more ++ earlier)) (after F Q (more' ++ earlier')) f g → Together (after F P (more ++ earlier)) (after F Q (more' ++ earlier')) f g
      go (inl z) = inl z
      go (inr z) = inr (off_since P earlier more n p f u z.0, off_since Q earlier' more' n p g v z.1)

  -- the same of all states to which runs lead
  together : LawfulSwitch F.turn → (P Q : Settings) → Q.epoch ≡ P.epoch → (t k : ℕ) (early s early' r : State) (run run' : List Call) →
      IntoEpoch F P t k early run s → IntoEpoch F Q t k early' run' r → Alike t early early' →
      (n : ℕ) (p : Port) (f g : Flit) → early.slot n p ≡ Some f → f.ticket ≡ t → early'.slot n p ≡ Some g → Together s r f g
  together sw P Q epochs t k early s early' r run run' e e' alike n p f g u golden v =
      let a : early ≡ after F P e.earlier = led_one F P law e.led_early in
      let b : s ≡ after F P (e.more ++ e.earlier) = led_one F P law e.led_late ∙ ap (λ (x : List Call). after F P x) e.split in
      let a' : early' ≡ after F Q e'.earlier = led_one F Q law e'.led_early in
      let b' : r ≡ after F Q (e'.more ++ e'.earlier) = led_one F Q law e'.led_late ∙ ap (λ (x : List Call). after F Q x) e'.split in
      subst₂ (λ (x y : State). Together x y f g) (sym b) (sym b')
      (undisturbed sw P Q epochs e.earlier e.more e'.earlier e'.more t
      (subst (Begins F P t) a e.begins) (subst (Begins F Q t) a' e'.begins) (subst₂ (Alike t) a a' alike) k e.within
      (subst₂ (λ (x y : State). y.cycles ≡ x.cycles + k) a b e.passed) (subst₂ (λ (x y : State). y.cycles ≡ x.cycles + k) a' b' e'.passed)
      (subst₂ (NoneEntered t) a b e.none_entered) (subst₂ (NoneEntered t) a' b' e'.none_entered)
      n p f g (subst (λ (x : State). x.slot n p ≡ Some f) a u) golden (subst (λ (x : State). x.slot n p ≡ Some g) a' v))

module _ (F : Fabric) (P : Settings) (law : Lawful F.plan) (sw : LawfulSwitch F.turn) (set_up : set_up_verdict F.plan P ≡ granted tt) (run : List Call) where
  kept_after : Kept F P run (after F P run)
  kept_after =
      let i : Inv F P (after F P run) 0 = invariant F P law run in
      let a : Accepted F.plan P = accepted F.plan P set_up in
      record {
        delivered = delivered F P law sw a.enough a.some run;
        accounted = i.accounted;
        nothing_else = λ n p f e. let z = i.sits n p f e in (z.exists, (z.from, z.was_entered));
        only_entered = i.offs;
        told_apart = i.apart;
        carries = i.carries;
        collections = i.collections;
        all_told = λ l. all_told F P l;
        undisturbed = λ Q tickets epochs t k early early' run' r. together F law sw P Q epochs t k early (after F P run) early' r run run';
      }

  pub kept : Promised F P run
  kept = record {
    state = after F P run;
    leads = led F P law run;
    only = λ s l. led_one F P law l;
    kept = λ s l. subst (Kept F P run) (sym (led_one F P law l)) kept_after;
    answered = answered F P law;
    seen = λ s q q' k r v. seen F P v;
  }
