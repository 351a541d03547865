-- What becomes of a golden ticket's flits does not depend on other traffic or the seed.
use Rattle.std.proofs.Common.{◌≡◌, ℕ, zero, suc, ◌+◌, ◌<◌, ◌≤◌, ◌⊎◌, List, [], ◌∷◌, ◌++◌, Some, Option, sym, refl, ap, ◌∙◌, subst, inl, inr, append_assoc, arith}
use Rattle.std.proofs.lemmas.Bool.{cases_eq}
use Rattle.fabric.specs.declared.parts.Flit.{Flit}
use Rattle.fabric.specs.declared.parts.Port.{Port}
use Rattle.fabric.specs.Layouts.{Lawful}
use Rattle.switch.specs.Switches.{LawfulSwitch}
use Rattle.network.specs.Log.{Happening, Log}
use Rattle.network.specs.Log.Happening.{entered}
use Rattle.bounds.specs.declared.settings.Settings.{Settings}
use Rattle.network.specs.Cycle.{Fabric, State, off_at, entered_at}
use Rattle.network.specs.Runs.{Call}
use Rattle.network.specs.Computed.{taken, entering, done, cycled, next, after}
use Rattle.network.specs.Promises.{Stands, Begins, NoneEntered, Alike}
use Rattle.network.proofs.Stand.{stands_now, stands_below}
use Rattle.network.proofs.Nodes.{entering_ready}
use Rattle.network.proofs.Moving.{Slots}
use Rattle.network.proofs.Cycling.{ready_exists}
use Rattle.network.proofs.Running.{Still, steps, invariant}
use Rattle.network.proofs.Delivery.{same_golden}
use Rattle.network.proofs.Alikes.{Side, like_step, Tied, tied_step}

pub stands_above : {h : Happening} (m l : Log) → Stands h m → Stands h (m ++ l)
stands_above {h} m l e =
    record { newer = e.newer; older = e.older ++ l; split = ap (λ (x : Log). x ++ l) e.split ∙ append_assoc e.newer (h ∷ e.older) l }

-- what enters in a cycle is told of it
pub enters_told : (F : Fabric) (P : Settings) (s : State) (k n : ℕ) (p : Port) (f : Flit) → n < k → entering F P s n ≡ Some (p, f) → Stands (entered f n) (done F P s k)
unfolding done
enters_told F P s zero n p f h e = absurd (omega arith)
enters_told F P s (suc k) n p f h e = go (cases_eq n k) (λ l. enters_told F P s k n p f l e)
  where
    go : (n ≡ k) ⊎ (n ≡ k → ⊥) → (n < k → Stands (entered f n) (done F P s k)) → Stands (entered f n) (done F P s (suc k))
    go (inl d) ih =
        let u : entering F P s k ≡ Some (p, f) = sym (ap (entering F P s) d) ∙ e in
        subst (λ (o : Option (Port × Flit)). Stands (entered f n) (entered_at k o ++ (off_at s.cycles k (taken F P s k) ++ done F P s k))) (sym u)
        (subst (λ (x : ℕ). Stands (entered f n) (entered f x ∷ (off_at s.cycles k (taken F P s k) ++ done F P s k))) d stands_now)
    go (inr d) ih = stands_below (entered_at k (entering F P s k)) (stands_below (off_at s.cycles k (taken F P s k)) (ih (omega arith)))

module _ (F : Fabric) (P : Settings) where
  -- a run that goes on: its log and its cycles grow
  pub record Grew (early late : State) : Type 0 where
    pub newer : Log
    pub log : late.log ≡ newer ++ early.log
    pub cycles : early.cycles ≤ late.cycles

  pub grew : (more earlier : List Call) → Grew (after F P earlier) (after F P (more ++ earlier))
  grew [] earlier = record { newer = []; log = refl; cycles = omega arith }
  grew (c ∷ more) earlier = go (steps F P s c) (grew more earlier)
    where
      s : State
      s = after F P (more ++ earlier)

      e : State
      e = after F P earlier

      go : Still F P s (next F P s c) ⊎ (next F P s c ≡ cycled F P s) → Grew e s → Grew e (next F P s c)
      go (inl z) g =
          record {
            newer = z.newer ++ g.newer;
            log = z.log ∙ ap (λ (x : Log). z.newer ++ x) g.log ∙ sym (append_assoc z.newer g.newer e.log);
            cycles = subst (λ (x : ℕ). e.cycles ≤ x) (sym z.cycles) g.cycles;
          }
      go (inr z) g =
          subst (λ (x : State). Grew e x) (sym z)
          (record {
            newer = done F P s F.plan.nodes ++ g.newer;
            log = ap (λ (x : Log). done F P s F.plan.nodes ++ x) g.log ∙ sym (append_assoc (done F P s F.plan.nodes) g.newer e.log);
            cycles = let y = g.cycles in omega arith;
          })

  -- none entered up to a later state, so none up to an earlier one
  earlier_none : (t : ℕ) (early s r : State) (x : Log) → r.log ≡ x ++ s.log → NoneEntered t early r → NoneEntered t early s
  earlier_none t early s r x e h l d f n k u =
      h (x ++ l) (e ∙ ap (λ (y : Log). x ++ y) d ∙ sym (append_assoc x l early.log)) f n k (stands_below x u)

  -- and none enters in the last cycle
  quiet_now : (t : ℕ) (earlier more : List Call) → Lawful F.plan → NoneEntered t (after F P earlier) (cycled F P (after F P (more ++ earlier))) →
      (n : ℕ) (p : Port) (f : Flit) → entering F P (after F P (more ++ earlier)) n ≡ Some (p, f) → f.ticket ≡ t → ⊥
  quiet_now t earlier more law h n p f e k =
      let s = after F P (more ++ earlier) in
      let g = grew more earlier in
      let i = invariant F P law (more ++ earlier) in
      h (done F P s F.plan.nodes ++ g.newer)
      (ap (λ (x : Log). done F P s F.plan.nodes ++ x) g.log ∙ sym (append_assoc (done F P s F.plan.nodes) g.newer (after F P earlier).log))
      f n k
      (stands_above (done F P s F.plan.nodes) g.newer (enters_told F P s F.plan.nodes n p f (ready_exists F P s i n p f (entering_ready F P s n p f e)) e))

  -- one side of the pair, in a cycle of the epoch
  pub side : (t : ℕ) (earlier more : List Call) (k : ℕ) → Lawful F.plan → Begins F P t (after F P earlier) → k < P.epoch →
      (after F P (more ++ earlier)).cycles ≡ (after F P earlier).cycles + k →
      NoneEntered t (after F P earlier) (cycled F P (after F P (more ++ earlier))) → Side F t P (after F P (more ++ earlier))
  side t earlier more k law begins small e h =
      record {
        inv = invariant F P law (more ++ earlier);
        golden = same_golden F P (after F P earlier).cycles (after F P (more ++ earlier)).cycles begins.0 (omega arith) (omega arith) ∙ begins.1;
        quiet = quiet_now t earlier more law h;
      }

module _ (F : Fabric) (P Q : Settings) (law : Lawful F.plan) (sw : LawfulSwitch F.turn) (epochs : Q.epoch ≡ P.epoch)
    (earlier earlier' : List Call) (t : ℕ) (begins : Begins F P t (after F P earlier)) (begins' : Begins F Q t (after F Q earlier'))
    (f g : Flit) (golden : f.ticket ≡ t) (golden' : g.ticket ≡ t) where
  abbrev Bound : State → State → Type 0
  Bound s r = Alike t s r × Tied s r f g

  abbrev here : List Call → State
  here more = after F P (more ++ earlier)

  abbrev there : List Call → State
  there more = after F Q (more ++ earlier')

  abbrev NoneHere : State → Type 0
  NoneHere s = NoneEntered t (after F P earlier) s

  abbrev NoneThere : State → Type 0
  NoneThere s = NoneEntered t (after F Q earlier') s

  both_step : (more more' : List Call) (k : ℕ) → k < P.epoch → (here more).cycles ≡ (after F P earlier).cycles + k → (there more').cycles ≡ (after F Q earlier').cycles + k →
      NoneHere (cycled F P (here more)) → NoneThere (cycled F Q (there more')) → Bound (here more) (there more') → Bound (cycled F P (here more)) (cycled F Q (there more'))
  both_step more more' k small c c' h h' x =
      let a : Side F t P (here more) = side F P t earlier more k law begins small c h in
      let b : Side F t Q (there more') = side F Q t earlier' more' k law begins' (omega arith) c' h' in (
        (like_step F law sw t P (here more) a Q (there more') b x.0.0 x.0.1, like_step F law sw t Q (there more') b P (here more) a x.0.1 x.0.0),
        tied_step F law sw t P (here more) a Q (there more') b x.0.0 x.0.1 f g golden golden' x.1,
      )

  -- while no cycle is carried out
  idle : Bound (here []) (there []) → (more' : List Call) → (there more').cycles ≡ (after F Q earlier').cycles + 0 → Bound (here []) (there more')
  idle x [] c = x
  idle x (k ∷ more') c = go (steps F Q (there more') k) (idle x more')
    where
      go : Still F Q (there more') (there (k ∷ more')) ⊎ (there (k ∷ more') ≡ cycled F Q (there more')) → ((there more').cycles ≡ (after F Q earlier').cycles + 0 → Bound (here []) (there more')) →
          Bound (here []) (there (k ∷ more'))
      go (inl z) ih = subst (λ (y : Slots). Bound (here []) (record (there more') { slot = y })) (sym z.slot) (ih (sym z.cycles ∙ c))
      go (inr z) ih =
          let g = (grew F Q more' earlier').cycles in
          let d : (there more').cycles + 1 ≡ (after F Q earlier').cycles + 0 = sym (ap (λ (y : State). y.cycles) z) ∙ c in
          absurd (omega arith)

  abbrev Follows : List Call → Type 0
  Follows more = (more' : List Call) (k : ℕ) → k ≤ P.epoch → (here more).cycles ≡ (after F P earlier).cycles + k → (there more').cycles ≡ (after F Q earlier').cycles + k →
      NoneHere (here more) → NoneThere (there more') → Bound (here more) (there more')

  -- a cycle is carried out here: the other goes on to its own
  catch : (more : List Call) → Follows more → NoneHere (cycled F P (here more)) → (k : ℕ) → k < P.epoch → (here more).cycles ≡ (after F P earlier).cycles + k →
      (more' : List Call) → (there more').cycles ≡ (after F Q earlier').cycles + (k + 1) → NoneThere (there more') → Bound (cycled F P (here more)) (there more')
  catch more ih h k small c [] c' h' = absurd (omega arith)
  catch more ih h k small c (d ∷ more') c' h' = go (steps F Q (there more') d) (catch more ih h k small c more')
    where
      go : Still F Q (there more') (there (d ∷ more')) ⊎ (there (d ∷ more') ≡ cycled F Q (there more')) →
          ((there more').cycles ≡ (after F Q earlier').cycles + (k + 1) → NoneThere (there more') → Bound (cycled F P (here more)) (there more')) →
          Bound (cycled F P (here more)) (there (d ∷ more'))
      go (inl z) again =
          subst (λ (y : Slots). Bound (cycled F P (here more)) (record (there more') { slot = y })) (sym z.slot)
          (again (sym z.cycles ∙ c') (earlier_none F Q t (after F Q earlier') (there more') (there (d ∷ more')) z.newer z.log h'))
      go (inr z) again =
          let e : (there more').cycles + 1 ≡ (after F Q earlier').cycles + (k + 1) = sym (ap (λ (y : State). y.cycles) z) ∙ c' in
          let n : NoneThere (cycled F Q (there more')) = subst (λ (y : State). NoneThere y) z h' in
          subst (Bound (cycled F P (here more))) (sym z)
          (both_step more more' k small c (omega arith) h n
          (ih more' k (omega arith) c (omega arith)
          (earlier_none F P t (after F P earlier) (here more) (cycled F P (here more)) (done F P (here more) F.plan.nodes) refl h)
          (earlier_none F Q t (after F Q earlier') (there more') (cycled F Q (there more')) (done F Q (there more') F.plan.nodes) refl n)))

  pub follow : Bound (here []) (there []) → (more : List Call) → Follows more
  follow x [] more' k small c c' h h' = idle x more' (let z : k ≡ 0 = omega arith in subst (λ (y : ℕ). (there more').cycles ≡ (after F Q earlier').cycles + y) z c')
  follow x (d ∷ more) more' k small c c' h h' = go (steps F P (here more) d) (follow x more) k small c c'
    where
      go : Still F P (here more) (here (d ∷ more)) ⊎ (here (d ∷ more) ≡ cycled F P (here more)) → Follows more →
          (k : ℕ) → k ≤ P.epoch → (here (d ∷ more)).cycles ≡ (after F P earlier).cycles + k → (there more').cycles ≡ (after F Q earlier').cycles + k → Bound (here (d ∷ more)) (there more')
      go (inl z) ih k small c c' =
          subst (λ (y : Slots). Bound (record (here more) { slot = y }) (there more')) (sym z.slot)
          (ih more' k small (sym z.cycles ∙ c) c' (earlier_none F P t (after F P earlier) (here more) (here (d ∷ more)) z.newer z.log h) h')
      go (inr z) ih zero small c c' =
          let g = (grew F P more earlier).cycles in
          let e : (here more).cycles + 1 ≡ (after F P earlier).cycles + 0 = sym (ap (λ (y : State). y.cycles) z) ∙ c in
          absurd (omega arith)
      go (inr z) ih (suc k) small c c' =
          let e : (here more).cycles + 1 ≡ (after F P earlier).cycles + suc k = sym (ap (λ (y : State). y.cycles) z) ∙ c in
          let n : NoneHere (cycled F P (here more)) = subst (λ (y : State). NoneHere y) z h in
          subst (λ (y : State). Bound y (there more')) (sym z)
          (catch more ih n k (omega arith) (omega arith) more' (omega arith) h')
