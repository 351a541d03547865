-- The events of a run: how many they are, and what they can hold.
use Rattle.std.proofs.Common.{◌≡◌, ℕ, zero, suc, ◌+◌, ◌<◌, ◌≤◌, List, [], ◌∷◌, ◌++◌, Some, None, Option, refl, subst, arith}
use Rattle.std.specs.List.{AllByRecursion}
use Rattle.std.proofs.lemmas.List.Sums.{sum_by-cons, sum_by-append}
use Rattle.std.proofs.SliceLists.{all_by_recursion_push}
use Rattle.fabric.specs.declared.parts.Flit.{Flit}
use Rattle.fabric.specs.declared.parts.Port.{Port}
use Rattle.bounds.specs.declared.settings.Settings.{Settings}
use Rattle.bounds.specs.SetUp.{all_tickets}
use Rattle.network.specs.declared.event.Event.{Event}
use Rattle.network.specs.Log.{Log, free, packet}
use Rattle.network.specs.Log.Happening.{offered, entered, off, collected}
use Rattle.network.specs.Cycle.{Fabric, State, Places, Work, Works, Takes, LetsIn, Cycle, golden_in, off_at, entered_at, news, happened}
use Rattle.network.specs.Runs.{told, count_off, event_in, event_out}
use Rattle.network.proofs.Invariant.{Inv, Waits}
use Rattle.network.specs.Counts.{offers, entries, collections}
use Rattle.runner.specs.Listing.{enters, leaves, ins, outs, under_way}
use Rattle.runner.specs.Tallies.{Small}
use Rattle.runner.specs.Progress.{Narrow}

-- what is summed up of events
pub record Sums (a b : List Event) : Type 0 where
  pub ins : ins (a ++ b) ≡ ins a + ins b
  pub outs : outs (a ++ b) ≡ outs a + outs b
  pub under_way : under_way (a ++ b) ≡ under_way a + under_way b

pub sums_append : (a b : List Event) → Sums a b
sums_append a b = record { ins = sum_by-append _ a b; outs = sum_by-append _ a b; under_way = sum_by-append _ a b }

pub sums_cons : (e : Event) (es : List Event) → (ins (e ∷ es) ≡ enters e.kind + ins es) × (outs (e ∷ es) ≡ leaves e.kind + outs es)
sums_cons e es = (sum_by-cons _ e es, sum_by-cons _ e es)

-- the events tell of each entry and each taking off
pub ins_told : (l : Log) → ins (told l) ≡ entries l
ins_told [] = refl
ins_told (offered t p ∷ l) = ins_told l
ins_told (entered f n ∷ l) = let h = ins_told l in let e = (sums_append (told l) (event_in f n ∷ [])).ins in omega arith
ins_told (off f n c ∷ l) = let h = ins_told l in let e = (sums_append (told l) (event_out f n c ∷ [])).ins in omega arith
ins_told (collected t r ws ∷ l) = ins_told l

pub outs_told : (l : Log) → outs (told l) ≡ count_off l
outs_told [] = refl
outs_told (offered t p ∷ l) = outs_told l
outs_told (entered f n ∷ l) = let h = outs_told l in let e = (sums_append (told l) (event_in f n ∷ [])).outs in omega arith
outs_told (off f n c ∷ l) = let h = outs_told l in let e = (sums_append (told l) (event_out f n c ∷ [])).outs in omega arith
outs_told (collected t r ws ∷ l) = outs_told l

-- a cycle brings entries and takings off alone
abbrev pub Moves : Log → Type 0
Moves [] = Unit {0}
Moves (offered t p ∷ l) = ⊥
Moves (entered f n ∷ l) = Moves l
Moves (off f n c ∷ l) = Moves l
Moves (collected t r ws ∷ l) = ⊥

moves_off : (c n : ℕ) (o : Option (Port × Flit)) (l : Log) → Moves l → Moves (off_at c n o ++ l)
moves_off c n None l h = h
moves_off c n (Some b) l h = h

moves_in : (n : ℕ) (o : Option (Port × Flit)) (l : Log) → Moves l → Moves (entered_at n o ++ l)
moves_in n None l h = h
moves_in n (Some b) l h = h

pub moves : (c : ℕ) (work : ℕ → Work) (n : ℕ) → Moves (news c work n)
moves c work zero = tt
moves c work (suc n) = moves_in n (work n).entry _ (moves_off c n (work n).off _ (moves c work n))

-- which changes nothing else that is read off the log
pub record Alike (m l : Log) : Type 0 where
  pub free : (t : ℕ) → free t m ≡ free t l
  pub packet : (t : ℕ) → packet t m ≡ packet t l
  pub offers : offers m ≡ offers l
  pub collections : collections m ≡ collections l
  pub narrow : Narrow l → Narrow m

pub alike : (m l : Log) → Moves m → Alike (m ++ l) l
alike [] l h = record { free = λ t. refl; packet = λ t. refl; offers = refl; collections = refl; narrow = λ x. x }
alike (offered t p ∷ m) l h = absurd h
alike (entered f n ∷ m) l h = let a = alike m l h in record { free = a.free; packet = a.packet; offers = a.offers; collections = a.collections; narrow = a.narrow }
alike (off f n c ∷ m) l h = let a = alike m l h in record { free = a.free; packet = a.packet; offers = a.offers; collections = a.collections; narrow = a.narrow }
alike (collected t r ws ∷ m) l h = absurd h

module _ (F : Fabric) (P : Settings) (s : State) (i : Inv F P s 0) (nodes : F.plan.nodes ≤ 64) (tickets : all_tickets F.plan P ≤ 512) (words : P.words ≤ 4) (early : s.cycles < 65536) where
  small_off : (n : ℕ) → n < F.plan.nodes → (o : Option (Port × Flit)) → Takes (golden_in F P s.cycles) n (s.slot n) o → (l : Log) → AllByRecursion Small (told l) →
      AllByRecursion Small (told (off_at s.cycles n o ++ l))
  small_off n e None t l h = h
  small_off n e (Some b) t l h =
      let z = i.sits n b.0 b.1 t.0.0 in
      let x = i.opens b.1.ticket z.open_ticket in
      all_by_recursion_push Small (told l) _ h
      (record {
        cycle = early;
        ticket = let y = x.ticket in omega arith;
        number = let y = x.short in let u = z.in_size in omega arith;
        node = omega arith;
        since = (i.timely b.1 z.from z.was_entered).0;
      })

  small_in : (n : ℕ) → n < F.plan.nodes → (places : Places) (o : Option (Port × Flit)) → LetsIn P s n places o → (l : Log) → AllByRecursion Small (told l) →
      AllByRecursion Small (told (entered_at n o ++ l))
  small_in n e places None t l h = h
  small_in n e places (Some b) t l h =
      let f = b.1 in
      let z = t.1 in
      let w : AllByRecursion (Waits P s.log n) (f.ticket ∷ z.others) = subst (λ (x : List ℕ). AllByRecursion (Waits P s.log n) x) z.ticket (i.queue n) in
      let x = i.opens f.ticket w.0.open_ticket in
      let now = z.now in
      all_by_recursion_push Small (told l) _ h
      (record {
        cycle = omega arith;
        ticket = let y = x.ticket in omega arith;
        number = let y = x.short in let u = w.0.more in let v = z.number in omega arith;
        node = omega arith;
        since = omega arith;
      })

  small_news : (work : ℕ → Work) → ((n : ℕ) → n < F.plan.nodes → Works F P s n (work n)) → (n : ℕ) → n ≤ F.plan.nodes → AllByRecursion Small (told (news s.cycles work n))
  small_news work works zero h = tt
  small_news work works (suc n) h =
      let w = works n h in
      small_in n h _ (work n).entry w.lets_in _ (small_off n h (work n).off w.takes_off _ (small_news work works n (omega arith)))

  -- what a cycle tells
  pub small_told : {r : State} (c : Cycle F P s r) → AllByRecursion Small (told (happened c))
  small_told c = small_news c.work (λ n e. c.works n e) F.plan.nodes (omega arith)
