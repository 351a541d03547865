-- The events of a cycle, in the caller's line.
use Rattle.std.proofs.Common.{◌≡◌, ℕ, zero, suc, ◌+◌, ◌*◌, ◌≤◌, ltb, leb, List, [], ◌∷◌, ◌++◌, length, Some, None, Option, sym, ap, ◌∙◌, append_assoc, append-nil, arith}
use Rattle.std.proofs.lemmas.List.{length-append, length-set}
use Rattle.std.proofs.lemmas.Bool.{ltb-false}
use Rattle.fabric.specs.declared.parts.Flit.{Flit}
use Rattle.fabric.specs.declared.parts.Port.{Port}
use Rattle.fabric.specs.Verdicts.Verdict.{granted}
use Rattle.line.specs.Queues.{Queue, Sound, contents, free_places, put}
use Rattle.line.proofs.Contents.{put_contents}
use Rattle.bounds.specs.declared.settings.Settings.{Settings}
use Rattle.network.specs.declared.event.Event.{Event}
use Rattle.network.specs.Log.{Log}
use Rattle.network.specs.Cycle.{Fabric, State, Work, off_at, entered_at, news, happened}
use Rattle.network.specs.Runs.{event_in, event_out, told, put_all, Serves}
use Rattle.network.specs.Runs.Call.{cycle}
use Rattle.network.specs.Runs.Outcome.{cycling}
use Rattle.network.specs.Runs.Serves.{cycle_granted}
use Rattle.network.specs.Promises.{puts}
use Rattle.network.proofs.Running.{peel}

module _ {A : Type 0} where
  put_sound : (q : Queue A) → Sound q → (x : A) → q.held + 1 ≤ length q.memory → Sound (put q x)
  put_sound q s x h =
      let e : length (put q x).memory ≡ length q.memory = length-set q.memory _ x in
      (omega (arith, e), λ k. let z = s.1 (omega arith) in omega (arith, e))

  put_all_contents : (q : Queue A) (xs : List A) → Sound q → q.held + length xs ≤ length q.memory → contents (put_all q xs) ≡ contents q ++ xs
  put_all_contents q [] s h = sym (append-nil (contents q))
  put_all_contents q (x ∷ xs) s h =
      let e : length (put q x).memory ≡ length q.memory = length-set q.memory _ x in
      put_all_contents (put q x) xs (put_sound q s x (omega arith)) (omega (arith, e))
      ∙ (ap (λ (c : List A). c ++ xs) (put_contents q s x (omega arith)) ∙ append_assoc (contents q) (x ∷ []) xs)

-- a node tells at most two events
off_told : (c n : ℕ) (o : Option (Port × Flit)) (l : Log) → length (told (off_at c n o ++ l)) ≤ length (told l) + 1
off_told c n None l = omega arith
off_told c n (Some b) l = omega (arith, length-append (told l) (event_out b.1 n c ∷ []))

entered_told : (n : ℕ) (o : Option (Port × Flit)) (l : Log) → length (told (entered_at n o ++ l)) ≤ length (told l) + 1
entered_told n None l = omega arith
entered_told n (Some b) l = omega (arith, length-append (told l) (event_in b.1 n ∷ []))

pub few_told : (c : ℕ) (work : ℕ → Work) (n : ℕ) → length (told (news c work n)) ≤ 2 * n
few_told c work zero = omega arith
few_told c work (suc n) =
    let a = few_told c work n in
    let b = off_told c n (work n).off (news c work n) in
    let d = entered_told n (work n).entry (off_at c n (work n).off ++ news c work n) in
    omega arith

module _ (F : Fabric) (P : Settings) where
  -- where a cycle is granted, its events come into the line after what it held
  pub seen : {s : State} {q q' : Queue Event} {k : ℕ} {r : State} (v : Serves F P s (cycle q) (cycling (granted k) q') r) → Sound q → contents q' ≡ contents q ++ puts v
  seen {s} (cycle_granted {q} e c) sound =
      let room = (peel 11 (ltb (free_places q) (2 * F.plan.nodes)) _ tt (peel 10 (leb 1073741823 s.cycles) _ tt e).1).0 in
      let wide : 2 * F.plan.nodes ≤ free_places q = ltb-false (free_places q) (2 * F.plan.nodes) room in
      let few = few_told s.cycles c.work F.plan.nodes in
      let held = sound.0 in
      put_all_contents q (told (happened c)) sound (omega arith)
