-- The events of a cycle, one after another.
use Rattle.std.proofs.Common.{◌≡◌, ℕ, ◌+◌, ◌-◌, ◌*◌, ◌≤◌, List, [], ◌∷◌, ◌++◌, map, length, Ok, Err, Result, sym, refl, ap, ◌∙◌, subst, ap₂, append_assoc, arith}
use Rattle.std.proofs.lemmas.List.{length-append, length-drop, map-append}
use Rattle.std.proofs.lemmas.Grind.{flat_map-append}
use Rattle.fabric.specs.declared.refusal.Refusal.{Refusal}
use Rattle.fabric.specs.Refusals.{shown}
use Rattle.fabric.specs.Verdicts.{Verdict}
use Rattle.fabric.specs.Verdicts.Verdict.{granted}
use Rattle.network.specs.declared.event.Event.{Event}
use Rattle.network.specs.declared.event.Kind.{Kind}
use Rattle.network.specs.declared.event.Kind.TheVariants.{In, Out}
use Rattle.text.specs.Texts.{Field, written, text}
use Rattle.writer.specs.declared.writer.Writer.{Writer}
use Rattle.writer.specs.Listings.{beyond, Appends, LineOut, event_line}
use Rattle.writer.proofs.Outcomes.{with_room}
use Rattle.writer.proofs.Written.{appends_both}
use Rattle.runner.specs.declared.tally.Tally.{Tally}
use Rattle.network.specs.Kinds.{event_word}
use Rattle.runner.specs.Listing.{line_of, enters, leaves}
use Rattle.runner.specs.Tallies.{Counts, Tellable, Told}
use Rattle.runner.proofs.Events.{sums_append, sums_cons}
use Rattle.runner.proofs.Pages.{text_one}

pub ok_shown : (r : Result (Unit {0}) Refusal) → shown r ≡ granted tt → r ≡ Ok tt
ok_shown (Ok tt) e = refl
ok_shown (Err x) e = cc

text_both : (a b : List Event) → text (map line_of (a ++ b)) ≡ text (map line_of a) ++ text (map line_of b)
text_both a b = ap text (map-append line_of a b) ∙ flat_map-append written (map line_of a) (map line_of b)

-- the line of an event, by the words and numbers that were handed over
pub as_line : {w w' : Writer} {v : Verdict (Unit {0})} (e : Event) {kind : List ℕ} {a b c : ℕ} → kind ≡ event_word e.kind → a ≡ e.ticket → b ≡ e.number → c ≡ e.node →
    LineOut w (event_line e.cycle kind a b c) w' v → LineOut w (line_of e) w' v
as_line {w} {w'} {v} e {kind} {a} {b} {c} h x y z =
    subst (λ (l : List Field). LineOut w l w' v)
    (ap₂ (λ (k : List ℕ) (m : ℕ). event_line e.cycle k m b c) h x ∙ ap₂ (λ (k m : ℕ). event_line e.cycle (event_word e.kind) e.ticket k m) y z)

-- one event
pub one_told : {t t' : Tally} {w w' : Writer} (e : Event) (r : Result (Unit {0}) Refusal) → Tellable t w (e ∷ []) →
    Counts t (enters e.kind) (leaves e.kind) (leaves e.kind * (e.cycle - e.entered)) t' → LineOut w (line_of e) w' (shown r) →
    (r ≡ Ok tt) × Told t w (e ∷ []) t' w'
one_told {t} {t'} {w} {w'} e r h c out =
    let one = text_one (line_of e) in
    let room : length (written (line_of e)) ≤ length (beyond w) = let z = h.room in let l = ap length one in omega arith in
    let x = with_room room out in (
      ok_shown r x.0,
      record {
        counts = record {
          entered = let z = c.entered in omega arith;
          off = let z = c.off in omega arith;
          waited = let z = c.waited in omega arith;
        };
        appends = subst (λ (b : List ℕ). Appends w b w') (sym one) x.1;
        waited = go e.kind c.off c.waited;
      },
    )
  where
    go : (k : Kind) → t'.off ≡ t.off + leaves k → t'.waited ≡ t.waited + leaves k * (e.cycle - e.entered) → t'.waited ≤ 65536 * t'.off
    go In a b = let z = h.waited in omega arith
    go Out a b = let z = h.waited in let y = h.small.0.cycle in omega arith

told_more : {t u v : Tally} {w x y : Writer} (a b : List Event) → Told t w a u x → Told u x b v y → Told t w (a ++ b) v y
told_more {t} {u} {v} {w} {x} {y} a b m n =
    record {
      counts = record {
        entered = let c = m.counts.entered in let d = n.counts.entered in let e = (sums_append a b).ins in omega arith;
        off = let c = m.counts.off in let d = n.counts.off in let e = (sums_append a b).outs in omega arith;
        waited = let c = m.counts.waited in let d = n.counts.waited in let e = (sums_append a b).under_way in omega arith;
      };
      appends = subst (λ (z : List ℕ). Appends w z y) (sym (text_both a b)) (appends_both w x y (text (map line_of a)) (text (map line_of b)) m.appends n.appends);
      waited = n.waited;
    }

-- some events are told, and the rest can be
pub record Telling (t₀ : Tally) (w₀ : Writer) (es : List Event) (t : Tally) (w : Writer) (rest : List Event) : Type 0 where
  pub done : List Event
  pub split : es ≡ done ++ rest
  pub told : Told t₀ w₀ done t w
  pub tellable : Tellable t w rest

-- the next event is told
pub next : {t₀ t t' : Tally} {w₀ w w' : Writer} {es : List Event} (e : Event) (rest : List Event) → Telling t₀ w₀ es t w (e ∷ rest) → Told t w (e ∷ []) t' w' → Telling t₀ w₀ es t' w' rest
next {w = w} {w' = w'} e rest h m =
    let k = h.tellable in
    let one = ap length (text_one (line_of e)) in
    let all = length-append (written (line_of e)) (text (map line_of rest)) in
    let left = ap length m.appends.beyond ∙ length-drop (length (text (map line_of (e ∷ [])))) (beyond w) in
    record {
      done = h.done ++ e ∷ [];
      split = h.split ∙ sym (append_assoc h.done (e ∷ []) rest);
      told = told_more h.done (e ∷ []) h.told m;
      tellable = record {
        small = k.small.1;
        room = let z = k.room in omega arith;
        few_in = let z = k.few_in in let s = (sums_cons e rest).0 in let c = m.counts.entered in omega arith;
        few_out = let z = k.few_out in let s = (sums_cons e rest).1 in let c = m.counts.off in omega arith;
        waited = m.waited;
      };
    }
