-- The bytes of lines, and what a writer has when they are written.
use Rattle.std.proofs.Common.{◌≡◌, ℕ, ◌+◌, ◌*◌, ◌≤◌, List, [], ◌∷◌, ◌++◌, map, length, drop, sym, refl, ap, ◌∙◌, append-nil, subst, arith}
use Rattle.std.proofs.lemmas.List.{length-append, length-drop, drop-drop}
use Rattle.std.proofs.lemmas.Grind.{flat_map-append}
use Rattle.std.specs.List.{AllByRecursion}
use Rattle.network.specs.declared.event.Event.{Event}
use Rattle.network.specs.declared.event.Kind.{Kind}
use Rattle.network.specs.declared.event.Kind.TheVariants.{In, Out}
use Rattle.text.specs.Texts.{Field, written, text}
use Rattle.writer.specs.declared.writer.Writer.{Writer}
use Rattle.writer.specs.Listings.{beyond, Appends}
use Rattle.writer.proofs.Lengths.{length_event}
use Rattle.network.specs.Kinds.{event_word}
use Rattle.runner.specs.Listing.{line_of, enters, leaves, ins, outs}
use Rattle.runner.specs.Tallies.{Small}
use Rattle.runner.proofs.Events.{sums_cons}
use Rattle.runner.specs.Answering.{Holds}

-- the line of an event has few bytes
line_short : (e : Event) → Small e → length (written (line_of e)) ≤ 20
line_short e h =
    length_event e.cycle e.ticket e.number e.node (event_word e.kind) h.cycle (word_short e.kind)
    (let x = h.ticket in omega arith) (let x = h.number in omega arith) (let x = h.node in omega arith)
  where
    word_short : (k : Kind) → length (event_word k) ≤ 3
    word_short In = omega arith
    word_short Out = omega arith

pub text_one : (l : List Field) → text (l ∷ []) ≡ written l
text_one l = append-nil (written l)

-- the room that is left
pub room_beyond : {M : List ℕ} {w : Writer} {bs : List ℕ} {b : ℕ} → 65536 ≤ length M → Holds M w bs b → 65536 ≤ b + length (beyond w)
room_beyond {M} {bs = bs} long h = omega (arith, h.few, ap length h.rest ∙ length-drop (length bs) M)

-- more bytes, more lines or one more line
holds_more : {M : List ℕ} {w v : Writer} {bs : List ℕ} {b c : ℕ} (more : List ℕ) → Holds M w bs b → b + length more ≤ c → Appends w more v → Holds M v (bs ++ more) c
holds_more {M} {bs = bs} more p h a =
    let long = length-append bs more in
    record {
      written = a.listed ∙ ap (λ (x : List ℕ). x ++ more) p.written;
      rest = a.beyond ∙ ap (drop (length more)) p.rest ∙ drop-drop (length more) (length bs) M ∙ ap (λ (k : ℕ). drop k M) (sym long);
      few = omega (arith, p.few, h, long);
    }

pub lines_more : {M : List ℕ} {w v : Writer} (ls more : List (List Field)) {b c : ℕ} → Holds M w (text ls) b → b + length (text more) ≤ c → Appends w (text more) v →
    Holds M v (text (ls ++ more)) c
lines_more {M} {v = v} ls more {c = c} p h a = subst (λ (bs : List ℕ). Holds M v bs c) (sym (flat_map-append written ls more)) (holds_more (text more) p h a)

pub line_more : {M : List ℕ} {w v : Writer} (ls : List (List Field)) (line : List Field) {b c : ℕ} → Holds M w (text ls) b → b + length (written line) ≤ c → Appends w (written line) v →
    Holds M v (text (ls ++ line ∷ [])) c
line_more {w = w} {v = v} ls line p h a =
    let one = text_one line in
    lines_more ls (line ∷ []) p (omega (arith, h, ap length one)) (subst (λ (x : List ℕ). Appends w x v) (sym one) a)

-- the lines of events have at most 20 bytes each
pub text_short : (es : List Event) → AllByRecursion Small es → length (text (map line_of es)) ≤ 20 * (ins es + outs es)
text_short [] h = omega arith
text_short (e ∷ es) h =
    let l = length-append (written (line_of e)) (text (map line_of es)) in
    let s = sums_cons e es in
    omega (arith, text_short es h.1, l, line_short e h.0, counted e.kind, s.0, s.1)
  where
    counted : (k : Kind) → enters k + leaves k ≡ 1
    counted In = refl
    counted Out = refl
