-- From what the parts of a sheet are answered to its listing.
use Rattle.std.proofs.Common.{◌≡◌, ℕ, ◌<◌, ◌≤◌, List, [], ◌∷◌, ◌++◌, length, drop, Ok, Err, Result, sym, refl, ap, ◌∙◌, subst, inl, inr, arith}
use Rattle.std.specs.List.{flat_map}
use Rattle.std.proofs.lemmas.List.{length-append, take-append-drop}
use Rattle.fabric.specs.declared.refusal.Refusal.{Refusal}
use Rattle.fabric.specs.Layouts.{Plan}
use Rattle.fabric.specs.Refusals.{shown}
use Rattle.fabric.specs.Verdicts.{Verdict, granting}
use Rattle.fabric.specs.Verdicts.Verdict.{granted}
use Rattle.text.specs.declared.fault.Fault.{Fault}
use Rattle.text.specs.declared.fault.Layer.{Layer}
use Rattle.text.specs.declared.fault.Layer.TheVariants.{Network}
use Rattle.text.specs.Faults.{told, fault_fields}
use Rattle.runsheet.specs.Said.{Said}
use Rattle.runsheet.specs.Sheets.{SheetText}
use Rattle.text.specs.Texts.{Field, row, written}
use Rattle.laying.specs.Reports.Report.{answers, faults}
use Rattle.laying.specs.Reports.{by_layer}
use Rattle.laying.specs.Layings.{Laid, Judged}
use Rattle.writer.specs.declared.writer.Writer.{Writer}
use Rattle.writer.specs.Listings.{listed, beyond, Appends, LineOut}
use Rattle.writer.proofs.Outcomes.{with_room}
use Rattle.runner.specs.Answering.{network_of, Listing, WrittenOut, Blank, Holds, Ended, Faulted, Carried}
use Rattle.runner.specs.Answering.WrittenOut.{listing}
use Rattle.runner.proofs.Telling.{ok_shown}

-- the exit of a `?`
pub faulted : (text : List ℕ) (w : Writer) {v : Writer} (f : Fault) (r : Result (Unit {0}) Fault) → (y : Fault) × (r ≡ Err y) × (y ≡ f) → v ≡ w → Faulted text f → Carried text w v r
faulted text w {v} f r (y, e, i) same h = subst (λ x. Carried text w v x) (sym e) (subst (λ x. Faulted text x) (sym i) h, same)

pub no_layout : (s : Said) (x : ℕ × Layer × ℕ) → Laid s.shape s.cables (faults x) → Judged s.shape s.cables s.run (faults x)
no_layout s x h = (faults x, h, refl)

-- a layout was laid, and the run on it came to its end
pub on_layout : (text : List ℕ) (s : Said) (w v : Writer) → SheetText text s → (p : Plan) → Laid s.shape s.cables (answers p) → (r : Result (Unit {0}) Fault) → Ended (network_of p s) s w v r →
    Carried text w v r
on_layout text s w v read p laid (Ok u) h =
    (s, read, (p, (answers p, laid, sym (ap (λ (x : Verdict (Unit {0})). by_layer Network (λ _ _. 3) (granting (λ _. p) x)) h.0)), h.1))
on_layout text s w v read p laid (Err f) h = (inl (s, read, (answers p, laid, sym h.0)), h.1)

-- the fault's line is the whole listing
of_fault : (text : List ℕ) (f : Fault) → Faulted text f → Listing text (written (fault_fields (told f)))
of_fault text f (inl (s, read, judged)) = inl (s, read, (faults (told f), judged, refl))
of_fault text f (inr h) = inr (f, h, refl)

-- no listing is empty
written_some : (l : List Field) → 0 < length (written l)
written_some l = omega (arith, length-append (row l) (10 ∷ []))

text_some : (ls : List (List Field)) (l : List Field) → 0 < length (flat_map written (ls ++ l ∷ []))
text_some [] l = let h = written_some l in omega (arith, length-append (written l) [])
text_some (x ∷ ls) l = let h = written_some x in omega (arith, length-append (written x) (flat_map written (ls ++ l ∷ [])))

not_empty : (text bs : List ℕ) → Listing text bs → 0 < length bs
not_empty text bs (inl (s, read, (answers p, judged, lists))) = subst (λ (x : List ℕ). 0 < length x) (sym lists.bytes) (text_some lists.lines _)
not_empty text bs (inl (s, read, (faults x, judged, e))) = subst (λ (y : List ℕ). 0 < length y) (sym e) (written_some (fault_fields x))
not_empty text bs (inr (f, h, e)) = subst (λ (y : List ℕ). 0 < length y) (sym e) (written_some (fault_fields (told f)))

-- the memory of a writer
memory_of : (v : Writer) → v.memory.now ≡ listed v ++ beyond v
memory_of v = sym (take-append-drop v.len v.memory.now)

module _ (text memory : List ℕ) (w : Writer) (none : listed w ≡ []) (all : beyond w ≡ memory) (long : 65536 ≤ length memory) where
  pub blank : Blank w
  blank = record { none = none; room = subst (λ (m : List ℕ). 65536 ≤ length m) (sym all) long }

  -- these bytes are the listing
  out : {v : Writer} (bs : List ℕ) (n : ℕ) → Listing text bs → Holds (beyond w) v bs 65536 → n ≡ length (listed v) → WrittenOut text memory (granted n) v.memory.now
  out {v} bs n l h e =
      let at : n ≡ length bs = e ∙ ap length h.written in
      let now : v.memory.now ≡ bs ++ drop (length bs) memory =
      memory_of v ∙ ap (λ x. x ++ beyond v) h.written ∙ ap (λ x. bs ++ x) (h.rest ∙ ap (drop (length bs)) all) in
      subst (λ (m : List ℕ). WrittenOut text memory (granted n) m) (sym now)
      (subst (λ (k : ℕ). WrittenOut text memory (granted k) (bs ++ drop (length bs) memory)) (sym at) (listing long l (not_empty text bs l) h.few))

  pub ran_through : (v : Writer) (n : ℕ) → Carried text w v (Ok tt) → n ≡ length (listed v) → WrittenOut text memory (granted n) v.memory.now
  ran_through v n (s, read, (p, judged, (bs, lists, h))) e = out bs n (inl (s, read, (answers p, judged, lists))) h e

  module _ (f : Fault) (v u : Writer) (same : v ≡ w) (r : Result (Unit {0}) Refusal) (few : length (written (fault_fields (told f))) ≤ 36) (line : LineOut v (fault_fields (told f)) u (shown r)) where
    wrote : (r ≡ Ok tt) × Appends w (written (fault_fields (told f))) u
    wrote =
        let k : 65536 ≤ length (beyond w) = blank.room in
        let x = with_room (let z : length (written (fault_fields (told f))) ≤ length (beyond w) = omega arith in z) (subst (λ (y : Writer). LineOut y (fault_fields (told f)) u (shown r)) same line) in
        (ok_shown r x.0, x.1)

    pub no_room : (y : Refusal) → r ≡ Err y → ⊥
    no_room y e = let a = sym e ∙ wrote.0 in cc

    pub fault_out : (n : ℕ) → Faulted text f → n ≡ length (listed u) → WrittenOut text memory (granted n) u.memory.now
    fault_out n h e =
        let bs = written (fault_fields (told f)) in
        let a = wrote.1 in
        out {v = u} bs n (of_fault text f h) (record { written = a.listed ∙ ap (λ x. x ++ bs) none; rest = a.beyond; few = omega arith }) e
