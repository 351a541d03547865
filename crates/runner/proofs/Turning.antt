-- One cycle of a run, put together from its offers, its cycle and its collections.
use Rattle.std.proofs.Common.{◌≡◌, ℕ, ◌+◌, ◌*◌, ◌<◌, ◌≤◌, List, [], ◌∷◌, ◌++◌, map, length, sym, refl, ap, ◌∙◌, subst, subst₂, append_assoc, append-nil, arith}
use Rattle.std.specs.List.{AllByRecursion}
use Rattle.std.proofs.lemmas.List.{length-append}
use Rattle.std.proofs.SliceLists.{all_by_recursion_push}
use Rattle.bounds.specs.declared.settings.Settings.{Settings}
use Rattle.network.specs.declared.event.Event.{Event}
use Rattle.network.specs.Cycle.{Fabric, State}
use Rattle.network.specs.Runs.{fresh}
use Rattle.network.specs.Promises.{puts}
use Rattle.text.specs.declared.parts.Packet.{Packet}
use Rattle.text.specs.Texts.{Field}
use Rattle.runsheet.specs.Sheets.{Rising}
use Rattle.writer.specs.declared.writer.Writer.{Writer}
use Rattle.runner.specs.declared.session.Session.{Session}
use Rattle.runner.specs.Listing.{line_of, Collects, Turns}
use Rattle.runner.specs.Listing.Offers.{none as none_offered}
use Rattle.runner.specs.Listing.Collects.{none as none_collected}
use Rattle.runner.specs.Listing.Turns.{begun, one_more}
use Rattle.runner.specs.Progress.{Stands, Offered, DueFrom, Due, Left, Cycled, Tried, CollectedFrom, Collected, TurnedFrom, Turned}

-- the packets that are left
pub left_due : (c : ℕ) (p : Packet) (rest : List Packet) → p.cycle ≡ c → Left c (p ∷ rest) → Left c rest
left_due c p rest e l = record { rising = subst (λ (k : ℕ). Rising k rest) e l.rising.1; sendable = l.sendable.1 }

same_lines : {A B : Type 0} {F : Fabric} {P : Settings} {M : List ℕ} {x : Session A B} {w : Writer} {r : State} {es : List Event} {ls ls' : List (List Field)} {o o' : ℕ} →
    ls ≡ ls' → o ≡ o' → Stands F P M x w r ls es o → Stands F P M x w r ls' es o'
same_lines {F = F} {P = P} {M = M} {x = x} {w = w} {r = r} {es = es} e d st = subst₂ (λ (l : List (List Field)) (n : ℕ). Stands F P M x w r l es n) e d st

module _ {A B : Type 0} (F : Fabric) (P : Settings) (c : ℕ) {M : List ℕ} {s : State} {ls : List (List Field)} {es : List Event} {o : ℕ} where
  -- no packet is offered yet
  pub due_none : (coming : List Packet) {x : Session A B} {w : Writer} → Stands F P M x w s ls es o → DueFrom F P M c coming coming x w s ls es o
  due_none coming st =
      record {
        due = [];
        split = refl;
        each_due = tt;
        state = s;
        more = [];
        offers = none_offered;
        counted = refl;
        stands = same_lines (sym (append-nil ls)) (omega arith) st;
      }

  -- one more
  pub due_more : (coming : List Packet) (p : Packet) (rest : List Packet) {y z : Session A B} {v u : Writer} → DueFrom F P M c coming (p ∷ rest) y v s ls es o → p.cycle ≡ c →
      Offered F p y v z u → o + length coming ≤ 256 → DueFrom F P M c coming rest z u s ls es o
  due_more coming p rest d e off few =
      let long = ap length d.split ∙ length-append d.due (p ∷ rest) in
      let k = off P M d.state (ls ++ d.more) es (o + length d.due) d.stands (omega arith) in
      let one = length-append d.due (p ∷ []) in
      record {
        due = d.due ++ p ∷ [];
        split = d.split ∙ sym (append_assoc d.due (p ∷ []) rest);
        each_due = all_by_recursion_push (λ (q : Packet). q.cycle ≡ c) d.due p d.each_due e;
        state = k.state;
        more = d.more ++ k.more;
        offers = k.offers s d.due d.more d.offers;
        counted = k.counted ∙ d.counted;
        stands = same_lines (append_assoc ls d.more k.more) (omega arith) k.stands;
      }

  -- no ticket is tried yet
  pub collected_none : {x : Session A B} {w : Writer} → Stands F P M x w s ls es o → CollectedFrom F P M c 0 x w s ls es o
  collected_none st =
      record { state = s; more = []; collects = none_collected; counted = refl; stands = same_lines (sym (append-nil ls)) refl st }

  -- one more
  pub collected_more : (g : ℕ) {y z : Session A B} {v u : Writer} → CollectedFrom F P M c g y v s ls es o → Tried F c g y v z u → CollectedFrom F P M c (g + 1) z u s ls es o
  collected_more g d t =
      let k = t P M d.state (ls ++ d.more) es o d.stands in
      record {
        state = k.state;
        more = d.more ++ k.more;
        collects = k.collects s d.more d.collects;
        counted = k.counted ∙ d.counted;
        stands = same_lines (append_assoc ls d.more k.more) refl k.stands;
      }

  -- the three parts of a cycle
  pub turned : (coming later : List Packet) {x y z u : Session A B} {w v₁ v₂ v₃ : Writer} → Stands F P M x w s ls es o → s.cycles ≡ c → c < 65535 → o + length coming ≤ 256 →
      Due F c coming later x w y v₁ → Cycled F y v₁ z v₂ → Collected F c (z.nodes * z.tickets) z v₂ u v₃ → TurnedFrom F P M c coming later u v₃ s ls es o
  turned coming later st e early few d k g =
      let a = d P M s ls es o st few in
      let b = k P M a.state (ls ++ a.more) es (o + length a.due) a.stands (let m = a.counted in omega arith) in
      let fresh = puts b.serves in
      let lines = map line_of fresh in
      let h = g P M b.state ((ls ++ a.more) ++ lines) (es ++ fresh) (o + length a.due) b.stands in
      let more = a.more ++ (lines ++ h.more) in
      record {
        due = a.due;
        split = a.split;
        state = h.state;
        more = more;
        news = fresh;
        turn = record {
          each_due = a.each_due;
          ready = a.state;
          refusals = a.more;
          offers = a.offers;
          line = b.line;
          filled = b.filled;
          off = b.off;
          carried_out = b.state;
          cycles = b.serves;
          told = refl;
          collections = h.more;
          collects = subst₂ (λ (m n : ℕ). Collects F P c b.state (m * n) h.state h.more) b.stands.nodes b.stands.tickets h.collects;
          lines = refl;
        };
        counted = h.counted ∙ (b.counted ∙ ap (λ (m : ℕ). m + 1) a.counted);
        stands =
            same_lines (append_assoc (ls ++ a.more) lines h.more ∙ append_assoc ls a.more (lines ++ h.more)) refl h.stands;
      }

rising_later : (c k : ℕ) (ps : List Packet) → c < k → Rising k ps → AllByRecursion (λ p. c < p.cycle) ps
rising_later c k [] h r = tt
rising_later c k (p ∷ ps) h r = (let e = r.0 in omega arith, rising_later c p.cycle ps (let e = r.0 in omega arith) r.1)

-- some cycles of the run are carried out
pub record Through {A B : Type 0} (F : Fabric) (P : Settings) (M : List ℕ) (ps : List Packet) (c : ℕ) (later : List Packet) (x : Session A B) (w : Writer) : Type 0 where
  pub state : State
  pub lines : List (List Field)
  pub events : List Event
  pub packets : ℕ
  pub turns : Turns F P ps c later state lines events
  pub now : state.cycles ≡ c
  pub room : packets + length later ≤ 256
  pub stands : Stands F P M x w state lines events packets

module _ {A B : Type 0} (F : Fabric) (P : Settings) (M : List ℕ) (ps : List Packet) where
  pub through_none : {x : Session A B} {w : Writer} → Stands F P M x w fresh [] [] 0 → length ps ≤ 256 → Through F P M ps 0 ps x w
  through_none st few = record { state = fresh; lines = []; events = []; packets = 0; turns = begun; now = refl; room = omega arith; stands = st }

  -- one more cycle
  pub through_more : (c : ℕ) (coming later : List Packet) {x y : Session A B} {w v : Writer} → Through F P M ps c coming x w → Turned F c coming later x w y v → Left (c + 1) later →
      Through F P M ps (c + 1) later y v
  through_more c coming later t k left =
      let h = k P M t.state t.lines t.events t.packets t.stands t.now t.room in
      let long = ap length h.split ∙ length-append h.due later in
      record {
        state = h.state;
        lines = t.lines ++ h.more;
        events = t.events ++ h.news;
        packets = t.packets + length h.due;
        turns =
            one_more h.due (subst (λ (q : List Packet). Turns F P ps c q t.state t.lines t.events) h.split t.turns) h.turn
            (rising_later c (c + 1) later (omega arith) left.rising);
        now = h.counted ∙ ap (λ (m : ℕ). m + 1) t.now;
        room = let r = t.room in omega arith;
        stands = h.stands;
      }
