-- Lists in the records of tickets, and the tickets that wait at a node.
use Rattle.std.proofs.Common.{◌≡◌, ℕ, ◌<◌, List, [], ◌∷◌, length, get_or, map, drop, set, Some, None, Option, sym, ap, ◌∙◌, subst, subst₂}
use Rattle.std.proofs.lemmas.List.{map-set, get_or-map}
use Rattle.std.specs.Prelude.{slice_get}
use Rattle.fabric.specs.declared.parts.Flit.{Flit}
use Rattle.batch.specs.declared.batch.Batch.{Batch}
use Rattle.batch.specs.Items.{items}
use Rattle.calls.specs.declared.ticket.Ticket.{Ticket}
use Rattle.calls.specs.declared.tables.Tables.{Tables}
use Rattle.calls.specs.Records.{all_waiting, waiting_at, Keeps, Receives, Sends, TakesIn, LetsGo}

pub head_some : (xs : List ℕ) (u : ℕ) → Some u ≡ slice_get xs 0 → (t : ℕ) (ts : List ℕ) → xs ≡ t ∷ ts → t ≡ u
head_some [] u e t ts q = cc
head_some (x ∷ xs) u e t ts q = cc

pub head_empty : (xs : List ℕ) (u : ℕ) → Some u ≡ slice_get xs 0 → xs ≡ [] → ⊥
head_empty [] u e q = cc
head_empty (x ∷ xs) u e q = cc

-- the word of a flit goes into the record that is there
pub took_in : (i j : Tables) (f : Flit) (p q : Ticket) → Keeps i j → j.waits ≡ i.waits → get_or i.tickets f.ticket None ≡ Some p → Receives p q f.number f.word →
    j.tickets ≡ set i.tickets f.ticket (Some q) → TakesIn i j f
took_in i j f p q k w there re ti =
    record {
      keeps = k;
      waits = w;
      none = λ e. let z : ◌≡◌ {A = Option Ticket} None (Some p) = sym e ∙ there in cc;
      some = λ r e.
          let z : ◌≡◌ {A = Option Ticket} (Some p) (Some r) = sym there ∙ e in
          let pr : p ≡ r = cc in
          (q, subst (λ (x : Ticket). Receives x q f.number f.word) pr re, ti);
    }

-- the ticket that goes is the first that waits
pub let_go : (i j : Tables) (n u v t : ℕ) (o : Option Flit) (p r its : Ticket) → v ≡ u → t ≡ u → get_or i.tickets v None ≡ Some p → get_or i.tickets t None ≡ Some r →
    n < length (all_waiting i) → Sends p its u i.cycles o →
    j.tickets ≡ set i.tickets v (Some its) → ((its.sent ≡ its.size → ⊥) → j.waits ≡ i.waits) → (its.sent ≡ its.size → all_waiting j ≡ set (all_waiting i) n (drop 1 (waiting_at i n))) →
    LetsGo i j n t r o
let_go i j n u v t o p r its vu tu wi is ro se ti st le =
    let vt : v ≡ t = vu ∙ sym tu in
    let z : ◌≡◌ {A = Option Ticket} (Some p) (Some r) = sym wi ∙ ap (λ x. get_or i.tickets x None) vt ∙ is in
    let pr : p ≡ r = cc in
    record {
      its = its;
      room = ro;
      sends = subst₂ (λ (x : Ticket) (y : ℕ). Sends x its y i.cycles o) pr (sym tu) se;
      tickets = ti ∙ ap (λ x. set i.tickets x (Some its)) vt;
      stays = st;
      leaves = le;
    }

-- the tickets of one node change
pub one_changed : (ws : List (Batch ℕ 8)) (n : ℕ) (b d : Batch ℕ 8) (f : List ℕ → List ℕ) → n < length ws → items b ≡ f (items (get_or ws n d)) →
    map items (set ws n b) ≡ set (map items ws) n (f (get_or (map items ws) n []))
one_changed ws n b d f h e = map-set items ws n b ∙ ap (λ x. set (map items ws) n x) (e ∙ ap f (sym (get_or-map items ws n d [] h)))
