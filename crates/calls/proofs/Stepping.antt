-- The steps of a node's work on four places.
use Rattle.std.proofs.Common.{◌≡◌, ℕ, ◌+◌, ◌*◌, ◌<◌, ◌⊎◌, ◌≢◌, List, [], ◌∷◌, ◌++◌, length, get_or, set, replicate, is_some, false, true, ◌&&◌, Some, None, Option, sym, refl, ap, ◌∙◌, subst, inl, inr, add-one, arith}
use mathlib.Core.Path.{fun_ext}
use Rattle.std.specs.Option.{is_none}
use Rattle.std.proofs.lemmas.List.{length-replicate, get_or_append_left, get_or-replicate, get_or-set_same, get_or-set_other}
use Rattle.std.proofs.lemmas.Bool.{cases_eq, false≢true}
use Rattle.fabric.specs.declared.parts.Port.{Port}
use Rattle.fabric.specs.declared.parts.Port.TheVariants.{N, E, S, W}
use Rattle.fabric.specs.declared.parts.Slot.{Slot}
use Rattle.fabric.specs.declared.parts.Flit.{Flit}
use Rattle.fabric.specs.Layouts.{Plan, Lawful}
use Rattle.fabric.specs.Ports.{place_of, port_of}
use Rattle.fabric.specs.Places.{place_below, port_of_place}
use Rattle.fabric.proofs.Numbers.{place_of_port, slot_same}
use Rattle.fabric.proofs.Following.{far_exists}
use Rattle.switch.specs.Switches.{at}
use Rattle.network.specs.Computed.{due, better, best}
use Rattle.calls.specs.Steps.{none_at, far_place, Spread, Unsent}

-- the best of the first k places
abbrev pub best_upto : ℕ → (Port → Option Flit) → ℕ → Option (Port × Flit)
best_upto g here ℕ.zero = None
best_upto g here (ℕ.suc k) = better g (best_upto g here k) (port_of k) (here (port_of k))

-- the first k ports have sent
pub record SpreadUpto (p : Plan) (n k : ℕ) (leaving before after : List (Option Flit)) : Type 0 where
  pub sent : (q : Port) → place_of q < k → get_or after (far_place p n q) None ≡ at leaving q
  pub rest : (j : ℕ) → ((q : Port) → place_of q < k → j ≢ far_place p n q) → get_or after j None ≡ get_or before j None

pub best_all : (g k : ℕ) (here : Port → Option Flit) (r : Option (Port × Flit)) → k ≡ 4 → r ≡ best_upto g here k → r ≡ best g here
best_all g k here r e h = h ∙ ap (best_upto g here) e

at_port : (xs : List (Option Flit)) (k : ℕ) → k < 4 → at xs (port_of k) ≡ get_or xs k None
at_port xs k h = ap (λ j. get_or xs j None) (place_of_port k h)

pub best_more : (g n k : ℕ) (xs : List (Option Flit)) → k < 4 →
    better g (best_upto g (λ p. due n (at xs p)) k) (port_of k) (due n (get_or xs k None)) ≡ best_upto g (λ p. due n (at xs p)) (k + 1)
best_more g n k xs h =
    ap (λ o. better g (best_upto g (λ p. due n (at xs p)) k) (port_of k) (due n o)) (sym (at_port xs k h))
    ∙ ap (best_upto g (λ p. due n (at xs p))) (sym (add-one k))

-- no two ports lead to the same place
pub far_same : (p : Plan) → Lawful p → (m n : ℕ) (q r : Port) → m < p.nodes → n < p.nodes → far_place p m q ≡ far_place p n r → (m ≡ n) × (q ≡ r)
far_same p law m n q r hm hn e =
    let f = slot_same (p.far m q) (p.far n r) (omega arith) in
    let b : ◌≡◌ {A = Slot} (record { node = m; port = q }) (record { node = n; port = r }) =
    sym (law.back m q hm) ∙ ap (λ (z : Slot). p.far z.node z.port) f ∙ law.back n r hn in
    (ap (λ (z : Slot). z.node) b, ap (λ (z : Slot). z.port) b)

module _ (p : Plan) (law : Lawful p) (n : ℕ) (hn : n < p.nodes) (leaving before : List (Option Flit)) where
  pub spread_more : (k to : ℕ) (after : List (Option Flit)) → k < 4 → to ≡ far_place p n (port_of k) → to < length after →
      SpreadUpto p n k leaving before after → SpreadUpto p n (k + 1) leaving before (set after to (get_or leaving k None))
  spread_more k to after h e l u =
      let now = set after to (get_or leaving k None) in
      let here : get_or now (far_place p n (port_of k)) None ≡ at leaving (port_of k) =
      ap (λ j. get_or now j None) (sym e) ∙ get_or-set_same after to (get_or leaving k None) None l ∙ sym (at_port leaving k h) in
      let mine = place_of_port k h in
      let go : (q : Port) → place_of q < k + 1 → (place_of q ≡ k) ⊎ (place_of q ≡ k → ⊥) → get_or now (far_place p n q) None ≡ at leaving q =
      λ q b. elim [
        | inl s ↦ let t : port_of k ≡ q = ap port_of (sym s) ∙ port_of_place q in subst (λ (r : Port). get_or now (far_place p n r) None ≡ at leaving r) t here
        | inr s ↦
            get_or-set_other after to (far_place p n q) (get_or leaving k None) None
            (λ z. s (ap place_of (far_same p law n n q (port_of k) hn hn (z ∙ e)).1 ∙ mine))
            ∙ u.sent q (omega arith)
      ] in
      record {
        sent = λ q b. go q b (cases_eq (place_of q) k);
        rest = λ j b.
            get_or-set_other after to j (get_or leaving k None) None (λ z. b (port_of k) (omega arith) (z ∙ e))
            ∙ u.rest j (λ q c. b q (omega arith));
      }

-- the ports stand in slot order
pub all_ports : (k : ℕ) (d : Port) → k < 4 → get_or (N ∷ E ∷ S ∷ W ∷ []) k d ≡ port_of k
all_ports ℕ.zero d l = refl
all_ports (ℕ.suc ℕ.zero) d l = refl
all_ports (ℕ.suc (ℕ.suc ℕ.zero)) d l = refl
all_ports (ℕ.suc (ℕ.suc (ℕ.suc ℕ.zero))) d l = refl
all_ports (ℕ.suc (ℕ.suc (ℕ.suc (ℕ.suc k)))) d l = absurd (omega arith)

pub best_step : (g n k : ℕ) (xs : List (Option Flit)) (found r : Option (Port × Flit)) (p : Port) (o : Option Flit) → k < 4 →
    r ≡ better g found p o → found ≡ best_upto g (λ q. due n (at xs q)) k → p ≡ port_of k → o ≡ due n (get_or xs k None) → r ≡ best_upto g (λ q. due n (at xs q)) (k + 1)
best_step g n k xs found r p o h e f q d =
    e
    ∙ ap (λ x. better g x p o) f
    ∙ ap (λ x. better g (best_upto g (λ y. due n (at xs y)) k) x o) q
    ∙ ap (λ x. better g (best_upto g (λ y. due n (at xs y)) k) (port_of k) x) d
    ∙ best_more g n k xs h

no_flit : (o : Option Flit) → is_some o ≡ false → o ≡ None
no_flit None e = refl
no_flit (Some f) e = absurd (false≢true (sym e))

-- a port at which nothing leaves has sent, since nothing is at its far end yet
pub spread_past : (p : Plan) → Lawful p → (n : ℕ) → n < p.nodes → (leaving before : List (Option Flit)) → Unsent p n before → (k : ℕ) (after : List (Option Flit)) → k < 4 →
    is_some (get_or leaving k None) ≡ false → SpreadUpto p n k leaving before after → SpreadUpto p n (k + 1) leaving before after
spread_past p law n hn leaving before none k after h e u =
    let here : get_or after (far_place p n (port_of k)) None ≡ at leaving (port_of k) =
    u.rest (far_place p n (port_of k)) (λ q b z. let s = ap place_of (far_same p law n n (port_of k) q hn hn z).1 in let m = place_of_port k h in absurd (omega arith))
    ∙ none n (port_of k) (omega arith) hn ∙ sym (no_flit (get_or leaving k None) e) ∙ sym (at_port leaving k h) in
    let go : (q : Port) → place_of q < k + 1 → (place_of q ≡ k) ⊎ (place_of q ≡ k → ⊥) → get_or after (far_place p n q) None ≡ at leaving q =
    λ q b. elim [
      | inl s ↦ let t : port_of k ≡ q = ap port_of (sym s) ∙ port_of_place q in subst (λ (r : Port). get_or after (far_place p n r) None ≡ at leaving r) t here
      | inr s ↦ u.sent q (omega arith)
    ] in
    record {
      sent = λ q b. go q b (cases_eq (place_of q) k);
      rest = λ j b. u.rest j (λ q c. b q (omega arith));
    }

far_below : (p : Plan) → Lawful p → (n : ℕ) (q : Port) → n < p.nodes → far_place p n q < 4 * p.nodes
far_below p law n q h = let a = far_exists p law n q h in let b = place_below (p.far n q).port in omega arith

-- before the first node has sent, where the places of all nodes are emptied
pub unsent_all : (p : Plan) → Lawful p → (front rest : List (Option Flit)) → front ≡ replicate (4 * p.nodes) None → Unsent p 0 (front ++ rest)
unsent_all p law front rest e m q h l =
    let a = far_below p law m q l in
    let b : length front ≡ 4 * p.nodes = ap length e ∙ length-replicate (4 * p.nodes) None in
    get_or_append_left front rest None (far_place p m q) (omega arith)
    ∙ ap (λ xs. get_or xs (far_place p m q) None) e
    ∙ get_or-replicate (4 * p.nodes) (far_place p m q) None None a

-- what a node sends arrives at the far end of no later node
pub unsent_more : (p : Plan) → Lawful p → (n : ℕ) → n < p.nodes → (leaving before after : List (Option Flit)) → Spread p n leaving before after → Unsent p n before → Unsent p (n + 1) after
unsent_more p law n hn leaving before after s none m q h l =
    s.rest (far_place p m q) (λ r z. let e = (far_same p law m n q r l hn z).0 in absurd (omega arith)) ∙ none m q (omega arith) l

all_four : (a b c d : Option Flit) → (is_none a && is_none b) && (is_none c && is_none d) ≡ true → (a ≡ None) × (b ≡ None) × (c ≡ None) × (d ≡ None)
all_four None None None None e = (refl, refl, refl, refl)
all_four None None None (Some f) e = absurd (false≢true e)
all_four None None (Some f) d e = absurd (false≢true e)
all_four None (Some f) c d e = absurd (false≢true e)
all_four (Some f) b c d e = absurd (false≢true e)

pub none_there : (here : Port → Option Flit) → none_at here ≡ true → (q : Port) → here q ≡ None
none_there here e N = (all_four (here N) (here E) (here S) (here W) e).0
none_there here e E = (all_four (here N) (here E) (here S) (here W) e).1
none_there here e S = (all_four (here N) (here E) (here S) (here W) e).2
none_there here e W = (all_four (here N) (here E) (here S) (here W) e).3

-- of no flit none is due
pub none_best : (g n : ℕ) (xs : List (Option Flit)) → ((q : Port) → at xs q ≡ None) → best g (λ p. due n (at xs p)) ≡ None
none_best g n xs e = ap (λ (h : Port → Option Flit). best g h) (fun_ext (λ p. ap (due n) (e p)))
