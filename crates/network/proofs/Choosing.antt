-- At one node: the flit that is taken off and the flit that enters, as computed, are the ones that the rules name, and no others are.
use Rattle.std.proofs.Common.{◌≡◌, ℕ, ◌+◌, ◌<◌, ◌≤◌, Bool, true, false, cond, ◌⊎◌, List, [], ◌∷◌, Some, None, Option, sym, refl, ap, ◌∙◌, subst, inl, inr, ⊎_elim, arith}
use mathlib.Core.Path.{fun_ext}
use Rattle.std.proofs.lemmas.Bool.{cases_lt, eq-eqb, ne_eqb}
use Rattle.std.proofs.lemmas.Bool.Decides.{nat_tests}
use Rattle.std.proofs.lemmas.Option.{same_Some}
use Rattle.std.specs.Option.{option_or}
use Rattle.fabric.specs.declared.parts.Flit.{Flit}
use Rattle.fabric.specs.declared.parts.Port.{Port}
use Rattle.fabric.specs.declared.parts.Port.TheVariants.{N, E, S, W}
use Rattle.fabric.specs.Ports.{place_of, same}
use Rattle.fabric.specs.Places.{place_same, port_cases, place_below}
use Rattle.bounds.specs.declared.settings.Settings.{Settings}
use Rattle.network.specs.Log.{packet, word, aim, sent, waiting}
use Rattle.network.specs.Cycle.{Fabric, Places, State, golden_in, in_slot_order, wish_of, Before, Takes, Changed, Remains, Next, FirstEmpty, LetsIn, Filled, Work, Works}
use Rattle.network.specs.Computed.{due, ahead, better, best, without, with_flit, if_empty, gap, next_of, placed, taken, left, entering, ready, handing}
use Rattle.network.proofs.Places.{some_none, pair_some}

-- an earlier side, or this one
earlier : (p q : Port) → place_of q < place_of p + 1 → (place_of q < place_of p) ⊎ (q ≡ p)
earlier p q h = ⊎_elim inl (λ k. inr (place_same q p (omega arith))) (cases_lt (place_of q) (place_of p))

due_from : (n : ℕ) (o : Option Flit) (f : Flit) → due n o ≡ Some f → (o ≡ Some f) × (f.destination ≡ n)
due_from n None f e = some_none None f refl e
due_from n (Some g) f e = grind (arith, nat_tests)

due_here : (n : ℕ) (o : Option Flit) (f : Flit) → o ≡ Some f → f.destination ≡ n → due n o ≡ Some f
due_here n o f e d = grind (arith, nat_tests)

-- what the test of two flits says
ahead_yes : (g : ℕ) (f h : Flit) → ahead g f h ≡ true → (f.ticket ≡ g) × (h.ticket ≡ g → f.number < h.number)
ahead_yes g f h e = (grind (arith, nat_tests), λ k. grind (arith, nat_tests))

ahead_no : (g : ℕ) (f h : Flit) → ahead g f h ≡ false → f.ticket ≡ g → (h.ticket ≡ g) × (h.number ≤ f.number)
ahead_no g f h e k = (grind (arith, nat_tests), grind (arith, nat_tests))

module _ (g : ℕ) (here : Places) where
  -- the best of the first k sides
  abbrev Upto : ℕ → Option (Port × Flit) → Type 0
  Upto k None = (q : Port) → place_of q < k → here q ≡ None
  Upto k (Some b) = (here b.0 ≡ Some b.1) × (place_of b.0 < k) × ((q : Port) (h : Flit) → place_of q < k → here q ≡ Some h → Before g b.0 b.1 q h)

  on_this : (p : Port) (f : Flit) (q : Port) (h : Flit) → q ≡ p → here p ≡ Some f → here q ≡ Some h → Before g p f q h
  on_this p f q h e u v =
      let w : f ≡ h = same_Some f h (sym u ∙ subst (λ (x : Port). here x ≡ Some h) e v) in
      record { golden_first = λ t. (ap (λ (x : Flit). x.ticket) w ∙ t, (let y = ap (λ (x : Flit). x.number) w in omega arith)); else_first = λ t. let y : place_of q ≡ place_of p = ap place_of e in omega arith }

  step : (p : Port) (acc : Option (Port × Flit)) → Upto (place_of p) acc → (o : Option Flit) → here p ≡ o → Upto (place_of p + 1) (better g acc p o)
  step p None u None e = λ q h. ⊎_elim (λ k. u q k) (λ k. subst (λ (x : Port). here x ≡ None) (sym k) e) (earlier p q h)
  step p None u (Some f) e =
      (e, omega arith, λ q h k v. ⊎_elim (λ z. some_none (here q) h (u q z) v) (λ z. on_this p f q h z e v) (earlier p q k))
  step p (Some b) u None e =
      (u.0, (let i = u.1 in omega arith), λ q h k v. ⊎_elim (λ z. u.2 q h z v) (λ z. some_none (here q) h (subst (λ (x : Port). here x ≡ None) (sym z) e) v) (earlier p q k))
  step p (Some b) u (Some f) e = go (ahead g f b.1) refl
    where
      go : (c : Bool) → ahead g f b.1 ≡ c → Upto (place_of p + 1) (cond c (Some (p, f)) (Some b))
      go true y =
          let a = ahead_yes g f b.1 y in (
            e,
            omega arith,
            λ q h k v. ⊎_elim
                (λ z.
                let w = u.2 q h z v in
                let under : h.ticket ≡ g → f.number < h.number = λ t. let x = w.golden_first t in let y = a.1 x.0 in omega arith in
                record {
                  golden_first = λ t. (a.0, (let x = under t in omega arith));
                  else_first = λ t. let x = t a.0 in let y = under x.0 in absurd (omega arith);
                })
                (λ z. on_this p f q h z e v) (earlier p q k),
          )
      go false y = (
        u.0,
        (let i = u.1 in omega arith),
        λ q h k v. ⊎_elim
            (λ z. u.2 q h z v)
            (λ z.
            let r : f ≡ h = same_Some f h (sym e ∙ subst (λ (x : Port). here x ≡ Some h) z v) in
            record {
              golden_first = λ t. subst (λ (x : Flit). x.ticket ≡ g → (b.1.ticket ≡ g) × (b.1.number ≤ x.number)) r (ahead_no g f b.1 y) t;
              else_first = λ t. let i = u.1 in let j : place_of q ≡ place_of p = ap place_of z in omega arith;
            }) (earlier p q k),
      )

  best_of_all : Upto 4 (best g here)
  best_of_all =
      step W (better g (better g (better g None N (here N)) E (here E)) S (here S))
      (step S (better g (better g None N (here N)) E (here E))
      (step E (better g None N (here N))
      (step N None (λ q h. absurd (omega arith)) (here N) refl) (here E) refl) (here S) refl) (here W) refl

module _ (g n : ℕ) (slots : Places) where
  takes_upto : (o : Option (Port × Flit)) → Upto g (λ p. due n (slots p)) 4 o → Takes g n slots o
  takes_upto None u = λ p f d. some_none (due n (slots p)) f (u p (place_below p)) (due_here n (slots p) f d.0 d.1)
  takes_upto (Some b) u =
      (due_from n (slots b.0) b.1 u.0, λ q h d. u.2 q h (place_below q) (due_here n (slots q) h d.0 d.1))

  pub takes_best : Takes g n slots (best g (λ p. due n (slots p)))
  takes_best = takes_upto (best g (λ p. due n (slots p))) (best_of_all g (λ p. due n (slots p)))

  pub takes_one : (a b : Option (Port × Flit)) → Takes g n slots a → Takes g n slots b → a ≡ b
  takes_one None None u v = refl
  takes_one None (Some b) u v = absurd (u b.0 b.1 v.0)
  takes_one (Some a) None u v = absurd (v a.0 a.1 u.0)
  takes_one (Some a) (Some b) u v =
      let x = u.1 b.0 b.1 v.0 in
      let y = v.1 a.0 a.1 u.0 in
      let i = x.else_first y.golden_first in
      let j = y.else_first x.golden_first in
      let e : a.0 ≡ b.0 = place_same a.0 b.0 (omega arith) in
      let d : a.1 ≡ b.1 = same_Some a.1 b.1 (sym (subst (λ (p : Port). slots p ≡ Some a.1) e u.0.0) ∙ v.0.0) in
      pair_some a b.0 b.1 e d

module _ (p : Port) (o : Option Flit) (here : Places) where
  changed_here : Changed p o here (λ q. cond (same p q) o (here q))
  changed_here = record {
    there = rw (eq-eqb (place_of p) (place_of p) refl) refl;
    others = λ q h. rw (ne_eqb (place_of p) (place_of q) (λ e. h (place_same q p (sym e)))) refl;
  }

  changed_one : (a b : Places) → Changed p o here a → Changed p o here b → a ≡ b
  changed_one a b u v = fun_ext (λ q. ⊎_elim
      (λ e. subst (λ (x : Port). a x ≡ b x) (sym e) (u.there ∙ sym v.there))
      (λ h. u.others q h ∙ sym (v.others q h)) (port_cases q p))

pub remains_without : (b : Option (Port × Flit)) (here : Places) → Remains b here (without b here)
remains_without None here = λ p. refl
remains_without (Some b) here = changed_here b.0 None here

pub remains_one : (b : Option (Port × Flit)) (here x y : Places) → Remains b here x → Remains b here y → x ≡ y
remains_one None here x y u v = fun_ext (λ p. u p ∙ sym (v p))
remains_one (Some b) here x y u v = changed_one b.0 None here x y u v

pub filled_with : (b : Option (Port × Flit)) (here : Places) → Filled b here (with_flit b here)
filled_with None here = λ p. refl
filled_with (Some b) here = changed_here b.0 (Some b.1) here

pub filled_one : (b : Option (Port × Flit)) (here x y : Places) → Filled b here x → Filled b here y → x ≡ y
filled_one None here x y u v = fun_ext (λ p. u p ∙ sym (v p))
filled_one (Some b) here x y u v = changed_one b.0 (Some b.1) here x y u v

module _ (here : Places) where
  -- the first empty of the first k places
  abbrev Gap : ℕ → Option Port → Type 0
  Gap k None = (q : Port) → place_of q < k → here q ≡ None → ⊥
  Gap k (Some p) = FirstEmpty here p

  gap_step : (p : Port) (acc : Option Port) → Gap (place_of p) acc → (o : Option Flit) → here p ≡ o → Gap (place_of p + 1) (option_or acc (if_empty o p))
  gap_step p (Some q) u o e = u
  gap_step p None u None e = record { empty = e; first = λ q h. ⊎_elim (λ k. absurd (u q k h)) (λ k. k) (cases_lt (place_of q) (place_of p)) }
  gap_step p None u (Some f) e = λ q k h.
      ⊎_elim (λ z. u q z h) (λ z. some_none (here q) f h (subst (λ (x : Port). here x ≡ Some f) (sym z) e)) (earlier p q k)

  gap_of_all : Gap 4 (gap here)
  gap_of_all =
      gap_step W (option_or (option_or (if_empty (here N) N) (if_empty (here E) E)) (if_empty (here S) S))
      (gap_step S (option_or (if_empty (here N) N) (if_empty (here E) E))
      (gap_step E (if_empty (here N) N)
      (gap_step N None (λ q k. absurd (omega arith)) (here N) refl) (here E) refl) (here S) refl) (here W) refl

module _ (F : Fabric) (P : Settings) (s : State) (n : ℕ) (here : Places) where
  lets_gap : (o : Option Port) → Gap here 4 o → (ts : List ℕ) → waiting P.tickets n s.log ≡ ts → LetsIn P s n here (placed F P s o (next_of F P s ts))
  lets_gap None e [] w = inl w
  lets_gap None e (t ∷ ts) w = inr (λ p. e p (place_below p))
  lets_gap (Some p) e [] w = inl w
  lets_gap (Some p) e (t ∷ ts) w = (e, record { others = ts; ticket = w; number = refl; destination = refl; its_word = refl; now = refl })

  pub lets_first : LetsIn P s n here (placed F P s (gap here) (next_of F P s (waiting P.tickets n s.log)))
  lets_first = lets_gap (gap here) (gap_of_all here) (waiting P.tickets n s.log) refl

  next_one : (f h : Flit) → Next P s n f → Next P s n h → f ≡ h
  next_one f h u v =
      let e : f.ticket ∷ u.others ≡ h.ticket ∷ v.others = sym u.ticket ∙ v.ticket in
      let t : f.ticket ≡ h.ticket = cc in
      let k : f.number ≡ h.number = u.number ∙ (ap (λ (x : ℕ). sent x s.log) t ∙ sym v.number) in
      let d : f.destination ≡ h.destination = u.destination ∙ (ap (λ (x : ℕ). aim (packet x s.log)) t ∙ sym v.destination) in
      let w : f.word ≡ h.word = u.its_word ∙ ((λ i. word (packet (t i) s.log) (k i)) ∙ sym v.its_word) in
      let c : f.entered ≡ h.entered = u.now ∙ sym v.now in
      λ i. record { ticket = t i; number = k i; destination = d i; word = w i; entered = c i }

  first_one : (p q : Port) → FirstEmpty here p → FirstEmpty here q → p ≡ q
  first_one p q u v = let i = u.first q v.empty in let j = v.first p u.empty in place_same p q (omega arith)

  -- what enters does so where a packet waits and a place is empty
  not_none : (b : Port × Flit) → LetsIn P s n here None → LetsIn P s n here (Some b) → ⊥
  not_none b (inl w) v = let e : [] ≡ b.1.ticket ∷ v.1.others = sym w ∙ v.1.ticket in cc
  not_none b (inr h) v = h b.0 v.0.empty

  pub lets_one : (a b : Option (Port × Flit)) → LetsIn P s n here a → LetsIn P s n here b → a ≡ b
  lets_one None None u v = refl
  lets_one None (Some b) u v = absurd (not_none b u v)
  lets_one (Some a) None u v = absurd (not_none a v u)
  lets_one (Some a) (Some b) u v = pair_some a b.0 b.1 (first_one a.0 b.0 u.0 v.0) (next_one a.1 b.1 u.1 v.1)

module _ (F : Fabric) (P : Settings) (s : State) where
  abbrev pub computed : ℕ → Work
  computed n = record { off = taken F P s n; left = left F P s n; entry = entering F P s n; ready = ready F P s n; handing = handing F P s n }

  -- what a node computes is its work, and it has no other
  pub work_is : (n : ℕ) → Works F P s n (computed n)
  unfolding taken left entering ready handing
  work_is n = record {
    takes_off = takes_best (golden_in F P s.cycles) n (s.slot n);
    remains = remains_without (taken F P s n) (s.slot n);
    lets_in = lets_first F P s n (left F P s n);
    fills = filled_with (entering F P s n) (left F P s n);
    places = refl;
    wishes = refl;
    golden = refl;
    draws = refl;
  }

  pub work_one : (n : ℕ) (w : Work) → Works F P s n w → w ≡ computed n
  work_one n w k =
      let c : Works F P s n (computed n) = work_is n in
      let a : w.off ≡ taken F P s n = takes_one (golden_in F P s.cycles) n (s.slot n) w.off (taken F P s n) k.takes_off c.takes_off in
      let b : w.left ≡ left F P s n =
      remains_one (taken F P s n) (s.slot n) w.left (left F P s n)
      (subst (λ (o : Option (Port × Flit)). Remains o (s.slot n) w.left) a k.remains) c.remains in
      let d : w.entry ≡ entering F P s n =
      lets_one F P s n (left F P s n) w.entry (entering F P s n)
      (subst (λ (x : Places). LetsIn P s n x w.entry) b k.lets_in) c.lets_in in
      let filled : Filled (entering F P s n) (left F P s n) w.ready = subst (λ (o : Option (Port × Flit)). Filled o (left F P s n) w.ready) d (subst (λ (x : Places). Filled w.entry x w.ready) b k.fills) in
      let e : w.ready ≡ ready F P s n = filled_one (entering F P s n) (left F P s n) w.ready (ready F P s n) filled c.fills in
      let p = k.places ∙ (ap (λ (x : Places). in_slot_order x) e ∙ sym c.places) in
      let q = k.wishes ∙ (ap (λ (x : Places). in_slot_order (λ p. wish_of F.plan n (x p))) e ∙ sym c.wishes) in
      let g = k.golden ∙ sym c.golden in
      let r = k.draws ∙ sym c.draws in
      λ i. record {
        off = a i;
        left = b i;
        entry = d i;
        ready = e i;
        handing = record { places = p i; wishes = q i; golden = g i; draws = r i };
      }
