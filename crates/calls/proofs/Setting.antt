-- A network that has just been set up.
use Rattle.std.proofs.Common.{◌≡◌, ℕ, ◌+◌, ◌*◌, ◌≤◌, [], get_or, None, Option, sym, refl, ap, ◌∙◌, subst, mul-le-mul_left, zero-mul, arith}
use Rattle.std.proofs.lemmas.List.{get_or-replicate}
use Rattle.std.proofs.lemmas.Bool.{cond-false, or_from, le-ltb}
use Rattle.fabric.specs.Ports.{place_of}
use Rattle.fabric.specs.Layouts.{Plan, Lawful}
use Rattle.fabric.specs.Verdicts.Verdict.{granted}
use Rattle.fabric.specs.Places.{place_below}
use Rattle.switch.specs.Switches.{LawfulSwitch}
use Rattle.bounds.specs.declared.settings.Settings.{Settings}
use Rattle.bounds.specs.SetUp.{all_tickets, set_up_verdict}
use Rattle.clock.specs.Draws.{register}
use Rattle.network.specs.Cycle.{Fabric}
use Rattle.network.specs.Runs.{fresh}
use Rattle.network.specs.Runs.Leads.{set_up}
use Rattle.network.proofs.Kept.{accepted}
use Rattle.calls.specs.declared.tables.Tables.{Tables}
use Rattle.calls.specs.declared.ticket.Ticket.{Ticket}
use Rattle.calls.specs.Fits.{Fits}
use Rattle.calls.specs.Records.{Starts}
use Rattle.calls.specs.Follow.{Entry, Follows, first_settings, Begins, slot_of}
use Rattle.calls.proofs.Promising.{whole}

pub ticket_below : (F : Fabric) → Lawful F.plan → (P : Settings) → P.tickets ≤ 8 → all_tickets F.plan P ≤ 512
ticket_below F law P h =
    let a : F.plan.nodes * P.tickets ≤ F.plan.nodes * 8 = mul-le-mul_left F.plan.nodes h in
    let b = law.few_nodes in
    omega arith

-- no ticket is taken
all_free : (t : ℕ) → Entry None t []
all_free t = record { opened = refl; recorded = λ r e. cc }

-- tables that start follow the empty run
begin : (F : Fabric) → Lawful F.plan → (i : Tables) (P : Settings) → Starts i P → set_up_verdict F.plan P ≡ granted tt → Follows F i [] fresh
begin F law i P x ok =
    record {
      lawful = subst (λ (Q : Settings). set_up_verdict F.plan Q ≡ granted tt) (sym x.settings) ok;
      leads = set_up;
      shows = record {
        cycles = x.cycles;
        drawn = x.register ∙ ap (λ (Q : Settings). Q.seed) (sym x.settings) ∙ ap (register i.settings.seed) (sym (zero-mul F.plan.nodes));
        slots = λ n p h.
            let a = place_below p in
            let b = law.few_nodes in
            ap (λ xs. slot_of xs n p) x.slots ∙ get_or-replicate 256 (4 * n + place_of p) None None (omega arith);
        records = λ t h.
            let a = ticket_below F law i.settings i.fits.few in
            let e : get_or i.tickets t None ≡ None = ap (λ xs. get_or xs t None) x.tickets ∙ get_or-replicate 512 t None None (omega arith) in
            subst (λ (o : Option Ticket). Entry o t []) (sym e) (all_free t);
        queued = λ n h.
            let b = law.few_nodes in
            ap (λ xs. get_or xs n []) x.waits ∙ get_or-replicate 64 n [] [] (omega arith);
      };
    }

pub begins : (F : Fabric) → Lawful F.plan → LawfulSwitch F.turn → (i : Tables) (P : Settings) → Starts i P → set_up_verdict F.plan P ≡ granted tt → Begins F P i
begins F law sw i P x ok = let b = begin F law i P x ok in record { settings = x.settings; follows = b; whole = whole law sw i b.lawful b }

-- what a network begins with, set-up would accept
pub first_accepted : (p : Plan) → Lawful p → set_up_verdict p first_settings ≡ granted tt
first_accepted p law =
    cond-false _ _ _ (or_from _ _ (le-ltb 4096 (1 * (p.reach + 1)) (let h = law.near in omega arith)) refl)

-- what set-up accepts fits
pub fits : (p : Plan) (P : Settings) → set_up_verdict p P ≡ granted tt → Fits P
fits p P e =
    let a = accepted p P e in
    record { some = a.some_tickets; few = a.few_tickets; short = a.short; lasting = a.some; ending = a.ending; narrow = a.narrow }
