-- A session whose network was just set up.
use Rattle.std.proofs.Common.{◌≡◌, ℕ, zero, suc, List, [], ◌∷◌, map, length, get_or, replicate, None, Option, sym, refl, ap, ◌∙◌, subst, ap₂, subst₂, arith}
use Rattle.std.specs.List.{AllByRecursion}
use Rattle.bounds.specs.declared.settings.Settings.{Settings}
use Rattle.fabric.specs.Verdicts.Verdict.{granted}
use Rattle.bounds.specs.SetUp.{set_up_verdict}
use Rattle.network.specs.Cycle.{Fabric}
use Rattle.network.specs.Runs.{fresh}
use Rattle.calls.specs.Follow.{Begins}
use Rattle.text.specs.declared.parts.Packet.{Packet}
use Rattle.runsheet.specs.Said.{Said}
use Rattle.text.specs.Texts.{Fits}
use Rattle.text.specs.Lines.{Sized, packet_line, cable_line}
use Rattle.runsheet.specs.Sheets.{Formed}
use Rattle.text.proofs.Lists.{all_right}
use Rattle.writer.specs.declared.writer.Writer.{Writer}
use Rattle.writer.specs.Listings.{beyond}
use Rattle.runner.specs.Tallies.{Tallied}
use Rattle.runner.specs.declared.session.Session.{Session}
use Rattle.laying.specs.Layings.{settings_of}
use Rattle.runner.specs.Listing.{Lists}
use Rattle.runner.specs.Progress.{Stands, Sendable, Left, PlayedFrom}
use Rattle.runner.specs.Answering.{Blank, Ran}

abbrev pub none : Option ℕ
none = None

none_aimed : (n t : ℕ) → get_or (replicate n none) t None ≡ None
none_aimed zero t = refl
none_aimed (suc n) zero = refl
none_aimed (suc n) (suc t) = none_aimed n t

-- nothing has happened, and nothing is written
pub at_first : {A B : Type 0} {F : Fabric} {P : Settings} {x : Session A B} {w : Writer} → Begins F P x.network.inner → Blank w → x.nodes ≡ F.plan.nodes → x.tickets ≡ P.tickets →
    x.aims ≡ replicate 512 none → Tallied x.tally [] → Stands F P (beyond w) x w fresh [] [] 0
at_first b h nodes tickets aims tallied =
    record {
      at = record {
        calls = record { run = []; follows = b.follows; settings = b.settings };
        aimed = λ t l. ap (λ (a : List (Option ℕ)). get_or a t None) aims ∙ none_aimed 512 t;
        places = ap length aims;
        events = refl;
        narrow = tt;
        tallied = tallied;
        spent = record {
          declined = 0;
          packets = refl;
          few = omega arith;
          long = h.room;
          holds = record { written = h.none; rest = refl; few = omega arith };
        };
      };
      nodes = nodes;
      tickets = tickets;
    }

sendable : (ps : List Packet) → AllByRecursion Sized ps → AllByRecursion (AllByRecursion Fits) (map packet_line ps) → AllByRecursion Sendable ps
sendable [] s n = tt
sendable (p ∷ ps) s n = (record { sized = s.0; numbers = n.0 }, sendable ps s.1 n.1)

-- the packets of a sheet that is of its form
pub all_left : (s : Said) → Formed 128 256 s → Left 0 s.packets
all_left s f =
    record {
      rising = f.rising;
      sendable = sendable s.packets f.sized (all_right (AllByRecursion Fits) (map cable_line s.cables) _ f.numbers.1.1.1.1).1;
    }

-- a run that was played, for the sheet that it is of
pub ran : {F F' : Fabric} {P : Settings} {ps : List Packet} (s : Said) (w : Writer) {v : Writer} → F' ≡ F → P ≡ settings_of s.run → ps ≡ s.packets → granted tt ≡ set_up_verdict F'.plan P →
    PlayedFrom F' P (beyond w) s.run.cycles ps v → Ran F s w v (granted tt)
ran {F} {F'} {P} {ps} s w f p q g h = (
  sym (g ∙ ap₂ (λ (X : Fabric) (Q : Settings). set_up_verdict X.plan Q) f p),
  (
    h.out,
    subst (λ (qs : List Packet). Lists F (settings_of s.run) qs s.run.cycles h.out) q
        (subst₂ (λ (X : Fabric) (Q : Settings). Lists X Q ps s.run.cycles h.out) f p h.lists),
    h.holds,
  ),
)
