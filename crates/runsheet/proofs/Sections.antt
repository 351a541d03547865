-- A line that its section bars is none that may come next.
use Rattle.std.proofs.Common.{ℕ, List, subst}
use Rattle.text.specs.Fields.{Unlike}
use Rattle.runsheet.specs.Reading.{Draft, entry_line, Suits, Bars}
use Rattle.runsheet.specs.declared.reader.Entry.TheVariants as entry

pub unlike : (d : Draft) (ws : List (List ℕ)) → Bars d.section d ws → Unlike entry_line (Suits d) ws
unlike d ws b (entry.Shape x) f u e = subst (λ s. Bars s d ws) u b x f tt e
unlike d ws b (entry.Kind x) f u e = subst (λ s. Bars s d ws) u b x f tt e
unlike d ws b (entry.Run x) f u e = subst (λ s. Bars s d ws) u.0 b x f u.1 e
unlike d ws b (entry.Cables n) f u e = subst (λ s. Bars s d ws) u.0 b n f u.1 e
unlike d ws b (entry.Cable x) f u e = subst (λ s. Bars s d ws) u b x f tt e
unlike d ws b (entry.Packets n) f u e = subst (λ s. Bars s d ws) u b n f tt e
unlike d ws b (entry.Packet x) f u e = subst (λ s. Bars s d ws) u.0 b x f (u.1, u.2) e
