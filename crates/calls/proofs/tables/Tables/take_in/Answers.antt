use Rattle.std.proofs.Common.{◌≡◌, Some, None, get_or, set, sym, refl, ap, ◌∙◌, arith}
use Rattle.std.proofs.lemmas.List.{get_or_default}
use Rattle.calls.proofs.Recording.{took_in}
use Rattle.calls.proofs.tables.Tables.take_in.Goals as goal

pub returns-in-Some : goal.returns-in-Some
returns-in-Some c =
    let i = c.args.self.now in
    let there : get_or i.tickets c.from-t.result None ≡ Some c.in-Some.packet = get_or_default i.tickets c.from-t.result None _ (omega arith) ∙ c.in-Some.is in
    took_in i _ c.args.flit c.in-Some.packet c.receive.new.self (record { settings = refl; cycles = refl; register = refl; slots = refl }) refl (ap (λ k. get_or i.tickets k None) (sym c.from-t.ensures) ∙ there) c.receive.ensures
    (ap (λ k. set i.tickets k (Some c.receive.new.self)) c.from-t.ensures)
