use Rattle.std.proofs.Common.{◌≡◌, [], Some, None, get_or, drop, sym, refl, ap, ◌∙◌, rules, arith}
use Rattle.std.proofs.lemmas.List.{get_or-map, length-map}
use Rattle.std.specs.Prelude.{slice_get}
use Rattle.batch.specs.Items.{items}
use Rattle.calls.specs.Records.{waiting_at}
use Rattle.calls.proofs.Recording.{head_some, head_empty, let_go, one_changed}
use Rattle.calls.proofs.tables.Tables.let_in.Goals as goal

pub returns-then-packet : goal.returns-then-packet
returns-then-packet c =
    let i = c.args.self.now in
    let xs = waiting_at i c.args.node in
    let u = c.in_ok-ticket.ticket in
    let long = length-map i.waits items in
    let first : Some u ≡ slice_get xs 0 = sym c.in_ok-ticket.was ∙ c.first.ensures ∙ ap (λ ys. slice_get ys 0) (sym (get_or-map items i.waits c.args.node _ [] (omega arith))) in
    let there : get_or i.tickets c.from-t.result None ≡ Some c.in-Some.packet = search rules in
    record {
      keeps = record { settings = refl; cycles = refl; register = refl; slots = refl };
      none = λ e. absurd (head_empty xs u first e);
      some = λ t ts r e is.
          let_go i _ c.args.node u c.from-t.result t c.send-flit.result c.in-Some.packet r c.send-flit.new.self c.from-t.ensures (head_some xs u first t ts e)
          there is (omega arith) c.send-flit.ensures refl (λ no_more. absurd (no_more c.if-packet.true))
          (λ e. one_changed i.waits c.args.node c.remove_first.new.self _ (drop 1) (omega arith) c.remove_first.ensures.held);
    }

pub returns-else-packet : goal.returns-else-packet
returns-else-packet c =
    let i = c.args.self.now in
    let xs = waiting_at i c.args.node in
    let u = c.in_ok-ticket.ticket in
    let long = length-map i.waits items in
    let first : Some u ≡ slice_get xs 0 = sym c.in_ok-ticket.was ∙ c.first.ensures ∙ ap (λ ys. slice_get ys 0) (sym (get_or-map items i.waits c.args.node _ [] (omega arith))) in
    let there : get_or i.tickets c.from-t.result None ≡ Some c.in-Some.packet = search rules in
    record {
      keeps = record { settings = refl; cycles = refl; register = refl; slots = refl };
      none = λ e. absurd (head_empty xs u first e);
      some = λ t ts r e is.
          let_go i _ c.args.node u c.from-t.result t c.send-flit.result c.in-Some.packet r c.send-flit.new.self c.from-t.ensures (head_some xs u first t ts e)
          there is (omega arith) c.send-flit.ensures refl (λ no_more. refl) (λ e. absurd (c.if-packet.false e));
    }
