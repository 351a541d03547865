use Rattle.std.proofs.Common.{◌≡◌, ℕ, ◌<◌, ◌++◌, get_or, drop, None, unwrap_or, sym, ap, ◌∙◌, rules, arith}
use Rattle.network.specs.Runs.{over}
use Rattle.network.proofs.Offering.{words_upto, length_words}
use Rattle.calls.specs.Records.{values}
use Rattle.calls.proofs.ticket.Ticket.write.Goals as goal

pub returns : goal.returns
returns c =
    let xs = c.args.self.now.received in
    let ms = c.args.memory.now in
    let n = c.places-places.result in
    let e : (i : ℕ) → i < 4 → get_or c.map-words.result i 0 ≡ unwrap_or (get_or xs i None) 0 = λ i h. let t = c.map-words.ensures.items.at i None 0 h in search rules in
    ap (λ ys. ys ++ drop n ms) (c.copy_from_slice.ensures.after ∙ sym (words_upto (λ k. get_or xs k None) n c.map-words.result (omega arith) (λ i h. sym (e i (omega arith)))))
    ∙ ap (λ k. values xs n ++ drop k ms) (sym (length_words (λ k. get_or xs k None) n))
    ∙ ap (λ k. over (values xs k) ms) c.places-places.ensures
