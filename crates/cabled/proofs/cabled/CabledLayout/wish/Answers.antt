use Rattle.std.proofs.Common.{[], ◌∷◌, rules, tests, sym, ◌∙◌}
use Rattle.std.proofs.lemmas.Bool.{lt-ltb, and_from, cond-true}
use Rattle.std.proofs.lemmas.Iterator.{YieldsList-from_slice}
use Rattle.std.proofs.lemmas.Iterator.Consumers.{YieldsList-from_copied}
use Rattle.std.proofs.lemmas.Iterator.Search.{find_from_yields_List}
use Rattle.std.proofs.lemmas.Iterator.Adapters.{option_map_id}
use Rattle.fabric.specs.declared.parts.Port.TheVariants.{N, E, S, W}
use Rattle.cabled.specs.Tables.{leads}
use Rattle.cabled.proofs.cabled.CabledLayout.wish.Goals as goal

pub returns : goal.returns
returns c =
    let x = c.args.self.now in
    sym (option_map_id c.find.result)
    ∙ find_from_yields_List (leads x.wiring.ends x.spans.distances c.args.from c.args.to) _ _ c.find.result c.find.ensures.ran
    (YieldsList-from_copied (YieldsList-from_slice (E ∷ W ∷ N ∷ S ∷ []) cc)) (λ y b q k. search (rules, tests))
    ∙ sym (cond-true _ _ _ (and_from _ _ (lt-ltb _ _ c.if-from-self.false) (lt-ltb _ _ c.if-to-self.false)))
