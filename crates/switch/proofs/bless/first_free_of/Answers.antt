use Rattle.std.proofs.Common.{[], ◌∷◌, rules, tests, unwrap_or, sym, ap, ◌∙◌}
use Rattle.std.proofs.lemmas.Iterator.{YieldsList-from_slice}
use Rattle.std.proofs.lemmas.Iterator.Consumers.{YieldsList-from_copied}
use Rattle.std.proofs.lemmas.Iterator.Search.{find_from_yields_List}
use Rattle.std.proofs.lemmas.Iterator.Adapters.{option_map_id}
use Rattle.fabric.specs.declared.parts.Port.TheVariants.{N, E, S, W}
use Rattle.switch.specs.Sides.{held}
use Rattle.switch.proofs.bless.first_free_of.Goals as goal

pub returns : goal.returns
returns c =
    c.unwrap_or.ensures
    ∙ ap (λ o. unwrap_or o S)
    (sym (option_map_id c.find.result)
    ∙ find_from_yields_List (held c.args.free) _ _ c.find.result c.find.ensures.ran (YieldsList-from_copied (YieldsList-from_slice (E ∷ W ∷ N ∷ S ∷ []) cc))
    (λ y b q k. search (rules, tests)))
