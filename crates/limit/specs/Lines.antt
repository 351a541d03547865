-- How an answer is printed.
use Rattle.std.specs.Prelude.{ℕ, List, [], ◌∷◌, ◌++◌, codes}
use Rattle.std.specs.List.{flat_map}
use Rattle.fabric.specs.Ports.{letter}
use Rattle.bounds.specs.declared.limits.Limits.{Limits}
use Rattle.bounds.specs.declared.path.Hop.{Hop}
use Rattle.text.specs.Texts.{Field, word, number}

-- the limits, a line each
abbrev pub limit_lines : Limits → List (List Field)
limit_lines l =
    (word (codes "nodes") ∷ number l.nodes ∷ [])
    ∷ (word (codes "reach") ∷ number l.reach ∷ [])
    ∷ (word (codes "tickets") ∷ number l.tickets ∷ [])
    ∷ (word (codes "epoch") ∷ number l.epoch ∷ [])
    ∷ (word (codes "limit") ∷ number l.latest ∷ [])
    ∷ []

-- the node and the port of each hop, and the node at which they end
abbrev pub path_line : List Hop → ℕ → List Field
path_line hops to = word (codes "path") ∷ (flat_map (λ h. number h.node ∷ word (letter h.port) ∷ []) hops ++ number to ∷ [])
