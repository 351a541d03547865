-- An event put in the caller's line.
use Rattle.std.proofs.Common.{◌≡◌, ◌+◌, ◌%◌, List, [], ◌∷◌, ◌++◌, length, refl, ◌∙◌, arith}
use Rattle.std.proofs.lemmas.List.{length-set}
use Rattle.line.specs.Queues.{Queue, put}
use Rattle.network.specs.declared.event.Event.{Event}
use Rattle.network.specs.Runs.{put_all}

-- room and length of a line after puts
pub put_length : (q : Queue Event) (xs : List Event) → (length (put_all q xs).memory ≡ length q.memory) × ((put_all q xs).held ≡ q.held + length xs)
put_length q [] = (refl, let z : q.held ≡ q.held + 0 = omega arith in z)
put_length q (x ∷ xs) =
    let r = put_length (put q x) xs in
    let a = r.0 in
    let b = r.1 in
    let l = length-set q.memory ((q.first + q.held) % length q.memory) x in
    (a ∙ l, let z : (put_all (put q x) xs).held ≡ q.held + length (x ∷ xs) = omega arith in z)

pub put_more : {A : Type 0} (q : Queue A) (xs ys : List A) → put_all (put_all q xs) ys ≡ put_all q (xs ++ ys)
put_more q [] ys = refl
put_more q (x ∷ xs) ys = put_more (put q x) xs ys
