-- What is written one by one fills the front of the buffer.
use Rattle.std.proofs.Common.{◌≡◌, ◌+◌, ◌≤◌, min, cond, List, [], ◌∷◌, ◌++◌, length, take, set, sym, refl, ap, ◌∙◌, arith, length-append}
use Rattle.std.proofs.lemmas.List.{append_assoc, length_push}
use Rattle.std.proofs.lemmas.Bool.{lt-ltb, le-ltb}
use Rattle.store.specs.Pages.{page, wrote_all, filled}

set_at : {X : Type 0} (ws : List X) (y x : X) (bs : List X) → set (ws ++ (y ∷ bs)) (length ws) x ≡ (ws ++ (x ∷ [])) ++ bs
set_at [] y x bs = refl
set_at (a ∷ ws) y x bs = ap (λ l. a ∷ l) (set_at ws y x bs)

-- after `ws` has been written
from : {X : Type 0} (xs ws bs : List X) → wrote_all xs (page (ws ++ bs) (length ws)) ≡ page (ws ++ filled xs bs) (length ws + min (length xs) (length bs))
unfolding filled
from [] ws bs = ap (page (ws ++ bs)) (omega arith)
from (x ∷ xs) ws [] =
    ap (λ t. wrote_all xs (cond t (page (set (ws ++ []) (length ws) x) (length ws + 1)) (page (ws ++ []) (length ws)))) (le-ltb (length ws) (length (ws ++ [])) (omega (arith, length-append ws [])))
    ∙ from xs ws []
    ∙ ap (λ (l : List _). page (ws ++ l) (length ws + min (length xs) 0)) (none xs)
    ∙ ap (page (ws ++ [])) (omega arith)
  where
    none : {X : Type 0} (ys : List X) → filled ys [] ≡ []
    none [] = refl
    none (y ∷ ys) = refl
from (x ∷ xs) ws (y ∷ bs) =
    ap (λ t. wrote_all xs (cond t (page (set (ws ++ (y ∷ bs)) (length ws) x) (length ws + 1)) (page (ws ++ (y ∷ bs)) (length ws)))) (lt-ltb (length ws) (length (ws ++ (y ∷ bs))) (omega (arith, length-append ws (y ∷ bs))))
    ∙ ap (λ l. wrote_all xs (page l (length ws + 1))) (set_at ws y x bs)
    ∙ ap (λ k. wrote_all xs (page ((ws ++ (x ∷ [])) ++ bs) k)) (sym (length_push ws x))
    ∙ from xs (ws ++ (x ∷ [])) bs
    ∙ ap (λ l. page l (length (ws ++ (x ∷ [])) + min (length xs) (length bs))) (append_assoc ws (x ∷ []) (filled xs bs))
    ∙ ap (page (ws ++ (x ∷ filled xs bs))) (omega (arith, length_push ws x))

-- from the front on
pub filled_page : {X : Type 0} (xs ys : List X) → wrote_all xs (page ys 0) ≡ page (filled xs ys) (min (length xs) (length ys))
filled_page xs ys = from xs [] ys ∙ ap (page (filled xs ys)) (omega arith)

-- where all fit, they stand at the front
pub filled_front : {X : Type 0} (xs ys : List X) → length xs ≤ length ys → take (length xs) (filled xs ys) ≡ xs
unfolding filled
filled_front [] [] le = refl
filled_front [] (y ∷ ys) le = refl
filled_front (x ∷ xs) [] le = absurd (omega arith)
filled_front (x ∷ xs) (y ∷ ys) le = ap (λ l. x ∷ l) (filled_front xs ys (omega arith))

pub filled_none : {X : Type 0} (ys : List X) → filled [] ys ≡ ys
unfolding filled
filled_none ys = refl
