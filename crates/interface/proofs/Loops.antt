-- What a loop does that puts a function's value in the place of each element.
use Rattle.std.proofs.Common.{◌≡◌, ℕ, zero, suc, ◌+◌, ◌<◌, ◌≤◌, List, [], ◌∷◌, ◌++◌, map, length, get_or, take, drop, set, refl, ap, ◌∙◌, arith}
use Rattle.std.proofs.lemmas.List.Edits.{map_over_more}

pub get_d_any : {X : Type 0} (xs : List X) (i : ℕ) (d e : X) → i < length xs → get_or xs i d ≡ get_or xs i e
get_d_any [] i d e h = absurd (omega arith)
get_d_any (x ∷ xs) zero d e h = refl
get_d_any (x ∷ xs) (suc i) d e h = let k : i < length xs = omega arith in get_d_any xs i d e k

pub map_turn : {X : Type 0} (f : X → X) (xs ys : List X) (i : ℕ) (d v : X) → i < length xs → length ys ≡ length xs → ys ≡ map f (take i xs) ++ drop i xs → v ≡ f (get_or ys i d)
    → set ys i v ≡ map f (take (i + 1) xs) ++ drop (i + 1) xs
map_turn f xs ys i d v h l e w =
    let k : i < length ys = omega arith in
    ap (set ys i) w ∙ map_over_more f xs ys i (get_or ys i d) h e (get_d_any ys i d (get_or ys i d) k)

pub map_done : {X : Type 0} (f : X → X) (xs : List X) (i : ℕ) → length xs ≤ i → map f (take i xs) ++ drop i xs ≡ map f xs
map_done f [] zero h = refl
map_done f [] (suc i) h = refl
map_done f (x ∷ xs) zero h = absurd (omega arith)
map_done f (x ∷ xs) (suc i) h = let k : length xs ≤ i = omega arith in ap (λ l. f x ∷ l) (map_done f xs i k)

map_length : {X : Type 0} (f : X → X) (xs : List X) (i : ℕ) → length (map f (take i xs) ++ drop i xs) ≡ length xs
map_length f [] zero = refl
map_length f [] (suc i) = refl
map_length f (x ∷ xs) zero = refl
map_length f (x ∷ xs) (suc i) = ap suc (map_length f xs i)

pub map_long : {X : Type 0} (f : X → X) (xs ys : List X) (i : ℕ) → ys ≡ map f (take i xs) ++ drop i xs → length ys ≡ length xs
map_long f xs ys i e = ap length e ∙ map_length f xs i
