-- Loops that look for an element that passes a test, and loops that push a value for each element.
use Rattle.std.proofs.Common.{◌≡◌, ℕ, ◌+◌, ◌<◌, ◌≤◌, Bool, false, ◌||◌, List, [], ◌∷◌, ◌++◌, map, length, get_or, take, drop, sym, ap, ◌∙◌}
use Rattle.std.proofs.lemmas.List.{at_drop_more, at_drop_all, take_more, take_all, map_more}
use Rattle.patterns.specs.declared.setting.EdgeSetting.{EdgeSetting}
use Rattle.patterns.specs.Shape.{bad_edge, bad_edges}

pub bad_front : (n : ℕ) (es : List EdgeSetting) (i : ℕ) (d : EdgeSetting) (t : Bool) → i < length es → t ≡ bad_edge n (take i es) (get_or es i d)
    → bad_edges n (take i es) (drop i es) ≡ (t || bad_edges n (take (i + 1) es) (drop (i + 1) es))
bad_front n es i d t lt e =
    at_drop_more (bad_edges n (take i es)) es i d lt
    ∙ ap (λ b. b || bad_edges n (take i es ++ (get_or es i d ∷ [])) (drop (i + 1) es)) (sym e)
    ∙ ap (λ xs. t || bad_edges n xs (drop (i + 1) es)) (sym (take_more es i d lt))

pub bad_end : (n : ℕ) (es : List EdgeSetting) (i : ℕ) → length es ≤ i → bad_edges n (take i es) (drop i es) ≡ false
bad_end n es i le = at_drop_all (bad_edges n (take i es)) es i le

-- a loop that pushes a function's value for each element
pub pushed_more : {X Y : Type 0} (f : X → Y) (xs : List X) (ys zs : List Y) (i : ℕ) (d : X) (y : Y) → i < length xs → ys ≡ map f (take i xs) → y ≡ f (get_or xs i d) → zs ≡ ys ++ (y ∷ []) → zs ≡ map f (take (i + 1) xs)
pushed_more f xs ys zs i d y lt so_far is e = e ∙ ap (λ l. l ++ (y ∷ [])) so_far ∙ ap (λ l. map f (take i xs) ++ (l ∷ [])) is ∙ sym (map_more f xs i d lt)

pub pushed_all : {X Y : Type 0} (f : X → Y) (xs : List X) (ys : List Y) (i : ℕ) → length xs ≤ i → ys ≡ map f (take i xs) → ys ≡ map f xs
pushed_all f xs ys i le so_far = so_far ∙ ap (map f) (take_all i xs le)
