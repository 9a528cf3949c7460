-- The open takings and the ticks of a run, as one row.
use Rattle.std.proofs.Common.{◌≡◌, ℕ, suc, ◌≤◌, List, [], ◌∷◌, sym, refl, ap, arith}
use Rattle.std.specs.List.{AllByRecursion}
use Rattle.interface.specs.declared.Kind.{Kind}
use Rattle.run_laws.specs.Runs.{Taking}

pub data Ev : Type 0 where
  took : ℕ → ℕ → Kind → Ev
  passed : Ev

abbrev pub takes_in : ℕ → List Ev → List Taking
takes_in n [] = []
takes_in n (took d b k ∷ t) = record { tick = n; domain = d; bank = b; kind = k } ∷ takes_in n t
takes_in n (passed ∷ t) = takes_in (suc n) t

abbrev pub passes : List Ev → ℕ
passes [] = 0
passes (took d b k ∷ t) = passes t
passes (passed ∷ t) = suc (passes t)

late : (n m : ℕ) (t : List Ev) → n ≤ m → AllByRecursion (λ a. n ≤ a.tick) (takes_in m t)
late n m [] h = tt
late n m (took d b k ∷ t) h = (h, late n m t h)
late n m (passed ∷ t) h = late n (suc m) t (omega arith)

-- of a row that begins with x, x is in it
first_of : {X : Type 0} (P : X → Type 0) (x : X) (xs ys : List X) → (x ∷ xs) ≡ ys → AllByRecursion P ys → P x
first_of P x xs ys e h = (rw (← e) at h).0

nil≢cons : {X : Type 0} (x : X) (xs : List X) → [] ≡ x ∷ xs → ⊥
nil≢cons x xs e = let z : ◌≡◌ {A = ℕ} 0 1 = cc in omega arith

-- ticks and takings with their ticks decide the row
pub row_decided : (n : ℕ) (t u : List Ev) → takes_in n t ≡ takes_in n u → passes t ≡ passes u → t ≡ u
row_decided n [] [] e f = refl
row_decided n [] (took d b k ∷ u) e f = absurd (nil≢cons _ _ e)
row_decided n [] (passed ∷ u) e f = absurd (omega arith)
row_decided n (took d b k ∷ t) [] e f = absurd (nil≢cons _ _ (sym e))
row_decided n (took d b k ∷ t) (took d' b' k' ∷ u) e f =
    let tails : takes_in n t ≡ takes_in n u = cc in
    let heads : ◌≡◌ {A = Taking} (record { tick = n; domain = d; bank = b; kind = k }) (record { tick = n; domain = d'; bank = b'; kind = k' }) = cc in
    let ds : d ≡ d' = ap (λ a. a.domain) heads in
    let bs : b ≡ b' = ap (λ a. a.bank) heads in
    let ks : k ≡ k' = ap (λ a. a.kind) heads in
    let rest : t ≡ u = row_decided n t u tails f in
    cc
row_decided n (took d b k ∷ t) (passed ∷ u) e f = absurd (let h : suc n ≤ n = first_of (λ a. suc n ≤ a.tick) _ _ _ e (late (suc n) (suc n) u (omega arith)) in omega arith)
row_decided n (passed ∷ t) [] e f = absurd (omega arith)
row_decided n (passed ∷ t) (took d b k ∷ u) e f = absurd (let h : suc n ≤ n = first_of (λ a. suc n ≤ a.tick) _ _ _ (sym e) (late (suc n) (suc n) t (omega arith)) in omega arith)
row_decided n (passed ∷ t) (passed ∷ u) e f = ap (◌∷◌ passed) (row_decided (suc n) t u e (omega arith))
