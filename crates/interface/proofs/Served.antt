-- Histories that grow by a taking, by a step without an issue, and by a step with one.
use Rattle.std.proofs.Common.{◌≡◌, ℕ, ◌+◌, ◌<◌, ◌≤◌, List, [], ◌∷◌, ◌++◌, sym, refl, ap, ◌∙◌, subst, ⊎_elim, eq-or-lt_of_le, arith}
use Rattle.interface.specs.declared.Request.{Request}
use Rattle.interface.specs.History.{Taking, Occurrence, Issuance, Served, issuances}

-- the takings that still wait
abbrev pub pending : List Taking → List Occurrence → List Taking
pending [] is = []
pending (k ∷ ks) [] = k ∷ ks
pending (k ∷ ks) (i ∷ is) = pending ks is

module _ (May : List Issuance → Request → ℕ → Type 0) where
  -- a taking

  pub served_take : (ks : List Taking) (is : List Occurrence) (ss : List Issuance) (n : ℕ) (k : Taking) → n ≤ k.from → Served May ss ks is n → Served May ss (ks ++ (k ∷ [])) is n
  served_take [] [] ss n k h s = λ t a b m. omega arith
  served_take [] (i ∷ is) ss n k h s = absurd s
  served_take (j ∷ ks) [] ss n k h s = s
  served_take (j ∷ ks) (i ∷ is) ss n k h s = (s.0, s.1, s.2, served_take ks is (ss ++ (record { request = j.request; at = i.at } ∷ [])) n k h s.3)

  pub pending_take : (ks : List Taking) (is : List Occurrence) (ss : List Issuance) (n : ℕ) (k : Taking) → Served May ss ks is n → pending (ks ++ (k ∷ [])) is ≡ pending ks is ++ (k ∷ [])
  pending_take [] [] ss n k s = refl
  pending_take [] (i ∷ is) ss n k s = absurd s
  pending_take (j ∷ ks) [] ss n k s = refl
  pending_take (j ∷ ks) (i ∷ is) ss n k s = pending_take ks is (ss ++ (record { request = j.request; at = i.at } ∷ [])) n k s.3

  pub issuances_take : (ks : List Taking) (is : List Occurrence) (ss : List Issuance) (n : ℕ) (k : Taking) → Served May ss ks is n → issuances ss (ks ++ (k ∷ [])) is ≡ issuances ss ks is
  issuances_take [] [] ss n k s = refl
  issuances_take [] (i ∷ is) ss n k s = absurd s
  issuances_take (j ∷ ks) [] ss n k s = refl
  issuances_take (j ∷ ks) (i ∷ is) ss n k s = issuances_take ks is (ss ++ (record { request = j.request; at = i.at } ∷ [])) n k s.3

  -- a step without an issue

  abbrev pub Shut : ℕ → List Issuance → List Taking → Type 0
  Shut n ss [] = Unit {0}
  Shut n ss (k ∷ ks) = May ss k.request n → ⊥

  shut_more : (n : ℕ) (ss : List Issuance) (q : Request) → (May ss q n → ⊥) → (f : ℕ) → ((t : ℕ) → f ≤ t → t < n → May ss q t → ⊥) → (t : ℕ) → f ≤ t → t < n + 1 → May ss q t → ⊥
  shut_more n ss q z f old t a b m =
      let le : t ≤ n = omega arith in
      ⊎_elim (λ e. z (subst (May ss q) e m)) (λ l. old t a l m) (eq-or-lt_of_le le)

  pub served_wait : (ks : List Taking) (is : List Occurrence) (ss : List Issuance) (n : ℕ) → Shut n (issuances ss ks is) (pending ks is) → Served May ss ks is n → Served May ss ks is (n + 1)
  served_wait [] [] ss n z s = tt
  served_wait [] (i ∷ is) ss n z s = absurd s
  served_wait (j ∷ ks) [] ss n z s = shut_more n ss j.request z j.from s
  served_wait (j ∷ ks) (i ∷ is) ss n z s = (s.0, s.1, omega (arith, s.2), served_wait ks is (ss ++ (record { request = j.request; at = i.at } ∷ [])) n z s.3)

  -- a step with the issue of the oldest that waits; nothing may be issued in that step again

  module _ (apart : (ss : List Issuance) (s : Issuance) (q : Request) (t : ℕ) → May (ss ++ (s ∷ [])) q t → s.at < t) where
    served_next : (ks : List Taking) (ss : List Issuance) (q : Request) (n : ℕ) → Served May (ss ++ (record { request = q; at = n } ∷ [])) ks [] (n + 1)
    served_next [] ss q n = tt
    served_next (k ∷ ks) ss q n = λ t a b m. let l = apart ss (record { request = q; at = n }) k.request t m in omega arith

    pub served_issue : (ks : List Taking) (is : List Occurrence) (ss : List Issuance) (n : ℕ) (k : Taking) (rest : List Taking) (i : Occurrence)
        → pending ks is ≡ k ∷ rest → i.slot ≡ k.request.slot → i.at ≡ n → k.from ≤ n → May (issuances ss ks is) k.request n
        → Served May ss ks is n → Served May ss ks (is ++ (i ∷ [])) (n + 1)
    served_issue [] is ss n k rest i p e a f m s = let z : ◌≡◌ {A = ℕ} 0 1 = cc in absurd (omega arith)
    served_issue (j ∷ ks) [] ss n k rest i p e a f m s =
        let jk : j ≡ k = cc in
        let fj = ap (λ (x : Taking). x.from) jk in (
          e ∙ ap (λ (x : Taking). x.request.slot) (sym jk),
          (omega arith, subst (May ss j.request) (sym a) (subst (λ x. May ss x.request n) (sym jk) m), λ u l h. s u l (omega arith)),
          omega arith,
          subst (λ t. Served May (ss ++ (record { request = j.request; at = t } ∷ [])) ks [] (n + 1)) (sym a) (served_next ks ss j.request n),
        )
    served_issue (j ∷ ks) (x ∷ is) ss n k rest i p e a f m s =
        (s.0, s.1, omega (arith, s.2), served_issue ks is (ss ++ (record { request = j.request; at = x.at } ∷ [])) n k rest i p e a f m s.3)

  pub pending_issue : (ks : List Taking) (is : List Occurrence) (k : Taking) (rest : List Taking) (i : Occurrence) → pending ks is ≡ k ∷ rest → pending ks (is ++ (i ∷ [])) ≡ rest
  pending_issue [] is k rest i p = let z : ◌≡◌ {A = ℕ} 0 1 = cc in absurd (omega arith)
  pending_issue (j ∷ ks) [] k rest i p = nothing ks ∙ cc
    where
      nothing : (ks : List Taking) → pending ks [] ≡ ks
      nothing [] = refl
      nothing (k ∷ ks) = refl
  pending_issue (j ∷ ks) (x ∷ is) k rest i p = pending_issue ks is k rest i p

  pub issuances_issue : (ks : List Taking) (is : List Occurrence) (ss : List Issuance) (k : Taking) (rest : List Taking) (i : Occurrence) → pending ks is ≡ k ∷ rest
      → issuances ss ks (is ++ (i ∷ [])) ≡ issuances ss ks is ++ (record { request = k.request; at = i.at } ∷ [])
  issuances_issue [] is ss k rest i p = let z : ◌≡◌ {A = ℕ} 0 1 = cc in absurd (omega arith)
  issuances_issue (j ∷ ks) [] ss k rest i p = let jk : j ≡ k = cc in nothing ks (ss ++ (record { request = j.request; at = i.at } ∷ [])) ∙ ap (λ (x : Taking). ss ++ (record { request = x.request; at = i.at } ∷ [])) jk
    where
      nothing : (ks : List Taking) (ss : List Issuance) → issuances ss ks [] ≡ ss
      nothing [] ss = refl
      nothing (k ∷ ks) ss = refl
  issuances_issue (j ∷ ks) (x ∷ is) ss k rest i p = issuances_issue ks is (ss ++ (record { request = j.request; at = x.at } ∷ [])) k rest i p
