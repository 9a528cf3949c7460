-- The requests of a class that wait, in the order of taking.
use Rattle.std.proofs.Common.{◌≡◌, ℕ, Bool, true, false, cond, ◌&&◌, List, [], ◌∷◌, ◌++◌, map, Some, Option, None, sym, refl, ap, ◌∙◌}
use Rattle.interface.specs.Meaning.{first, rest}
use Rattle.interface.specs.Slots.{dropped, failing, passing}
use Rattle.interface.specs.declared.Request.{Request}
use Rattle.interface.proofs.Slots.{Apart, marked, failing_append, failing_dropped, map_append}
use Rattle.held.specs.declared.entries.Entry.{Entry}
use Rattle.held.specs.Entries.{request_of, later, key, next_of, issue_next, issued_now, is_issued, new_entry}

-- ---- those that pass a test

passing_append : {X : Type 0} (p : X → Bool) (xs : List X) (x : X) → passing p (xs ++ (x ∷ [])) ≡ passing p xs ++ passing p (x ∷ [])
passing_append p [] x = refl
passing_append p (y ∷ xs) x = go (p y) (passing_append p xs x)
  where
    go : (b : Bool) → passing p (xs ++ (x ∷ [])) ≡ passing p xs ++ passing p (x ∷ [])
        → cond b (y ∷ passing p (xs ++ (x ∷ []))) (passing p (xs ++ (x ∷ []))) ≡ cond b (y ∷ passing p xs) (passing p xs) ++ passing p (x ∷ [])
    go true e = ap (λ l. y ∷ l) e
    go false e = e

pub passing_more : {X : Type 0} (p : X → Bool) (xs : List X) (x : X) (b : Bool) → p x ≡ b → passing p (xs ++ (x ∷ [])) ≡ passing p xs ++ cond b (x ∷ []) []
passing_more p xs x b e = passing_append p xs x ∙ ap (λ t. passing p xs ++ cond t (x ∷ []) []) e

-- ---- the entries of a class that wait

abbrev pub waiting : (Request → Bool) → List Entry → List Entry
waiting k hs = passing (λ e. k e.request) (failing is_issued hs)

module _ (k : Request → Bool) where
  -- a step passes
  pub waiting_later : (hs : List Entry) → map request_of (waiting k (map later hs)) ≡ map request_of (waiting k hs)
  waiting_later [] = refl
  waiting_later (h ∷ hs) = at h.request h.until_done h.left (waiting_later hs)
    where
      at : (q : Request) (s : Option ℕ) (l : ℕ) → map request_of (waiting k (map later hs)) ≡ map request_of (waiting k hs)
          → map request_of (waiting k (later (record { request = q; until_done = s; left = l }) ∷ map later hs)) ≡ map request_of (waiting k (record { request = q; until_done = s; left = l } ∷ hs))
      at q None l e = go (k q)
        where
          go : (b : Bool) → map request_of (cond b (later (record { request = q; until_done = None; left = l }) ∷ waiting k (map later hs)) (waiting k (map later hs)))
              ≡ map request_of (cond b (record { request = q; until_done = None; left = l } ∷ waiting k hs) (waiting k hs))
          go true = ap (λ r. q ∷ r) e
          go false = e
      at q (Some n) l e = e

  -- the oldest of them is the next to be issued
  pub next_waiting : (hs : List Entry) → next_of k hs ≡ first (waiting k hs)
  next_waiting [] = refl
  next_waiting (h ∷ hs) = at h.request h.until_done h.left (next_waiting hs)
    where
      at : (q : Request) (s : Option ℕ) (l : ℕ) → next_of k hs ≡ first (waiting k hs)
          → next_of k (record { request = q; until_done = s; left = l } ∷ hs) ≡ first (waiting k (record { request = q; until_done = s; left = l } ∷ hs))
      at q None l e = go (k q)
        where
          go : (b : Bool) → cond (b && true) (Some (record { request = q; until_done = None; left = l })) (next_of k hs) ≡ first (cond b (record { request = q; until_done = None; left = l } ∷ waiting k hs) (waiting k hs))
          go true = refl
          go false = e
      at q (Some n) l e = go (k q)
        where
          go : (b : Bool) → cond (b && false) (Some (record { request = q; until_done = Some n; left = l })) (next_of k hs) ≡ first (waiting k hs)
          go true = e
          go false = e

  -- that one is issued
  pub waiting_issued : (hs : List Entry) → waiting k (issue_next k hs) ≡ rest (waiting k hs)
  waiting_issued [] = refl
  waiting_issued (h ∷ hs) = at h.request h.until_done h.left (waiting_issued hs)
    where
      at : (q : Request) (s : Option ℕ) (l : ℕ) → waiting k (issue_next k hs) ≡ rest (waiting k hs)
          → waiting k (issue_next k (record { request = q; until_done = s; left = l } ∷ hs)) ≡ rest (waiting k (record { request = q; until_done = s; left = l } ∷ hs))
      at q None l e = go (k q) refl
        where
          go : (b : Bool) → k q ≡ b → waiting k (cond (b && true) (issued_now (record { request = q; until_done = None; left = l }) ∷ hs) (record { request = q; until_done = None; left = l } ∷ issue_next k hs))
              ≡ rest (cond b (record { request = q; until_done = None; left = l } ∷ waiting k hs) (waiting k hs))
          go true z = refl
          go false z = ap (λ b. cond b (record { request = q; until_done = None; left = l } ∷ waiting k (issue_next k hs)) (waiting k (issue_next k hs))) z ∙ e
      at q (Some n) l e = go (k q)
        where
          go : (b : Bool) → waiting k (cond (b && false) (issued_now (record { request = q; until_done = Some n; left = l }) ∷ hs) (record { request = q; until_done = Some n; left = l } ∷ issue_next k hs)) ≡ rest (waiting k hs)
          go true = e
          go false = e

  -- one of another class is issued
  pub waiting_others : (j : Request → Bool) → ((q : Request) → j q ≡ true → k q ≡ false) → (hs : List Entry) → waiting k (issue_next j hs) ≡ waiting k hs
  waiting_others j o [] = refl
  waiting_others j o (h ∷ hs) = at h.request h.until_done h.left (waiting_others j o hs)
    where
      at : (q : Request) (s : Option ℕ) (l : ℕ) → waiting k (issue_next j hs) ≡ waiting k hs
          → waiting k (issue_next j (record { request = q; until_done = s; left = l } ∷ hs)) ≡ waiting k (record { request = q; until_done = s; left = l } ∷ hs)
      at q None l e = go (j q) refl
        where
          go : (b : Bool) → j q ≡ b → waiting k (cond (b && true) (issued_now (record { request = q; until_done = None; left = l }) ∷ hs) (record { request = q; until_done = None; left = l } ∷ issue_next j hs))
              ≡ cond (k q) (record { request = q; until_done = None; left = l } ∷ waiting k hs) (waiting k hs)
          go true z = ap (λ b. cond b (record { request = q; until_done = None; left = l } ∷ waiting k hs) (waiting k hs)) (sym (o q z))
          go false z = ap (λ w. cond (k q) (record { request = q; until_done = None; left = l } ∷ w) w) e
      at q (Some n) l e = go (j q)
        where
          go : (b : Bool) → waiting k (cond (b && false) (issued_now (record { request = q; until_done = Some n; left = l }) ∷ hs) (record { request = q; until_done = Some n; left = l } ∷ issue_next j hs)) ≡ waiting k hs
          go true = e
          go false = e

  -- a request is taken
  pub waiting_taken : (hs : List Entry) (n : ℕ) (q : Request) (b : Bool) → k q ≡ b → map request_of (waiting k (hs ++ (new_entry n q ∷ []))) ≡ map request_of (waiting k hs) ++ cond b (q ∷ []) []
  waiting_taken hs n q b e =
      ap (λ l. map request_of (passing (λ x. k x.request) l)) (failing_append is_issued hs (new_entry n q) refl)
      ∙ ap (map request_of) (passing_more (λ x. k x.request) (failing is_issued hs) (new_entry n q) b e) ∙ go b
    where
      nothing : (xs : List Entry) → map request_of (xs ++ []) ≡ map request_of xs ++ []
      nothing [] = refl
      nothing (x ∷ xs) = ap (λ l. x.request ∷ l) (nothing xs)

      go : (b : Bool) → map request_of (waiting k hs ++ cond b (new_entry n q ∷ []) []) ≡ map request_of (waiting k hs) ++ cond b (q ∷ []) []
      go true = map_append request_of (waiting k hs) (new_entry n q)
      go false = nothing (waiting k hs)

  -- one that is issued is held no more
  pub waiting_dropped : (n : ℕ) (hs : List Entry) → Apart key hs → marked key is_issued n hs ≡ true → waiting k (dropped key n hs) ≡ waiting k hs
  waiting_dropped n hs a m = ap (passing (λ e. k e.request)) (failing_dropped key is_issued n hs a m)
