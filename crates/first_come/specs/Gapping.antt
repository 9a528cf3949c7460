-- All that the laws of first-come use of the gaps: the countdowns agree with the history of issues, allow a request exactly
-- when it keeps its gap to every earlier issue, never let two issues into one step, and run out.
use Rattle.std.specs.Prelude.{◌≡◌, ℕ, zero, suc, ◌+◌, ◌-◌, ◌%◌, ◌<◌, ◌≤◌, max, Bool, true, false, cond, ◌&&◌, ◌≢◌, List, [], ◌∷◌, ◌++◌, map, length, ◌==◌, slice_index, slice_set, refl}
use Rattle.std.proofs.Common.{sym, ap, ◌∙◌, subst, arith, lit≤, length-set, get_or-set_same, get_or-set_other, eqb-true, eq-eqb}
use Rattle.std.proofs.lemmas.List.{length-map}
use Rattle.std.proofs.lemmas.Bool.{eqb-false}
use Rattle.interface.specs.History.{Issuance}
use Rattle.interface.specs.declared.Request.{Request}
use Rattle.interface.specs.declared.Kind.{Kind}
use Rattle.interface.specs.declared.Kind.TheVariants.{Read, Write}
use Rattle.interface.proofs.Bools.{and_parts}
use Rattle.first_come.specs.declared.gaps.Gaps.{Gaps}
use Rattle.first_come.specs.Gaps.{gap, bank_gap, greatest_gap, no_gaps, gaps_passed, wait_of, bank_wait, allows, with_issue}
use Rattle.first_come.specs.Laws.{Kept}

-- ---- the steps from which each kind and each bank is free

abbrev free : Kind → List Issuance → ℕ
free k [] = 0
free k (i ∷ is) = max (i.at + gap i.request.kind k) (free k is)

abbrev bank_after : Issuance → ℕ → ℕ
bank_after i b = i.at + cond (i.request.bank == b) (bank_gap i.request.kind) 0

abbrev free_bank : ℕ → List Issuance → ℕ
free_bank b [] = 0
free_bank b (i ∷ is) = max (bank_after i b) (free_bank b is)

free_kept : (is : List Issuance) (q : Request) (t : ℕ) → free q.kind is ≤ t → free_bank q.bank is ≤ t → Kept is q t
free_kept [] q t a b = tt
free_kept (i ∷ is) q t a b = (omega arith, free_kept is q t (omega arith) (omega arith))

kept_free : (is : List Issuance) (q : Request) (t : ℕ) → Kept is q t → free q.kind is ≤ t
kept_free [] q t k = omega arith
kept_free (i ∷ is) q t k = let h = kept_free is q t k.1 in let g = k.0 in omega arith

kept_bank : (is : List Issuance) (q : Request) (t : ℕ) → Kept is q t → free_bank q.bank is ≤ t
kept_bank [] q t k = omega arith
kept_bank (i ∷ is) q t k = let h = kept_bank is q t k.1 in let g = k.0 in omega arith

free_append : (k : Kind) (is : List Issuance) (i : Issuance) → free k (is ++ (i ∷ [])) ≡ max (free k is) (i.at + gap i.request.kind k)
free_append k [] i = omega arith
free_append k (x ∷ is) i = let h = free_append k is i in omega arith

bank_append : (b : ℕ) (is : List Issuance) (i : Issuance) → free_bank b (is ++ (i ∷ [])) ≡ max (free_bank b is) (bank_after i b)
bank_append b [] i = omega arith
bank_append b (x ∷ is) i = let h = bank_append b is i in omega arith

-- ---- nothing is issued twice in a step

gap_least : (a b : Kind) → 1 ≤ gap a b
gap_least Read Read = lit≤ tt
gap_least Read Write = lit≤ tt
gap_least Write Read = lit≤ tt
gap_least Write Write = lit≤ tt

pub kept_apart : (is : List Issuance) (i : Issuance) (q : Request) (t : ℕ) → Kept (is ++ (i ∷ [])) q t → i.at < t
kept_apart [] i q t k = let g = gap_least i.request.kind q.kind in let h = k.0 in omega arith
kept_apart (x ∷ is) i q t k = kept_apart is i q t k.1

-- ---- agreement with the history

get_or_sooner : (bs : List ℕ) (i : ℕ) → slice_index (map (λ n. n - 1) bs) i ≡ slice_index bs i - 1
get_or_sooner [] zero = refl
get_or_sooner [] (suc i) = refl
get_or_sooner (b ∷ bs) zero = refl
get_or_sooner (b ∷ bs) (suc i) = get_or_sooner bs i

-- after n steps and the issues is
pub record Agrees (g : Gaps) (n : ℕ) (is : List Issuance) : Type 0 where
  pub reads : g.reads - 1 ≡ free Read is - n
  pub writes : g.writes - 1 ≡ free Write is - n
  pub banks : (b : ℕ) → b < 8 → slice_index g.banks b - 1 ≡ free_bank b is - n
  pub eight : length g.banks ≡ 8

no_bank : (b : ℕ) → slice_index no_gaps.banks b ≡ 0
no_bank b = zeros no_gaps.banks b refl
  where
    zeros : (bs : List ℕ) (i : ℕ) → map (λ n. n - 1) bs ≡ bs → slice_index bs i ≡ 0
    zeros bs i e = let h = sym (get_or_sooner bs i) ∙ ap (λ l. slice_index l i) e in omega arith

pub agrees_start : Agrees no_gaps 0 []
agrees_start = record { reads = refl; writes = refl; banks = λ b l. let z = no_bank b in omega arith; eight = refl }

module _ (g : Gaps) (n : ℕ) (is : List Issuance) (a : Agrees g n is) where
  -- a step without an issue
  pub agrees_pass : Agrees (gaps_passed g) (n + 1) is
  agrees_pass =
      let r = a.reads in
      let w = a.writes in
      record {
        reads = omega arith;
        writes = omega arith;
        banks = λ b l. let k = a.banks b l in let s = get_or_sooner g.banks b in omega arith;
        eight = length-map g.banks (λ k. k - 1) ∙ a.eight;
      }

  wait_is : (k : Kind) → wait_of (gaps_passed g) k ≡ free k is - n
  wait_is Read = a.reads
  wait_is Write = a.writes

  bank_is : (b : ℕ) → b < 8 → bank_wait (gaps_passed g) b ≡ free_bank b is - n
  bank_is b l = let m : b % 8 ≡ b = omega arith in ap (λ i. slice_index (gaps_passed g).banks i) m ∙ get_or_sooner g.banks b ∙ a.banks b l

  -- in the next step, a request is allowed exactly when it keeps its gap to every earlier issue
  pub allowed_kept : (q : Request) → q.bank < 8 → allows (gaps_passed g) q ≡ true → Kept is q n
  allowed_kept q l o =
      let p = and_parts (wait_of (gaps_passed g) q.kind == 0) _ o in
      let x = eqb-true _ _ p.0 in
      let y = eqb-true _ _ p.1 in
      let w = wait_is q.kind in
      let k = bank_is q.bank l in
      free_kept is q n (omega arith) (omega arith)

  pub kept_allowed : (q : Request) → q.bank < 8 → Kept is q n → allows (gaps_passed g) q ≡ true
  kept_allowed q l k =
      let x = kept_free is q n k in
      let y = kept_bank is q n k in
      let w = wait_is q.kind in
      let b = bank_is q.bank l in
      ap (λ t. t && bank_wait (gaps_passed g) q.bank == 0) (eq-eqb (wait_of (gaps_passed g) q.kind) 0 (omega arith)) ∙ eq-eqb (bank_wait (gaps_passed g) q.bank) 0 (omega arith)

  bank_set : (bs : List ℕ) (b i v f : ℕ) (e : Bool) → (i == b) ≡ e → length bs ≡ 8 → b < 8 → slice_index bs b ≡ f - n → (e ≡ true → f ≤ n)
      → slice_index (slice_set bs i v) b - 1 ≡ max f (n + cond e v 0) - (n + 1)
  bank_set bs b i v f true e l h s o =
      let z = eqb-true i b e in
      let lt : b < length bs = omega arith in
      let t = ap (λ j. slice_index (slice_set bs j v) b) z ∙ get_or-set_same bs b v 0 lt in
      let k = o refl in
      omega arith
  bank_set bs b i v f false e l h s o =
      let ne : b ≢ i = λ q. eqb-false i b e (sym q) in
      let t = get_or-set_other bs i b v 0 ne in
      omega arith

  -- a step with the issue of a request that keeps its gaps
  pub agrees_issue : (q : Request) → q.bank < 8 → Kept is q n → Agrees (with_issue q (gaps_passed g)) (n + 1) (is ++ (record { request = q; at = n } ∷ []))
  agrees_issue q low kept =
      let i : Issuance = record { request = q; at = n } in
      let r = a.reads in
      let w = a.writes in
      let fr = free_append Read is i in
      let fw = free_append Write is i in
      let m : q.bank % 8 ≡ q.bank = omega arith in
      let z = kept_bank is q n kept in
      let shut : bank_wait (gaps_passed g) q.bank ≡ 0 = let b = bank_is q.bank low in omega arith in
      let v : max (bank_wait (gaps_passed g) q.bank) (bank_gap q.kind) ≡ bank_gap q.kind = omega arith in
      record {
        reads = omega arith;
        writes = omega arith;
        banks = λ b l.
            ap (λ j. slice_index (slice_set (gaps_passed g).banks j (max (bank_wait (gaps_passed g) q.bank) (bank_gap q.kind))) b - 1) m
            ∙ ap (λ k. slice_index (slice_set (gaps_passed g).banks q.bank k) b - 1) v
            ∙ bank_set (gaps_passed g).banks b q.bank (bank_gap q.kind) (free_bank b is) (q.bank == b) refl (length-map g.banks (λ j. j - 1) ∙ a.eight) l
            (get_or_sooner g.banks b ∙ a.banks b l) (λ y. subst (λ j. free_bank j is ≤ n) (eqb-true _ _ y) z)
            ∙ ap (λ j. j - (n + 1)) (sym (bank_append b is i));
        eight = length-set (gaps_passed g).banks (q.bank % 8) (max (bank_wait (gaps_passed g) q.bank) (bank_gap q.kind)) ∙ length-map g.banks (λ j. j - 1) ∙ a.eight;
      }

-- ---- the countdowns run out

-- each countdown is at most w
pub record Within (w : ℕ) (g : Gaps) : Type 0 where
  pub reads : g.reads ≤ w
  pub writes : g.writes ≤ w
  pub banks : (i : ℕ) → slice_index g.banks i ≤ w

pub within_start : (w : ℕ) → Within w no_gaps
within_start w = record { reads = omega arith; writes = omega arith; banks = λ i. let z = no_bank i in omega arith }

pub within_more : (v w : ℕ) (g : Gaps) → v ≤ w → Within v g → Within w g
within_more v w g le h = record { reads = omega (arith, h.reads); writes = omega (arith, h.writes); banks = λ i. omega (arith, h.banks i) }

pub within_pass : (w v : ℕ) (g : Gaps) → w ≡ suc v → Within w g → Within v (gaps_passed g)
within_pass w v g e h =
    record { reads = omega (arith, h.reads); writes = omega (arith, h.writes); banks = λ i. let k = h.banks i in let s = get_or_sooner g.banks i in omega arith }

gap_most : (a b : Kind) → gap a b ≤ greatest_gap
gap_most Read Read = lit≤ tt
gap_most Read Write = lit≤ tt
gap_most Write Read = lit≤ tt
gap_most Write Write = lit≤ tt

bank_gap_most : (a : Kind) → bank_gap a ≤ greatest_gap
bank_gap_most Read = lit≤ tt
bank_gap_most Write = lit≤ tt

get_or_set_most : (m : ℕ) (bs : List ℕ) (i j v : ℕ) → slice_index bs i ≤ m → v ≤ m → slice_index (slice_set bs j v) i ≤ m
get_or_set_most m [] zero zero v a b = a
get_or_set_most m [] zero (suc j) v a b = a
get_or_set_most m [] (suc i) zero v a b = a
get_or_set_most m [] (suc i) (suc j) v a b = a
get_or_set_most m (x ∷ bs) zero zero v a b = b
get_or_set_most m (x ∷ bs) zero (suc j) v a b = a
get_or_set_most m (x ∷ bs) (suc i) zero v a b = a
get_or_set_most m (x ∷ bs) (suc i) (suc j) v a b = get_or_set_most m bs i j v a b

pub within_issue : (q : Request) (g : Gaps) → Within greatest_gap g → Within greatest_gap (with_issue q g)
within_issue q g h =
    let r = gap_most q.kind Read in
    let w = gap_most q.kind Write in
    let b = bank_gap_most q.kind in
    record {
      reads = omega (arith, h.reads);
      writes = omega (arith, h.writes);
      banks = λ i. get_or_set_most greatest_gap g.banks i (q.bank % 8) (max (bank_wait g q.bank) (bank_gap q.kind)) (h.banks i) (omega (arith, h.banks (q.bank % 8)));
    }

wait_within : (w : ℕ) (g : Gaps) → Within w g → (k : Kind) → wait_of g k ≤ w
wait_within w g h Read = h.reads
wait_within w g h Write = h.writes

-- at 0, everything is allowed
pub within_allowed : (g : Gaps) (q : Request) → Within 0 g → allows g q ≡ true
within_allowed g q h =
    let a = wait_within 0 g h q.kind in
    let b = h.banks (q.bank % 8) in
    ap (λ t. t && bank_wait g q.bank == 0) (eq-eqb (wait_of g q.kind) 0 (omega arith)) ∙ eq-eqb (bank_wait g q.bank) 0 (omega arith)
