-- Issues come at least 46 steps apart, so that each request is done before the next is issued.
use Rattle.std.proofs.Common.{◌≡◌, ℕ, zero, suc, ◌+◌, ◌-◌, ◌%◌, ◌<◌, Bool, true, false, cond, ◌&&◌, ◌||◌, List, [], ◌∷◌, ◌++◌, Some, None, Option, refl, ap, ◌∙◌, ⊎_elim, arith}
use borrow.Author.Tests.{lt-leb}
use Rattle.interface.specs.History.{Issuance}
use Rattle.interface.specs.declared.Request.{Request}
use Rattle.interface.proofs.Bools.{or_left, or_true}
use Rattle.interface.proofs.Slots.{marked}
use Rattle.held.specs.declared.entries.Entry.{Entry}
use Rattle.held.specs.Entries.{done_delay, expired, is_issued, key, has, next_of, issue_next}
use Rattle.held.proofs.Stepping.{at_head, no_next, delay_most}
use Rattle.held.proofs.Delaying.{expired_issued, counting, countdowns, counting_delay, outstanding}
use Rattle.turns.specs.Laws.{Before}

-- what has expired was issued
pub marked_issued : (n : ℕ) (hs : List Entry) → marked key expired n hs ≡ true → marked key is_issued n hs ≡ true
marked_issued n [] e = e
marked_issued n (h ∷ hs) e = go (has n h) (expired h) refl (marked_issued n hs) e
  where
    go : (b d : Bool) → expired h ≡ d → (marked key expired n hs ≡ true → marked key is_issued n hs ≡ true) → ((b && d) || marked key expired n hs) ≡ true → ((b && is_issued h) || marked key is_issued n hs) ≡ true
    go true true z ih m = or_left (is_issued h) _ (expired_issued h z)
    go true false z ih m = or_true (is_issued h) _ (ih m)
    go false d z ih m = ih m

-- where no countdown runs, an issue begins the only one
pub countdowns_alone : (k : Request → Bool) (hs : List Entry) (x : Entry) → countdowns hs ≡ [] → next_of k hs ≡ Some x → countdowns (issue_next k hs) ≡ (x.request.slot, done_delay x.request.kind - 1) ∷ []
countdowns_alone k [] x z e = absurd (no_next k x e)
countdowns_alone k (h ∷ hs) x z e =
    ⊎_elim
    (λ f.
    let rest = skip h.until_done (countdowns hs) z in
    ap countdowns f.1 ∙ ap (counting (Some (done_delay h.request.kind)) h.request.slot) rest.0 ∙ counting_delay h.request.kind h.request.slot
    ∙ ap {B = List (ℕ × ℕ)} (λ (y : Entry). (y.request.slot, done_delay y.request.kind - 1) ∷ []) f.0.2)
    (λ f.
    let rest = skip h.until_done (countdowns hs) z in
    ap countdowns f.1 ∙ rest.1 (countdowns (issue_next k hs)) ∙ countdowns_alone k hs x rest.0 f.0)
    (at_head k h hs x e)
  where
    skip : (s : Option ℕ) (cs : List (ℕ × ℕ)) → counting s h.request.slot cs ≡ [] → (cs ≡ []) × ((ds : List (ℕ × ℕ)) → counting s h.request.slot ds ≡ ds)
    skip None cs c = (c, λ ds. refl)
    skip (Some zero) cs c = (c, λ ds. refl)
    skip (Some (suc m)) cs c = let w : ◌≡◌ {A = ℕ} 0 1 = cc in absurd (omega arith)

-- ---- issues that are 46 steps apart

abbrev pub Spaced : List Issuance → Type 0
Spaced [] = Unit {0}
Spaced (i ∷ is) = (i.at % 46 ≡ 0) × Spaced is

pub spaced_append : (is : List Issuance) (i : Issuance) → Spaced is → i.at % 46 ≡ 0 → Spaced (is ++ (i ∷ []))
spaced_append [] i s z = (z, tt)
spaced_append (x ∷ is) i s z = (s.0, spaced_append is i s.1 z)

-- when the next may come, every earlier one is done
pub none_outstanding : (n : ℕ) (is : List Issuance) → n % 46 ≡ 0 → Before n is → Spaced is → outstanding (n + 1) is ≡ []
none_outstanding n [] z b s = refl
none_outstanding n (i ∷ is) z b s =
    let f = delay_most i.request.kind in
    let l = b.0 in
    let m = s.0 in
    let lt : i.at + done_delay i.request.kind < n + 1 = omega arith in
    ap (λ t. cond t ((i.request.slot, (i.at + done_delay i.request.kind) - (n + 1)) ∷ outstanding (n + 1) is) (outstanding (n + 1) is)) (lt-leb (n + 1) (i.at + done_delay i.request.kind) lt)
    ∙ none_outstanding n is z b.1 s.1
