-- What an accepted take or step says.
use Rattle.std.proofs.Common.{◌≡◌, ℕ, ◌<◌, Bool, true, false, not, ◌&&◌, ltb, leb, length, None, refl, ap, ◌∙◌, arith, lt-ltb, leb-false}
use borrow.Author.Tests.{lt-leb}
use Rattle.interface.specs.declared.Request.{Request}
use Rattle.interface.specs.Meaning.{Meaning, take_refusal, check, in_range, any, has_slot}

tests : (a b c : Bool) → check (not a) 17 (check b 18 (check c 19 None)) ≡ None → (a ≡ true) × (b ≡ false) × (c ≡ false)
tests false b c e = let k : ◌≡◌ {A = ℕ} 0 1 = cc in absurd (omega arith)
tests true true c e = let k : ◌≡◌ {A = ℕ} 0 1 = cc in absurd (omega arith)
tests true false true e = let k : ◌≡◌ {A = ℕ} 0 1 = cc in absurd (omega arith)
tests true false false e = (refl, refl, refl)

pub take_ok : {S : Type 0} (r : Meaning S) (s : S) (q : Request) → take_refusal r s q ≡ None → (in_range q ≡ true) × (any (has_slot q.slot) (r.held s) ≡ false) × (length (r.held s) < r.places s)
take_ok r s q e =
    let t = tests (in_range q) (any (has_slot q.slot) (r.held s)) (leb (r.places s) (length (r.held s))) e in
    (t.0, t.1, leb-false _ _ t.2)

pub take_fine : {S : Type 0} (r : Meaning S) (s : S) (q : Request) → in_range q ≡ true → any (has_slot q.slot) (r.held s) ≡ false → length (r.held s) < r.places s → take_refusal r s q ≡ None
take_fine r s q a b h = let c = lt-leb _ _ h in cc

pub range_fine : (q : Request) → q.slot < 512 → q.domain < 8 → q.bank < 8 → in_range q ≡ true
range_fine q a b c =
    ap (λ t. t && (ltb q.domain 8 && ltb q.bank 8)) (lt-ltb _ _ a) ∙ ap (λ t. t && ltb q.bank 8) (lt-ltb _ _ b) ∙ lt-ltb _ _ c
