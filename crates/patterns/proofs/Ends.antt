-- The last Done tick of the vertices that a loop has looked at.
use Rattle.std.proofs.Common.{◌≡◌, ℕ, zero, suc, ◌+◌, ◌<◌, Bool, true, false, eqb, List, length, get_or, Some, None, Option, sym, refl, ap, ◌∙◌, subst, add-one, arith, eqb-true}
use Rattle.std.proofs.lemmas.List.{get_or-map}
use borrow.Author.Tests.{eqb-false}
use Rattle.patterns.proofs.Latest.{later_of}
use Rattle.patterns.specs.declared.vertex.Vertex.{Vertex}
use Rattle.patterns.specs.Due.{later, round_end}
use Rattle.patterns.specs.Lanes.{vertex_done, done_by}

-- the first n vertices are done, the last at this tick
abbrev pub Ended : (ℕ → Option ℕ) → ℕ → Option ℕ → Type 0
Ended done n None = n ≡ 0
Ended done n (Some c) = round_end done n ≡ Some c

ended_suc : (done : ℕ → Option ℕ) (n : ℕ) (o : Option ℕ) (m : ℕ) → Ended done n o → Some m ≡ done n → Ended done (suc n) (Some (later_of o m))
ended_suc done zero None m h e = sym e
ended_suc done (suc n) None m h e = absurd (omega arith)
ended_suc done zero (Some c) m h e = let z : ◌≡◌ {A = ℕ} 0 1 = cc in absurd (omega arith)
ended_suc done (suc n) (Some c) m h e = ap (λ x. later x (done (suc n))) h ∙ ap (later (Some c)) (sym e)

pub ended_more : (done : ℕ → Option ℕ) (n : ℕ) (o : Option ℕ) (m : ℕ) (r : Option ℕ) → Ended done n o → Some m ≡ done n → r ≡ Some (later_of o m) → Ended done (n + 1) r
ended_more done n o m r h e is = subst (Ended done (n + 1)) (sym is) (ap (round_end done) (add-one n) ∙ ended_suc done n o m h e)

later_none : (x : Option ℕ) → later x None ≡ None
later_none None = refl
later_none (Some x) = refl

pub not_ended : (done : ℕ → Option ℕ) (n i : ℕ) → i < n → None ≡ done i → None ≡ round_end done n
not_ended done zero i lt e = refl
not_ended done (suc zero) i lt e = e ∙ ap done (omega arith)
not_ended done (suc (suc n)) i lt e = go (eqb i (suc n)) refl (not_ended done (suc n) i)
  where
    go : (t : Bool) → eqb i (suc n) ≡ t → (i < suc n → None ≡ done i → None ≡ round_end done (suc n)) → None ≡ round_end done (suc (suc n))
    go true q below = sym (later_none (round_end done (suc n))) ∙ ap (later (round_end done (suc n))) (e ∙ ap done (eqb-true i (suc n) q))
    go false q below = let ne = eqb-false i (suc n) q in ap (λ x. later x (done (suc n))) (below (omega (arith, lt, ne)) e)

-- what a vertex that is read says of its Done
pub done_read : (vs : List Vertex) (i : ℕ) (x : Vertex) → i < length vs → x ≡ get_or vs i x → vertex_done x ≡ done_by vs i
done_read vs i x lt read = ap vertex_done read ∙ sym (get_or-map vertex_done vs i x None lt)
