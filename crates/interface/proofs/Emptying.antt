-- Loops that collect until nothing is ready.
use Rattle.std.proofs.Common.{◌≡◌, ℕ, cond, List, [], ◌∷◌, Some, None, sym, refl, ap, ◌∙◌, arith}
use Rattle.interface.specs.Meaning.{Meaning, Call, after, first, rest, is_empty}
use Rattle.interface.specs.Lawful.{Lawful}
use Rattle.interface.specs.Emptied.{emptied}
use Rattle.interface.specs.declared.Event.{Event}

pub first_some : {X : Type 0} (xs : List X) (x : X) → Some x ≡ first xs → xs ≡ x ∷ rest xs
first_some [] x e = let z : ◌≡◌ {A = ℕ} 0 1 = cc in absurd (omega arith)
first_some (y ∷ xs) x e = let z : y ≡ x = cc in ap (λ v. v ∷ xs) z

pub first_none : {X : Type 0} (xs : List X) → None ≡ first xs → xs ≡ []
first_none [] e = refl
first_none (x ∷ xs) e = let z : ◌≡◌ {A = ℕ} 0 1 = cc in absurd (omega arith)

module _ {S : Type 0} (m : Meaning S) (l : Lawful m) where
  -- a collect takes the first event off
  collect_ready : (s : S) (e : Event) → Some e ≡ first (m.ready s) → m.ready s ≡ e ∷ m.ready (after m Call.collect s)
  collect_ready s e h =
      let k = first_some (m.ready s) e h in
      let a : after m Call.collect s ≡ m.collected s = ap (λ es. cond (is_empty es) s (m.collected s)) k in
      k ∙ ap (λ es. e ∷ es) (sym (ap m.ready a ∙ l.collected_ready s))

  -- a turn of the loop, from the state s to the state t that a collect left
  pub turn_ready : (s t : S) (e : Event) → Some e ≡ first (m.ready s) → t ≡ after m Call.collect s → m.ready s ≡ e ∷ m.ready t
  turn_ready s t e h k = collect_ready s e h ∙ ap (λ u. e ∷ m.ready u) (sym k)

  pub turn_emptied : (s t : S) (e : Event) → Some e ≡ first (m.ready s) → t ≡ after m Call.collect s
      → emptied m (m.ready t) t ≡ emptied m (m.ready s) s
  turn_emptied s t e h k = ap (λ u. emptied m (m.ready u) u) k ∙ sym (ap (λ es. emptied m es s) (collect_ready s e h))

-- where nothing is ready, a collect changes nothing
pub last_after : {S : Type 0} (m : Meaning S) (s t : S) → None ≡ first (m.ready s) → t ≡ after m Call.collect s → t ≡ s
last_after m s t h k = k ∙ ap (λ es. cond (is_empty es) s (m.collected s)) (first_none (m.ready s) h)
