-- What a holder holds, by its parts; and events that are added where there is room for all.
use Rattle.std.proofs.Common.{◌≡◌, ℕ, suc, ◌+◌, ◌≤◌, Bool, true, false, cond, List, [], ◌∷◌, ◌++◌, length, sym, ap, ◌∙◌, append_assoc, append-nil, arith, length-append, lt-ltb}
use Rattle.interface.specs.Slots.{dones_of}
use Rattle.interface.specs.declared.Event.{Event}
use Rattle.interface.specs.declared.Event.TheVariants.{Done}
use Rattle.holder.specs.Holding.{Holding, all_added}

pub holding_path : {X : Type 0} (a b : Holding X) → a.entries ≡ b.entries → a.events ≡ b.events → a ≡ b
holding_path a b p q = λ i. record { entries = p i; events = q i }

pub all_added_is : (room : ℕ) (es out : List Event) → length out + length es ≤ room → all_added room es out ≡ out ++ es
all_added_is room [] out h = sym (append-nil out)
all_added_is room (e ∷ es) out h =
    ap (λ b. all_added room es (cond b (out ++ (e ∷ [])) out)) (lt-ltb (length out) room (omega arith))
    ∙ all_added_is room es (out ++ (e ∷ [])) (simp length-append (omega arith)) ∙ append_assoc out (e ∷ []) es

length_dones_at : (e : Event) (es : List Event) (b : Bool) (k : ℕ) → length es ≤ k → length (cond b (e ∷ es) es) ≤ suc k
length_dones_at e es true k h = omega arith
length_dones_at e es false k h = omega arith

pub length_dones : {X : Type 0} (key : X → ℕ) (p : X → Bool) (xs : List X) → length (dones_of key p xs) ≤ length xs
length_dones key p [] = omega arith
length_dones key p (x ∷ xs) = length_dones_at (Done (key x)) (dones_of key p xs) (p x) (length xs) (length_dones key p xs)
