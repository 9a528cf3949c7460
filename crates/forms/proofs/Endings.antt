-- A line that holds more than a form, where a line ends, and what the reader then gives.
use Rattle.std.proofs.Common.{◌≡◌, ℕ, ◌≤◌, Bool, true, false, ltb, leb, List, length, refl, arith, ltb-false, leb-false}
use Rattle.forms.specs.Lines.{past_end}

pub not_past : (text : List ℕ) (at : ℕ) → past_end text at ≡ false → at ≤ length text
not_past text at e = go (leb (length text) at) refl (ltb 0 at) refl
  where
    go : (a : Bool) → leb (length text) at ≡ a → (b : Bool) → ltb 0 at ≡ b → at ≤ length text
    go false p b q = omega (arith, leb-false (length text) at p)
    go true p false q = omega (arith, ltb-false 0 at q)
    go true p true q = let z : ◌≡◌ {A = ℕ} 0 1 = cc in absurd (omega arith)
