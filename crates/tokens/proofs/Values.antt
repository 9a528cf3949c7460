-- Reading digits from the front.
use Rattle.std.proofs.Common.{◌≡◌, ℕ, ◌*◌, ◌+◌, ◌-◌, ◌<◌, ◌≤◌, Bool, true, false, cond, List, [], ◌∷◌, None, Option, sym, refl, arith}
use Rattle.std.proofs.lemmas.Bool.{lt-ltb, cond-true}
use Rattle.tokens.specs.Numbers.{value_from, has_leading_zero, greatest, number_of}

grows : (v : ℕ) (ds : List ℕ) → v ≤ value_from v ds
grows v [] = omega arith
grows v (d ∷ ds) = omega (arith, grows (v * 10 + (d - 48)) ds)

cond_none : (b : Bool) (x : Option ℕ) → x ≡ None → None ≡ cond b None x
cond_none true x e = refl
cond_none false x e = sym e

-- where the digits that are left go on from too great a value, there is no number
pub too_large : (v : ℕ) (rest ds : List ℕ) → value_from v rest ≡ value_from 0 ds → greatest < v → None ≡ number_of ds
too_large v rest ds h above = cond_none (has_leading_zero ds) _ (cond-true _ _ _ (lt-ltb greatest (value_from 0 ds) (omega (arith, grows v rest))))
