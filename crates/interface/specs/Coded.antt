-- A kind of controller may say what it means over states of any type, and then how such a state is a list of numbers.
use Rattle.std.specs.Prelude.{ℕ, List}
use Rattle.interface.specs.Meaning.{Meaning}

abbrev pub coded : {S : Type 0} → (S → List ℕ) → (List ℕ → S) → Meaning S → Meaning (List ℕ)
coded enc dec r = record {
  start = λ s. enc (r.start (dec s));
  places = λ s. r.places (dec s);
  span = λ s. r.span (dec s);
  held = λ s. r.held (dec s);
  ready = λ s. r.ready (dec s);
  taken = λ s q. enc (r.taken (dec s) q);
  stepped = λ s. enc (r.stepped (dec s));
  collected = λ s. enc (r.collected (dec s));
}
