-- Values as numbers at the front of a list.
use Rattle.std.specs.Prelude.{◌≡◌, ℕ, zero, suc, Bool, true, false, List, [], ◌∷◌, length, refl}
use Rattle.std.proofs.Common.{ap, ◌∙◌}
use Rattle.interface.specs.Meaning.{rest}
use Rattle.interface.specs.declared.Request.{Request}
use Rattle.interface.specs.declared.Kind.{Kind}
use Rattle.interface.specs.declared.Kind.TheVariants.{Read, Write}
use Rattle.interface.specs.declared.Event.{Event}
use Rattle.interface.specs.declared.Event.TheVariants.{Issue, Done}

pub record Codec (X : Type 0) : Type 0 where
  pub put : X → List ℕ → List ℕ
  pub get : List ℕ → X × List ℕ
  pub back : (x : X) (s : List ℕ) → get (put x s) ≡ (x, s)

abbrev head : List ℕ → ℕ
head [] = 0
head (x ∷ xs) = x

unfoldable pub number_codec : Codec ℕ
number_codec = record { put = λ n s. n ∷ s; get = λ s. (head s, rest s); back = λ n s. refl }

unfoldable pub via : {X Y : Type 0} (f : X → Y) (g : Y → X) → ((y : Y) → f (g y) ≡ y) → Codec X → Codec Y
via {X} {Y} f g e c = record {
  put = λ y s. c.put (g y) s;
  get = λ s. (f (c.get s).0, (c.get s).1);
  back = λ y s. ap {B = Y × List ℕ} (λ p. (f p.0, p.1)) (c.back (g y) s) ∙ ap {B = Y × List ℕ} (λ z. (z, s)) (e y);
}

unfoldable pub both : {X Y : Type 0} → Codec X → Codec Y → Codec (X × Y)
both {X} {Y} c d = record {
  put = λ p s. c.put p.0 (d.put p.1 s);
  get = λ s. (((c.get s).0, (d.get (c.get s).1).0), (d.get (c.get s).1).1);
  back = λ p s.
      ap {B = (X × Y) × List ℕ} (λ q. ((q.0, (d.get q.1).0), (d.get q.1).1)) (c.back p.0 (d.put p.1 s))
      ∙ ap {B = (X × Y) × List ℕ} (λ q. ((p.0, q.0), q.1)) (d.back p.1 s);
}

abbrev puts : {X : Type 0} → Codec X → List X → List ℕ → List ℕ
puts c [] s = s
puts c (x ∷ xs) s = c.put x (puts c xs s)

abbrev gets : {X : Type 0} → Codec X → ℕ → List ℕ → List X × List ℕ
gets c zero s = ([], s)
gets c (suc n) s = ((c.get s).0 ∷ (gets c n (c.get s).1).0, (gets c n (c.get s).1).1)

pub gets_back : {X : Type 0} (c : Codec X) (xs : List X) (s : List ℕ) → gets c (length xs) (puts c xs s) ≡ (xs, s)
gets_back c [] s = refl
gets_back {X} c (x ∷ xs) s =
    ap {B = List X × List ℕ} (λ p. (p.0 ∷ (gets c (length xs) p.1).0, (gets c (length xs) p.1).1)) (c.back x (puts c xs s))
    ∙ ap {B = List X × List ℕ} (λ p. (x ∷ p.0, p.1)) (gets_back c xs s)

unfoldable pub many : {X : Type 0} → Codec X → Codec (List X)
many c = record { put = λ xs s. length xs ∷ puts c xs s; get = λ s. gets c (head s) (rest s); back = λ xs s. gets_back c xs s }

-- ---- what controllers hold

abbrev kind_code : Kind → ℕ
kind_code Read = 0
kind_code Write = 1

abbrev kind_of : ℕ → Kind
kind_of zero = Read
kind_of (suc n) = Write

pub kind_back : (k : Kind) → kind_of (kind_code k) ≡ k
kind_back Read = refl
kind_back Write = refl

unfoldable pub kind_codec : Codec Kind
kind_codec = via kind_of kind_code kind_back number_codec

unfoldable pub request_codec : Codec Request
request_codec =
    via {Y = Request} (λ p. record { slot = p.0; domain = p.1.0; bank = p.1.1.0; kind = p.1.1.1 }) (λ q. (q.slot, (q.domain, (q.bank, q.kind)))) (λ q. refl)
    (both number_codec (both number_codec (both number_codec kind_codec)))

abbrev event_code : Event → ℕ × ℕ
event_code (Issue n) = (0, n)
event_code (Done n) = (1, n)

abbrev event_at : ℕ → ℕ → Event
event_at zero n = Issue n
event_at (suc t) n = Done n

pub event_back : (e : Event) → event_at (event_code e).0 (event_code e).1 ≡ e
event_back (Issue n) = refl
event_back (Done n) = refl

unfoldable pub event_codec : Codec Event
event_codec = via (λ p. event_at p.0 p.1) event_code event_back (both number_codec number_codec)

abbrev bool_code : Bool → ℕ
bool_code false = 0
bool_code true = 1

abbrev bool_of : ℕ → Bool
bool_of zero = false
bool_of (suc n) = true

pub bool_back : (b : Bool) → bool_of (bool_code b) ≡ b
bool_back false = refl
bool_back true = refl

unfoldable pub bool_codec : Codec Bool
bool_codec = via bool_of bool_code bool_back number_codec
