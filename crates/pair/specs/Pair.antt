-- What a pair means, over what its two controllers mean.
use Rattle.std.specs.Prelude.{◌≡◌, ℕ, min, max, Bool, cond, List, map, nat_lt}
use Rattle.std.proofs.Common.{ap}
use Rattle.interface.specs.Meaning.{Meaning, Call, after}
use Rattle.interface.specs.Coded.{coded}
use Rattle.interface.specs.Codec.{Codec, number_codec, many, both}
use Rattle.interface.specs.Emptied.{emptied}
use Rattle.interface.specs.declared.Request.{Request}
use Rattle.layer.specs.Forwards.{everything}
use Rattle.layer.specs.Entries.{reading}
use Rattle.layer.specs.Contents.{Contents, empty, admitted, gathered, all_advanced, collected, contents_codec}

-- what a pair consists of, over controllers of types A and B
pub record Parts (A B : Type 0) : Type 0 where
  pub table : Contents
  pub first : A
  pub second : B

pub record State : Type 0 where
  pub table : Contents
  pub first : List ℕ
  pub second : List ℕ

-- a pair's state, over what is read as the states of the two
abbrev pub view : {A B : Type 0} → (A → List ℕ) → (B → List ℕ) → Parts A B → State
view first second p = record { table = p.table; first = first p.first; second = second p.second }

-- nothing is held, and nothing is ready
abbrev pub beginning : List ℕ → List ℕ → State
beginning a b = record { table = empty; first = a; second = b }

-- banks 0 to 3 go to the first controller, and 4 to 7 to the second
abbrev pub to_first : Request → Bool
to_first q = nat_lt q.bank 4

-- the larger span
abbrev pub span_of : Meaning (List ℕ) → Meaning (List ℕ) → State → ℕ
span_of m n s = max (m.span s.first) (n.span s.second)

abbrev pub taken_of : Meaning (List ℕ) → Meaning (List ℕ) → State → Request → State
taken_of m n s q = record {
  table = admitted s.table q;
  first = cond (to_first q) (after m (Call.take q) s.first) s.first;
  second = cond (to_first q) s.second (after n (Call.take q) s.second);
}

-- after the steps of the two, which left a and b: the events of the first, and then those of the second
abbrev pub stepped_of : Meaning (List ℕ) → Meaning (List ℕ) → State → List ℕ → List ℕ → State
stepped_of m n s a b = record {
  table = all_advanced (gathered everything (n.ready b) (gathered everything (m.ready a) s.table));
  first = emptied m (m.ready a) a;
  second = emptied n (n.ready b) b;
}

abbrev pub meaning_of : Meaning (List ℕ) → Meaning (List ℕ) → Meaning State
meaning_of m n = record {
  start = λ s. beginning (m.start s.first) (n.start s.second);
  places = λ s. min (m.places s.first) (n.places s.second);
  span = span_of m n;
  held = λ s. map (reading (span_of m n s)) s.table.held;
  ready = λ s. s.table.events;
  taken = taken_of m n;
  stepped = λ s. stepped_of m n s (after m Call.step s.first) (after n Call.step s.second);
  collected = λ s. record { table = collected s.table; first = s.first; second = s.second };
}

-- ---- a state as a list of numbers: the table, the state of the first, and that of the second

pub front_codec : Codec (Contents × List ℕ)
front_codec = both contents_codec (many number_codec)

unfoldable pub pair_codes : State → List ℕ
pair_codes s = front_codec.put (s.table, s.first) s.second

unfoldable pub pair_of : List ℕ → State
pair_of s = let p = front_codec.get s in record { table = p.0.0; first = p.0.1; second = p.1 }

pub pair_back : (s : State) → pair_of (pair_codes s) ≡ s
unfolding pair_codes pair_of
pair_back s = ap {B = State} (λ p. record { table = p.0.0; first = p.0.1; second = p.1 }) (front_codec.back (s.table, s.first) s.second)

abbrev pub pair_meaning : Meaning (List ℕ) → Meaning (List ℕ) → Meaning (List ℕ)
pair_meaning m n = coded pair_codes pair_of (meaning_of m n)
