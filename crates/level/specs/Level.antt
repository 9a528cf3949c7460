-- What a level means, over what the controller below means.
use Rattle.std.specs.Prelude.{◌≡◌, ℕ, min, max, List, map}
use Rattle.std.proofs.Common.{ap}
use Rattle.interface.specs.Meaning.{Meaning, Call, after}
use Rattle.interface.specs.Coded.{coded}
use Rattle.interface.specs.Codec.{Codec, number_codec, both}
use Rattle.interface.specs.Emptied.{emptied}
use Rattle.interface.specs.declared.Request.{Request}
use Rattle.layer.specs.Forwards.{is_issue}
use Rattle.layer.specs.Entries.{reading}
use Rattle.layer.specs.Contents.{Contents, empty, admitted, gathered, all_advanced, released, collected, contents_codec}

-- what a level consists of, over a controller of type C
pub record Parts (C : Type 0) : Type 0 where
  pub delay : ℕ
  pub table : Contents
  pub below : C

pub record State : Type 0 where
  pub delay : ℕ
  pub table : Contents
  pub below : List ℕ

-- a level's state, over what is read as the state below
abbrev pub view : {C : Type 0} → (C → List ℕ) → Parts C → State
view below l = record { delay = l.delay; table = l.table; below = below l.below }

-- nothing is held, and nothing is ready
abbrev pub beginning : ℕ → List ℕ → State
beginning delay b = record { delay = delay; table = empty; below = b }

-- the number L, which is at most 65,535
abbrev pub wait : State → ℕ
wait s = min s.delay 65535

-- the larger of L and the span below
abbrev pub span_over : Meaning (List ℕ) → State → ℕ
span_over m s = max (wait s) (m.span s.below)

abbrev pub taken_over : Meaning (List ℕ) → State → Request → State
taken_over m s q = record { delay = s.delay; table = admitted s.table q; below = after m (Call.take q) s.below }

-- after the step below, which left b: the Issues from below, and then the Dones that are due, in the order of taking
abbrev pub stepped_over : Meaning (List ℕ) → State → List ℕ → State
stepped_over m s b = record {
  delay = s.delay;
  table = released (wait s) (all_advanced (gathered is_issue (m.ready b) s.table));
  below = emptied m (m.ready b) b;
}

abbrev pub meaning_over : Meaning (List ℕ) → Meaning State
meaning_over m = record {
  start = λ s. beginning s.delay (m.start s.below);
  places = λ s. m.places s.below;
  span = span_over m;
  held = λ s. map (reading (span_over m s)) s.table.held;
  ready = λ s. s.table.events;
  taken = taken_over m;
  stepped = λ s. stepped_over m s (after m Call.step s.below);
  collected = λ s. record { delay = s.delay; table = collected s.table; below = s.below };
}

-- ---- a state as a list of numbers: L, the table, and the state below

unfoldable pub front_codec : Codec (ℕ × Contents)
front_codec = both number_codec contents_codec

unfoldable pub level_codes : State → List ℕ
level_codes s = front_codec.put (s.delay, s.table) s.below

unfoldable pub level_of : List ℕ → State
level_of s = let p = front_codec.get s in record { delay = p.0.0; table = p.0.1; below = p.1 }

pub level_back : (s : State) → level_of (level_codes s) ≡ s
unfolding level_codes level_of
level_back s = ap {B = State} (λ p. record { delay = p.0.0; table = p.0.1; below = p.1 }) (front_codec.back (s.delay, s.table) s.below)

abbrev pub level_meaning : Meaning (List ℕ) → Meaning (List ℕ)
level_meaning m = coded level_codes level_of (meaning_over m)
