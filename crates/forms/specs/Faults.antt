-- The faults of a text, each with its number, byte and layer.
use Rattle.std.specs.Prelude.{◌≡◌, ℕ, List, codes, cond, Ok, Err, Result, ◌==◌}
use Rattle.tokens.specs.declared.lexer.Fault as tokens
use Rattle.tokens.specs.declared.lexer.Fault.TheVariants as token
use Rattle.tokens.specs.Lexemes.{fault_number, fault_place}
use Rattle.forms.specs.declared.faults.Fault.{Fault}
use Rattle.forms.specs.declared.faults.FaultKind.{FaultKind}
use Rattle.forms.specs.declared.faults.FaultKind.TheVariants.{WrongPhase, DomainTaken, BadShare, BadCount, VertexBank, BadEdge, NoPlaces, UnknownByte, BadNumber, BadForm, TooLong}
use Rattle.forms.specs.declared.faults.UnknownNumber.{UnknownNumber}
use Rattle.forms.specs.declared.faults.Layer.TheVariants.{Token, Form}

abbrev pub kind_number : FaultKind → ℕ
kind_number WrongPhase = 1
kind_number DomainTaken = 2
kind_number BadShare = 3
kind_number BadCount = 4
kind_number VertexBank = 5
kind_number BadEdge = 6
kind_number NoPlaces = 7
kind_number UnknownByte = 22
kind_number BadNumber = 23
kind_number BadForm = 24
kind_number TooLong = 25

abbrev pub unknown : ℕ → UnknownNumber
unknown n = record { 0 = n }

-- the kind that has a number, if one has it
abbrev pub kind_of : ℕ → Result FaultKind UnknownNumber
kind_of n =
    cond (n == 1) (Ok WrongPhase)
    (cond (n == 2) (Ok DomainTaken)
    (cond (n == 3) (Ok BadShare)
    (cond (n == 4) (Ok BadCount)
    (cond (n == 5) (Ok VertexBank)
    (cond (n == 6) (Ok BadEdge)
    (cond (n == 7) (Ok NoPlaces)
    (cond (n == 22) (Ok UnknownByte)
    (cond (n == 23) (Ok BadNumber)
    (cond (n == 24) (Ok BadForm)
    (cond (n == 25) (Ok TooLong) (Err (unknown n))))))))))))

-- what is printed of a number that no kind has
abbrev pub unknown_text : List ℕ
unknown_text = codes "a number that no kind of fault has"

-- a kind that is made of a number has that number, and each kind is made of its own
pub record NumbersNameKinds : Type 0 where
  pub named : (n : ℕ) (k : FaultKind) → kind_of n ≡ Ok k → kind_number k ≡ n
  pub made : (k : FaultKind) → kind_of (kind_number k) ≡ Ok k

-- the number by which a fault is known
abbrev pub number : Fault → ℕ
number e = kind_number e.kind

abbrev pub token_kind : tokens.Fault → FaultKind
token_kind (token.UnknownByte at) = UnknownByte
token_kind (token.BadNumber at) = BadNumber

-- at the place of the byte or number
abbrev pub token_fault : tokens.Fault → Fault
token_fault e = record { kind = token_kind e; byte = fault_place e; layer = Token }

-- a fault is that of a token, and keeps its number
abbrev pub IsTokenFault : tokens.Fault → Fault → Type 0
IsTokenFault e f = (f ≡ token_fault e) × (number f ≡ fault_number e)

-- at the line's first byte
abbrev pub form_fault : ℕ → Fault
form_fault line = record { kind = BadForm; byte = line; layer = Form }

-- the most bytes that a text may have
abbrev pub longest : ℕ
longest = 65536

abbrev pub length_fault : Fault
length_fault = record { kind = TooLong; byte = longest; layer = Token }
