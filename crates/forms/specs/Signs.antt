-- Signs, which are tokens without their places, and those of a text up to its first fault.
use Rattle.std.specs.Prelude.{ℕ, zero, suc, ◌-◌, List, [], ◌∷◌, length, Some, None, Ok, Err, Option}
use Rattle.tokens.specs.declared.lexer.Token.{Token}
use Rattle.tokens.specs.declared.lexer.Fault.{Fault}
use Rattle.tokens.specs.Lexemes.{Lexeme, Answer, Cursor, lexeme, next_lexeme, moved}
use Rattle.tokens.specs.Lexemes as lexemes

pub data Sign : Type 0 where
  opens : Sign
  closes : Sign
  word : List ℕ → Sign
  number : ℕ → Sign

abbrev pub sign : Lexeme → Sign
sign (lexemes.opens at bs) = opens
sign (lexemes.closes at bs) = closes
sign (lexemes.word at bs) = word bs
sign (lexemes.number at bs n) = number n

abbrev pub token_sign : Token → Sign
token_sign t = sign (lexeme t)

-- the signs of a text up to its end or its first fault
pub record Scan : Type 0 where
  pub signs : List Sign
  pub fault : Option Fault

-- the next lexeme, before what is scanned behind it
abbrev pub with_next : Answer → Scan → Scan
with_next (Ok None) more = record { signs = []; fault = None }
with_next (Ok (Some l)) more = record { signs = sign l ∷ more.signs; fault = more.fault }
with_next (Err e) more = record { signs = []; fault = Some e }

-- at most n lexemes
unfoldable pub scanned_within : ℕ → Cursor → Scan
scanned_within zero c = record { signs = []; fault = None }
scanned_within (suc n) c = with_next (next_lexeme c) (scanned_within n (moved c))

-- the bytes that are left
abbrev pub unread : Cursor → ℕ
unread c = length c.text - c.at

-- a token has at least one byte, so that there are no more than bytes
unfoldable pub scanned : Cursor → Scan
scanned c = scanned_within (unread c) c

-- what is ahead of a lexer
abbrev pub ahead : Cursor → List Sign
ahead c = (scanned c).signs

-- a value that is read, with the signs behind it
abbrev pub Parsed : Type 0 → Type 0
Parsed A = Option (A × List Sign)

abbrev pub parsed : {A : Type 0} → Option A → List Sign → Parsed A
parsed None ts = None
parsed (Some x) ts = Some (x, ts)

abbrev pub uncons : List Sign → Parsed Sign
uncons [] = None
uncons (t ∷ ts) = Some (t, ts)
