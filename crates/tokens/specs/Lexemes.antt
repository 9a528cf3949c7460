-- Lexemes, which are tokens as plain values, and the next one of a text.
use Rattle.std.specs.Prelude.{ℕ, ◌+◌, cond, List, length, take, drop, Some, None, Ok, Err, Option, Result, ◌==◌, nat_lt, slice_index}
use Rattle.std.specs.List.{prefix_len}
use Rattle.tokens.specs.declared.runs.Class.TheVariants.{Space, Letter, Digit}
use Rattle.tokens.specs.declared.lexer.Token.{Token}
use Rattle.tokens.specs.declared.lexer.Token.TheVariants as token
use Rattle.tokens.specs.declared.lexer.Fault.{Fault}
use Rattle.tokens.specs.declared.lexer.Fault.TheVariants.{UnknownByte, BadNumber}
use Rattle.tokens.specs.Classes.{in_class}
use Rattle.tokens.specs.Numbers.{number_of}

-- a token by its place and bytes; a number has its value too
pub data Lexeme : Type 0 where
  opens : ℕ → List ℕ → Lexeme
  closes : ℕ → List ℕ → Lexeme
  word : ℕ → List ℕ → Lexeme
  number : ℕ → List ℕ → ℕ → Lexeme

abbrev pub lexeme : Token → Lexeme
lexeme (token.Open p) = opens p.at p.bytes.now
lexeme (token.Close p) = closes p.at p.bytes.now
lexeme (token.Word p) = word p.at p.bytes.now
lexeme (token.Number p n) = number p.at p.bytes.now n

-- a lexeme, none at the end of the text, or a fault
abbrev pub Answer : Type 0
Answer = Result (Option Lexeme) Fault

abbrev pub seen : Result (Option Token) Fault → Answer
seen (Ok None) = Ok None
seen (Ok (Some t)) = Ok (Some (lexeme t))
seen (Err e) = Err e

abbrev pub fault_number : Fault → ℕ
fault_number (UnknownByte at) = 22
fault_number (BadNumber at) = 23

abbrev pub fault_place : Fault → ℕ
fault_place (UnknownByte at) = at
fault_place (BadNumber at) = at

-- a text, and how far it is read
pub record Cursor : Type 0 where
  pub text : List ℕ
  pub at : ℕ

abbrev pub started : List ℕ → ℕ → Cursor
started text at = record { text = text; at = at }

abbrev pub at_start : List ℕ → Cursor
at_start text = started text 0

-- where the next token begins: spaces are passed over
abbrev pub start_of : List ℕ → ℕ → ℕ
start_of text at = at + prefix_len (in_class Space) (drop at text)

abbrev pub part : List ℕ → ℕ → ℕ → List ℕ
part text at n = take n (drop at text)

abbrev pub letters_at : List ℕ → ℕ → List ℕ
letters_at text s = part text s (prefix_len (in_class Letter) (drop s text))

abbrev pub digits_at : List ℕ → ℕ → List ℕ
digits_at text s = part text s (prefix_len (in_class Digit) (drop s text))

abbrev pub number_at : ℕ → List ℕ → Option ℕ → Answer
number_at s ds None = Err (BadNumber s)
number_at s ds (Some v) = Ok (Some (number s ds v))

-- what begins at a place whose byte is b; 40 and 41 are the codes of the brackets
abbrev pub lexeme_at : List ℕ → ℕ → ℕ → Answer
lexeme_at text s b =
    cond (b == 40) (Ok (Some (opens s (part text s 1))))
    (cond (b == 41) (Ok (Some (closes s (part text s 1))))
    (cond (in_class Letter b) (Ok (Some (word s (letters_at text s))))
    (cond (in_class Digit b) (number_at s (digits_at text s) (number_of (digits_at text s))) (Err (UnknownByte s)))))

abbrev pub lexed : List ℕ → ℕ → Answer
lexed text at = cond (nat_lt (start_of text at) (length text)) (lexeme_at text (start_of text at) (slice_index text (start_of text at))) (Ok None)

-- where reading goes on: behind the token, and at a fault where it was
abbrev pub after : ℕ → ℕ → Answer → ℕ
after at s (Ok None) = s
after at s (Ok (Some (opens p bs))) = p + length bs
after at s (Ok (Some (closes p bs))) = p + length bs
after at s (Ok (Some (word p bs))) = p + length bs
after at s (Ok (Some (number p bs n))) = p + length bs
after at s (Err e) = at

abbrev pub lexed_to : List ℕ → ℕ → ℕ
lexed_to text at = after at (start_of text at) (lexed text at)

abbrev pub next_lexeme : Cursor → Answer
next_lexeme c = lexed c.text c.at

abbrev pub moved : Cursor → Cursor
moved c = record { text = c.text; at = lexed_to c.text c.at }
