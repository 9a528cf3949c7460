-- The lines of a text, and what is read of each.
use Rattle.std.specs.Prelude.{◌≡◌, ℕ, ◌+◌, Bool, true, false, cond, not, ◌&&◌, List, length, take, drop, Some, None, Ok, Err, Option, Result, ◌==◌, nat_le, nat_lt}
use Rattle.std.specs.List.{prefix_len}
use Rattle.tokens.specs.declared.lexer.Fault as tokens
use Rattle.tokens.specs.Lexemes.{started}
use Rattle.forms.specs.declared.faults.Fault.{Fault}
use Rattle.forms.specs.declared.reader.ReadError.{ReadError}
use Rattle.forms.specs.declared.reader.ReadError.TheVariants as error
use Rattle.forms.specs.declared.values.Form.{Form}
use Rattle.forms.specs.Contents.{Content}
use Rattle.forms.specs.Signs.{scanned}
use Rattle.forms.specs.Forms.{content, form_of, is_controller}
use Rattle.forms.specs.Faults.{token_fault, form_fault, longest, length_fault}

-- 10 is the code of the newline
abbrev pub in_line : ℕ → Bool
in_line b = not (b == 10)

-- where the line ends that begins at a place
abbrev pub line_end : List ℕ → ℕ → ℕ
line_end text at = at + prefix_len in_line (drop at text)

-- where the next line begins: behind the newline, if there is one
abbrev pub line_after : List ℕ → ℕ → ℕ
line_after text end = cond (nat_lt end (length text)) (end + 1) end

-- no line begins at a place; an empty text has one line, which is blank
abbrev pub past_end : List ℕ → ℕ → Bool
past_end text at = nat_le (length text) at && nat_lt 0 at

-- a controller form stands in the first line, and there only
abbrev pub same_bool : Bool → Bool → Bool
same_bool true b = b
same_bool false b = not b

abbrev pub in_place : ℕ → Content → Bool
in_place at f = same_bool (is_controller f) (at == 0)

-- what is read of a line: a form or a fault; or the text has ended
pub data Read : Type 0 where
  good : Content → Read
  bad : Fault → Read
  ended : Read

-- what the reader answers where this is to be read; a failure of memory says nothing of it
abbrev pub IsRead : Result (Option Form) ReadError → Read → Type 0
IsRead (Ok (Some f)) r = good (content f) ≡ r
IsRead (Ok None) r = ended ≡ r
IsRead (Err (error.Fault e)) r = bad e ≡ r
IsRead (Err (error.Memory e)) r = Unit {0}

abbrev pub one_line : Result Form ReadError → Result (Option Form) ReadError
one_line (Ok f) = Ok (Some f)
one_line (Err e) = Err e

abbrev pub placed : ℕ → Option Content → Read
placed at None = bad (form_fault at)
placed at (Some f) = cond (in_place at f) (good f) (bad (form_fault at))

-- the layers in their order: tokens first
abbrev pub layered : ℕ → Option tokens.Fault → Option Content → Read
layered at (Some e) form = bad (token_fault e)
layered at None form = placed at form

-- the line of a text that begins at a place and goes to the text's end
abbrev pub line_read : List ℕ → ℕ → Read
line_read text at = layered at (scanned (started text at)).fault (form_of (scanned (started text at)).signs)

-- a text, and where its next line begins
pub record Place : Type 0 where
  pub text : List ℕ
  pub at : ℕ

abbrev pub placed_at : List ℕ → ℕ → Place
placed_at text at = record { text = text; at = at }

abbrev pub next_read : Place → Read
next_read p = cond (past_end p.text p.at) ended (line_read (take (line_end p.text p.at) p.text) p.at)

abbrev pub next_place : Place → Place
next_place p = cond (past_end p.text p.at) p (record { text = p.text; at = line_after p.text (line_end p.text p.at) })

-- a reader at the first line, or the fault of a text that is too long
abbrev pub begun : List ℕ → Result Place Fault
begun text = cond (nat_lt longest (length text)) (Err length_fault) (Ok (placed_at text 0))
