-- What a line says.
use Rattle.std.specs.Prelude.{ℕ, cond, List, [], ◌∷◌, Some, None, Ok, Err, codes, Result, nat_lt}
use Rattle.interface.specs.declared.Kind.{Kind}
use Rattle.interface.specs.declared.UnknownKind.{UnknownKind}
use Rattle.interface.specs.Kinds.{kind_of}
use Rattle.tokens.specs.Lexemes.{opens, closes, word, number, Answer, Cursor, at_start, next_lexeme, moved}
use Rattle.arrivals.specs.declared.reading.Arrival.{Arrival}
use Rattle.arrivals.specs.declared.reading.Complaint.{Complaint}
use Rattle.arrivals.specs.declared.reading.Complaint.TheVariants.{NoToken, NoNumber, NoKind, TooLate, TooHigh, TooLong}

-- what a complaint is printed as
abbrev pub text_of : Complaint → List ℕ
text_of NoToken = codes "a byte or a number that may not stand there"
text_of NoNumber = codes "a number is wanted"
text_of NoKind = codes "R or W is wanted"
text_of TooLate = codes "a step above 1,000,000"
text_of TooHigh = codes "a bank or a domain above 7"
text_of TooLong = codes "something follows the domain"

abbrev pub number_in : Answer → Result ℕ Complaint
number_in (Ok None) = Err NoNumber
number_in (Ok (Some (opens at bs))) = Err NoNumber
number_in (Ok (Some (closes at bs))) = Err NoNumber
number_in (Ok (Some (word at bs))) = Err NoNumber
number_in (Ok (Some (number at bs v))) = Ok v
number_in (Err e) = Err NoToken

-- the next token, as a number
abbrev pub number_read : Cursor → Result ℕ Complaint
number_read c = number_in (next_lexeme c)

-- an unknown letter is no kind
abbrev pub kind_or : Result Kind UnknownKind → Result Kind Complaint
kind_or (Ok k) = Ok k
kind_or (Err e) = Err NoKind

abbrev pub kind_word : List ℕ → Result Kind Complaint
kind_word [] = Err NoKind
kind_word (l ∷ []) = kind_or (kind_of l)
kind_word (l ∷ x ∷ xs) = Err NoKind

abbrev pub kind_in : Answer → Result Kind Complaint
kind_in (Ok None) = Err NoKind
kind_in (Ok (Some (opens at bs))) = Err NoKind
kind_in (Ok (Some (closes at bs))) = Err NoKind
kind_in (Ok (Some (word at bs))) = kind_word bs
kind_in (Ok (Some (number at bs v))) = Err NoKind
kind_in (Err e) = Err NoToken

abbrev pub last_in : Answer → Result ℕ Complaint
last_in (Ok None) = Ok 0
last_in (Ok (Some (opens at bs))) = Err NoNumber
last_in (Ok (Some (closes at bs))) = Err NoNumber
last_in (Ok (Some (word at bs))) = Err NoNumber
last_in (Ok (Some (number at bs v))) = Ok v
last_in (Err e) = Err NoToken

-- the next token, as a number, or 0 at the end of the line
abbrev pub last_read : Cursor → Result ℕ Complaint
last_read c = last_in (next_lexeme c)

abbrev pub end_in : Answer → Result (Unit {0}) Complaint
end_in (Ok None) = Ok tt
end_in (Ok (Some t)) = Err TooLong
end_in (Err e) = Err NoToken

-- the end of the line
abbrev pub end_read : Cursor → Result (Unit {0}) Complaint
end_read c = end_in (next_lexeme c)

abbrev pub early_of : ℕ → Result ℕ Complaint
early_of n = cond (nat_lt 1000000 n) (Err TooLate) (Ok n)

abbrev pub low_of : ℕ → Result ℕ Complaint
low_of n = cond (nat_lt 7 n) (Err TooHigh) (Ok n)

-- what follows a good reading, else what was wrong
abbrev pub and_then : {X Y : Type 0} → Result X Complaint → (X → Result Y Complaint) → Result Y Complaint
and_then (Ok x) f = f x
and_then (Err e) f = Err e

-- ---- the parts of a line

-- the cursor behind the next token
unfoldable pub moved_on : Cursor → Cursor
moved_on c = moved c

unfoldable pub step_read : Cursor → Result ℕ Complaint
step_read c = and_then (number_read c) early_of

unfoldable pub bank_read : Cursor → Result ℕ Complaint
bank_read c = and_then (number_read c) low_of

unfoldable pub kind_read : Cursor → Result Kind Complaint
kind_read c = kind_in (next_lexeme c)

-- a domain, or nothing, and then the end of the line
unfoldable pub domain_read : Cursor → Result ℕ Complaint
domain_read c = and_then (last_read c) (λ n. and_then (low_of n) (λ d. and_then (end_read (moved c)) (λ _. Ok d)))

-- step, bank, kind and domain
abbrev pub reading_from : ℕ → Cursor → Result Arrival Complaint
reading_from slot c =
    and_then (step_read c) (λ step.
    and_then (bank_read (moved_on c)) (λ bank.
    and_then (kind_read (moved_on (moved_on c))) (λ kind.
    and_then (domain_read (moved_on (moved_on (moved_on c)))) (λ domain. Ok (record { step = step; request = record { slot = slot; domain = domain; bank = bank; kind = kind } })))))

abbrev pub reading : ℕ → List ℕ → Result Arrival Complaint
reading slot line = reading_from slot (at_start line)
