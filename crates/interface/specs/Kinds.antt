-- The letters of the kinds, and what a request asks of the card.
use Rattle.std.specs.Prelude.{ℕ, List, codes, cond, Ok, Err, Result, ◌==◌}
use Rattle.interface.specs.declared.Kind.{Kind}
use Rattle.interface.specs.declared.Kind.TheVariants.{Read, Write}
use Rattle.interface.specs.declared.UnknownKind.{UnknownKind}
use Rattle.interface.specs.declared.Access.{Access}
use Rattle.interface.specs.declared.Request.{Request}

-- the letter R is 82, and W is 87
abbrev pub letter_of : Kind → ℕ
letter_of Read = 82
letter_of Write = 87

-- the kind that a letter names
abbrev pub unknown : ℕ → UnknownKind
unknown l = record { 0 = l }

abbrev pub kind_of : ℕ → Result Kind UnknownKind
kind_of l = cond (l == 82) (Ok Read) (cond (l == 87) (Ok Write) (Err (unknown l)))

-- what is printed of a letter that names none
abbrev pub unknown_text : List ℕ
unknown_text = codes "a letter that names no kind"

abbrev pub access_of : Request → Access
access_of q = record { bank = q.bank; kind = q.kind }
