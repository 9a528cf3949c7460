-- What letters, lines and notices are printed as.
use Rattle.std.specs.Prelude.{ℕ, List, [], ◌∷◌, ◌++◌, codes, decimal}
use Rattle.interface.specs.Kinds.{letter_of}
use Rattle.model.specs.declared.Letter.{Letter}
use Rattle.model.specs.declared.Letter.TheVariants.{T, I, D}
use Rattle.model.specs.declared.Line.{Line}
use Rattle.model.specs.declared.Notice.{Notice}

-- their own names: T is 84, I is 73, and D is 68
abbrev pub letter_code : Letter → ℕ
letter_code T = 84
letter_code I = 73
letter_code D = 68

abbrev pub letter_text : Letter → List ℕ
letter_text l = letter_code l ∷ []

abbrev pub line_text : Line → List ℕ
line_text l =
    codes "(" ++ (letter_text l.letter ++ (codes " (tick " ++ (decimal l.tick ++ (codes ") (domain " ++ (decimal l.domain ++
    (codes ") (slot " ++ (decimal l.slot ++ (codes ") (bank " ++ (decimal l.bank ++ (codes ") " ++ ((letter_of l.kind ∷ []) ++
    (codes " (row " ++ (decimal l.row ++ codes "))")))))))))))))

abbrev pub notice_text : Notice → List ℕ
notice_text n =
    codes "(N (tick " ++ (decimal n.tick ++ (codes ") (domain " ++ (decimal n.domain ++ (codes ") (serial " ++ (decimal n.serial ++ codes "))")))))
