-- The smallest parts of a form, each read from the front of a list of signs.
use Rattle.std.specs.Prelude.{ℕ, cond, List, [], ◌∷◌, Some, None, Option}
use Rattle.std.specs.Result.{result_ok}
use Rattle.std.specs.Str.{bytes_eq}
use Rattle.interface.specs.declared.Kind.{Kind}
use Rattle.interface.specs.Kinds.{kind_of}
use Rattle.forms.specs.Signs.{Sign, opens, closes, word, number, Parsed, parsed, uncons}

-- one part, and then the next
abbrev pub then : {A B : Type 0} → Parsed A → (A → List Sign → Parsed B) → Parsed B
then None k = None
then (Some p) k = k p.0 p.1

abbrev pub opened : Sign → Option Unit
opened opens = Some tt
opened closes = None
opened (word w) = None
opened (number n) = None

abbrev pub closed : Sign → Option Unit
closed opens = None
closed closes = Some tt
closed (word w) = None
closed (number n) = None

abbrev pub the_number : Sign → Option ℕ
the_number opens = None
the_number closes = None
the_number (word w) = None
the_number (number n) = Some n

abbrev pub the_word : Sign → Option (List ℕ)
the_word opens = None
the_word closes = None
the_word (word w) = Some w
the_word (number n) = None

-- a sign that is of some sort
abbrev pub one : {A : Type 0} → (Sign → Option A) → List Sign → Parsed A
one f ts = then (uncons ts) (λ t us. parsed (f t) us)

abbrev pub open_in : List Sign → Parsed Unit
open_in ts = one opened ts

abbrev pub close_in : List Sign → Parsed Unit
close_in ts = one closed ts

abbrev pub number_in : List Sign → Parsed ℕ
number_in ts = one the_number ts

abbrev pub word_in : List Sign → Parsed (List ℕ)
word_in ts = one the_word ts

-- the given word
abbrev pub is_name : List ℕ → List ℕ → Option Unit
is_name wanted w = cond (bytes_eq w wanted) (Some tt) None

abbrev pub name_in : List ℕ → List Sign → Parsed Unit
name_in wanted ts = then (word_in ts) (λ w us. parsed (is_name wanted w) us)

-- a word of one letter that names a kind
abbrev pub kind_of_word : List ℕ → Option Kind
kind_of_word [] = None
kind_of_word (c ∷ []) = result_ok (kind_of c)
kind_of_word (c ∷ d ∷ cs) = None

abbrev pub kind_in : List Sign → Parsed Kind
kind_in ts = then (word_in ts) (λ w us. parsed (kind_of_word w) us)

-- a number under its name, in brackets
abbrev pub field_in : List ℕ → List Sign → Parsed ℕ
field_in wanted ts =
    then (open_in ts) (λ _ us.
    then (name_in wanted us) (λ _ vs.
    then (number_in vs) (λ n ws.
    then (close_in ws) (λ _ xs. Some (n, xs)))))
