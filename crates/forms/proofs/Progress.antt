-- A token has at least one byte.
use Rattle.std.proofs.Common.{◌≡◌, ℕ, ◌+◌, ◌<◌, ◌≤◌, Bool, true, false, cond, eqb, ltb, List, length, get_or, drop, Some, None, Ok, Err, Option, sym, refl, ap, ◌∙◌, subst, arith, length-drop, ltb-true}
use Rattle.std.specs.List.{prefix_len}
use Rattle.std.proofs.lemmas.List.{length-take-le}
use Rattle.std.proofs.lemmas.List.Sums.{prefix_len-le-length, prefix_len-drop_yes}
use Rattle.std.proofs.lemmas.Bool.{cond_both}
use Rattle.tokens.specs.declared.runs.Class.{Class}
use Rattle.tokens.specs.declared.lexer.Fault.{Fault}
use Rattle.tokens.specs.declared.lexer.Fault.TheVariants.{UnknownByte}
use Rattle.tokens.specs.declared.runs.Class.TheVariants.{Letter, Digit}
use Rattle.tokens.specs.Classes.{in_class}
use Rattle.tokens.specs.Numbers.{number_of}
use Rattle.tokens.specs.Lexemes.{Lexeme, Answer, opens, closes, word, number, start_of, part, number_at, letters_at, digits_at, lexeme_at, lexed, after, lexed_to}

-- a lexeme ends beyond a place
abbrev pub Beyond : ℕ → Answer → Type 0
Beyond s (Ok None) = Unit {0}
Beyond s (Ok (Some (opens p bs))) = s < p + length bs
Beyond s (Ok (Some (closes p bs))) = s < p + length bs
Beyond s (Ok (Some (word p bs))) = s < p + length bs
Beyond s (Ok (Some (number p bs n))) = s < p + length bs
Beyond s (Err e) = Unit {0}

chosen : (s : ℕ) (a b c d : Bool) (w x y z : Answer) (e : Fault) → Beyond s w → Beyond s x → (c ≡ true → Beyond s y) → (d ≡ true → Beyond s z) → Beyond s (cond a w (cond b x (cond c y (cond d z (Err e)))))
chosen s true b c d w x y z e p q r t = p
chosen s false true c d w x y z e p q r t = q
chosen s false false true d w x y z e p q r t = r refl
chosen s false false false true w x y z e p q r t = t refl
chosen s false false false false w x y z e p q r t = tt

module _ (text : List ℕ) (s : ℕ) (lt : s < length text) where
  left : 0 < length (drop s text)
  left = omega (arith, length-drop s text)

  one : s < s + length (part text s 1)
  one = omega (arith, length-take-le 1 (drop s text) (omega (arith, left)))

  run : (k : Class) → in_class k (get_or text s 0) ≡ true → s < s + length (part text s (prefix_len (in_class k) (drop s text)))
  run k e =
      omega (arith, length-take-le (prefix_len (in_class k) (drop s text)) (drop s text) (prefix_len-le-length (in_class k) (drop s text)), prefix_len-drop_yes (in_class k) text s 0 lt e)

  numbered : (ds : List ℕ) (o : Option ℕ) → s < s + length ds → Beyond s (number_at s ds o)
  numbered ds None h = tt
  numbered ds (Some v) h = h

  pub beyond : Beyond s (lexeme_at text s (get_or text s 0))
  beyond =
      chosen s (eqb (get_or text s 0) 40) (eqb (get_or text s 0) 41) (in_class Letter (get_or text s 0)) (in_class Digit (get_or text s 0))
      (Ok (Some (opens s (part text s 1)))) (Ok (Some (closes s (part text s 1)))) (Ok (Some (word s (letters_at text s)))) (number_at s (digits_at text s) (number_of (digits_at text s))) (UnknownByte s)
      one one (run Letter) (λ e. numbered (digits_at text s) (number_of (digits_at text s)) (run Digit e))

past : (at s : ℕ) (r : Answer) → at ≤ s → Beyond s r → Beyond at r
past at s (Ok None) le h = tt
past at s (Ok (Some (opens p bs))) le h = omega arith
past at s (Ok (Some (closes p bs))) le h = omega arith
past at s (Ok (Some (word p bs))) le h = omega arith
past at s (Ok (Some (number p bs n))) le h = omega arith
past at s (Err e) le h = tt

pub progress : (text : List ℕ) (at : ℕ) → Beyond at (lexed text at)
progress text at =
    cond_both (ltb (start_of text at) (length text)) (lexeme_at text (start_of text at) (get_or text (start_of text at) 0)) (Ok None) (Beyond at)
    (λ e. past at (start_of text at) (lexeme_at text (start_of text at) (get_or text (start_of text at) 0)) (omega arith) (beyond text (start_of text at) (ltb-true _ _ e)))
    (λ _. tt)

-- where there is a lexeme, there is a byte, and reading goes on behind it
pub some_inside : (text : List ℕ) (at : ℕ) (l : Lexeme) → lexed text at ≡ Ok (Some l) → at < length text
some_inside text at l e = go (ltb (start_of text at) (length text)) refl
  where
    go : (b : Bool) → ltb (start_of text at) (length text) ≡ b → at < length text
    go true t = omega (arith, ltb-true (start_of text at) (length text) t)
    go false t = let none : ◌≡◌ {A = Answer} (Ok None) (Ok (Some l)) = sym (ap (λ b. cond b (lexeme_at text (start_of text at) (get_or text (start_of text at) 0)) (Ok None)) t) ∙ e in
        let z : ◌≡◌ {A = ℕ} 0 1 = cc in omega arith

moves : (at s : ℕ) (l : Lexeme) → Beyond at (Ok (Some l)) → at < after at s (Ok (Some l))
moves at s (opens p bs) h = h
moves at s (closes p bs) h = h
moves at s (word p bs) h = h
moves at s (number p bs n) h = h

pub some_moves : (text : List ℕ) (at : ℕ) (l : Lexeme) → lexed text at ≡ Ok (Some l) → at < lexed_to text at
some_moves text at l e =
    subst (λ r. at < after at (start_of text at) r) (sym e) (moves at (start_of text at) l (subst (Beyond at) e (progress text at)))
