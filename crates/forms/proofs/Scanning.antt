-- The scan of a text is the next lexeme before the scan of what is behind it.
use Rattle.std.proofs.Common.{◌≡◌, ℕ, zero, suc, ◌<◌, ◌≤◌, Bool, true, false, List, [], ◌∷◌, length, Some, None, Ok, Err, Decides, Option, Result, sym, refl, ap, ◌∙◌, subst, arith}
use Rattle.std.proofs.lemmas.Bool.{le-ltb, cond-false}
use Rattle.tokens.specs.declared.lexer.Token.{Token}
use Rattle.tokens.specs.declared.lexer.Fault.{Fault}
use Rattle.tokens.specs.Lexemes.{Lexeme, lexeme, seen, Answer, Cursor, start_of, lexed, next_lexeme, moved}
use Rattle.forms.specs.Signs.{Scan, with_next, scanned_within, scanned, unread, sign, token_sign, parsed, uncons}
use Rattle.std.specs.Option.{option_map, option_flatten}
use Rattle.std.specs.Result.{result_ok}
use Rattle.forms.proofs.Progress.{some_inside, some_moves}

-- what with_next does not look at may differ
only_if_some : (r : Answer) (m n : Scan) → ((l : Lexeme) → r ≡ Ok (Some l) → m ≡ n) → with_next r m ≡ with_next r n
only_if_some (Ok None) m n h = refl
only_if_some (Ok (Some l)) m n h = ap (with_next (Ok (Some l))) (h l refl)
only_if_some (Err e) m n h = refl

pub at_end : (text : List ℕ) (at : ℕ) → length text ≤ at → lexed text at ≡ Ok None
at_end text at le = cond-false _ _ _ (le-ltb (start_of text at) (length text) (omega arith))

-- a bound that is large enough does not matter
enough : (m n : ℕ) (c : Cursor) → unread c ≤ m → unread c ≤ n → scanned_within m c ≡ scanned_within n c
unfolding scanned_within
enough zero zero c p q = refl
enough zero (suc n) c p q = sym (ap (λ r. with_next r (scanned_within n (moved c))) (at_end c.text c.at (omega arith)))
enough (suc m) zero c p q = ap (λ r. with_next r (scanned_within m (moved c))) (at_end c.text c.at (omega arith))
enough (suc m) (suc n) c p q =
    only_if_some (next_lexeme c) (scanned_within m (moved c)) (scanned_within n (moved c)) (λ l e.
    let lt = some_inside c.text c.at l e in
    let mv = some_moves c.text c.at l e in
    enough m n (moved c) (omega arith) (omega arith))

pub scanned_next : (c : Cursor) → scanned c ≡ with_next (next_lexeme c) (scanned (moved c))
unfolding scanned scanned_within
scanned_next c =
    enough (unread c) (suc (unread c)) c (omega arith) (omega arith) ∙
    only_if_some (next_lexeme c) (scanned_within (unread c) (moved c)) (scanned_within (unread (moved c)) (moved c)) (λ l e.
    let lt = some_inside c.text c.at l e in
    let mv = some_moves c.text c.at l e in
    enough (unread c) (unread (moved c)) (moved c) (omega arith) (omega arith))

-- what one call of next gives, by its answer
pub on_some : (c : Cursor) (l : Lexeme) → Ok (Some l) ≡ next_lexeme c → ((scanned c).signs ≡ sign l ∷ (scanned (moved c)).signs) × ((scanned c).fault ≡ (scanned (moved c)).fault) × (unread (moved c) < unread c)
on_some c l e =
    let s : scanned c ≡ with_next (Ok (Some l)) (scanned (moved c)) = scanned_next c ∙ ap (λ r. with_next r (scanned (moved c))) (sym e) in
    let lt = some_inside c.text c.at l (sym e) in
    let mv = some_moves c.text c.at l (sym e) in
    (ap (λ (x : Scan). x.signs) s, ap (λ (x : Scan). x.fault) s, omega arith)

pub on_none : (c : Cursor) → Ok None ≡ next_lexeme c → ((scanned c).signs ≡ []) × ((scanned c).fault ≡ None)
on_none c e =
    let s : scanned c ≡ with_next (Ok None) (scanned (moved c)) = scanned_next c ∙ ap (λ r. with_next r (scanned (moved c))) (sym e) in
    (ap (λ (x : Scan). x.signs) s, ap (λ (x : Scan). x.fault) s)

pub on_fault : (c : Cursor) (e : Fault) → Err e ≡ next_lexeme c → ((scanned c).signs ≡ []) × ((scanned c).fault ≡ Some e)
on_fault c e is =
    let s : scanned c ≡ with_next (Err e) (scanned (moved c)) = scanned_next c ∙ ap (λ r. with_next r (scanned (moved c))) (sym is) in
    (ap (λ (x : Scan). x.signs) s, ap (λ (x : Scan). x.fault) s)

-- an answer of the lexer, and where it then stands
pub passed : (c d : Cursor) (r : Result (Option Token) Fault) → seen r ≡ next_lexeme c → d ≡ moved c → parsed (option_map token_sign (option_flatten (result_ok r))) (scanned d).signs ≡ uncons (scanned c).signs
passed c d (Ok None) e m = sym (ap uncons (on_none c e).0)
passed c d (Ok (Some t)) e m = ap (λ k. Some (token_sign t, (scanned k).signs)) m ∙ sym (ap uncons (on_some c (lexeme t) e).0)
passed c d (Err f) e m = sym (ap uncons (on_fault c f e).0)

-- a token goes before, and there is less left
pub on_token : (c d : Cursor) (t : Token) → Ok (Some (lexeme t)) ≡ next_lexeme c → d ≡ moved c → ((scanned d).fault ≡ (scanned c).fault) × (unread d < unread c)
on_token c d t e m =
    let s = on_some c (lexeme t) e in
    (ap (λ (k : Cursor). (scanned k).fault) m ∙ sym s.1, subst (λ (k : Cursor). unread k < unread c) (sym m) s.2)

-- two tests that decide the same are the same
pub decided : {P : Type 0} (a b : Bool) → Decides a P → Decides b P → a ≡ b
decided true true p q = refl
decided true false p q = sym (q.1 (p.0 refl))
decided false true p q = p.1 (q.0 refl)
decided false false p q = refl
