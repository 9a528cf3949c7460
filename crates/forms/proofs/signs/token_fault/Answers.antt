use Rattle.std.proofs.Common.{sym, ap, ◌∙◌}
use Rattle.tokens.specs.Lexemes.{Cursor}
use Rattle.forms.specs.Signs.{scanned}
use Rattle.forms.proofs.Scanning.{on_token, on_none, on_fault}
use Rattle.forms.proofs.signs.token_fault.Goals as goal

pub token-init : goal.token-init
token-init c = ap (λ (k : Cursor). (scanned k).fault) c.starting_at-lexer.ensures

pub token-preserved : goal.token-preserved
token-preserved c =
    let e = rw c.in-Ok-Some.field-0-is at c.in-Ok-Some.ensures.answer in
    (on_token c.token.lexer c.next.new.self c.in-Ok-Some.field-0-0 e c.next.ensures.after).0 ∙ c.token.invariant

pub token-smaller : goal.token-smaller
token-smaller c =
    let e = rw c.in-Ok-Some.field-0-is at c.in-Ok-Some.ensures.answer in
    (on_token c.token.lexer c.next.new.self c.in-Ok-Some.field-0-0 e c.next.ensures.after).1

pub returns-in-Ok-None : goal.returns-in-Ok-None
returns-in-Ok-None c =
    let e = rw c.in-Ok-None.field-0-is at c.in-Ok-None.ensures.answer in
    sym (on_none c.token.lexer e).1 ∙ c.token.invariant

pub returns-in-Err : goal.returns-in-Err
returns-in-Err c = sym (on_fault c.token.lexer _ c.in-Err.ensures.answer).1 ∙ c.token.invariant
