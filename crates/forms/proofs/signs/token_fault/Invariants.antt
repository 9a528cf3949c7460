-- What is left to scan has the same first fault.
use Rattle.std.proofs.Common.{◌≡◌}
use Rattle.forms.specs.Signs.{scanned, unread}
use Rattle.forms.proofs.signs.token_fault.Given as goal

abbrev pub invariant-token : goal.invariant-token
invariant-token l = (scanned l.lexer).fault ≡ (scanned (record { text = l.text; at = l.at })).fault

abbrev pub decreases-token : goal.decreases-token
decreases-token l = unread l.lexer
