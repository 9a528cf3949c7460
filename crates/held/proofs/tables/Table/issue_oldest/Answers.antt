use Rattle.std.proofs.Common.{◌≡◌, sym, ap, ◌∙◌, rules, tests, arith}
use Rattle.std.specs.List.{position}
use Rattle.std.proofs.lemmas.Iterator.{YieldsList-from_slice}
use Rattle.std.proofs.lemmas.Iterator.Search.{position_from_yields_List}
use Rattle.holder.specs.Holding.{with_event, replaced}
use Rattle.held.specs.Entries.{candidate, of_whom}
use Rattle.held.specs.Rows.{rows_of}
use Rattle.held.proofs.Held.{issue_is, issue_absent}
use Rattle.held.proofs.tables.Table.issue_oldest.Goals as goal

pub returns-in-Some : goal.returns-in-Some
returns-in-Some c =
    let k = of_whom c.args.domain in
    let es = c.self.inside.holder.entries in
    let found : c.position.result ≡ position (candidate k) es = position_from_yields_List (candidate k) _ _ c.position.result c.position.ensures.ran (YieldsList-from_slice es (c.iter.ensures.rest ∙ c.entries-entries.ensures)) (λ x b q z. search (rules, tests)) in
    let went = c.add.ensures ∙ ap (with_event 33 _) (c.replace.ensures ∙ ap (λ e. replaced c.in-Some.i e c.self.inside.holder) c.issued.ensures) in
    rw (← c.self.view_is) (issue_is k c.self.inside.holder _ c.in-Some.i c.entries-entries.result.now _ (omega (arith, c.ready.ensures, c.if-ready-gt32.false)) (sym found ∙ c.in-Some.is) c.entries-entries.ensures went)

pub returns-in_default : goal.returns-in_default
returns-in_default c =
    let k = of_whom c.args.domain in
    let es = c.self.inside.holder.entries in
    let found : c.position.result ≡ position (candidate k) es = position_from_yields_List (candidate k) _ _ c.position.result c.position.ensures.ran (YieldsList-from_slice es (c.iter.ensures.rest ∙ c.entries-entries.ensures)) (λ x b q z. search (rules, tests)) in
    rw (← c.self.view_is) (issue_absent k (rows_of c.self.inside.holder) (sym found ∙ c.in_default.is))
