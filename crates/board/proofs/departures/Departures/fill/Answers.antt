use Rattle.std.proofs.Common.{◌+◌, [], get_or, drop, None, sym, ap, ◌∙◌, arith}
use Rattle.board.specs.Sets.{formed}
use Rattle.board.specs.Leaving.{domain_leaving, domains_leaving, all_added, board_leaving}
use Rattle.board.proofs.Limits.{not_back'}
use Rattle.board.proofs.Leaves.{domains_front, domains_none, domains_few, all_added_append, none_added, all_fit}
use Rattle.board.proofs.departures.Departures.fill.Goals as goal

pub loop-domain-preserved : goal.loop-domain-preserved
loop-domain-preserved c =
    let b = c.args.board.now in
    let k = c.known.ensures.board in
    let d = c.loop-domain.domain in
    let later = domains_leaving c.args.tick (d + 1) (drop (d + 1) b.shares) (drop (d + 1) b.lanes) in
    ap (all_added later) c.add_domain.ensures
    ∙ sym (all_added_append (domain_leaving c.args.tick d (get_or b.shares d None) (get_or b.lanes d [])) later c.loop-domain.self)
    ∙ ap (λ qs. all_added qs c.loop-domain.self) (sym (domains_front c.args.tick b.shares b.lanes d (omega (arith, k.eight, c.loop-domain-test.true)) (k.eight ∙ sym k.as_many)))
    ∙ c.loop-domain.invariant

pub returns : goal.returns
unfolding formed
returns c =
    let b = c.args.board.now in
    let k = c.known.ensures.board in
    let few = domains_few c.args.tick 0 b.shares b.lanes (not_back' _ k.in_form) in
    sym (none_added c.loop-domain.self)
    ∙ ap (λ qs. all_added qs c.loop-domain.self) (sym (domains_none c.args.tick b.shares b.lanes c.loop-domain.domain (omega (arith, k.eight, c.loop-domain-test.false))))
    ∙ c.loop-domain.invariant
    ∙ all_fit (board_leaving c.args.tick b) [] (omega (arith, few, k.eight))
