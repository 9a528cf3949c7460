use Rattle.std.proofs.Common.{◌≡◌, List, replicate, ap, ◌∙◌, arith, rules}
use Rattle.model.specs.Payloads.{Payload, fake}
use Rattle.store.specs.Stores.{BacklogView, no_backlog, no_payloads}
use Rattle.store.proofs.store.Store.new.Goals as goal

pub returns : goal.returns
unfolding no_payloads
returns c =
    let eight : c.loop.counter ≡ 8 = omega arith in
    let fakes : c.in_ok-payloads.payloads.items ≡ replicate 512 fake = c.in_ok-payloads.ensures.items_if_clones_equal (search rules) in
    ap (λ (l : List BacklogView). record { backlogs = l; payloads = c.in_ok-payloads.payloads.items }) (c.loop.invariant.2 ∙ ap (λ n. replicate n no_backlog) eight)
    ∙ ap (λ (p : List Payload). record { backlogs = replicate 8 no_backlog; payloads = p }) fakes
