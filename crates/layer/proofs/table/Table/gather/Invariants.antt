use Rattle.std.proofs.Common.{◌≡◌, length}
use Rattle.interface.specs.Emptied.{emptied}
use Rattle.layer.specs.Forwards.{forwards}
use Rattle.layer.specs.Contents.{contents_of, gathered}
use Rattle.layer.proofs.table.Table.gather.Given as goal

abbrev pub invariant-loop-event : goal.invariant-loop-event
invariant-loop-event g l =
    let m = g.C.Controller in
    let s = m.state l.below in
    let b = m.state l.initial.below in
    (emptied m.meaning (m.meaning.ready s) s ≡ emptied m.meaning (m.meaning.ready b) b)
    × (gathered (forwards l.forward) (m.meaning.ready s) (contents_of l.self-inside.holder) ≡ gathered (forwards l.forward) (m.meaning.ready b) (contents_of l.initial.self-inside.holder))

abbrev pub decreases-loop-event : goal.decreases-loop-event
decreases-loop-event g l = length (g.C.Controller.meaning.ready (g.C.Controller.state l.below))
