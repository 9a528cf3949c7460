use Rattle.std.proofs.Common.{◌≡◌, length}
use Rattle.interface.specs.Emptied.{emptied}
use Rattle.store.specs.Pages.{wrote_all}
use Rattle.store.specs.Written.{page_of}
use Rattle.scheduler.specs.Hearing.{all_heard, heard_lines, heard_notices}
use Rattle.scheduler.proofs.scheduler.front.Front.hear_all.Given as goal

abbrev pub invariant-loop-event : goal.invariant-loop-event
invariant-loop-event g l =
    let m = g.C.Controller in
    let es = m.meaning.ready (m.state l.self.controller) in
    let fs = m.meaning.ready (m.state l.initial.self.controller) in
    (emptied m.meaning es (m.state l.self.controller) ≡ emptied m.meaning fs (m.state l.initial.self.controller))
    × (all_heard l.tick es l.self.board ≡ all_heard l.tick fs l.initial.self.board)
    × (l.lines.buffer.ghost_name ≡ l.initial.lines.buffer.ghost_name)
    × (l.notices.buffer.ghost_name ≡ l.initial.notices.buffer.ghost_name)
    × (wrote_all (heard_lines l.tick es l.self.board l.store) (page_of l.lines) ≡ wrote_all (heard_lines l.tick fs l.initial.self.board l.store) (page_of l.initial.lines))
    × (wrote_all (heard_notices l.tick es l.self.board l.store) (page_of l.notices) ≡ wrote_all (heard_notices l.tick fs l.initial.self.board l.store) (page_of l.initial.notices))

abbrev pub decreases-loop-event : goal.decreases-loop-event
decreases-loop-event g l = length (g.C.Controller.meaning.ready (g.C.Controller.state l.self.controller))
