use Rattle.std.proofs.Common.{List, sym, refl, ap, ◌∙◌, add-one}
use Rattle.interface.specs.Meaning.{after, Call}
use Rattle.interface.specs.declared.Request.{Request}
use Rattle.board.specs.Boards.{slots_set}
use Rattle.board.specs.Leaving.{board_leaving, departed_board}
use Rattle.store.specs.Pages.{wrote_all}
use Rattle.store.specs.Written.{page_of}
use Rattle.store.specs.Lines.{all_loaded, load_lines}
use Rattle.scheduler.specs.Hearing.{taken_by}
use Rattle.scheduler.proofs.Submitted.{sound}
use Rattle.scheduler.proofs.Passed.{settings_passed, running_passed, lines_passed, notices_passed}
use Rattle.scheduler.proofs.scheduler.Scheduler.pass.Goals as goal

pub returns : goal.returns
returns g c =
    let m = g.C.Controller in
    let o = c.self.inside in
    let b = o.front.board in
    let s = o.store in
    let used = slots_set o.front.board in
    let ok = sound o.front.board o.store c.known.ensures.board c.known.ensures.slots c.known.ensures.shares c.known-2.ensures in
    let n = c.args.tick in
    let c0 = m.state o.front.controller in
    let c1 = after m.meaning Call.step c0 in
    let c2 = m.state c.step.new.self.controller in
    let c3 = m.state c.depart_all.new.self.controller in
    let b1 = c.step.new.self.board in
    let b2 = c.prepare.new.board in
    let b3 = c.depart_all.new.self.board in
    let s3 = c.load.new.self in
    let qs = c.prepare.new.departures in
    let leaves = c.prepare.ensures.list ∙ ap (board_leaving n.number) (sym c.prepare.ensures.board) in
    let gone = c.depart_all.ensures.board ∙ ap (λ (z : List Request). departed_board z b2) c.requests.ensures in
    let took = c.depart_all.ensures.controller ∙ ap (λ (z : List Request). taken_by m.meaning z c2) c.requests.ensures in
    let stored = c.load.ensures.after ∙ ap (λ (z : List Request). all_loaded z s) c.requests-2.ensures in
    rw (← c.self.view_is) (record {
      begun = refl;
      settings = settings_passed m.meaning b s used ok n c0 c1 c2 c3 b1 b2 b3 s3 qs refl c.step.ensures.controller c.step.ensures.board c.prepare.ensures.board leaves gone took stored;
      running = running_passed m.meaning b s used ok n c0 c1 c2 c3 b1 b2 b3 s3 qs refl c.step.ensures.controller c.step.ensures.board c.prepare.ensures.board leaves gone took stored _ (add-one n.number);
      lines = (
        c.load.ensures.lines.0 ∙ c.step.ensures.lines.0,
        lines_passed m.meaning b s used ok n c0 c1 c2 c3 b1 b2 b3 s3 qs refl c.step.ensures.controller c.step.ensures.board c.prepare.ensures.board leaves gone took stored
            (page_of c.args.lines.now) (page_of c.step.new.lines) (page_of c.load.new.lines) c.step.ensures.lines.1
            (c.load.ensures.lines.1 ∙ ap (λ (z : List Request). wrote_all (load_lines n.number z s) (page_of c.step.new.lines)) c.requests-2.ensures),
      );
      notices = (
        c.step.ensures.notices.0,
        notices_passed m.meaning b s used ok n c0 c1 c2 c3 b1 b2 b3 s3 qs refl c.step.ensures.controller c.step.ensures.board c.prepare.ensures.board leaves gone took stored
            (page_of c.args.notices.now) (page_of c.step.new.notices) c.step.ensures.notices.1,
      );
    })
