use Rattle.run_laws.proofs.Promises.{promises}
use Rattle.scheduler.specs.Schedulers.{view}
use Rattle.scheduler.proofs.Calling.{extends}
use Rattle.scheduler.proofs.scheduler.Scheduler.call.Goals as goal

pub returns : goal.returns
returns g c =
    let m = g.C.Controller in
    let lawful = g.met.C.Controller.lawful in
    record {
      answer = c.perform.ensures.answer;
      after = c.perform.ensures.after;
      lines = c.perform.ensures.lines;
      notices = c.perform.ensures.notices;
      history = extends m.meaning lawful (view m.state c.args.self.now) (view m.state c.perform.new.self) c.args.call c.perform.result c.args.lines.now c.perform.new.lines c.args.notices.now c.perform.new.notices
          c.perform.ensures.answer c.perform.ensures.after c.perform.ensures.lines c.perform.ensures.notices;
      promises = promises m.meaning lawful;
    }
