use Rattle.interface.specs.Meaning.{Call}
use Rattle.interface.proofs.Codes.{after_is, collect_is}
use Rattle.layer.specs.Contents.{Contents}
use Rattle.layer.proofs.Tables.{collect_any}
use Rattle.pair.specs.Pair.{State, meaning_of, pair_codes, pair_of, pair_back}
use Rattle.pair.proofs.pair.PairController.collect.Goals as goal

pub returns : goal.returns
returns g c =
    let r = meaning_of g.A.Controller.meaning g.B.Controller.meaning in
    rw (← c.self.view_is) (
    let x : State = record { table = c.self.inside.table; first = g.A.Controller.state c.self.inside.first; second = g.B.Controller.state c.self.inside.second } in
    let put : Contents → State = λ t. record { table = t; first = x.first; second = x.second } in
    record {
      answer = collect_is pair_codes pair_of pair_back r x _ (cc);
      after = after_is pair_codes pair_of pair_back r Call.collect x _ (cc (collect_any put x.table));
    })
