use Rattle.interface.specs.Meaning.{Call}
use Rattle.interface.proofs.Codes.{after_is}
use Rattle.pair.specs.Pair.{view, meaning_of, pair_codes, pair_of, pair_back}
use Rattle.pair.proofs.pair.PairController.reset.Goals as goal

pub returns : goal.returns
returns g c =
    after_is pair_codes pair_of pair_back (meaning_of g.A.Controller.meaning g.B.Controller.meaning) Call.reset (view g.A.Controller.state g.B.Controller.state c.args.self.now) _ c.clear.ensures
