use Rattle.std.proofs.Common.{sym, ap, ◌∙◌}
use Rattle.pair.specs.Pair.{view, meaning_of, pair_back}
use Rattle.pair.proofs.pair.PairController.places.Goals as goal

pub returns : goal.returns
returns g c =
    c.fewest.ensures ∙ ap (meaning_of g.A.Controller.meaning g.B.Controller.meaning).places (sym (pair_back (view g.A.Controller.state g.B.Controller.state c.args.self.now)))
