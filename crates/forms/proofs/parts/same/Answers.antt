use Rattle.std.specs.Str.{bytes_eq}
use Rattle.std.proofs.lemmas.Slice.Eq.{slice_eq-Decides, bytes_eq-Decides}
use Rattle.forms.proofs.Scanning.{decided}
use Rattle.forms.proofs.parts.same.Goals as goal
use Rattle.std.proofs.lemmas.Bool.Decides.{Decides-eqb}

pub returns : goal.returns
returns c = decided c.eq.result (bytes_eq c.args.a.now c.args.b.now) (slice_eq-Decides Decides-eqb c.args.a.now c.args.b.now c.eq.result c.eq.ensures) (bytes_eq-Decides c.args.a.now c.args.b.now)
