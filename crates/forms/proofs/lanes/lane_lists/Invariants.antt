-- What is left to read gives the lists.
use Rattle.std.proofs.Common.{◌≡◌, [], length, vec_items}
use Rattle.forms.specs.Signs.{ahead}
use Rattle.forms.specs.Lanes.{lists_in}
use Rattle.forms.proofs.lanes.lane_lists.Given as goal

abbrev pub invariant-part : goal.invariant-part
invariant-part l = lists_in (vec_items l.vertices) (vec_items l.edges) (ahead l.lexer) ≡ lists_in [] [] (ahead l.fn.lexer)

abbrev pub decreases-part : goal.decreases-part
decreases-part l = length (ahead l.lexer)
