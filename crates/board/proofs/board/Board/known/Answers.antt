use Rattle.std.proofs.Common.{refl, sym, ◌∙◌}
use Rattle.board.proofs.Limits.{share_bounds}
use Rattle.board.proofs.board.Board.known.Goals as goal

pub returns : goal.returns
returns c =
    let b = c.self.inside in
    let k = c.self.invariant.0 in
    rw (← c.self.view_is) (record {
      board = record { eight = k.eight; as_many = k.as_many; counted = refl; in_form = k.in_form };
      slots = sym b.slots.ok.0 ∙ c.self.invariant.1;
      shares = share_bounds b.shares.items;
    })
