use Rattle.std.proofs.Common.{◌≡◌, ℕ, List, [], length, replicate, Some, None, Option, refl, ap, ◌∙◌}
use Rattle.patterns.specs.Lanes.{LaneView}
use Rattle.board.specs.Slots.{OpenSlot}
use Rattle.board.specs.Sets.{shares_view}
use Rattle.board.specs.Boards.{free_slots}
use Rattle.board.proofs.Limits.{blank_counted, blank_formed}
use Rattle.board.proofs.board.Board.new.Goals as goal

-- only none is a clone of none
only_none : {X : Type 0} (P : Option X → Type 0) → ((x : X) → P (Some x) → ⊥) → (y : Option X) → P y → y ≡ None
only_none P not_some None p = refl
only_none P not_some (Some x) p = absurd (not_some x p)

pub invariant_of-result : goal.invariant_of-result
invariant_of-result c =
    let shares = ap shares_view (c.in_ok-shares.ensures.items_if_clones_equal (only_none _ (λ x e. e))) in
    let lanes = c.in_ok-lanes.ensures in (
      record {
        eight = ap length shares;
        as_many = ap length lanes;
        counted = blank_counted _ _ shares lanes;
        in_form = blank_formed _ lanes;
      },
      c.in_ok-slots.ensures.len,
    )

pub returns : goal.returns
unfolding free_slots
returns c =
    let shares = ap shares_view (c.in_ok-shares.ensures.items_if_clones_equal (only_none _ (λ x e. e))) in
    let lanes = c.in_ok-lanes.ensures in
    let slots = c.in_ok-slots.ensures.items_if_clones_equal (only_none _ (λ x e. e)) in
    ap (λ (s : List (Option ℕ)). record { first = 0; shares = s; lanes = c.in_ok-lanes.lanes; slots = c.in_ok-slots.slots.items }) shares
    ∙ ap (λ (t : List (List LaneView)). record { first = 0; shares = replicate 8 None; lanes = t; slots = c.in_ok-slots.slots.items }) lanes
    ∙ ap (λ (o : List OpenSlot). record { first = 0; shares = replicate 8 None; lanes = replicate 8 []; slots = o }) slots
