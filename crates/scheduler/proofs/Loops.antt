-- The loops over the events of a step and over those who leave.
use Rattle.std.proofs.Common.{◌≡◌, ℕ, ◌+◌, ◌<◌, ◌≤◌, List, [], ◌∷◌, ◌++◌, length, get_or, drop, sym, refl, ap, ◌∙◌}
use Rattle.std.proofs.lemmas.List.{at_drop_more, at_drop_all}
use Rattle.interface.specs.Meaning.{Meaning, Call, after}
use Rattle.interface.specs.declared.Event.{Event}
use Rattle.interface.specs.declared.Request.{Request}
use Rattle.patterns.specs.declared.tick.Tick.{Tick}
use Rattle.patterns.specs.declared.vertex.VertexEvent.TheVariants.{Due}
use Rattle.model.specs.declared.Line.{Line}
use Rattle.model.specs.declared.Notice.{Notice}
use Rattle.board.specs.Boards.{BoardView, advanced_board}
use Rattle.board.specs.Flights.{heard_board}
use Rattle.board.specs.Leaving.{departed_board}
use Rattle.store.specs.Pages.{Page, wrote, wrote_all}
use Rattle.store.specs.Stores.{StoreView}
use Rattle.scheduler.specs.Hearing.{heard_line, heard_notice, all_heard, heard_lines, heard_notices, taken_by}

pub wrote_append : {X : Type 0} (xs ys : List X) (p : Page X) → wrote_all (xs ++ ys) p ≡ wrote_all ys (wrote_all xs p)
wrote_append [] ys p = refl
wrote_append (x ∷ xs) ys p = wrote_append xs ys (wrote x p)

-- ---- events: fs are ready before a turn, and es after it has collected e

module _ (n : Tick) (e : Event) (es fs : List Event) (b b' : BoardView) (s : StoreView) (front : fs ≡ e ∷ es) (moved : b' ≡ heard_board n e b) where
  pub heard_turn : all_heard n es b' ≡ all_heard n fs b
  unfolding all_heard
  heard_turn = ap (all_heard n es) moved ∙ ap (λ (x : List Event). all_heard n x b) (sym front)

  pub lines_turn : (p q : Page Line) → q ≡ wrote_all (heard_line n e b s) p → wrote_all (heard_lines n es b' s) q ≡ wrote_all (heard_lines n fs b s) p
  unfolding heard_lines
  lines_turn p q is =
      ap (wrote_all (heard_lines n es b' s)) is
      ∙ ap (λ (x : BoardView). wrote_all (heard_lines n es x s) (wrote_all (heard_line n e b s) p)) moved
      ∙ sym (wrote_append (heard_line n e b s) (heard_lines n es (heard_board n e b) s) p)
      ∙ ap (λ (x : List Event). wrote_all (heard_lines n x b s) p) (sym front)

  pub notices_turn : (p q : Page Notice) → q ≡ wrote_all (heard_notice n e b s) p → wrote_all (heard_notices n es b' s) q ≡ wrote_all (heard_notices n fs b s) p
  unfolding heard_notices
  notices_turn p q is =
      ap (wrote_all (heard_notices n es b' s)) is
      ∙ ap (λ (x : BoardView). wrote_all (heard_notices n es x s) (wrote_all (heard_notice n e b s) p)) moved
      ∙ sym (wrote_append (heard_notice n e b s) (heard_notices n es (heard_board n e b) s) p)
      ∙ ap (λ (x : List Event). wrote_all (heard_notices n x b s) p) (sym front)

module _ (n : Tick) (es : List Event) (b : BoardView) (s : StoreView) (none : es ≡ []) where
  pub heard_end : b ≡ all_heard n es b
  unfolding all_heard
  heard_end = ap (λ (x : List Event). all_heard n x b) (sym none)

  pub lines_end : (p : Page Line) → p ≡ wrote_all (heard_lines n es b s) p
  unfolding heard_lines
  lines_end p = ap (λ (x : List Event). wrote_all (heard_lines n x b s) p) (sym none)

  pub notices_end : (p : Page Notice) → p ≡ wrote_all (heard_notices n es b s) p
  unfolding heard_notices
  notices_end p = ap (λ (x : List Event). wrote_all (heard_notices n x b s) p) (sym none)

-- ---- those who leave, from place i on

module _ (m : Meaning (List ℕ)) (qs : List Request) (i : ℕ) (d : Request) (lt : i < length qs) where
  pub departed_turn : (b b' : BoardView) → b' ≡ advanced_board Due (get_or qs i d).slot b → departed_board (drop (i + 1) qs) b' ≡ departed_board (drop i qs) b
  unfolding departed_board
  departed_turn b b' is = ap (departed_board (drop (i + 1) qs)) is ∙ sym (at_drop_more (λ (xs : List Request). departed_board xs b) qs i d lt)

  pub taken_turn : (s t : List ℕ) → t ≡ after m (Call.take (get_or qs i d)) s → taken_by m (drop (i + 1) qs) t ≡ taken_by m (drop i qs) s
  unfolding taken_by
  taken_turn s t is = ap (taken_by m (drop (i + 1) qs)) is ∙ sym (at_drop_more (λ (xs : List Request). taken_by m xs s) qs i d lt)

module _ (m : Meaning (List ℕ)) (qs : List Request) (i : ℕ) (le : length qs ≤ i) where
  pub departed_end : (b : BoardView) → b ≡ departed_board (drop i qs) b
  unfolding departed_board
  departed_end b = sym (at_drop_all (λ (xs : List Request). departed_board xs b) qs i le)

  pub taken_end : (s : List ℕ) → s ≡ taken_by m (drop i qs) s
  unfolding taken_by
  taken_end s = sym (at_drop_all (λ (xs : List Request). taken_by m xs s) qs i le)
