-- The loop over those who leave.
use Rattle.std.proofs.Common.{◌≡◌, ℕ, ◌+◌, ◌<◌, ◌≤◌, List, [], ◌∷◌, length, get_or, drop}
use Rattle.std.proofs.lemmas.List.{at_drop_more, at_drop_all}
use Rattle.interface.specs.declared.Request.{Request}
use Rattle.model.specs.declared.Letter.TheVariants as letter
use Rattle.store.specs.Stores.{StoreView}
use Rattle.store.specs.Lines.{line_with, load_for, loaded, all_loaded, load_lines}

module _ (n : ℕ) (qs : List Request) (i : ℕ) (d : Request) (s : StoreView) (lt : i < length qs) where
  pub loaded_front : all_loaded (drop i qs) s ≡ all_loaded (drop (i + 1) qs) (loaded (get_or qs i d) s)
  unfolding all_loaded
  loaded_front = at_drop_more (λ (xs : List Request). all_loaded xs s) qs i d lt

  pub lines_front : load_lines n (drop i qs) s ≡ line_with letter.T n (get_or qs i d) (load_for (get_or qs i d) s) ∷ load_lines n (drop (i + 1) qs) (loaded (get_or qs i d) s)
  unfolding load_lines
  lines_front = at_drop_more (λ (xs : List Request). load_lines n xs s) qs i d lt

module _ (n : ℕ) (qs : List Request) (i : ℕ) (s : StoreView) (le : length qs ≤ i) where
  pub loaded_end : all_loaded (drop i qs) s ≡ s
  unfolding all_loaded
  loaded_end = at_drop_all (λ (xs : List Request). all_loaded xs s) qs i le

  pub lines_end : load_lines n (drop i qs) s ≡ []
  unfolding load_lines
  lines_end = at_drop_all (λ (xs : List Request). load_lines n xs s) qs i le
