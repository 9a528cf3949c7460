-- A table has no more lanes in a domain after a call that keeps their number.
use Rattle.std.proofs.Common.{◌≡◌, ℕ, zero, suc, ◌≤◌, List, [], ◌∷◌, ◌++◌, map, length, get_or, take, drop, sym, refl, ap, subst, ◌∙◌, arith}
use lib.ListN.{length-map}
use Rattle.std.proofs.Math.Seq.{take-append_seam}
use Rattle.interface.proofs.Loops.{map_done}
use Rattle.patterns.specs.Lanes.{LaneView}
use Rattle.patterns.specs.Tables.{FewLanes}

module _ (f : LaneView → LaneView) where
  lengths_map : (t : List (List LaneView)) (d : ℕ) → length (get_or (map (map f) t) d []) ≡ length (get_or t d [])
  lengths_map [] d = refl
  lengths_map (ls ∷ t) zero = length-map ls f
  lengths_map (ls ∷ t) (suc d) = lengths_map t d

  -- after the loop over the domains, whose items stand in front of what was behind them
  pub few_mapped : (t us ws : List (List LaneView)) (n i : ℕ) → us ≡ map (map f) (take i t) ++ drop i t → length t ≤ i → n ≡ length t → FewLanes t → FewLanes (take n (us ++ ws))
  few_mapped t us ws n i loop done all few =
      let is : us ≡ map (map f) t = loop ∙ map_done (map f) t i done in
      let long : n ≡ length us = all ∙ sym (length-map t (map f)) ∙ ap length (sym is) in
      let front : take n (us ++ ws) ≡ us = ap (λ m. take m (us ++ ws)) long ∙ take-append_seam us ws in
      subst FewLanes (sym (front ∙ is)) (λ d. let e = lengths_map t d in let h = few d in omega arith)
