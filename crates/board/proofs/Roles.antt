-- The roles of the domains, read and set through shares and lanes.
use Rattle.std.proofs.Common.{◌≡◌, ℕ, zero, suc, not, ◌&&◌, List, [], ◌∷◌, ◌++◌, map, length, get_or, set, Some, None, Option, sym, refl, ap, ◌∙◌, arith}
use Rattle.std.proofs.lemmas.List.{get_or_past}
use Rattle.interface.specs.Meaning.{is_empty}
use Rattle.patterns.specs.declared.setting.VertexSetting.{VertexSetting}
use Rattle.patterns.specs.declared.setting.EdgeSetting.{EdgeSetting}
use Rattle.patterns.specs.Lanes.{LaneView, lane_of, changed}
use Rattle.patterns.specs.Shape.{vertex_of, edge_of}
use Rattle.model.specs.Settings.{Role, unset, opened, protected, role_of, patterns_of, is_unset, is_opened}
use Rattle.model.specs.Calls.{opens, lane, first, settled}
use Rattle.board.specs.Sets.{spot_of, pattern_of, role_at, roles_of, no_share}
use Rattle.board.specs.Boards.{BoardView, settings_of, with_setting}

pub roles_length : (ss : List (Option ℕ)) (ts : List (List LaneView)) → length (roles_of ss ts) ≡ length ss
unfolding roles_of
roles_length [] ts = refl
roles_length (s ∷ ss) [] = ap suc (roles_length ss [])
roles_length (s ∷ ss) (t ∷ ts) = ap suc (roles_length ss ts)

pub roles_read : (ss : List (Option ℕ)) (ts : List (List LaneView)) (d : ℕ) → length ss ≡ length ts → get_or (roles_of ss ts) d unset ≡ role_at (get_or ss d None) (get_or ts d [])
unfolding roles_of
roles_read [] [] d e =
    get_or_past [] d unset (omega arith)
    ∙ sym (ap (λ (s : Option ℕ). role_at s (get_or [] d [])) (get_or_past [] d None (omega arith)) ∙ ap (λ (t : List LaneView). role_at None t) (get_or_past [] d [] (omega arith)))
roles_read [] (t ∷ ts) d e = absurd (omega arith)
roles_read (s ∷ ss) [] d e = absurd (omega arith)
roles_read (s ∷ ss) (t ∷ ts) zero e = refl
roles_read (s ∷ ss) (t ∷ ts) (suc d) e = roles_read ss ts d (omega arith)

roles_open : (ss : List (Option ℕ)) (ts : List (List LaneView)) (d n : ℕ) → roles_of (set ss d (Some n)) ts ≡ set (roles_of ss ts) d (opened n)
unfolding roles_of
roles_open [] ts d n = refl
roles_open (s ∷ ss) [] zero n = refl
roles_open (s ∷ ss) (t ∷ ts) zero n = refl
roles_open (s ∷ ss) [] (suc d) n = ap (λ l. role_at s [] ∷ l) (roles_open ss [] d n)
roles_open (s ∷ ss) (t ∷ ts) (suc d) n = ap (λ l. role_at s t ∷ l) (roles_open ss ts d n)

map_push : {X Y : Type 0} (f : X → Y) (xs : List X) (x : X) → map f (xs ++ (x ∷ [])) ≡ map f xs ++ (f x ∷ [])
map_push f [] x = refl
map_push f (y ∷ xs) x = ap (λ l. f y ∷ l) (map_push f xs x)

role_push : (ls : List LaneView) (l : LaneView) → role_at None (ls ++ (l ∷ [])) ≡ protected (patterns_of (role_at None ls) ++ (pattern_of l ∷ []))
role_push [] l = refl
role_push (x ∷ ls) l = ap protected (ap (λ ps. pattern_of x ∷ ps) (map_push pattern_of ls l))

roles_lane : (ss : List (Option ℕ)) (ts : List (List LaneView)) (d : ℕ) (l : LaneView) → length ss ≡ length ts → get_or ss d None ≡ None
    → roles_of ss (changed (λ ls. ls ++ (l ∷ [])) ts d) ≡ set (roles_of ss ts) d (protected (patterns_of (role_at None (get_or ts d [])) ++ (pattern_of l ∷ [])))
unfolding roles_of
roles_lane [] [] d l e is = refl
roles_lane [] (t ∷ ts) d l e is = absurd (omega arith)
roles_lane (s ∷ ss) [] d l e is = absurd (omega arith)
roles_lane (s ∷ ss) (t ∷ ts) zero l e is =
    ap (λ (k : Option ℕ). role_at k (t ++ (l ∷ [])) ∷ roles_of ss ts) is ∙ ap (λ r. r ∷ roles_of ss ts) (role_push t l)
roles_lane (s ∷ ss) (t ∷ ts) (suc d) l e is = ap (λ r. role_at s t ∷ r) (roles_lane ss ts d l (omega arith) is)

spots_back : (vs : List VertexSetting) → map spot_of (map vertex_of vs) ≡ vs
spots_back [] = refl
spots_back (v ∷ vs) = ap (λ l. v ∷ l) (spots_back vs)

-- a domain's role, from its share and lanes
pub role_is : (b : BoardView) (d : ℕ) → length b.shares ≡ length b.lanes → role_of (settings_of b) d ≡ role_at (get_or b.shares d None) (get_or b.lanes d [])
role_is b d e = roles_read b.shares b.lanes d e

pub open_settled : (b : BoardView) (d n : ℕ) → settings_of (with_setting b (opens d n)) ≡ settled (settings_of b) (opens d n)
unfolding settled
open_settled b d n = ap (λ (r : List Role). record { first = b.first; roles = r }) (roles_open b.shares b.lanes d n)

pub first_settled : (b : BoardView) (n : ℕ) → settings_of (with_setting b (first n)) ≡ settled (settings_of b) (first n)
unfolding settled
first_settled b n = refl

pub lane_settled : (b : BoardView) (d : ℕ) (vs : List VertexSetting) (es : List EdgeSetting) (rest : ℕ) → length b.shares ≡ length b.lanes → get_or b.shares d None ≡ None
    → settings_of (with_setting b (lane d vs es rest)) ≡ settled (settings_of b) (lane d vs es rest)
unfolding settled
lane_settled b d vs es rest e is =
    ap (λ (r : List Role). record { first = b.first; roles = r })
    (roles_lane b.shares b.lanes d (lane_of vs es rest) e is
    ∙ ap (λ (r : Role). set (roles_of b.shares b.lanes) d (protected (patterns_of r ++ (pattern_of (lane_of vs es rest) ∷ []))))
    (sym (roles_read b.shares b.lanes d e ∙ ap (λ (s : Option ℕ). role_at s (get_or b.lanes d [])) is))
    ∙ ap (λ (s : List VertexSetting). set (roles_of b.shares b.lanes) d (protected (patterns_of (role_of (settings_of b) d) ++ (record { spots = s; edges = map edge_of es; rest = rest } ∷ [])))) (spots_back vs))

pub unset_at : (s : Option ℕ) (ls : List LaneView) → is_unset (role_at s ls) ≡ (no_share s && is_empty ls)
unset_at (Some n) ls = refl
unset_at None [] = refl
unset_at None (l ∷ ls) = refl

pub opened_at : (s : Option ℕ) (ls : List LaneView) → is_opened (role_at s ls) ≡ not (no_share s)
opened_at (Some n) ls = refl
opened_at None [] = refl
opened_at None (l ∷ ls) = refl

pub lanes_at : (ls : List LaneView) → length (patterns_of (role_at None ls)) ≡ length ls
lanes_at [] = refl
lanes_at (l ∷ ls) = ap suc (go ls)
  where
    go : (ls : List LaneView) → length (map pattern_of ls) ≡ length ls
    go [] = refl
    go (l ∷ ls) = ap suc (go ls)
