-- The lane: its head, its vertices, and then its edges, any number of each.
use Rattle.std.specs.Prelude.{ℕ, zero, suc, Bool, cond, List, [], ◌∷◌, ◌++◌, length, Some, None, vec_items, codes, ◌==◌}
use Rattle.std.specs.Str.{bytes_eq}
use Rattle.patterns.specs.declared.setting.VertexSetting.{VertexSetting}
use Rattle.patterns.specs.declared.setting.EdgeSetting.{EdgeSetting}
use Rattle.forms.specs.declared.values.Lane.{Lane}
use Rattle.forms.specs.declared.lanes.Head.{Head}
use Rattle.forms.specs.declared.lanes.Lists.{Lists as VecLists}
use Rattle.forms.specs.declared.lanes.Part.{Part}
use Rattle.forms.specs.declared.lanes.Part.TheVariants as part
use Rattle.forms.specs.Signs.{Sign, opens, closes, word, number, Parsed, uncons}
use Rattle.forms.specs.Parts.{then, number_in, word_in, close_in, kind_in, field_in}
use Rattle.forms.specs.Contents.{Content}
use Rattle.forms.specs.Contents as content

abbrev pub head_in : List Sign → Parsed Head
head_in ts =
    then (number_in ts) (λ d us.
    then (field_in (codes "rest") us) (λ n vs. Some (record { domain = d; rest = n }, vs)))

abbrev pub vertex_in : List Sign → Parsed Part
vertex_in ts =
    then (number_in ts) (λ b us.
    then (kind_in us) (λ k vs.
    then (close_in vs) (λ _ ws. Some (part.Vertex (record { bank = b; kind = k }), ws))))

abbrev pub edge_in : List Sign → Parsed Part
edge_in ts =
    then (number_in ts) (λ f us.
    then (number_in us) (λ t vs.
    then (number_in vs) (λ w ws.
    then (close_in ws) (λ _ xs. Some (part.Edge (record { source = f; target = t; weight = w }), xs)))))

-- a vertex or an edge, by its word
abbrev pub worded_part : List ℕ → List Sign → Parsed Part
worded_part w ts = cond (bytes_eq w (codes "vertex")) (vertex_in ts) (cond (bytes_eq w (codes "edge")) (edge_in ts) None)

abbrev pub inner_part_in : List Sign → Parsed Part
inner_part_in ts = then (word_in ts) worded_part

abbrev pub part_by : Sign → List Sign → Parsed Part
part_by opens ts = inner_part_in ts
part_by closes ts = Some (part.End, ts)
part_by (word w) ts = None
part_by (number n) ts = None

-- a vertex, an edge, or the bracket that ends the lane
abbrev pub part_in : List Sign → Parsed Part
part_in ts = then (uncons ts) part_by

abbrev pub no_edges : List EdgeSetting → Bool
no_edges es = length es == 0

-- vertices and edges
abbrev pub Lists : Type 0
Lists = List VertexSetting × List EdgeSetting

-- a part that comes after vertices vs and edges es, and then what k reads: a vertex does not come after an edge
abbrev pub with_part : Parsed Part → List VertexSetting → List EdgeSetting → (List VertexSetting → List EdgeSetting → List Sign → Parsed Lists) → Parsed Lists
with_part None vs es k = None
with_part (Some ((part.Vertex v), ts)) vs es k = cond (no_edges es) (k (vs ++ v ∷ []) es ts) None
with_part (Some ((part.Edge e), ts)) vs es k = k vs (es ++ e ∷ []) ts
with_part (Some (part.End, ts)) vs es k = Some ((vs, es), ts)

-- at most n parts
unfoldable pub lists_within : ℕ → List VertexSetting → List EdgeSetting → List Sign → Parsed Lists
lists_within zero vs es ts = None
lists_within (suc n) vs es ts = with_part (part_in ts) vs es (lists_within n)

-- a part has at least one sign, so that there are no more than signs
unfoldable pub lists_in : List VertexSetting → List EdgeSetting → List Sign → Parsed Lists
lists_in vs es ts = lists_within (length ts) vs es ts

abbrev pub lists_content : VecLists → Lists
lists_content l = (vec_items l.vertices, vec_items l.edges)

abbrev pub lane_content : Lane → Content
lane_content l = content.lane l.domain l.rest (vec_items l.vertices) (vec_items l.edges)

abbrev pub lane_in : List Sign → Parsed Content
lane_in ts =
    then (head_in ts) (λ h us.
    then (lists_in [] [] us) (λ l vs. Some (content.lane h.domain h.rest l.0 l.1, vs)))
