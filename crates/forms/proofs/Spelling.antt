-- What spells a form reads as that form.
use Rattle.std.proofs.Common.{◌≡◌, ℕ, List, [], ◌∷◌, ◌++◌, Some, sym, refl, ap, ◌∙◌, append_assoc, append-nil}
use Rattle.interface.specs.declared.Kind.{Kind}
use Rattle.interface.specs.declared.Kind.TheVariants.{Read, Write}
use Rattle.forms.specs.declared.values.Policy.TheVariants.{FirstCome, Turns}
use Rattle.patterns.specs.declared.setting.VertexSetting.{VertexSetting}
use Rattle.patterns.specs.declared.setting.EdgeSetting.{EdgeSetting}
use Rattle.forms.specs.declared.lanes.Part.TheVariants as part
use Rattle.forms.specs.Signs.{Sign, closes}
use Rattle.forms.specs.Contents.{controller, share, lane, first, begin, submit, ticks}
use Rattle.forms.specs.Parts.{then}
use Rattle.forms.specs.Lanes.{part_in, lists_in, Lists}
use Rattle.forms.specs.Forms.{form_of, all_of}
use Rattle.forms.specs.Spelling.{spelled, vertex_signs, vertices_before, edges_before, ReadsBack}
use Rattle.forms.proofs.Filling.{on_end, on_vertex, on_edge}

vertex_part : (b : ℕ) (k : Kind) (ts : List Sign) → Some (part.Vertex (record { bank = b; kind = k }), ts) ≡ part_in (vertex_signs b k ts)
vertex_part b Read ts = refl
vertex_part b Write ts = refl

vertices : (us vs : List VertexSetting) (ts : List Sign) → lists_in us [] (vertices_before vs ts) ≡ lists_in (us ++ vs) [] ts
vertices us [] ts = ap (λ xs. lists_in xs [] ts) (sym (append-nil us))
vertices us (v ∷ vs) ts =
    sym (on_vertex us [] (vertices_before (v ∷ vs) ts) v (vertices_before vs ts) (vertex_part v.bank v.kind (vertices_before vs ts)) refl)
    ∙ vertices (us ++ v ∷ []) vs ts ∙ ap (λ xs. lists_in xs [] ts) (append_assoc us (v ∷ []) vs)

edges : (us : List VertexSetting) (ds es : List EdgeSetting) (ts : List Sign) → lists_in us ds (edges_before es ts) ≡ lists_in us (ds ++ es) ts
edges us ds [] ts = ap (λ xs. lists_in us xs ts) (sym (append-nil ds))
edges us ds (e ∷ es) ts =
    sym (on_edge us ds (edges_before (e ∷ es) ts) e (edges_before es ts) refl)
    ∙ edges us (ds ++ e ∷ []) es ts ∙ ap (λ xs. lists_in us xs ts) (append_assoc ds (e ∷ []) es)

lists : (vs : List VertexSetting) (es : List EdgeSetting) → lists_in [] [] (vertices_before vs (edges_before es (closes ∷ []))) ≡ Some ((vs, es), [])
lists vs es = vertices [] vs (edges_before es (closes ∷ [])) ∙ edges vs [] es (closes ∷ []) ∙ sym (on_end vs es (closes ∷ []) [] refl)

submitted : (d b : ℕ) (k : Kind) (r : ℕ) → form_of (spelled (submit (record { domain = d; bank = b; kind = k; row = r }))) ≡ Some (submit (record { domain = d; bank = b; kind = k; row = r }))
submitted d b Read r = refl
submitted d b Write r = refl

pub reads_back : ReadsBack
reads_back (controller FirstCome) = refl
reads_back (controller Turns) = refl
reads_back (share s) = refl
reads_back (lane d r vs es) = ap (λ o. all_of (then o (λ (l : Lists) ts. Some (lane d r l.0 l.1, ts)))) (lists vs es)
reads_back (first n) = refl
reads_back begin = refl
reads_back (submit s) = submitted s.domain s.bank s.kind s.row
reads_back (ticks n) = refl
