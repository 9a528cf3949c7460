-- The signs that spell a form: the grammar, form by form.
use Rattle.std.specs.Prelude.{◌≡◌, ℕ, List, [], ◌∷◌, Some, codes}
use Rattle.interface.specs.declared.Kind.{Kind}
use Rattle.interface.specs.declared.Kind.TheVariants.{Read, Write}
use Rattle.forms.specs.declared.values.Policy.{Policy}
use Rattle.forms.specs.declared.values.Policy.TheVariants.{FirstCome, Turns}
use Rattle.patterns.specs.declared.setting.VertexSetting.{VertexSetting}
use Rattle.patterns.specs.declared.setting.EdgeSetting.{EdgeSetting}
use Rattle.forms.specs.Signs.{Sign, opens, closes, word, number}
use Rattle.forms.specs.Contents.{Content, controller, share, lane, first, begin, submit, ticks}
use Rattle.forms.specs.Forms.{form_of}

abbrev pub policy_sign : Policy → Sign
policy_sign FirstCome = word (codes "come")
policy_sign Turns = word (codes "turns")

abbrev pub kind_sign : Kind → Sign
kind_sign Read = word (codes "R")
kind_sign Write = word (codes "W")

-- (name n), and then ts
abbrev pub field_before : List ℕ → ℕ → List Sign → List Sign
field_before name n ts = opens ∷ word name ∷ number n ∷ closes ∷ ts

-- (vertex B K)
abbrev pub vertex_signs : ℕ → Kind → List Sign → List Sign
vertex_signs b k ts = opens ∷ word (codes "vertex") ∷ number b ∷ kind_sign k ∷ closes ∷ ts

-- (edge F T W)
abbrev pub edge_signs : ℕ → ℕ → ℕ → List Sign → List Sign
edge_signs f t w ts = opens ∷ word (codes "edge") ∷ number f ∷ number t ∷ number w ∷ closes ∷ ts

abbrev pub vertices_before : List VertexSetting → List Sign → List Sign
vertices_before [] ts = ts
vertices_before (v ∷ vs) ts = vertex_signs v.bank v.kind (vertices_before vs ts)

abbrev pub edges_before : List EdgeSetting → List Sign → List Sign
edges_before [] ts = ts
edges_before (e ∷ es) ts = edge_signs e.source e.target e.weight (edges_before es ts)

abbrev pub spelled : Content → List Sign
spelled (controller p) = opens ∷ word (codes "controller") ∷ policy_sign p ∷ closes ∷ []
spelled (share s) = opens ∷ word (codes "open") ∷ number s.domain ∷ field_before (codes "share") s.slots (closes ∷ [])
spelled (lane d r vs es) = opens ∷ word (codes "lane") ∷ number d ∷ field_before (codes "rest") r (vertices_before vs (edges_before es (closes ∷ [])))
spelled (first n) = opens ∷ word (codes "first") ∷ number n ∷ closes ∷ []
spelled begin = opens ∷ word (codes "begin") ∷ closes ∷ []
spelled (submit s) = opens ∷ word (codes "submit") ∷ number s.domain ∷ field_before (codes "bank") s.bank (kind_sign s.kind ∷ field_before (codes "row") s.row (closes ∷ []))
spelled (ticks n) = opens ∷ word (codes "ticks") ∷ number n ∷ closes ∷ []

-- a line whose tokens spell a form reads as that form
abbrev pub ReadsBack : Type 0
ReadsBack = (f : Content) → form_of (spelled f) ≡ Some f
