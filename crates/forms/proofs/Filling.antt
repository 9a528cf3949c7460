-- The lists of a lane are its next part before the lists behind it.
use Rattle.std.proofs.Common.{◌≡◌, ℕ, zero, suc, ◌<◌, ◌≤◌, Bool, true, false, cond, List, [], ◌∷◌, ◌++◌, length, Some, None, codes, Option, sym, refl, ap, ◌∙◌, subst, arith}
use Rattle.std.specs.Str.{bytes_eq}
use Rattle.patterns.specs.declared.setting.VertexSetting.{VertexSetting}
use Rattle.patterns.specs.declared.setting.EdgeSetting.{EdgeSetting}
use Rattle.forms.specs.declared.lanes.Part.{Part}
use Rattle.forms.specs.declared.lanes.Part.TheVariants as part
use Rattle.forms.specs.Signs.{Sign, opens, closes, word, number, Parsed, parsed}
use Rattle.forms.specs.Parts.{then, one, closed, the_number, the_word, kind_of_word, number_in, word_in, close_in, kind_in}
use Rattle.forms.specs.Lanes.{vertex_in, edge_in, worded_part, inner_part_in, part_in, no_edges, Lists, with_part, lists_within, lists_in}

-- fewer than n signs are left
abbrev pub Shorter : {A : Type 0} → ℕ → Parsed A → Type 0
Shorter n None = Unit {0}
Shorter n (Some p) = length p.1 < n

here : {A : Type 0} (o : Option A) (n : ℕ) (us : List Sign) → length us < n → Shorter n (parsed o us)
here None n us h = tt
here (Some x) n us h = h

one_shorter : {A : Type 0} (f : Sign → Option A) (n : ℕ) (ts : List Sign) → length ts ≤ n → Shorter n (one f ts)
one_shorter f n [] h = tt
one_shorter f n (t ∷ ts) h = here (f t) n ts (omega arith)

then_shorter : {A B : Type 0} (n : ℕ) (o : Parsed A) (k : A → List Sign → Parsed B) → Shorter n o → ((x : A) (us : List Sign) → length us < n → Shorter n (k x us)) → Shorter n (then o k)
then_shorter n None k h g = tt
then_shorter n (Some p) k h g = g p.0 p.1 h

kind_shorter : (n : ℕ) (ts : List Sign) → length ts ≤ n → Shorter n (kind_in ts)
kind_shorter n ts h = then_shorter n (word_in ts) (λ w us. parsed (kind_of_word w) us) (one_shorter the_word n ts h) (λ w us l. here (kind_of_word w) n us l)

close_then : {A : Type 0} (x : A) (n : ℕ) (ts : List Sign) → length ts ≤ n → Shorter n (then (close_in ts) (λ _ us. Some (x, us)))
close_then x n ts h = then_shorter n (close_in ts) (λ _ us. Some (x, us)) (one_shorter closed n ts h) (λ _ us l. l)

vertex_shorter : (n : ℕ) (ts : List Sign) → length ts ≤ n → Shorter n (vertex_in ts)
vertex_shorter n ts h =
    then_shorter n (number_in ts) _ (one_shorter the_number n ts h) (λ b us l.
    then_shorter n (kind_in us) _ (kind_shorter n us (omega arith)) (λ k vs m.
    close_then (part.Vertex (record { bank = b; kind = k })) n vs (omega arith)))

edge_shorter : (n : ℕ) (ts : List Sign) → length ts ≤ n → Shorter n (edge_in ts)
edge_shorter n ts h =
    then_shorter n (number_in ts) _ (one_shorter the_number n ts h) (λ f us l.
    then_shorter n (number_in us) _ (one_shorter the_number n us (omega arith)) (λ t vs m.
    then_shorter n (number_in vs) _ (one_shorter the_number n vs (omega arith)) (λ w ws o.
    close_then (part.Edge (record { source = f; target = t; weight = w })) n ws (omega arith))))

either : {A : Type 0} (n : ℕ) (b c : Bool) (x y : Parsed A) → Shorter n x → Shorter n y → Shorter n (cond b x (cond c y None))
either n true c x y p q = p
either n false true x y p q = q
either n false false x y p q = tt

inner_shorter : (n : ℕ) (ts : List Sign) → length ts ≤ n → Shorter n (inner_part_in ts)
inner_shorter n ts h =
    then_shorter n (word_in ts) worded_part (one_shorter the_word n ts h) (λ w us l.
    either n (bytes_eq w (codes "vertex")) (bytes_eq w (codes "edge")) (vertex_in us) (edge_in us) (vertex_shorter n us (omega arith)) (edge_shorter n us (omega arith)))

part_shorter : (ts : List Sign) → Shorter (length ts) (part_in ts)
part_shorter [] = tt
part_shorter (opens ∷ ts) = inner_shorter (suc (length ts)) ts (omega arith)
part_shorter (closes ∷ ts) = omega arith
part_shorter (word w ∷ ts) = tt
part_shorter (number n ∷ ts) = tt

-- what comes after a part is looked at with fewer signs only
with_part_same : (o : Parsed Part) (n : ℕ) → Shorter n o → (vs : List VertexSetting) (es : List EdgeSetting) (k j : List VertexSetting → List EdgeSetting → List Sign → Parsed Lists) → ((vs : List VertexSetting) (es : List EdgeSetting) (ts : List Sign) → length ts < n → k vs es ts ≡ j vs es ts) → with_part o vs es k ≡ with_part o vs es j
with_part_same None n s vs es k j h = refl
with_part_same (Some ((part.Vertex v), ts)) n s vs es k j h = ap (λ x. cond (no_edges es) x None) (h (vs ++ v ∷ []) es ts s)
with_part_same (Some ((part.Edge e), ts)) n s vs es k j h = h vs (es ++ e ∷ []) ts s
with_part_same (Some (part.End, ts)) n s vs es k j h = refl

enough : (m n : ℕ) (vs : List VertexSetting) (es : List EdgeSetting) (ts : List Sign) → length ts ≤ m → length ts ≤ n → lists_within m vs es ts ≡ lists_within n vs es ts
unfolding lists_within
enough zero zero vs es ts p q = refl
enough zero (suc n) vs es [] p q = refl
enough zero (suc n) vs es (t ∷ ts) p q = absurd (omega arith)
enough (suc m) zero vs es [] p q = refl
enough (suc m) zero vs es (t ∷ ts) p q = absurd (omega arith)
enough (suc m) (suc n) vs es ts p q =
    with_part_same (part_in ts) (length ts) (part_shorter ts) vs es (lists_within m) (lists_within n) (λ us fs ws l. enough m n us fs ws (omega arith) (omega arith))

lists_next : (vs : List VertexSetting) (es : List EdgeSetting) (ts : List Sign) → lists_in vs es ts ≡ with_part (part_in ts) vs es lists_in
unfolding lists_in lists_within
lists_next vs es ts =
    enough (length ts) (suc (length ts)) vs es ts (omega arith) (omega arith) ∙
    with_part_same (part_in ts) (length ts) (part_shorter ts) vs es (lists_within (length ts)) lists_in (λ us fs ws l. enough (length ts) (length ws) us fs ws (omega arith) (omega arith))

module _ (vs : List VertexSetting) (es : List EdgeSetting) (ts : List Sign) where
  by_part : (o : Parsed Part) → o ≡ part_in ts → with_part o vs es lists_in ≡ lists_in vs es ts
  by_part o e = ap (λ q. with_part q vs es lists_in) e ∙ sym (lists_next vs es ts)

  pub on_no_part : None ≡ part_in ts → None ≡ lists_in vs es ts
  on_no_part e = by_part None e

  pub on_end : (us : List Sign) → Some (part.End, us) ≡ part_in ts → Some ((vs, es), us) ≡ lists_in vs es ts
  on_end us e = by_part (Some (part.End, us)) e

  pub on_vertex : (v : VertexSetting) (us : List Sign) → Some (part.Vertex v, us) ≡ part_in ts → no_edges es ≡ true → lists_in (vs ++ v ∷ []) es us ≡ lists_in vs es ts
  on_vertex v us e t = sym (ap (λ b. cond b (lists_in (vs ++ v ∷ []) es us) None) t) ∙ by_part (Some (part.Vertex v, us)) e

  pub on_late_vertex : (v : VertexSetting) (us : List Sign) → Some (part.Vertex v, us) ≡ part_in ts → no_edges es ≡ false → None ≡ lists_in vs es ts
  on_late_vertex v us e t = sym (ap (λ b. cond b (lists_in (vs ++ v ∷ []) es us) None) t) ∙ by_part (Some (part.Vertex v, us)) e

  pub on_edge : (e : EdgeSetting) (us : List Sign) → Some (part.Edge e, us) ≡ part_in ts → lists_in vs (es ++ e ∷ []) us ≡ lists_in vs es ts
  on_edge e us is = by_part (Some (part.Edge e, us)) is

  pub less : (p : Part) (us : List Sign) → Some (p, us) ≡ part_in ts → length us < length ts
  less p us e = subst (Shorter (length ts)) (sym e) (part_shorter ts)
