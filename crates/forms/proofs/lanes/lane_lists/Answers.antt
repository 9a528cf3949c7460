use Rattle.std.proofs.Common.{◌≡◌, true, false, rules, Some, vec_items, sym, ap, ◌∙◌}
use Rattle.forms.specs.Signs.{ahead}
use Rattle.forms.specs.Lanes.{lists_in, no_edges}
use Rattle.forms.proofs.Filling.{on_no_part, on_end, on_vertex, on_late_vertex, on_edge}
use Rattle.forms.proofs.lanes.lane_lists.Goals as goal

pub returns-in-None : goal.returns-in-None
returns-in-None c = on_no_part (vec_items c.part.vertices) (vec_items c.part.edges) (ahead c.part.lexer) c.in-None.ensures ∙ c.part.invariant

pub returns-in-Some-End : goal.returns-in-Some-End
returns-in-Some-End c =
    let us = ahead c.next_part.new.lexer in
    on_end (vec_items c.part.vertices) (vec_items c.part.edges) (ahead c.part.lexer) us (ap (λ p. Some (p, us)) (sym c.in-Some-End.field-0-is) ∙ c.in-Some-End.ensures) ∙ c.part.invariant

pub returns-then-not-is_empty : goal.returns-then-not-is_empty
returns-then-not-is_empty c =
    let late : no_edges (vec_items c.part.edges) ≡ false = search rules in
    let us = ahead c.next_part.new.lexer in
    on_late_vertex (vec_items c.part.vertices) (vec_items c.part.edges) (ahead c.part.lexer) c.in-Some-Vertex.vertex us (ap (λ p. Some (p, us)) (sym c.in-Some-Vertex.field-0-is) ∙ c.in-Some-Vertex.ensures) late ∙ c.part.invariant

pub part-preserved-in-Continue-1 : goal.part-preserved-in-Continue-1
part-preserved-in-Continue-1 c =
    let none : no_edges (vec_items c.part.edges) ≡ true = search rules in
    let us = ahead c.next_part.new.lexer in
    ap (λ vs. lists_in vs (vec_items c.part.edges) us) c.in_ok-push-in-Some-Vertex.ensures.items ∙
    on_vertex (vec_items c.part.vertices) (vec_items c.part.edges) (ahead c.part.lexer) c.in-Some-Vertex.vertex us (ap (λ p. Some (p, us)) (sym c.in-Some-Vertex.field-0-is) ∙ c.in-Some-Vertex.ensures) none ∙ c.part.invariant

pub part-preserved : goal.part-preserved
part-preserved c =
    let us = ahead c.next_part.new.lexer in
    ap (λ es. lists_in (vec_items c.part.vertices) es us) c.in_ok-push-in-Some-Edge.ensures.items ∙
    on_edge (vec_items c.part.vertices) (vec_items c.part.edges) (ahead c.part.lexer) c.in-Some-Edge.edge us (ap (λ p. Some (p, us)) (sym c.in-Some-Edge.field-0-is) ∙ c.in-Some-Edge.ensures) ∙ c.part.invariant
