-- Calls that a layer makes to a controller below, and what they leave in its history.
use Rattle.std.proofs.Common.{◌≡◌, cond, List, [], ◌∷◌, ◌++◌, refl, ap, ◌∙◌}
use Rattle.interface.specs.Meaning.{Meaning, Call, after, run, rest, is_empty}
use Rattle.interface.specs.Lawful.{Lawful}
use Rattle.interface.specs.History.{History, noted, traced}
use Rattle.interface.specs.Emptied.{emptied}
use Rattle.interface.specs.declared.Event.{Event}
use Rattle.layer.specs.Collects.{collects}
use Rattle.layer.proofs.Synced.{collected_is}

pub traced_then : {S : Type 0} (m : Meaning S) (cs ds : List Call) (s : S) (h : History) → traced m (cs ++ ds) s h ≡ traced m ds (run m cs s) (traced m cs s h)
traced_then m [] ds s h = refl
traced_then m (c ∷ cs) ds s h = traced_then m cs ds (after m c s) (noted m c s h)

pub traced_collects : {S : Type 0} (m : Meaning S) (es : List Event) (s : S) (h : History) → traced m (collects es) s h ≡ h
traced_collects m [] s h = refl
traced_collects m (e ∷ es) s h = traced_collects m es (after m Call.collect s) h

pub run_collects : {S : Type 0} (m : Meaning S) → Lawful m → (es : List Event) (s : S) → m.ready s ≡ es → run m (collects es) s ≡ emptied m es s
run_collects m l [] s e = ap (λ fs. cond (is_empty fs) s (m.collected s)) e
run_collects m l (x ∷ es) s e = run_collects m l es (after m Call.collect s) (ap m.ready (collected_is m s (ap is_empty e)) ∙ l.collected_ready s ∙ ap rest e)
