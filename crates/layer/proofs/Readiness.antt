-- Requests that pass a test have their Done among the events that are ready.
use Rattle.std.proofs.Common.{◌≡◌, ℕ, Bool, true, false, cond, ◌||◌, eqb, List, [], ◌∷◌, ◌++◌, sym, refl, ap, ◌∙◌, eqb-true}
use borrow.Author.Tests.{both_ways}
use Rattle.interface.specs.Meaning.{any}
use Rattle.interface.specs.Lawful.{ends}
use Rattle.interface.specs.Slots.{dropped, dones_of}
use Rattle.interface.specs.declared.Request.{Request}
use Rattle.interface.specs.declared.Event.{Event}
use Rattle.interface.specs.declared.Event.TheVariants.{Issue, Done}
use Rattle.interface.proofs.Bools.{or_false, or_left, eqb_comm, same}
use Rattle.interface.proofs.Slots.{Apart, done_more}
use Rattle.layer.specs.declared.entry.Entry.{Entry}
use Rattle.layer.specs.Entries.{new_entry, slot_of_entry}
use Rattle.layer.proofs.Receiving.{has}

module _ (p : Entry → Bool) where
  abbrev pub Ready : List Event → List Entry → Type 0
  Ready es [] = Unit {0}
  Ready es (w ∷ ws) = (p w ≡ true → any (ends w.request.slot) es ≡ true) × Ready es ws

  pub ready_append : (es : List Event) (ws : List Entry) (q : Request) → p (new_entry q) ≡ false → Ready es ws → Ready es (ws ++ (new_entry q ∷ []))
  ready_append es [] q n r = (λ e. absurd (both_ways _ n e), tt)
  ready_append es (w ∷ ws) q n r = (r.0, ready_append es ws q n r.1)

  -- an Issue that is collected
  pub ready_issue : (n : ℕ) (es : List Event) (ws : List Entry) → Ready (Issue n ∷ es) ws → Ready es ws
  ready_issue n es [] r = tt
  ready_issue n es (w ∷ ws) r = (r.0, ready_issue n es ws r.1)

  ready_others : (n : ℕ) (es : List Event) (ws : List Entry) → any (has n) ws ≡ false → Ready (Done n ∷ es) ws → Ready es ws
  ready_others n es [] a r = tt
  ready_others n es (w ∷ ws) a r =
      let j = or_false (has n w) _ a in
      (λ e. sym (ap (λ b. b || any (ends w.request.slot) es) (eqb_comm n w.request.slot ∙ j.0)) ∙ r.0 e, ready_others n es ws j.1 r.1)

  ready_dropped_at : (n : ℕ) (es : List Event) (w : Entry) (ws : List Entry) (b : Bool) → has n w ≡ b → any (has w.request.slot) ws ≡ false → (p w ≡ true → (eqb n w.request.slot || any (ends w.request.slot) es) ≡ true)
      → Ready (Done n ∷ es) ws → Ready es (dropped slot_of_entry n ws) → Ready es (cond b ws (w ∷ dropped slot_of_entry n ws))
  ready_dropped_at n es w ws true k a r rs ih = ready_others n es ws (ap (λ j. any (has j) ws) (sym (eqb-true w.request.slot n k)) ∙ a) rs
  ready_dropped_at n es w ws false k a r rs ih = (λ e. sym (ap (λ b. b || any (ends w.request.slot) es) (eqb_comm n w.request.slot ∙ k)) ∙ r e, ih)

  -- a Done that is collected
  pub ready_dropped : (n : ℕ) (es : List Event) (ws : List Entry) → Apart slot_of_entry ws → Ready (Done n ∷ es) ws → Ready es (dropped slot_of_entry n ws)
  ready_dropped n es [] a r = tt
  ready_dropped n es (w ∷ ws) a r = ready_dropped_at n es w ws (has n w) refl a.0 r.0 r.1 (ready_dropped n es ws a.1 r.1)

  -- events among which are the Dones of all that pass
  pub ready_dones : (ds : List Event) (ws : List Entry) → ((n : ℕ) → any (ends n) (dones_of slot_of_entry p ws) ≡ true → any (ends n) ds ≡ true) → Ready ds ws
  ready_dones ds [] h = tt
  ready_dones ds (w ∷ ws) h = (
    λ e. h w.request.slot (ap (λ b. any (ends w.request.slot) (cond b (Done w.request.slot ∷ dones_of slot_of_entry p ws) (dones_of slot_of_entry p ws))) e ∙ or_left _ _ (same w.request.slot)),
    ready_dones ds ws (λ n e. h n (done_more n w.request.slot (p w) (dones_of slot_of_entry p ws) e)),
  )
