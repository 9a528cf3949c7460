-- What the calls of a table do to its contents.
use Rattle.std.proofs.Common.{◌≡◌, Bool, true, false, cond, ◌||◌, List, [], ◌∷◌, ◌++◌, map, sym, refl, ap, ◌∙◌}
use Rattle.interface.specs.Meaning.{any, first, rest, is_empty}
use Rattle.interface.specs.Lawful.{issues, ends}
use Rattle.interface.specs.declared.Event.{Event}
use Rattle.interface.proofs.Bools.{or_right, or_assoc}
use Rattle.interface.specs.Slots.{dropped_by}
use borrow.Author.Tests.{both_ways}
use Rattle.layer.specs.declared.entry.Entry.{Entry}
use Rattle.layer.specs.Forwards.{forwarded}
use Rattle.layer.specs.Entries.{updated, slot_of_entry}
use Rattle.holder.specs.Holding.{Holding, all_added, with_event, updated as changed}
use Rattle.layer.specs.Contents.{Contents, contents_of, gathered, collected}

pub contents_path : (a b : Contents) → a.held ≡ b.held → a.events ≡ b.events → a ≡ b
contents_path a b p q = λ i. record { held = p i; events = q i }

-- ---- entries

pub entry_path : (a b : Entry) → a.request ≡ b.request → a.issued ≡ b.issued → a.done ≡ b.done → a.age ≡ b.age → a ≡ b
entry_path a b p q r s = λ i. record { request = p i; issued = q i; done = r i; age = s i }

updated_none : (e : Entry) → e ≡ updated [] e
updated_none e = entry_path e (updated [] e) refl (sym (or_right e.issued)) (sym (or_right e.done)) refl

pub any_append : {X : Type 0} (p : X → Bool) (xs ys : List X) → any p (xs ++ ys) ≡ (any p xs || any p ys)
any_append p [] ys = refl
any_append p (x ∷ xs) ys = ap (λ b. p x || b) (any_append p xs ys) ∙ sym (or_assoc (p x) (any p xs) (any p ys))

pub updated_append : (es ds : List Event) (e : Entry) → updated ds (updated es e) ≡ updated (es ++ ds) e
updated_append es ds e =
    entry_path (updated ds (updated es e)) (updated (es ++ ds) e) refl
    (or_assoc e.issued _ _ ∙ ap (λ b. e.issued || b) (sym (any_append (issues e.request.slot) es ds)))
    (or_assoc e.done _ _ ∙ ap (λ b. e.done || b) (sym (any_append (ends e.request.slot) es ds)))
    refl

map_same : (f : Entry → Entry) (ws : List Entry) → ((w : Entry) → w ≡ f w) → ws ≡ map f ws
map_same f [] e = refl
map_same f (w ∷ ws) e = ap (λ x. x ∷ ws) (e w) ∙ ap (λ l. f w ∷ l) (map_same f ws e)

pub map_fuse : (f g h : Entry → Entry) (ws : List Entry) → ((w : Entry) → f (g w) ≡ h w) → map f (map g ws) ≡ map h ws
map_fuse f g h [] e = refl
map_fuse f g h (w ∷ ws) e = ap (λ x. x ∷ map f (map g ws)) (e w) ∙ ap (λ l. h w ∷ l) (map_fuse f g h ws e)

-- ---- events

forwarded_one : (f : Event → Bool) (e : Event) (es out : List Event) (b : Bool) → all_added 64 (forwarded f es) (all_added 64 (cond b (e ∷ []) []) out) ≡ all_added 64 (cond b (e ∷ forwarded f es) (forwarded f es)) out
forwarded_one f e es out true = refl
forwarded_one f e es out false = refl

pub gathered_more : (f : Event → Bool) (e : Event) (es : List Event) (t : Contents) → gathered f es (gathered f (e ∷ []) t) ≡ gathered f (e ∷ es) t
gathered_more f e es t =
    contents_path (gathered f es (gathered f (e ∷ []) t)) (gathered f (e ∷ es) t)
    (map_fuse (updated es) (updated (e ∷ [])) (updated (e ∷ es)) t.held (updated_append (e ∷ []) es))
    (forwarded_one f e es t.events (f e))

pub gathered_none : (f : Event → Bool) (t : Contents) → t ≡ gathered f [] t
gathered_none f t = contents_path t (gathered f [] t) (map_same (updated []) t.held updated_none) refl

-- an event that is received, by whether it is handed on
received : (f : Event → Bool) (e : Event) (b : Bool) (es : List Event) (h g : Holding Entry) → f e ≡ b → contents_of g ≡ record { held = map (updated (e ∷ [])) h.entries; events = all_added 64 (cond b (e ∷ []) []) h.events }
    → gathered f es (contents_of g) ≡ gathered f (e ∷ es) (contents_of h)
received f e b es h g is new =
    ap (gathered f es) (new ∙ contents_path _ (gathered f (e ∷ []) (contents_of h)) refl (ap (λ v. all_added 64 (cond v (e ∷ []) []) h.events) (sym is)))
    ∙ gathered_more f e es (contents_of h)

pub handed_on : (f : Event → Bool) (e : Event) (es : List Event) (h g k : Holding Entry) → f e ≡ true → g ≡ changed (updated (e ∷ [])) h → k ≡ with_event 64 e g → gathered f es (contents_of k) ≡ gathered f (e ∷ es) (contents_of h)
handed_on f e es h g k is new more = received f e true es h k is (ap contents_of (more ∙ ap (with_event 64 e) new))

pub kept_back : (f : Event → Bool) (e : Event) (es : List Event) (h g : Holding Entry) → f e ≡ false → g ≡ changed (updated (e ∷ [])) h → gathered f es (contents_of g) ≡ gathered f (e ∷ es) (contents_of h)
kept_back f e es h g is new = received f e false es h g is (ap contents_of new)

-- ---- a collect

collect_none : (t : Contents) → is_empty t.events ≡ true → collected t ≡ t
collect_none t e = contents_path (collected t) t (ap (λ es. dropped_by slot_of_entry (first es) t.held) (nil t.events e)) (ap rest (nil t.events e) ∙ sym (nil t.events e))
  where
    nil : (es : List Event) → is_empty es ≡ true → es ≡ []
    nil [] e = refl
    nil (x ∷ es) e = absurd (both_ways false refl e)

-- a layer's collect is its table's, also where nothing is ready
pub collect_any : {S : Type 0} (put : Contents → S) (t : Contents) → cond (is_empty t.events) (put t) (put (collected t)) ≡ put (collected t)
collect_any put t = go (is_empty t.events) refl
  where
    go : (b : Bool) → is_empty t.events ≡ b → cond b (put t) (put (collected t)) ≡ put (collected t)
    go true e = ap put (sym (collect_none t e))
    go false e = refl
