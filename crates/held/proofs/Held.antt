-- What the calls of a holder are for the rows of a table.
use Rattle.std.proofs.Common.{◌≡◌, ℕ, suc, ◌<◌, ◌≤◌, Bool, true, false, not, cond, leb, List, [], ◌∷◌, ◌++◌, map, length, get_or, set, Some, None, Option, sym, refl, ap, ◌∙◌, arith, le-leb}
use lib.ListN.{length-map}
use Rattle.std.specs.List.{position}
use Rattle.interface.specs.Meaning.{any, has_slot, is_empty, check, in_range, accepted, take_refusal}
use Rattle.interface.specs.Slots.{place}
use Rattle.interface.specs.declared.Request.{Request}
use Rattle.interface.specs.declared.Event.TheVariants.{Issue}
use Rattle.interface.proofs.Loops.{get_d_any}
use Rattle.interface.proofs.Slots.{some_entries}
use Rattle.holder.specs.Holding.{Holding, admission, admitted, updated, replaced, with_event, with_dones}
use Rattle.holder.proofs.Holdings.{all_added_is}
use Rattle.holder.proofs.Places.{found_at, found_nowhere, place_is}
use Rattle.held.specs.declared.entries.Entry.{Entry}
use Rattle.held.specs.Entries.{request_of, new_entry, later, key, expired, dones, issued_now, candidate, next_of, issue_next, reading_of}
use Rattle.held.specs.Rows.{Rows, rows_of, table_meaning, with_request, passed, busy, issue_of, issue_oldest}
use Rattle.held.proofs.Stepping.{rows_path, length_dones}

-- ---- a take

-- a request is refused as by a controller that holds the readings
pub admission_is : (span : ℕ) (h : Holding Entry) (q : Request) → admission request_of 32 h (new_entry span q) ≡ take_refusal (table_meaning span) (rows_of h) q
admission_is span h q =
    ap (λ b. check (not (in_range q)) 17 (check b 18 (check (leb 32 (length h.entries)) 19 None))) (sym (some_entries key reading_of (λ e. refl) q.slot h.entries))
    ∙ ap (λ n. check (not (in_range q)) 17 (check (any (has_slot q.slot) (map reading_of h.entries)) 18 (check (leb 32 n) 19 None))) (sym (length-map h.entries reading_of))

accepted_rows : (o : Option ℕ) (g h : Holding Entry) → rows_of (accepted o g h) ≡ accepted o (rows_of g) (rows_of h)
accepted_rows None g h = refl
accepted_rows (Some n) g h = refl

pub take_is : (span : ℕ) (h g : Holding Entry) (q : Request) (e : Entry) → e ≡ new_entry span q → g ≡ accepted (admission request_of 32 h e) (admitted h e) h
    → rows_of g ≡ accepted (take_refusal (table_meaning span) (rows_of h) q) (with_request span q (rows_of h)) (rows_of h)
take_is span h g q e new after =
    ap rows_of (after ∙ ap (λ x. accepted (admission request_of 32 h x) (admitted h x) h) new)
    ∙ accepted_rows (admission request_of 32 h (new_entry span q)) (admitted h (new_entry span q)) h
    ∙ ap (λ o. accepted o (with_request span q (rows_of h)) (rows_of h)) (admission_is span h q)

-- ---- a step

-- there is room for its Dones
pub pass_is : (h : Holding Entry) → length h.entries ≤ 32 → not (is_empty h.events) ≡ false → rows_of (with_dones 33 request_of expired (updated later h)) ≡ accepted (busy (rows_of h)) (passed (rows_of h)) (rows_of h)
pass_is h few none = go h.events refl none
  where
    go : (evs : List _) → h.events ≡ evs → not (is_empty evs) ≡ false → rows_of (with_dones 33 request_of expired (updated later h)) ≡ accepted (busy (rows_of h)) (passed (rows_of h)) (rows_of h)
    go [] e k =
        let ds = dones (map later h.entries) in
        let most = length_dones (map later h.entries) in
        let same = length-map h.entries later in
        let nothing = ap length e in
        rows_path _ (passed (rows_of h)) refl (all_added_is 33 ds h.events (omega (arith, most, same, nothing, few)))
        ∙ ap (λ evs. accepted (check (not (is_empty evs)) 20 None) (passed (rows_of h)) (rows_of h)) (sym e)
    go (x ∷ evs) e k = let z : ◌≡◌ {A = ℕ} 0 1 = cc in absurd (omega arith)

-- ---- where the next of a class stands

at_place : (k : Request → Bool) (hs : List Entry) (d : Entry) → place (candidate k) hs < length hs
    → (next_of k hs ≡ Some (get_or hs (place (candidate k) hs) d)) × (issue_next k hs ≡ set hs (place (candidate k) hs) (issued_now (get_or hs (place (candidate k) hs) d)))
at_place k [] d h = absurd (omega arith)
at_place k (x ∷ hs) d h = go (candidate k x) h (at_place k hs d)
  where
    go : (b : Bool) → cond b 0 (suc (place (candidate k) hs)) < suc (length hs)
        → (place (candidate k) hs < length hs → (next_of k hs ≡ Some (get_or hs (place (candidate k) hs) d)) × (issue_next k hs ≡ set hs (place (candidate k) hs) (issued_now (get_or hs (place (candidate k) hs) d))))
        → (cond b (Some x) (next_of k hs) ≡ Some (get_or (x ∷ hs) (cond b 0 (suc (place (candidate k) hs))) d))
        × (cond b (issued_now x ∷ hs) (x ∷ issue_next k hs) ≡ set (x ∷ hs) (cond b 0 (suc (place (candidate k) hs))) (issued_now (get_or (x ∷ hs) (cond b 0 (suc (place (candidate k) hs))) d)))
    go true h ih = (refl, refl)
    go false h ih = let j = ih (omega arith) in (j.0, ap (λ l. x ∷ l) j.1)

no_place : (k : Request → Bool) (hs : List Entry) → length hs ≤ place (candidate k) hs → next_of k hs ≡ None
no_place k [] h = refl
no_place k (x ∷ hs) h = go (candidate k x) h (no_place k hs)
  where
    go : (b : Bool) → suc (length hs) ≤ cond b 0 (suc (place (candidate k) hs)) → (length hs ≤ place (candidate k) hs → next_of k hs ≡ None) → cond b (Some x) (next_of k hs) ≡ None
    go true h ih = absurd (omega arith)
    go false h ih = ih (omega arith)

-- the next is issued, where it stands
pub issue_found : (k : Request → Bool) (t : Rows) (i : ℕ) (e : Entry) → length t.events ≤ 32 → position (candidate k) t.entries ≡ Some i → e ≡ get_or t.entries i e
    → record { entries = set t.entries i (issued_now e); events = t.events ++ (Issue e.request.slot ∷ []) } ≡ issue_oldest k t
issue_found k t i e few p item =
    let f = found_at (candidate k) t.entries i p in
    let same = place_is (candidate k) t.entries in
    let there = at_place k t.entries e (omega (arith, f.1, same)) in
    let at : i ≡ place (candidate k) t.entries = f.0 ∙ same in
    let here : get_or t.entries (place (candidate k) t.entries) e ≡ e = ap (λ j. get_or t.entries j e) (sym at) ∙ sym item in
    let oldest : next_of k t.entries ≡ Some e = there.0 ∙ ap Some here in
    let room : leb (length t.events) 32 ≡ true = le-leb _ _ few in
    rows_path _ (issue_of k t (Some e)) (cc (at, here, there.1)) refl
    ∙ ap (issue_of k t) (sym oldest) ∙ ap (λ b. cond b (issue_of k t (next_of k t.entries)) t) (sym room)

-- the same, as the calls of a holder
pub issue_is : (k : Request → Bool) (h g : Holding Entry) (i : ℕ) (es : List Entry) (d : Entry) → length h.events ≤ 32 → position (candidate k) h.entries ≡ Some i → es ≡ h.entries
    → g ≡ with_event 33 (Issue (get_or es i d).request.slot) (replaced i (issued_now (get_or es i d)) h) → rows_of g ≡ issue_oldest k (rows_of h)
issue_is k h g i es d few p same went =
    let e = get_or es i d in
    let f = found_at (candidate k) h.entries i p in
    let item : e ≡ get_or h.entries i e = ap (λ xs. get_or xs i d) same ∙ get_d_any h.entries i d e (omega (arith, f.0, f.1)) in
    ap rows_of went
    ∙ rows_path _ (record { entries = set h.entries i (issued_now e); events = h.events ++ (Issue e.request.slot ∷ []) }) refl (all_added_is 33 (Issue e.request.slot ∷ []) h.events (omega (arith, few)))
    ∙ issue_found k (rows_of h) i e few p item

if_same : (b : Bool) (t : Rows) → cond b t t ≡ t
if_same true t = refl
if_same false t = refl

pub issue_absent : (k : Request → Bool) (t : Rows) → position (candidate k) t.entries ≡ None → t ≡ issue_oldest k t
issue_absent k t p =
    let far = found_nowhere (candidate k) t.entries p in
    let same = place_is (candidate k) t.entries in
    let none = no_place k t.entries (omega (arith, far, same)) in
    sym (if_same (leb (length t.events) 32) t) ∙ ap (λ o. cond (leb (length t.events) 32) (issue_of k t o) t) (sym none)
