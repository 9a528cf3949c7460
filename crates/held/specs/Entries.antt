-- The held requests in the order of taking, and how a step and an issue change them.
use Rattle.std.specs.Prelude.{◌≡◌, ℕ, zero, suc, ◌-◌, Bool, true, false, cond, ◌&&◌, List, [], ◌∷◌, Some, None, Option, ◌==◌, refl}
use Rattle.std.specs.Option.{is_some, is_none}
use Rattle.std.specs.List.{find}
use Rattle.interface.specs.Meaning.{Held}
use Rattle.interface.specs.Slots.{has_in, dones_of}
use Rattle.interface.specs.Codec.{Codec, number_codec, request_codec, both, via}
use Rattle.interface.specs.declared.Kind.{Kind}
use Rattle.interface.specs.declared.Kind.TheVariants.{Read, Write}
use Rattle.interface.specs.declared.Request.{Request}
use Rattle.interface.specs.declared.Event.{Event}
use Rattle.held.specs.declared.entries.Entry.{Entry}

-- ---- delays

-- From issue to Done: tRCD 11 + tCAS 11 + tBURST 4 for a read, and tRCD 11 + write delay 8 + tBURST 4 for a write.
abbrev pub done_delay : Kind → ℕ
done_delay Read = 26
done_delay Write = 23

-- the longer of the two
abbrev pub longest_delay : ℕ
longest_delay = 26

-- ---- one entry

abbrev pub request_of : Entry → Request
request_of e = e.request

abbrev pub new_entry : ℕ → Request → Entry
new_entry span q = record { request = q; until_done = None; left = span }

-- the entry when a step has passed: the steps until it is done, if it is issued, and those within which it is done, are fewer
abbrev pub sooner : Option ℕ → Option ℕ
sooner None = None
sooner (Some n) = Some (n - 1)

abbrev pub later : Entry → Entry
later e = record { request = e.request; until_done = sooner e.until_done; left = e.left - 1 }

abbrev pub issued_now : Entry → Entry
issued_now e = record { request = e.request; until_done = Some (done_delay e.request.kind); left = e.left }

abbrev pub is_waiting : Entry → Bool
is_waiting e = is_none e.until_done

abbrev pub is_issued : Entry → Bool
is_issued e = is_some e.until_done

-- the delay from issue to Done has run out
abbrev pub run_out : Option ℕ → Bool
run_out None = false
run_out (Some n) = n == 0

abbrev pub expired : Entry → Bool
expired e = run_out e.until_done

-- what the interface reads from an entry
abbrev pub reading_of : Entry → Held
reading_of e = record { request = e.request; issued = is_issued e; left = e.left }

-- ---- all entries

abbrev pub key : Entry → ℕ
key e = e.request.slot

abbrev pub has : ℕ → Entry → Bool
has = has_in key

-- a Done for each entry whose delay has run out
abbrev pub dones : List Entry → List Event
dones = dones_of key expired

-- ---- which requests may be issued: a class of requests

abbrev pub anyone : Request → Bool
anyone q = true

abbrev pub of_domain : ℕ → Request → Bool
of_domain d q = q.domain == d

-- one domain's, or anyone's
abbrev pub of_whom : Option ℕ → Request → Bool
of_whom None = anyone
of_whom (Some d) = of_domain d

-- an entry of the class that waits
abbrev pub candidate : (Request → Bool) → Entry → Bool
candidate k e = k e.request && is_waiting e

-- the oldest of these
abbrev pub next_of : (Request → Bool) → List Entry → Option Entry
next_of k = find (candidate k)

-- the same list, with that one issued
abbrev pub issue_next : (Request → Bool) → List Entry → List Entry
issue_next k [] = []
issue_next k (e ∷ es) = cond (candidate k e) (issued_now e ∷ es) (e ∷ issue_next k es)

-- ---- entries as numbers

abbrev countdown_code : Option ℕ → ℕ
countdown_code None = 0
countdown_code (Some n) = suc n

abbrev countdown_at : ℕ → Option ℕ
countdown_at zero = None
countdown_at (suc n) = Some n

pub countdown_back : (t : Option ℕ) → countdown_at (countdown_code t) ≡ t
countdown_back None = refl
countdown_back (Some n) = refl

unfoldable pub entry_codec : Codec Entry
entry_codec =
    via {Y = Entry} (λ p. record { request = p.0; until_done = p.1.0; left = p.1.1 }) (λ e. (e.request, (e.until_done, e.left))) (λ e. refl)
    (both request_codec (both (via countdown_at countdown_code countdown_back number_codec) number_codec))
