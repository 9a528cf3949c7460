-- Where there is room and a serial, a request joins, and gets its number; a domain that is not there stays away.
use Rattle.std.proofs.Common.{◌≡◌, ℕ, ◌^◌, ◌<◌, ◌≤◌, cond, ◌&&◌, List, length, get_or, set, ap, ◌∙◌}
use Rattle.std.specs.Prelude.{nat_lt}
use Rattle.std.proofs.lemmas.Bool.{lt-ltb}
use Rattle.interface.specs.declared.Kind.{Kind}
use Rattle.patterns.proofs.Places.{changed_past, placed}
use Rattle.board.proofs.Limits.{changed_at}
use Rattle.store.specs.Stores.{BacklogView, StoreView, no_backlog, backlog_at, with_backlog, queued, joined, counted, numbered}

pub joined_with_room : (b : ℕ) (k : Kind) (row : ℕ) (x : BacklogView) → length x.queue < 16 → x.serial < 10 ^ 18 → joined b k row x ≡ queued b k row x
joined_with_room b k row x room serial =
    ap (λ u. cond (u && nat_lt x.serial (10 ^ 18)) (queued b k row x) x) (lt-ltb (length x.queue) 16 room)
    ∙ ap (λ u. cond u (queued b k row x) x) (lt-ltb x.serial (10 ^ 18) serial)

pub numbered_with_serial : (x : BacklogView) → x.serial < 10 ^ 18 → numbered x ≡ counted x
numbered_with_serial x serial = ap (λ u. cond u (counted x) x) (lt-ltb x.serial (10 ^ 18) serial)

pub same_change : (f g : BacklogView → BacklogView) (d : ℕ) (s : StoreView) → f (backlog_at s d) ≡ g (backlog_at s d) → with_backlog f d s ≡ with_backlog g d s
same_change f g d s e = ap (λ (l : List BacklogView). record { backlogs = l; payloads = s.payloads }) (changed_at f g s.backlogs d no_backlog e)

pub no_such_domain : (f : BacklogView → BacklogView) (s : StoreView) (d : ℕ) → length s.backlogs ≤ d → s ≡ with_backlog f d s
no_such_domain f s d past = ap (λ (l : List BacklogView). record { backlogs = l; payloads = s.payloads }) (changed_past f s.backlogs d past)

pub that_domain : (f : BacklogView → BacklogView) (s : StoreView) (d : ℕ) (x y : BacklogView) → x ≡ get_or s.backlogs d x → y ≡ f x → record { backlogs = set s.backlogs d y; payloads = s.payloads } ≡ with_backlog f d s
that_domain f s d x y read is = ap (λ (l : List BacklogView). record { backlogs = l; payloads = s.payloads }) (placed f s.backlogs d x y read is)
