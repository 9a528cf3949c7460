-- Runs: lists of calls to a new scheduler, and what is read off a run.
use Rattle.std.specs.Prelude.{ℕ, suc, ◌+◌, ◌*◌, max, Bool, true, false, cond, not, ◌&&◌, ◌||◌, List, [], ◌∷◌, map, length, filter, ◌==◌, nat_eq}
use Rattle.std.specs.List.{flat_map}
use Rattle.interface.specs.Meaning.{Meaning}
use Rattle.interface.specs.declared.Kind.{Kind}
use Rattle.patterns.specs.Due.{longest_round}
use Rattle.model.specs.Calls.{Setting, Call, sets, begins, submit, ticks, Reply, refused, good, serial, wrote, Running, State, new, next_tick, settled, outcome}
use Rattle.model.specs.Settings.{Pattern, Settings, blank, role_of, patterns_of, is_open}
use Rattle.model.specs.Ticks.{matches}
use Rattle.model.specs.declared.Line.{Line}
use Rattle.model.specs.declared.Notice.{Notice}
use Rattle.model.specs.declared.Waiting.{Waiting}

-- ---- traces

-- a call of a run, with the next tick's number, its reply and its lines on the bus
pub record Entry : Type 0 where
  pub tick : ℕ
  pub call : Call
  pub reply : Reply
  pub bus : List Line

-- what an observer sees of calls to a scheduler in this state
unfoldable pub trace : Meaning (List ℕ) → State → List Call → List Entry
trace m w [] = []
trace m w (a ∷ cs) = record { tick = next_tick w; call = a; reply = (outcome m w a).reply; bus = (outcome m w a).bus } ∷ trace m (outcome m w a).after cs

-- a run: any list of calls to one new scheduler, over a controller that was in state b
unfoldable pub run : Meaning (List ℕ) → List ℕ → List Call → List Entry
run m b cs = trace m (new m b) cs

-- the state that calls lead to
unfoldable pub state_after : Meaning (List ℕ) → State → List Call → State
state_after m w [] = w
state_after m w (a ∷ cs) = state_after m (outcome m w a).after cs

-- ---- settings and ticks

-- the accepted setting calls, in order
abbrev pub set_by : Call → Reply → List Setting
set_by (sets s) (refused k) = []
set_by (sets s) good = s ∷ []
set_by (sets s) (serial i) = []
set_by (sets s) (wrote l n) = []
set_by begins y = []
set_by (submit d b k row) y = []
set_by (ticks l n) y = []

abbrev pub settings : List Entry → List Setting
settings es = flat_map (λ e. set_by e.call e.reply) es

-- and what they set
unfoldable pub made_from : Settings → List Setting → Settings
made_from c [] = c
made_from c (s ∷ ss) = made_from (settled c s) ss

abbrev pub made : List Setting → Settings
made ss = made_from blank ss

-- the number of accepted ticks
abbrev pub one_more : Reply → ℕ → ℕ
one_more (refused k) n = n
one_more good n = n
one_more (serial i) n = n
one_more (wrote l m) n = suc n

abbrev pub tick_count : List Entry → ℕ
tick_count [] = 0
tick_count (e ∷ es) = one_more e.reply (tick_count es)

-- ---- the bus record

abbrev pub strike : Line → Line
strike l = record { letter = l.letter; tick = l.tick; domain = l.domain; slot = l.slot; bank = l.bank; kind = l.kind; row = 0 }

-- all lines in order, with rows struck out
abbrev pub bus_record : List Entry → List Line
bus_record es = flat_map (λ e. map strike e.bus) es

-- ---- takings

-- a request that was taken, with the next tick's number
pub record Taking : Type 0 where
  pub tick : ℕ
  pub domain : ℕ
  pub bank : ℕ
  pub kind : Kind

abbrev pub taking_of : Settings → ℕ → Call → Reply → List Taking
taking_of c n (submit d b k row) (serial i) = cond (is_open c d) (record { tick = n; domain = d; bank = b; kind = k } ∷ []) []
taking_of c n (submit d b k row) (refused j) = []
taking_of c n (submit d b k row) good = []
taking_of c n (submit d b k row) (wrote l m) = []
taking_of c n (sets s) y = []
taking_of c n begins y = []
taking_of c n (ticks l m) y = []

-- the requests taken of all open domains together, in order
abbrev pub open_takings : List Entry → List Taking
open_takings es = flat_map (λ e. taking_of (made (settings es)) e.tick e.call e.reply) es

-- ---- answers

-- what a domain is told: the result of a submit, at the next tick, or a notice, at its own
pub data Answer : Type 0 where
  result : ℕ → Reply → Answer
  notice : Notice → Answer

abbrev pub answers_from : ℕ → List Notice → List Answer
answers_from d ns = map notice (filter (λ m. nat_eq m.domain d) ns)

abbrev pub answers_in : ℕ → Reply → List Answer
answers_in d (refused k) = []
answers_in d good = []
answers_in d (serial i) = []
answers_in d (wrote l n) = answers_from d n

abbrev pub answer_of : ℕ → ℕ → Call → Reply → List Answer
answer_of d n (sets s) y = []
answer_of d n begins y = []
answer_of d n (submit e b k row) y = cond (e == d) (result n y ∷ []) []
answer_of d n (ticks l m) y = answers_in d y

-- a domain's answers, in order of coming
abbrev pub answers : ℕ → List Entry → List Answer
answers d es = flat_map (λ e. answer_of d e.tick e.call e.reply) es

-- ---- calls other than a domain's submits

abbrev pub not_from : ℕ → Call → Bool
not_from p (sets s) = true
not_from p begins = true
not_from p (submit d b k row) = not (d == p)
not_from p (ticks l m) = true

abbrev pub others : ℕ → List Call → List Call
others p cs = filter (not_from p) cs

-- ---- waits

-- how many of a queue have this bank and kind
abbrev pub older_waiting : ℕ → Kind → List Waiting → ℕ
older_waiting b k [] = 0
older_waiting b k (w ∷ ws) = cond (matches b k w) (suc (older_waiting b k ws)) (older_waiting b k ws)

-- R of a domain: the greatest of its lanes
abbrev pub domain_round : ℕ → List Pattern → ℕ
domain_round span [] = 0
domain_round span (p ∷ ps) = max (longest_round span (length p.spots) p.edges p.rest) (domain_round span ps)

-- 2 × (k + 1) × R + S, with k counted from the domain's queue as the submit finds it
abbrev pub wait_limit : ℕ → Settings → Running → ℕ → ℕ → Kind → ℕ
wait_limit span c x d b k = 2 * suc (older_waiting b k (x.tables.queue d)) * domain_round span (patterns_of (role_of c d)) + span

abbrev pub notices_in : Reply → List Notice
notices_in (refused k) = []
notices_in good = []
notices_in (serial i) = []
notices_in (wrote l n) = n

-- the ticks of the notices that answer the request of this domain and serial
abbrev pub answer_ticks : ℕ → ℕ → List Entry → List ℕ
answer_ticks d s es = flat_map (λ e. map (λ (m : Notice). m.tick) (filter (λ m. (m.domain == d) && m.serial == s) (notices_in e.reply))) es

-- tick n is accepted in this entry
abbrev pub accepts : ℕ → ℕ → Reply → Bool
accepts n t (refused k) = false
accepts n t good = false
accepts n t (serial i) = false
accepts n t (wrote l m) = t == n

-- tick n is accepted in the run
abbrev pub lasts : ℕ → List Entry → Bool
lasts n [] = false
lasts n (e ∷ es) = accepts n e.tick e.reply || lasts n es
