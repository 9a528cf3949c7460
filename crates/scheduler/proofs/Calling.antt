-- Any call of a run: what it answers and leaves, and how it extends the run before it.
use Rattle.std.proofs.Common.{◌≡◌, ℕ, ◌≤◌, min, ◌||◌, ltb, leb, List, [], ◌∷◌, ◌++◌, length, take, Some, None, Ok, Err, Option, Result, sym, refl, ap, ◌∙◌, subst, arith}
use Rattle.std.proofs.lemmas.Bool.{ltb-false}
use Rattle.std.specs.List.{AllByRecursion}
use Rattle.interface.specs.Lawful.{Lawful}
use Rattle.interface.specs.Meaning.{Meaning, check}
use Rattle.model.specs.declared.Line.{Line}
use Rattle.model.specs.declared.Notice.{Notice}
use Rattle.model.specs.declared.Refusal.{Refusal}
use Rattle.model.specs.Refusals.{number}
use Rattle.model.specs.Settings.{Settings}
use Rattle.model.specs.Calls.{Setting, sets, begins, submit, ticks, Reply, refused, good, serial, wrote, State, setting, running, Running, Outcome, new, next_tick, limit, setting_refusal, submit_refusal, tick_refusal, unless, outcome}
use Rattle.model.specs.Calls as model
use Rattle.run_laws.specs.Laws.{SmallEntry, SmallReply}
use Rattle.run_laws.specs.Runs.{Entry, trace, run, state_after, notices_in}
use Rattle.run_laws.proofs.Bounds.{limits}
use Rattle.run_laws.proofs.Service.{trace_append}
use Rattle.store.specs.Pages.{filled}
use Rattle.store.proofs.Filling.{filled_none, filled_front}
use Rattle.board.proofs.Limits.{or_false}
use Rattle.patterns.proofs.Checks.{passes}
use Rattle.scheduler.specs.declared.call.Call.{Call}
use Rattle.scheduler.specs.declared.call.Call.TheVariants.{Open, Lane, First, Begin, Submit, Tick}
use Rattle.scheduler.specs.declared.call.Answer.{Answer}
use Rattle.scheduler.specs.declared.call.Answer.TheVariants.{Accepted, Taken, Ticked}
use Rattle.scheduler.specs.Histories.{made_call, told, seen, Extends}
use Rattle.scheduler.specs.Schedulers.{Told, counts, told_of, lines_in, replied, serial_reply}

-- ---- one kind of call

module _ (m : Meaning (List ℕ)) (w : State) (l n : ℕ) (call : Call) (k : model.Call) (made : made_call l n call ≡ k) where
  pub told_at : (t : Told) (y : Reply) → t ≡ told_of l n y → y ≡ (outcome m w k).reply → t ≡ told_of l n (outcome m w (made_call l n call)).reply
  told_at t y e f = e ∙ ap (told_of l n) f ∙ ap (λ (c : model.Call). told_of l n (outcome m w c).reply) (sym made)

  pub tick_told_at : (t : Told) → t ≡ told_of l n (outcome m w k).reply → t ≡ told_of l n (outcome m w (made_call l n call)).reply
  tick_told_at t e = e ∙ ap (λ (c : model.Call). told_of l n (outcome m w c).reply) (sym made)

  pub after_at : (v : State) → v ≡ (outcome m w k).after → v ≡ (outcome m w (made_call l n call)).after
  after_at v e = e ∙ ap (λ (c : model.Call). (outcome m w c).after) (sym made)

  pub lines_at : (ls ls' : List Line) → ls' ≡ filled (lines_in (outcome m w k).reply) ls → ls' ≡ filled (lines_in (outcome m w (made_call l n call)).reply) ls
  lines_at ls ls' e = e ∙ ap (λ (c : model.Call). filled (lines_in (outcome m w c).reply) ls) (sym made)

  pub notices_at : (ns ns' : List Notice) → ns' ≡ filled (notices_in (outcome m w k).reply) ns → ns' ≡ filled (notices_in (outcome m w (made_call l n call)).reply) ns
  notices_at ns ns' e = e ∙ ap (λ (c : model.Call). filled (notices_in (outcome m w c).reply) ns) (sym made)

  -- a reply that writes nothing leaves the buffers as they are
  pub quiet_lines : (y : Reply) (ls : List Line) → lines_in y ≡ [] → y ≡ (outcome m w k).reply → ls ≡ filled (lines_in (outcome m w (made_call l n call)).reply) ls
  quiet_lines y ls none e = lines_at ls ls (sym (filled_none ls) ∙ ap (λ (xs : List Line). filled xs ls) (sym none) ∙ ap (λ (x : Reply). filled (lines_in x) ls) e)

  pub quiet_notices : (y : Reply) (ns : List Notice) → notices_in y ≡ [] → y ≡ (outcome m w k).reply → ns ≡ filled (notices_in (outcome m w (made_call l n call)).reply) ns
  quiet_notices y ns none e = notices_at ns ns (sym (filled_none ns) ∙ ap (λ (xs : List Notice). filled xs ns) (sym none) ∙ ap (λ (x : Reply). filled (notices_in x) ns) e)

pub set_lines : {T : Type 0} (r : Result T Refusal) → lines_in (replied r) ≡ []
set_lines (Ok x) = refl
set_lines (Err e) = refl

pub set_notices : {T : Type 0} (r : Result T Refusal) → notices_in (replied r) ≡ []
set_notices (Ok x) = refl
set_notices (Err e) = refl

pub serial_lines : (r : Result ℕ Refusal) → lines_in (serial_reply r) ≡ []
serial_lines (Ok i) = refl
serial_lines (Err e) = refl

pub serial_notices : (r : Result ℕ Refusal) → notices_in (serial_reply r) ≡ []
serial_notices (Ok i) = refl
serial_notices (Err e) = refl

-- ---- where something is written, the buffers were large enough

unless_wrote : (o : Option ℕ) (w : State) (t : Outcome) (ls : List Line) (ns : List Notice) → (unless o w t).reply ≡ wrote ls ns → o ≡ None
unless_wrote None w t ls ns e = refl
unless_wrote (Some k) w t ls ns e = let z : ◌≡◌ {A = ℕ} 0 1 = (cc) in absurd (omega arith)

module _ (m : Meaning (List ℕ)) (l n : ℕ) (ls : List Line) (ns : List Notice) where
  no_setting : (c : Settings) (s : List ℕ) (z : Setting) → (outcome m (setting c s) (sets z)).reply ≡ wrote ls ns → ◌≡◌ {A = ℕ} 0 1
  unfolding outcome
  no_setting c s z e = go (setting_refusal (m.places s) c z) e
    where
      go : (o : Option ℕ) → (unless o (setting c s) (record { after = setting (model.settled c z) s; reply = good; bus = [] })).reply ≡ wrote ls ns → ◌≡◌ {A = ℕ} 0 1
      go None e = (cc)
      go (Some k) e = (cc)

  no_submit : (c : Settings) (x : Running) (d b : ℕ) (k : _) (row : ℕ) → (outcome m (running c x) (submit d b k row)).reply ≡ wrote ls ns → ◌≡◌ {A = ℕ} 0 1
  unfolding outcome
  no_submit c x d b k row e = go (submit_refusal c x d b k row) e
    where
      go : (o : Option ℕ) → (unless o (running c x) (model.submit_outcome m c x d b k row)).reply ≡ wrote ls ns → ◌≡◌ {A = ℕ} 0 1
      go None e = (cc)
      go (Some j) e = (cc)

  tick_room : (w : State) → (outcome m w (ticks l n)).reply ≡ wrote ls ns → (96 ≤ l) × (32 ≤ n)
  unfolding outcome tick_refusal
  tick_room (setting c s) e = let z : ◌≡◌ {A = ℕ} 0 1 = (cc) in absurd (omega arith)
  tick_room (running c x) e =
      let none = unless_wrote (tick_refusal x l n) (running c x) (model.tick_outcome m c x) ls ns e in
      let p = passes (ltb l 96 || ltb n 32) 15 (check (leb limit x.tick) 16 None) none in
      let q = or_false (ltb l 96) (ltb n 32) p.0 in
      (ltb-false l 96 q.0, ltb-false n 32 q.1)

  sets_none : (w : State) (z : Setting) → (outcome m w (sets z)).reply ≡ wrote ls ns → ◌≡◌ {A = ℕ} 0 1
  unfolding outcome
  sets_none (setting c s) z e = no_setting c s z e
  sets_none (running c x) z e = (cc)

  begin_none : (w : State) → (outcome m w begins).reply ≡ wrote ls ns → ◌≡◌ {A = ℕ} 0 1
  unfolding outcome
  begin_none (setting c s) e = (cc)
  begin_none (running c x) e = (cc)

  submit_none : (w : State) (d b : ℕ) (k : _) (row : ℕ) → (outcome m w (submit d b k row)).reply ≡ wrote ls ns → ◌≡◌ {A = ℕ} 0 1
  unfolding outcome
  submit_none (setting c s) d b k row e = (cc)
  submit_none (running c x) d b k row e = no_submit c x d b k row e

  pub room : (w : State) (call : Call) → (outcome m w (made_call l n call)).reply ≡ wrote ls ns → (96 ≤ l) × (32 ≤ n)
  room w (Open d share) e = let z = sets_none w _ e in absurd (omega (arith, z))
  room w (Lane d s) e = let z = sets_none w _ e in absurd (omega (arith, z))
  room w (First t) e = let z = sets_none w _ e in absurd (omega (arith, z))
  room w Begin e = let z = begin_none w e in absurd (omega (arith, z))
  room w (Submit d b k row) e = let z = submit_none w d b k row e in absurd (omega (arith, z))
  room w Tick e = tick_room w e

-- ---- what the caller sees is the reply

-- what is written fits the buffers
abbrev Fits : ℕ → ℕ → Reply → Type 0
Fits l n y = (ls : List Line) (ns : List Notice) → y ≡ wrote ls ns → (length ls ≤ l) × (length ns ≤ n)

module _ (lb : List Line) (nb : List Notice) where
  written_seen : (i j : ℕ) (ls : List Line) (ns : List Notice) → length ls ≤ length lb → length ns ≤ length nb → counts i j ≡ counts (min (length ls) (length lb)) (min (length ns) (length nb))
      → wrote (take i (filled ls lb)) (take j (filled ns nb)) ≡ wrote ls ns
  written_seen i j ls ns p q e =
      let a : i ≡ min (length ls) (length lb) = (cc) in
      let b : j ≡ min (length ns) (length nb) = (cc) in
      let a' : i ≡ length ls = omega (arith, a, p) in
      let b' : j ≡ length ns = omega (arith, b, q) in
      ap (λ k. wrote (take k (filled ls lb)) (take j (filled ns nb))) a'
      ∙ ap (λ (x : List Line). wrote x (take j (filled ns nb))) (filled_front ls lb p)
      ∙ ap (λ k. wrote ls (take k (filled ns nb))) b'
      ∙ ap (wrote ls) (filled_front ns nb q)

  seen_go : (r : Result Answer Refusal) (y : Reply) → told r ≡ told_of (length lb) (length nb) y → Fits (length lb) (length nb) y → seen r (filled (lines_in y) lb) (filled (notices_in y) nb) ≡ y
  seen_go (Ok Accepted) (refused k) e f = let z : ◌≡◌ {A = ℕ} 0 1 = (cc) in absurd (omega arith)
  seen_go (Ok Accepted) good e f = refl
  seen_go (Ok Accepted) (serial i) e f = let z : ◌≡◌ {A = ℕ} 0 1 = (cc) in absurd (omega arith)
  seen_go (Ok Accepted) (wrote ls ns) e f = let z : ◌≡◌ {A = ℕ} 0 1 = (cc) in absurd (omega arith)
  seen_go (Ok (Taken j)) (refused k) e f = let z : ◌≡◌ {A = ℕ} 0 1 = (cc) in absurd (omega arith)
  seen_go (Ok (Taken j)) good e f = let z : ◌≡◌ {A = ℕ} 0 1 = (cc) in absurd (omega arith)
  seen_go (Ok (Taken j)) (serial i) e f = let z : j ≡ i = (cc) in ap serial z
  seen_go (Ok (Taken j)) (wrote ls ns) e f = let z : ◌≡◌ {A = ℕ} 0 1 = (cc) in absurd (omega arith)
  seen_go (Ok (Ticked i j)) (refused k) e f = let z : ◌≡◌ {A = ℕ} 0 1 = (cc) in absurd (omega arith)
  seen_go (Ok (Ticked i j)) good e f = let z : ◌≡◌ {A = ℕ} 0 1 = (cc) in absurd (omega arith)
  seen_go (Ok (Ticked i j)) (serial s) e f = let z : ◌≡◌ {A = ℕ} 0 1 = (cc) in absurd (omega arith)
  seen_go (Ok (Ticked i j)) (wrote ls ns) e f = let p = f ls ns refl in written_seen i j ls ns p.0 p.1 e
  seen_go (Err x) (refused k) e f = let z : number x ≡ k = (cc) in ap refused z
  seen_go (Err x) good e f = let z : ◌≡◌ {A = ℕ} 0 1 = (cc) in absurd (omega arith)
  seen_go (Err x) (serial i) e f = let z : ◌≡◌ {A = ℕ} 0 1 = (cc) in absurd (omega arith)
  seen_go (Err x) (wrote ls ns) e f = let z : ◌≡◌ {A = ℕ} 0 1 = (cc) in absurd (omega arith)

  pub seen_is : (r : Result Answer Refusal) (y : Reply) (lb' : List Line) (nb' : List Notice) → told r ≡ told_of (length lb) (length nb) y → lb' ≡ filled (lines_in y) lb → nb' ≡ filled (notices_in y) nb → Fits (length lb) (length nb) y → seen r lb' nb' ≡ y
  seen_is r y lb' nb' e p q f = ap (λ (x : List Line). seen r x nb') p ∙ ap (seen r (filled (lines_in y) lb)) q ∙ seen_go r y e f

-- ---- the run goes on

last_of : {X : Type 0} (P : X → Type 0) (xs : List X) (x : X) → AllByRecursion P (xs ++ (x ∷ [])) → P x
last_of P [] x h = h.0
last_of P (y ∷ xs) x h = last_of P xs x h.1

state_append : (m : Meaning (List ℕ)) (w : State) (cs : List model.Call) (c : model.Call) → state_after m w (cs ++ (c ∷ [])) ≡ (outcome m (state_after m w cs) c).after
unfolding state_after
state_append m w [] c = refl
state_append m w (a ∷ cs) c = state_append m (outcome m w a).after cs c

abbrev entry_at : Meaning (List ℕ) → State → model.Call → Reply → Entry
entry_at m w c y = record { tick = next_tick w; call = c; reply = y; bus = (outcome m w c).bus }

run_append : (m : Meaning (List ℕ)) (b : List ℕ) (cs : List model.Call) (c : model.Call) → run m b (cs ++ (c ∷ [])) ≡ run m b cs ++ (entry_at m (state_after m (new m b) cs) c (outcome m (state_after m (new m b) cs) c).reply ∷ [])
unfolding run trace
run_append m b cs c = trace_append m cs (c ∷ []) (new m b)

-- in a run, what a tick writes fits the buffers
fits : (m : Meaning (List ℕ)) → Lawful m → (b : List ℕ) (cs : List model.Call) (l n : ℕ) (call : Call) → Fits l n (outcome m (state_after m (new m b) cs) (made_call l n call)).reply
fits m lawful b cs l n call ls ns e =
    let c = made_call l n call in
    let w = state_after m (new m b) cs in
    let all : AllByRecursion SmallEntry (run m b cs ++ (entry_at m w c (outcome m w c).reply ∷ [])) = subst (AllByRecursion SmallEntry) (run_append m b cs c) (limits m lawful b (cs ++ (c ∷ []))).0 in
    let small : SmallReply (wrote ls ns) = subst SmallReply e (last_of SmallEntry (run m b cs) (entry_at m w c (outcome m w c).reply) all).reply in
    let large = room m l n ls ns w call e in
    (omega (arith, small.0, large.0), omega (arith, small.1, large.1))

pub extends : (m : Meaning (List ℕ)) → Lawful m → (w w' : State) (call : Call) (r : Result Answer Refusal) (lb lb' : List Line) (nb nb' : List Notice)
    → told r ≡ told_of (length lb) (length nb) (outcome m w (made_call (length lb) (length nb) call)).reply
    → w' ≡ (outcome m w (made_call (length lb) (length nb) call)).after
    → lb' ≡ filled (lines_in (outcome m w (made_call (length lb) (length nb) call)).reply) lb
    → nb' ≡ filled (notices_in (outcome m w (made_call (length lb) (length nb) call)).reply) nb
    → (b : List ℕ) (cs : List model.Call) → w ≡ state_after m (new m b) cs → Extends m b cs (made_call (length lb) (length nb) call) w' (seen r lb' nb')
extends m lawful w w' call r lb lb' nb nb' answer after lines notices b cs at =
    let c = made_call (length lb) (length nb) call in
    let v = state_after m (new m b) cs in
    let same : seen r lb' nb' ≡ (outcome m v c).reply =
    seen_is lb nb r (outcome m v c).reply lb' nb'
    (answer ∙ ap (λ (x : State). told_of (length lb) (length nb) (outcome m x c).reply) at)
    (lines ∙ ap (λ (x : State). filled (lines_in (outcome m x c).reply) lb) at)
    (notices ∙ ap (λ (x : State). filled (notices_in (outcome m x c).reply) nb) at)
    (fits m lawful b cs (length lb) (length nb) call) in
    record {
      state = after ∙ ap (λ (x : State). (outcome m x c).after) at ∙ sym (state_append m (new m b) cs c);
      entry = run_append m b cs c ∙ ap (λ (y : Reply). run m b cs ++ (entry_at m v c y ∷ [])) (sym same);
    }
