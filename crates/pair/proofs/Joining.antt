-- The history of a pair joins those of its two controllers.
use Rattle.std.proofs.Common.{◌≡◌, ℕ, ◌+◌, ◌^◌, ◌<◌, ◌≤◌, Bool, true, false, cond, not, eqb, List, [], ◌∷◌, ◌++◌, Some, None, Option, sym, refl, ap, ◌∙◌, subst, append_assoc, append-nil, arith, ne_eqb, eqb-true}
use Rattle.interface.specs.Meaning.{Meaning, Call, after, run, accepted, is_empty, check, take_refusal, step_refusal}
use Rattle.interface.specs.Lawful.{Lawful}
use Rattle.interface.specs.History.{History, Taking, Occurrence, blank, issued_in, ended_in, with_taking, with_step, noted, traced, history}
use Rattle.interface.specs.Emptied.{emptied}
use Rattle.interface.specs.declared.Request.{Request}
use Rattle.interface.specs.declared.Event.{Event}
use Rattle.interface.specs.declared.Event.TheVariants.{Issue, Done}
use Rattle.interface.proofs.Runs.{step_ok}
use Rattle.interface.proofs.Traces.{history_coded}
use Rattle.layer.specs.Collects.{collects}
use Rattle.layer.proofs.Synced.{take_accepted}
use Rattle.layer.proofs.Collecting.{traced_then, traced_collects, run_collects}
use Rattle.pair.specs.Pair.{State, beginning, to_first, meaning_of, pair_codes, pair_of, pair_back}
use Rattle.pair.specs.Laws.{to_second, passed_to, calls_to_first, calls_to_second, takings_of, in_step, Joins, Pairs}
use Rattle.pair.specs.Lawfulness.{Good, not_first, not_second, good_start, good_take, good_collect, of_first, of_second, tidy_is, good_tidy, none_done, fine}

-- ---- takings

takings_append_at : (k : Taking) (xs ys zs : List Taking) (b : Bool) → xs ≡ ys ++ zs → cond b (k ∷ xs) xs ≡ cond b (k ∷ ys) ys ++ zs
takings_append_at k xs ys zs true e = ap (λ l. k ∷ l) e
takings_append_at k xs ys zs false e = e

takings_append : (mine : Request → Bool) (ks : List Taking) (k : Taking) → takings_of mine (ks ++ (k ∷ [])) ≡ takings_of mine ks ++ cond (mine k.request) (k ∷ []) []
takings_append mine [] k = refl
takings_append mine (j ∷ ks) k = takings_append_at j (takings_of mine (ks ++ (k ∷ []))) (takings_of mine ks) _ (mine j.request) (takings_append mine ks k)

-- ---- what happens in a step

in_step_append_at : (o : Occurrence) (xs ys zs : List Occurrence) (b : Bool) → xs ≡ ys ++ zs → cond b (o ∷ xs) xs ≡ cond b (o ∷ ys) ys ++ zs
in_step_append_at o xs ys zs true e = ap (λ l. o ∷ l) e
in_step_append_at o xs ys zs false e = e

in_step_append : (t : ℕ) (os ps : List Occurrence) → in_step t (os ++ ps) ≡ in_step t os ++ in_step t ps
in_step_append t [] ps = refl
in_step_append t (o ∷ os) ps = in_step_append_at o (in_step t (os ++ ps)) (in_step t os) (in_step t ps) (eqb o.at t) (in_step_append t os ps)

in_step_skip : (t u n : ℕ) (os : List Occurrence) → eqb t u ≡ false → in_step u os ≡ [] → in_step u (record { slot = n; at = t } ∷ os) ≡ []
in_step_skip t u n os e k = ap (λ b. cond b (record { slot = n; at = t } ∷ in_step u os) (in_step u os)) e ∙ k

issued_elsewhere : (t u : ℕ) (es : List Event) → eqb t u ≡ false → in_step u (issued_in t es) ≡ []
issued_elsewhere t u [] e = refl
issued_elsewhere t u (Issue n ∷ es) e = in_step_skip t u n (issued_in t es) e (issued_elsewhere t u es e)
issued_elsewhere t u (Done n ∷ es) e = issued_elsewhere t u es e

ended_elsewhere : (t u : ℕ) (es : List Event) → eqb t u ≡ false → in_step u (ended_in t es) ≡ []
ended_elsewhere t u [] e = refl
ended_elsewhere t u (Issue n ∷ es) e = ended_elsewhere t u es e
ended_elsewhere t u (Done n ∷ es) e = in_step_skip t u n (ended_in t es) e (ended_elsewhere t u es e)

issued_append : (t : ℕ) (es ds : List Event) → issued_in t (es ++ ds) ≡ issued_in t es ++ issued_in t ds
issued_append t [] ds = refl
issued_append t (Issue n ∷ es) ds = ap (λ l. record { slot = n; at = t } ∷ l) (issued_append t es ds)
issued_append t (Done n ∷ es) ds = issued_append t es ds

ended_append : (t : ℕ) (es ds : List Event) → ended_in t (es ++ ds) ≡ ended_in t es ++ ended_in t ds
ended_append t [] ds = refl
ended_append t (Issue n ∷ es) ds = ended_append t es ds
ended_append t (Done n ∷ es) ds = ap (λ l. record { slot = n; at = t } ∷ l) (ended_append t es ds)

-- ---- step by step, the events of the first and then those of the second

record Merged (t : ℕ) (own first second : List Occurrence) : Type 0 where
  each : (u : ℕ) → in_step u own ≡ in_step u first ++ in_step u second
  past : (u : ℕ) → t ≤ u → in_step u second ≡ []

interleave : (f s e d : List Occurrence) → s ≡ [] → (f ++ s) ++ (e ++ d) ≡ (f ++ e) ++ (s ++ d)
interleave f s e d k = ap (λ x. (f ++ x) ++ (e ++ d)) k ∙ ap (λ x. x ++ (e ++ d)) (append-nil f) ∙ sym (append_assoc f e d) ∙ ap (λ x. (f ++ e) ++ (x ++ d)) (sym k)

interleave_none : (f s e d : List Occurrence) → e ≡ [] → d ≡ [] → (f ++ s) ++ (e ++ d) ≡ (f ++ e) ++ (s ++ d)
interleave_none f s e d j k =
    ap (λ x. (f ++ s) ++ (x ++ d)) j ∙ append_assoc f s d ∙ ap (λ x. x ++ (s ++ d)) (sym (append-nil f)) ∙ ap (λ x. (f ++ x) ++ (s ++ d)) (sym j)

merged_step : (t : ℕ) (own first second e d : List Occurrence) → Merged t own first second → ((u : ℕ) → eqb t u ≡ false → in_step u e ≡ []) → ((u : ℕ) → eqb t u ≡ false → in_step u d ≡ [])
    → Merged (t + 1) (own ++ (e ++ d)) (first ++ e) (second ++ d)
merged_step t own first second e d i he hd = record {
  each = λ u.
      in_step_append u own (e ++ d) ∙ ap (λ x. x ++ in_step u (e ++ d)) (i.each u) ∙ ap (λ x. (in_step u first ++ in_step u second) ++ x) (in_step_append u e d)
      ∙ go u (eqb t u) refl ∙ ap (λ x. x ++ (in_step u second ++ in_step u d)) (sym (in_step_append u first e)) ∙ ap (λ x. in_step u (first ++ e) ++ x) (sym (in_step_append u second d));
  past = λ u h. let k : t ≤ u = omega arith in in_step_append u second d ∙ ap (λ x. x ++ in_step u d) (i.past u k) ∙ hd u (ne_eqb t u (λ q. omega arith));
}
  where
    go : (u : ℕ) (b : Bool) → eqb t u ≡ b → (in_step u first ++ in_step u second) ++ (in_step u e ++ in_step u d) ≡ (in_step u first ++ in_step u e) ++ (in_step u second ++ in_step u d)
    go u true q = let k = eqb-true t u q in interleave (in_step u first) (in_step u second) (in_step u e) (in_step u d) (i.past u (omega arith))
    go u false q = interleave_none (in_step u first) (in_step u second) (in_step u e) (in_step u d) (he u q) (hd u q)

merged_blank : Merged 0 [] [] []
merged_blank = record { each = λ u. refl; past = λ u h. refl }

-- ---- what holds of a pair, its history, and the two histories below

module _ (m n : Meaning (List ℕ)) (k : Lawful m) (l : Lawful n) (short : (s : List ℕ) → m.span s < 2 ^ 64) (brief : (s : List ℕ) → n.span s < 2 ^ 64) where
  abbrev p : Meaning State
  p = meaning_of m n

  record Tracks (s : State) (own first second : History) : Type 0 where
    good : Good m n s
    steps_first : own.steps ≡ first.steps
    steps_second : own.steps ≡ second.steps
    takings_first : first.takings ≡ takings_of to_first own.takings
    takings_second : second.takings ≡ takings_of to_second own.takings
    issuings : Merged own.steps own.issuings first.issuings second.issuings
    endings : Merged own.steps own.endings first.endings second.endings

  tracks_start : (s : State) → Tracks (p.start s) blank blank blank
  tracks_start s = record { good = good_start m n k l short brief s; steps_first = refl; steps_second = refl; takings_first = refl; takings_second = refl; issuings = merged_blank; endings = merged_blank }

  -- a take goes to one of the two
  abbrev when : Bool → History → History → History
  when b h g = cond b h g

  taken_by : (b : Bool) (h own : History) (mine : Request → Bool) (q : Request) → mine q ≡ b → own.steps ≡ h.steps → h.takings ≡ takings_of mine own.takings
      → (own.steps ≡ (when b (with_taking h q) h).steps) × ((when b (with_taking h q) h).takings ≡ takings_of mine (with_taking own q).takings)
  taken_by true h own mine q e s t = (
    s,
    ap (λ ks. ks ++ (record { request = q; from = h.steps } ∷ [])) t ∙ ap (λ j. takings_of mine own.takings ++ (record { request = q; from = j } ∷ [])) (sym s)
        ∙ ap (λ b. takings_of mine own.takings ++ cond b (record { request = q; from = own.steps } ∷ []) []) (sym e) ∙ sym (takings_append mine own.takings (record { request = q; from = own.steps })),
  )
  taken_by false h own mine q e s t = (
    s,
    t ∙ sym (append-nil (takings_of mine own.takings)) ∙ ap (λ b. takings_of mine own.takings ++ cond b (record { request = q; from = own.steps } ∷ []) []) (sym e) ∙ sym (takings_append mine own.takings (record { request = q; from = own.steps })),
  )

  untouched : (b : Bool) (h : History) (q : Request) → ((when b (with_taking h q) h).issuings ≡ h.issuings) × ((when b (with_taking h q) h).endings ≡ h.endings)
  untouched true h q = (refl, refl)
  untouched false h q = (refl, refl)

  tracks_take : (s : State) (own first second : History) (q : Request) → Tracks s own first second → take_refusal p s q ≡ None
      → Tracks (p.taken s q) (with_taking own q) (when (to_first q) (with_taking first q) first) (when (to_second q) (with_taking second q) second)
  tracks_take s own first second q i ok =
      let a = taken_by (to_first q) first own to_first q refl i.steps_first i.takings_first in
      let b = taken_by (to_second q) second own to_second q refl i.steps_second i.takings_second in
      let c = untouched (to_first q) first q in
      let d = untouched (to_second q) second q in
      record {
        good = good_take m n k l short brief s q i.good ok;
        steps_first = a.0;
        steps_second = b.0;
        takings_first = a.1;
        takings_second = b.1;
        issuings = subst (λ x. Merged own.steps own.issuings x (when (to_second q) (with_taking second q) second).issuings) (sym c.0) (subst (Merged own.steps own.issuings first.issuings) (sym d.0) i.issuings);
        endings = subst (λ x. Merged own.steps own.endings x (when (to_second q) (with_taking second q) second).endings) (sym c.1) (subst (Merged own.steps own.endings first.endings) (sym d.1) i.endings);
      }

  abbrev es : State → List Event
  es s = of_first m n k l short brief s

  abbrev ds : State → List Event
  ds s = of_second m n k l short brief s

  tracks_step : (s : State) (own first second : History) → Tracks s own first second → s.table.events ≡ []
      → Tracks (p.stepped s) (with_step own (p.stepped s).table.events) (with_step first (es s)) (with_step second (ds s))
  tracks_step s own first second i e =
      let t = own.steps in
      let none = none_done m n k l short brief s i.good e in
      subst (λ y. Tracks y (with_step own y.table.events) (with_step first (es s)) (with_step second (ds s))) (sym (tidy_is m n k l short brief s i.good e))
      (record {
        good = good_tidy m n k l short brief s i.good none;
        steps_first = ap (λ x. x + 1) i.steps_first;
        steps_second = ap (λ x. x + 1) i.steps_second;
        takings_first = i.takings_first;
        takings_second = i.takings_second;
        issuings =
            subst (λ x. Merged (t + 1) (own.issuings ++ x) (first.issuings ++ issued_in first.steps (es s)) (second.issuings ++ issued_in second.steps (ds s))) (sym (issued_append t (es s) (ds s)))
            (subst (λ x. Merged (t + 1) (own.issuings ++ (issued_in t (es s) ++ issued_in t (ds s))) (first.issuings ++ issued_in x (es s)) (second.issuings ++ issued_in second.steps (ds s))) i.steps_first
            (subst (λ x. Merged (t + 1) (own.issuings ++ (issued_in t (es s) ++ issued_in t (ds s))) (first.issuings ++ issued_in t (es s)) (second.issuings ++ issued_in x (ds s))) i.steps_second
            (merged_step t own.issuings first.issuings second.issuings (issued_in t (es s)) (issued_in t (ds s)) i.issuings (λ u. issued_elsewhere t u (es s)) (λ u. issued_elsewhere t u (ds s)))));
        endings =
            subst (λ x. Merged (t + 1) (own.endings ++ x) (first.endings ++ ended_in first.steps (es s)) (second.endings ++ ended_in second.steps (ds s))) (sym (ended_append t (es s) (ds s)))
            (subst (λ x. Merged (t + 1) (own.endings ++ (ended_in t (es s) ++ ended_in t (ds s))) (first.endings ++ ended_in x (es s)) (second.endings ++ ended_in second.steps (ds s))) i.steps_first
            (subst (λ x. Merged (t + 1) (own.endings ++ (ended_in t (es s) ++ ended_in t (ds s))) (first.endings ++ ended_in t (es s)) (second.endings ++ ended_in x (ds s))) i.steps_second
            (merged_step t own.endings first.endings second.endings (ended_in t (es s)) (ended_in t (ds s)) i.endings (λ u. ended_elsewhere t u (es s)) (λ u. ended_elsewhere t u (ds s)))));
      })

  tracks_collect : (s : State) (own first second : History) → Tracks s own first second → Tracks (p.collected s) own first second
  tracks_collect s own first second i = record {
    good = good_collect m n k l short brief s s.table.events i.good i.good.ready i.good.traced;
    steps_first = i.steps_first;
    steps_second = i.steps_second;
    takings_first = i.takings_first;
    takings_second = i.takings_second;
    issuings = i.issuings;
    endings = i.endings;
  }

  -- ---- the calls that a call makes below

  -- to one controller, which means r: they leave the state b and the history h
  abbrev Leads : Meaning (List ℕ) → List Call → List ℕ → History → List ℕ → History → Type 0
  Leads r cs a g b h = (run r cs a ≡ b) × (traced r cs a g ≡ h)

  leads_take : (r : Meaning (List ℕ)) (b : Bool) (q : Request) (a : List ℕ) (g : History) → take_refusal r a q ≡ None → Leads r (cond b (Call.take q ∷ []) []) a g (cond b (after r (Call.take q) a) a) (when b (with_taking g q) g)
  leads_take r true q a g ok = (refl, ap (λ v. accepted v (with_taking g q) g) ok)
  leads_take r false q a g ok = (refl, refl)

  leads_step : (r : Meaning (List ℕ)) → Lawful r → (a : List ℕ) (g : History) → r.ready a ≡ [] → (let fs = r.ready (after r Call.step a) in (run r (Call.step ∷ collects fs) a ≡ emptied r fs (after r Call.step a)) × (traced r (Call.step ∷ collects fs) a g ≡ with_step g fs))
  leads_step r law a g quiet =
      let fs = r.ready (after r Call.step a) in (
        run_collects r law fs (after r Call.step a) refl,
        traced_collects r fs (after r Call.step a) (noted r Call.step a g) ∙ ap (λ xs. accepted (check (not (is_empty xs)) 20 None) (with_step g fs) g) quiet,
      )

  record Passes (s t : State) (own first second : History) (cs ds : List Call) : Type 0 where
    tracks : Tracks t own (traced m cs s.first first) (traced n ds s.second second)
    first_left : run m cs s.first ≡ t.first
    second_left : run n ds s.second ≡ t.second

  call_take : (s : State) (own first second : History) (q : Request) → Tracks s own first second → (v : Option ℕ) → take_refusal p s q ≡ v
      → Passes s (accepted v (p.taken s q) s) (accepted v (with_taking own q) own) first second (accepted v (cond (to_first q) (Call.take q ∷ []) []) []) (accepted v (cond (to_second q) (Call.take q ∷ []) []) [])
  call_take s own first second q i None e =
      let f = fine m n k l short brief s q e in
      let a = leads_take m (to_first q) q s.first first (take_accepted m k not_first s.first s.table.held q i.good.one f.range f.free f.room_first) in
      let b = leads_take n (to_second q) q s.second second (take_accepted n l not_second s.second s.table.held q i.good.two f.range f.free f.room_second) in
      record {
        tracks = subst (λ x. Tracks (p.taken s q) (with_taking own q) x (traced n (cond (to_second q) (Call.take q ∷ []) []) s.second second)) (sym a.1)
            (subst (Tracks (p.taken s q) (with_taking own q) (when (to_first q) (with_taking first q) first)) (sym b.1) (tracks_take s own first second q i e));
        first_left = a.0;
        second_left = b.0 ∙ flip (to_first q) (after n (Call.take q) s.second) s.second;
      }
    where
      flip : (b : Bool) (x y : List ℕ) → cond (not b) x y ≡ cond b y x
      flip true x y = refl
      flip false x y = refl
  call_take s own first second q i (Some x) e = record { tracks = i; first_left = refl; second_left = refl }

  call_step : (s : State) (own first second : History) → Tracks s own first second → (v : Option ℕ) → step_refusal p s ≡ v
      → Passes s (accepted v (p.stepped s) s) (accepted v (with_step own (accepted v (p.stepped s) s).table.events) own) first second (accepted v (Call.step ∷ collects (es s)) []) (accepted v (Call.step ∷ collects (ds s)) [])
  call_step s own first second i None e =
      let a = leads_step m k s.first first i.good.one.quiet in
      let b = leads_step n l s.second second i.good.two.quiet in
      record {
        tracks = subst (λ x. Tracks (p.stepped s) (with_step own (p.stepped s).table.events) x (traced n (Call.step ∷ collects (ds s)) s.second second)) (sym a.1)
            (subst (Tracks (p.stepped s) (with_step own (p.stepped s).table.events) (with_step first (es s))) (sym b.1) (tracks_step s own first second i (step_ok s.table.events e)));
        first_left = a.0;
        second_left = b.0;
      }
  call_step s own first second i (Some x) e = record { tracks = i; first_left = refl; second_left = refl }

  call_collect : (s : State) (own first second : History) → Tracks s own first second → (b : Bool) → Passes s (cond b s (p.collected s)) own first second [] []
  call_collect s own first second i true = record { tracks = i; first_left = refl; second_left = refl }
  call_collect s own first second i false = record { tracks = tracks_collect s own first second i; first_left = refl; second_left = refl }

  call : (c : Call) (s : State) (own first second : History) → Tracks s own first second
      → Passes s (after p c s) (noted p c s own) first second (passed_to p m to_first (λ x. x.first) c s) (passed_to p n to_second (λ x. x.second) c s)
  call Call.reset s own first second i = record { tracks = tracks_start s; first_left = refl; second_left = refl }
  call (Call.take q) s own first second i = call_take s own first second q i (take_refusal p s q) refl
  call Call.step s own first second i = call_step s own first second i (step_refusal p s) refl
  call Call.collect s own first second i = call_collect s own first second i (is_empty s.table.events)

  follow : (cs : List Call) (s : State) (own first second : History) → Tracks s own first second
      → (t : State) × Tracks t (traced p cs s own) (traced m (calls_to_first m n cs s) s.first first) (traced n (calls_to_second m n cs s) s.second second)
  follow [] s own first second i = (s, i)
  follow (c ∷ cs) s own first second i =
      let x = call c s own first second i in
      let t = after p c s in
      let a = passed_to p m to_first (λ x. x.first) c s in
      let b = passed_to p n to_second (λ x. x.second) c s in
      let g = traced m a s.first first in
      let h = traced n b s.second second in
      let j = follow cs t (noted p c s own) g h x.tracks in (
        j.0,
        subst (λ y. Tracks j.0 (traced p cs t (noted p c s own)) y (traced n (b ++ calls_to_second m n cs t) s.second second))
            (sym (traced_then m a (calls_to_first m n cs t) s.first first ∙ ap (λ z. traced m (calls_to_first m n cs t) z g) x.first_left))
            (subst (Tracks j.0 (traced p cs t (noted p c s own)) (traced m (calls_to_first m n cs t) t.first g))
            (sym (traced_then n b (calls_to_second m n cs t) s.second second ∙ ap (λ z. traced n (calls_to_second m n cs t) z h) x.second_left)) j.1),
      )

  pub pairs : (a b : List ℕ) → Pairs m n a b
  pairs a b cs =
      let s = beginning a b in
      let t = beginning (m.start a) (n.start b) in
      let first = history m a (calls_to_first m n cs t) in
      let second = history n b (calls_to_second m n cs t) in
      let i = (follow cs t blank blank blank (tracks_start s)).1 in
      subst (λ h. Joins h first second) (sym (history_coded pair_codes pair_of pair_back p (pair_codes s) cs ∙ ap (λ x. history p x cs) (pair_back s)))
      (record { steps_first = i.steps_first; steps_second = i.steps_second; takings_first = i.takings_first; takings_second = i.takings_second; issuings = i.issuings.each; endings = i.endings.each })
