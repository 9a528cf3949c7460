-- The part of one domain in a history: its takings, its issues, and the requests of it that wait.
use Rattle.std.proofs.Common.{◌≡◌, ℕ, ◌+◌, ◌<◌, ◌≤◌, Bool, true, false, ltb, List, [], ◌∷◌, ◌++◌, map, sym, refl, ap, ◌∙◌, subst, ⊎_elim, eq-or-lt_of_le, arith, ltb-false, ltb-true}
use Rattle.interface.specs.History.{Taking, Occurrence, Issuance, First, Served, issuances}
use Rattle.interface.specs.declared.Request.{Request}
use Rattle.interface.proofs.Slots.{map_append}
use Rattle.interface.proofs.Served.{pending, served_take, pending_take, issuances_take, Shut, served_wait, served_issue, pending_issue, issuances_issue}
use Rattle.turns.specs.Laws.{Turn, Before, InTurn, occurrences}
use Rattle.turns.proofs.Requests.{occurrences_append}

abbrev wanted : Taking → Request
wanted k = k.request

-- the takings that wait came before step n
abbrev Since : ℕ → List Taking → Type 0
Since n [] = Unit {0}
Since n (k ∷ ks) = (k.from ≤ n) × Since n ks

since_more : (n : ℕ) (ks : List Taking) → Since n ks → Since (n + 1) ks
since_more n [] s = tt
since_more n (k ∷ ks) s = (omega (arith, s.0), since_more n ks s.1)

since_append : (n : ℕ) (ks : List Taking) (k : Taking) → Since n ks → k.from ≤ n → Since n (ks ++ (k ∷ []))
since_append n [] k s a = (a, tt)
since_append n (x ∷ ks) k s a = (s.0, since_append n ks k s.1 a)

-- after n steps: the takings ks and the issues is of domain d, and its requests qs that wait
pub record Part (d n : ℕ) (ks : List Taking) (is : List Issuance) (qs : List Request) : Type 0 where
  pub served : Served (InTurn d) [] ks (occurrences is) n
  pub paired : issuances [] ks (occurrences is) ≡ is
  pub waits : qs ≡ map wanted (pending ks (occurrences is))
  pub since : Since n (pending ks (occurrences is))

pub part_none : (d : ℕ) → Part d 0 [] [] []
part_none d = record { served = tt; paired = refl; waits = refl; since = tt }

-- the domain takes a request
pub part_take : (d n : ℕ) (ks : List Taking) (is : List Issuance) (qs : List Request) (q : Request) → Part d n ks is qs → Part d n (ks ++ (record { request = q; from = n } ∷ [])) is (qs ++ (q ∷ []))
part_take d n ks is qs q p =
    let os = occurrences is in
    let k : Taking = record { request = q; from = n } in
    let e = pending_take (InTurn d) ks os [] n k p.served in
    record {
      served = served_take (InTurn d) ks os [] n k (omega arith) p.served;
      paired = issuances_take (InTurn d) ks os [] n k p.served ∙ p.paired;
      waits = ap (λ l. l ++ (q ∷ [])) p.waits ∙ sym (map_append wanted (pending ks os) k) ∙ ap (map wanted) (sym e);
      since = subst (Since n) (sym e) (since_append n (pending ks os) k p.since (omega arith));
    }

-- a step without an issue for the domain: it is not its turn, or none waits
pub part_quiet : (d n : ℕ) (ks : List Taking) (is : List Issuance) (qs : List Request) → (Turn d n → qs ≡ []) → Part d n ks is qs → Part d (n + 1) ks is qs
part_quiet d n ks is qs z p =
    let os = occurrences is in
    record {
      served = served_wait (InTurn d) ks os [] n (shut (pending ks os) p.waits) p.served;
      paired = p.paired;
      waits = p.waits;
      since = since_more n (pending ks os) p.since;
    }
  where
    shut : (ps : List Taking) → qs ≡ map wanted ps → Shut (InTurn d) n (issuances [] ks (occurrences is)) ps
    shut [] e = tt
    shut (k ∷ ps) e = λ m. let y : ◌≡◌ {A = List Request} [] (k.request ∷ map wanted ps) = sym (z m.0) ∙ e in let w : ◌≡◌ {A = ℕ} 0 1 = cc in omega arith

before_last : (t : ℕ) (is : List Issuance) (i : Issuance) → Before t (is ++ (i ∷ [])) → i.at < t
before_last t [] i b = b.0
before_last t (x ∷ is) i b = before_last t is i b.1

abbrev Split : List Taking → Request → List Request → Type 0
Split ps q qs = (k : Taking) × (ks : List Taking) × (ps ≡ k ∷ ks) × (k.request ≡ q) × (qs ≡ map wanted ks)

split : (ps : List Taking) (q : Request) (qs : List Request) → q ∷ qs ≡ map wanted ps → Split ps q qs
split [] q qs e = let z : ◌≡◌ {A = ℕ} 0 1 = cc in absurd (omega arith)
split (k ∷ ks) q qs e = (k, ks, refl, cc, cc)

-- in the domain's turn its oldest request is issued
pub part_issue : (d n : ℕ) (ks : List Taking) (is : List Issuance) (q : Request) (qs : List Request) → Turn d n → Before n is → Part d n ks is (q ∷ qs) → Part d (n + 1) ks (is ++ (record { request = q; at = n } ∷ [])) qs
part_issue d n ks is q qs turn before p =
    let os = occurrences is in
    let i : Occurrence = record { slot = q.slot; at = n } in
    let s = split (pending ks os) q qs p.waits in
    let k = s.0 in
    let rest = s.1 in
    let since = subst (Since n) s.2 p.since in
    let o = occurrences_append is (record { request = q; at = n }) in
    let pends = ap (pending ks) o ∙ pending_issue (InTurn d) ks os k rest i s.2 in
    record {
      served = subst (λ l. Served (InTurn d) [] ks l (n + 1)) (sym o)
          (served_issue (InTurn d) (λ ss x r t m. before_last t ss x m.1) ks os [] n k rest i s.2 (ap (λ (r : Request). r.slot) (sym s.3)) refl since.0
          (turn, subst (Before n) (sym p.paired) before) p.served);
      paired = ap (issuances [] ks) o ∙ issuances_issue (InTurn d) ks os [] k rest i s.2 ∙ ap (λ l. l ++ (record { request = k.request; at = n } ∷ [])) p.paired
          ∙ ap (λ r. is ++ (record { request = r; at = n } ∷ [])) s.3;
      waits = s.4 ∙ ap (map wanted) (sym pends);
      since = subst (Since (n + 1)) (sym pends) (since_more n rest since.1);
    }

-- ---- the takings and the number of steps decide the issues

module _ (May : List Issuance → Request → ℕ → Type 0) where
  first_once : (P : ℕ → Type 0) (n s t : ℕ) → First P n s → First P n t → s ≡ t
  first_once P n s t a b = go (ltb s t) refl
    where
      go : (l : Bool) → ltb s t ≡ l → s ≡ t
      go true e = absurd (b.2 s a.0 (ltb-true s t e) a.1)
      go false e = ⊎_elim (λ z. sym z) (λ l. absurd (a.2 t b.0 l b.1)) (eq-or-lt_of_le (ltb-false s t e))

  pub served_once : (ks : List Taking) (is : List Issuance) (os us : List Occurrence) (n : ℕ) → Served May is ks os n → Served May is ks us n → os ≡ us
  served_once [] is [] [] n a b = refl
  served_once [] is (o ∷ os) us n a b = absurd a
  served_once [] is [] (u ∷ us) n a b = absurd b
  served_once (k ∷ ks) is [] [] n a b = refl
  served_once (k ∷ ks) is [] (u ∷ us) n a b = absurd (a u.at b.1.0 b.2 b.1.1)
  served_once (k ∷ ks) is (o ∷ os) [] n a b = absurd (b o.at a.1.0 a.2 a.1.1)
  served_once (k ∷ ks) is (o ∷ os) (u ∷ us) n a b =
      let t = first_once (May is k.request) k.from o.at u.at a.1 b.1 in
      let e : o ≡ u = λ i. record { slot = (a.0 ∙ sym b.0) i; at = t i } in
      let r = served_once ks (is ++ (record { request = k.request; at = u.at } ∷ [])) os us n (subst (λ m. Served May (is ++ (record { request = k.request; at = m } ∷ [])) ks os n) t a.3) b.3 in
      ap (λ l. o ∷ l) r ∙ ap (λ x. x ∷ us) e
