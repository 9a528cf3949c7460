-- The numbers of the kinds of faults.
use Rattle.std.proofs.Common.{◌≡◌, ℕ, Bool, true, false, cond, ◌==◌, Ok, Result, refl, sym, ap, ◌∙◌}
use Rattle.forms.specs.declared.faults.FaultKind.{FaultKind}
use Rattle.forms.specs.declared.faults.FaultKind.TheVariants.{WrongPhase, DomainTaken, BadShare, BadCount, VertexBank, BadEdge, NoPlaces, UnknownByte, BadNumber, BadForm, TooLong}
use Rattle.forms.specs.declared.faults.UnknownNumber.{UnknownNumber}
use Rattle.forms.specs.Faults.{kind_number, kind_of, NumbersNameKinds}
use Rattle.std.proofs.lemmas.Bool.{eqb-true}

module _ (n : ℕ) (k : FaultKind) where
  -- one test of the chain: the kind is the one that stands there, or it comes from the rest
  test : (l : FaultKind) (rest : Result FaultKind UnknownNumber) → (rest ≡ Ok k → kind_number k ≡ n) → cond (n == kind_number l) (Ok l) rest ≡ Ok k → kind_number k ≡ n
  test l rest after e = by (n == kind_number l) refl e
    where
      by : (b : Bool) → n == kind_number l ≡ b → cond b (Ok l) rest ≡ Ok k → kind_number k ≡ n
      by true is now = let same : l ≡ k = cc in ap kind_number (sym same) ∙ sym (eqb-true n (kind_number l) is)
      by false is now = after now

  named : kind_of n ≡ Ok k → kind_number k ≡ n
  named =
      test WrongPhase _ (test DomainTaken _ (test BadShare _ (test BadCount _ (test VertexBank _ (test BadEdge _ (test NoPlaces _
      (test UnknownByte _ (test BadNumber _ (test BadForm _ (test TooLong _ (λ e. absurd (cc))))))))))))

pub made : (k : FaultKind) → kind_of (kind_number k) ≡ Ok k
made WrongPhase = refl
made DomainTaken = refl
made BadShare = refl
made BadCount = refl
made VertexBank = refl
made BadEdge = refl
made NoPlaces = refl
made UnknownByte = refl
made BadNumber = refl
made BadForm = refl
made TooLong = refl

pub numbers_name_kinds : NumbersNameKinds
numbers_name_kinds = record { named = named; made = made }
