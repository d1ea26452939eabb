-- A room in which nothing was done.
use Rattle.std.specs.Prelude.{◌≡◌, ℕ, zero, suc, List, [], ◌∷◌, slice_get, slice_set, Some, refl}
use Rattle.std.proofs.Common.{ap, sym, subst, ◌∙◌}
use Rattle.pm_tokens.specs.Tokens.{Doc}
use Rattle.pm_schema.specs.declared.schema.Schema.{Schema}
use Rattle.pm_meaning.specs.Steps.{Step}
use Rattle.pm_meaning.specs.declared.reason.Reason.{Reason}
use Rattle.pm_apply.specs.Changes.{meaning}
use Rattle.pm_session.specs.declared.line.Line.{Line}
use Rattle.pm_session.specs.declared.line.Act.{Act}
use Rattle.pm_session.specs.declared.line.Act.TheVariants.{UndoEvent}
use Rattle.pm_session.specs.declared.member.Member.{Member}
use Rattle.pm_session.specs.declared.member.Member.TheVariants.{Editor, Raw}
use Rattle.pm_session.specs.Left.{AuthorityTells, LeftBy, LeftByLine}
use Rattle.pm_session.specs.Suits.{SuitsRoom}
use Rattle.pm_selective.specs.Playing.{Room, Client}

some-inj : {A : Type 0} (x y : A) → Some x ≡ Some y → x ≡ y
some-inj x y h = cc

same-editor : (c d : Client) → Editor c ≡ Editor d → c ≡ d
same-editor c d h = cc

set-same : {A : Type 0} (xs : List A) (i : ℕ) (x : A) → slice_get xs i ≡ Some x → xs ≡ slice_set xs i x
set-same [] i x h = absurd (cc)
set-same (y ∷ xs) zero x h = let same : y ≡ x = some-inj y x h in ap (λ z. z ∷ xs) same
set-same (y ∷ xs) (suc i) x h = ap (λ zs. y ∷ zs) (set-same xs i x h)

module _ (schema : Schema) {Op : Type 0} where
  left-by : (s : Room) (a : Act Op Step) (number : ℕ) → a ≡ UndoEvent number → (x : Member Step Schema Doc Reason)
      → LeftBy (s.authority ≡ s.authority) (AuthorityTells meaning schema s.authority s.authority) a x x
  left-by s a number is (Editor c) =
      subst (λ (b : Act Op Step). LeftBy (s.authority ≡ s.authority) (AuthorityTells meaning schema s.authority s.authority) b (Editor c) (Editor c)) (sym is) (refl, refl)
  left-by s a number is (Raw name serial) = (refl, refl)

  -- nothing was done of a line that undoes a numbered event
  pub left-same : (s : Room) (line : Line Op Step) (number : ℕ) → line.act ≡ UndoEvent number → SuitsRoom s line → LeftByLine meaning schema s line s
  left-same s line number act suits = record {
    member = suits.member;
    authority = s.authority;
    next = suits.member;
    at = suits.at;
    left = left-by s line.act number act suits.member;
    left_is = ap (λ ms. record { authority = s.authority; members = ms }) (set-same s.members line.client suits.member suits.at);
  }
