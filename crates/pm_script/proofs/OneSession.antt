-- Two meanings of an input agree.
use Rattle.std.proofs.Common.{◌≡◌, ℕ, Bool, true, false, List, length, refl, sym, subst}
use Rattle.std.specs.Prelude.{[], drop, nat_lt, Result, Ok, Err, MatchBool, if◌then◌else◌}
use Rattle.pm_head.specs.declared.form.Form.{Form}
use Rattle.pm_head.specs.declared.code.Code.TheVariants.{InputTooLong, WrongEnter}
use Rattle.pm_head.specs.declared.fault.Refusal.{Refusal}
use Rattle.pm_head.specs.Refusals.{refused}
use Rattle.pm_head.specs.declared.reading.Head.{Head}
use Rattle.pm_head.specs.Heads.{HeadIs}
use Rattle.pm_head.specs.Lines.{lines_of}
use Rattle.pm_head.specs.OneMeaning.{SameHead}
use Rattle.pm_head.proofs.OneHead.{head-apart, one-refusal as one-head-refusal, one-head}
use Rattle.pm_meaning.specs.Steps.{Step}
use Rattle.pm_ops.specs.declared.op.Op.{Op}
use Rattle.pm_session.specs.declared.line.Line.{Line}
use Rattle.pm_script.specs.declared.session.Session.{Session}
use Rattle.pm_script.specs.declared.session.TheConstants.{MAX_INPUT}
use Rattle.pm_script.specs.Entrants.{all_enter}
use Rattle.pm_script.specs.Sessions.{ops_of, with_ops, behind, behind_head, SessionOf, SessionIs}
use Rattle.pm_script.specs.OneMeaning.{SameSession}
use Rattle.pm_script.proofs.SameLines.{ops-alike}

abbrev Sessions : Result Session Refusal → Result Session Refusal → Type 0
Sessions (Ok s) (Ok t) = SameSession s t
Sessions (Ok s) (Err refusal) = ⊥
Sessions (Err refusal) (Ok t) = ⊥
Sessions (Err refusal) (Err other) = refusal ≡ other

-- two results that are these
these : (r r' q q' : Result Session Refusal) → r ≡ r' → q ≡ q' → Sessions r' q' → Sessions r q
these r r' q q' e f a = subst (λ z. Sessions z q) (sym e) (subst (Sessions r') (sym f) a)

with-alike : (g h : Head) → SameHead g h → (o : Result (List (Line Op Step)) Refusal) → Sessions (with_ops g o) (with_ops h o)
with-alike g h e (Ok ops) = record { head = e; lines = refl }
with-alike g h e (Err refusal) = refl

-- sessions that are the same, where the late clients enter on these lines
entered-alike : (b : Bool) (refusal : Refusal) (r q : Result Session Refusal) → Sessions r q → Sessions (if b then r else Err refusal) (if b then q else Err refusal)
entered-alike true refusal r q h = h
entered-alike false refusal r q h = refl

module _ (form : Form) where
  behind-alike : (g h : Head) → SameHead g h → (lines : List (List ℕ)) → Sessions (behind form g lines) (behind form h lines)
  behind-alike g h e lines =
      let same = ops-alike g.schema.spec h.schema.spec e.types form g.clients [] 4 lines in
      let ops = ops_of form g.schema.spec g.clients [] 4 lines in
      let read : Sessions (with_ops g ops) (with_ops h (ops_of form h.schema.spec g.clients [] 4 lines)) = subst (λ z. Sessions (with_ops g ops) (with_ops h z)) same (with-alike g h e ops) in
      let all = entered-alike (all_enter g.clients lines) (refused 3 WrongEnter) (with_ops g ops) (with_ops h (ops_of form h.schema.spec g.clients [] 4 lines)) read in
      subst (λ z. Sessions (behind form g lines) (if all_enter z lines then with_ops h (ops_of form h.schema.spec z [] 4 lines) else Err (refused 3 WrongEnter))) e.clients all

  of-lines : (lines : List (List ℕ)) (x y : Result Head Refusal) → HeadIs form lines x → HeadIs form lines y → (rest : List (List ℕ)) → Sessions (behind_head form x rest) (behind_head form y rest)
  of-lines lines (Ok g) (Ok h) f k rest = behind-alike g h (one-head form lines g h f k) rest
  of-lines lines (Ok g) (Err refusal) f k rest = absurd (head-apart form lines g refusal f k)
  of-lines lines (Err refusal) (Ok h) f k rest = absurd (head-apart form lines h refusal k f)
  of-lines lines (Err refusal) (Err other) f k rest = one-head-refusal form lines refusal other f k

  sessions : (input : List ℕ) (r q : Result Session Refusal) → SessionIs form input r → SessionIs form input q → Sessions r q
  sessions input r q = at (nat_lt MAX_INPUT (length input))
    where
      at : (b : Bool) → MatchBool b (r ≡ Err (refused 0 InputTooLong)) (SessionOf form (lines_of input) r) → MatchBool b (q ≡ Err (refused 0 InputTooLong)) (SessionOf form (lines_of input) q) → Sessions r q
      at true f g = these r (Err (refused 0 InputTooLong)) q (Err (refused 0 InputTooLong)) f g refl
      at false f g = these r (behind_head form f.0 (drop 3 (lines_of input))) q (behind_head form g.0 (drop 3 (lines_of input))) f.2 g.2 (of-lines (lines_of input) f.0 g.0 f.1 g.1 (drop 3 (lines_of input)))

  pub session-apart : (input : List ℕ) (s : Session) (refusal : Refusal) → SessionIs form input (Ok s) → SessionIs form input (Err refusal) → ⊥
  session-apart input s refusal f g = sessions input (Ok s) (Err refusal) f g

  pub one-refusal : (input : List ℕ) (refusal other : Refusal) → SessionIs form input (Err refusal) → SessionIs form input (Err other) → refusal ≡ other
  one-refusal input refusal other f g = sessions input (Err refusal) (Err other) f g

  pub one-session : (input : List ℕ) (s t : Session) → SessionIs form input (Ok s) → SessionIs form input (Ok t) → SameSession s t
  one-session input s t f g = sessions input (Ok s) (Ok t) f g
