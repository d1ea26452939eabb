-- One more line of a worker.
use Rattle.std.specs.Prelude.{IfOk}
use Rattle.std.proofs.lemmas.Result.{IfOk-weaker}
use Rattle.std.proofs.Common.{◌≡◌, ℕ, zero, suc, ◌≤◌, List, [], ◌∷◌, ◌++◌, length, map, take, drop, cond, Option, None, Some, Result, refl, sym, ap, ◌∙◌, subst, arith, append-nil, append_assoc, length-append, eq-eqb, ne_eqb}
use Rattle.std.proofs.lemmas.List.{map-append, length-take-le}
use mathlib.Core.Logic.{dite}
use native.Mathlib.Decide.{ℕ_discrete}
use Rattle.pm_change.specs.Changes.{Meaning}
use Rattle.pm_change.specs.declared.no_step.NoStep.{NoStep}
use Rattle.pm_authority.specs.declared.authority.Authority.{Authority}
use Rattle.pm_authority.specs.declared.machine.Request.{Request}
use Rattle.pm_authority.specs.declared.message.Message.{Message}
use Rattle.pm_authority.specs.declared.message.Answer.{Answer}
use Rattle.pm_desk.specs.declared.history.Past.{Past}
use Rattle.pm_desk.specs.declared.history.Opening.{Opening}
use Rattle.pm_desk.specs.Desks.{DeskValue, SeatValue, Told}
use Rattle.pm_desk.specs.Histories.{state_at, calls_of, past, StartsWith}
use Rattle.pm_desk.proofs.Histories.{calls_of-append, calls_of-own, starts_longer}
use Rattle.pm_session.specs.declared.line.Line.{Line}
use Rattle.pm_session.specs.declared.line.Act.{Act}
use Rattle.pm_session.specs.declared.member.Member.{Member}
use Rattle.pm_session.specs.declared.outcome.Outcome.{Outcome}
use Rattle.pm_session.specs.Events.{asked, finished}
use Rattle.pm_session.specs.Hosts.{ActsBy, Acts}
use Rattle.pm_workers.specs.Seats.{request_of, SeesMore, Answers}
use Rattle.pm_workers.specs.Threads.{after_request, reply_to}
use Rattle.pm_workers.specs.Works.{answers_of, Work, answer_to, answers_after, with_message, works}
use Rattle.pm_workers.specs.Worked.{ActedAt, Worked, Began}
use Rattle.pm_workers.proofs.Seatings.{none-behind, starts-same, sees-same, sees-on}

module _ {A : Type 0} where
  pub take-none : (xs : List A) → take 0 xs ≡ []
  take-none [] = refl
  take-none (x ∷ xs) = refl

  pub drop-none : (xs : List A) → drop 0 xs ≡ xs
  drop-none [] = refl
  drop-none (x ∷ xs) = refl

  pub take-all : (xs : List A) (k : ℕ) → length xs ≤ k → take k xs ≡ xs
  take-all [] zero h = refl
  take-all [] (suc k) h = refl
  take-all (x ∷ xs) zero h = absurd (omega arith)
  take-all (x ∷ xs) (suc k) h = ap (λ l. x ∷ l) (take-all xs k (omega (arith, h)))

module _ {M R Q A : Type 0} (next : R → M → Q → M) (reply : R → M → Q → A) (rules : R) (n : ℕ) where
  abbrev replies : M → List (Past Q) → List A
  replies m xs = answers_of next reply rules n m xs

  answers-append : (m : M) (xs ys : List (Past Q)) → replies m (xs ++ ys) ≡ replies m xs ++ replies (state_at next rules m xs) ys
  answers-append m [] ys = refl
  answers-append m (x ∷ xs) ys = dite (ℕ_discrete x.seat n)
      (λ e. rw (eq-eqb x.seat n e) (ap (λ l. reply rules m x.request ∷ l) (answers-append (next rules m x.request) xs ys)))
      (λ ne. rw (ne_eqb x.seat n ne) (answers-append (next rules m x.request) xs ys))

  -- where the seat asks nothing, it is told nothing
  answers-none : (m : M) (xs : List (Past Q)) → calls_of n xs ≡ [] → replies m xs ≡ []
  answers-none m [] e = refl
  answers-none m (x ∷ xs) none = dite (ℕ_discrete x.seat n)
      (λ e. let some : x.request ∷ calls_of n xs ≡ [] = sym (ap (λ b. cond b (x.request ∷ calls_of n xs) (calls_of n xs)) (eq-eqb x.seat n e)) ∙ none in absurd (cc))
      (λ ne. rw (ne_eqb x.seat n ne) (answers-none (next rules m x.request) xs (sym (ap (λ b. cond b (x.request ∷ calls_of n xs) (calls_of n xs)) (ne_eqb x.seat n ne)) ∙ none)))

  -- a longer history with no more calls of the seat
  pub answers-longer : (m : M) (ys xs : List (Past Q)) → StartsWith ys xs → calls_of n ys ≡ calls_of n xs → replies m ys ≡ replies m xs
  answers-longer m ys xs s same =
      let none : calls_of n s.0 ≡ [] = none-behind (calls_of n xs) (calls_of n s.0) (sym (calls_of-append n xs s.0) ∙ ap (calls_of n) (sym s.1) ∙ same) in
      ap (replies m) s.1 ∙ answers-append m xs s.0 ∙ ap (λ l. replies m xs ++ l) (answers-none (state_at next rules m xs) s.0 none) ∙ append-nil (replies m xs)

  -- one more call of the seat
  pub answers-own : (m : M) (xs : List (Past Q)) (q : Q) → replies m (xs ++ past n q ∷ []) ≡ replies m xs ++ reply rules (state_at next rules m xs) q ∷ []
  answers-own m xs q =
      answers-append m xs (past n q ∷ [])
      ∙ ap (λ b. replies m xs ++ cond b (reply rules (state_at next rules m xs) q ∷ []) []) (eq-eqb n n refl)

module _ {M R Q A : Type 0} (next : R → M → Q → M) (reply : R → M → Q → A) (good : R → M → Type 0) (own : ℕ → Q → Type 0) (about : Opening M R)
    (s t : SeatValue M R Q) (q : Q) (r : A) (told : Told next reply good own about s q r t) where
  -- the seat has seen its call, and all that it had seen
  pub told-calls : calls_of s.number t.seen ≡ calls_of s.number s.seen ++ q ∷ []
  told-calls =
      ap (λ u. calls_of s.number u.seen) told.seen ∙ calls_of-own s.number told.before q ∙ ap (λ l. l ++ q ∷ []) told.calls

  pub told-answers : answers_of next reply about.rules s.number about.machine t.seen ≡ answers_of next reply about.rules s.number about.machine s.seen ++ r ∷ []
  told-answers =
      ap (λ u. answers_of next reply about.rules s.number about.machine u.seen) told.seen
      ∙ answers-own next reply about.rules s.number about.machine told.before q
      ∙ ap (λ l. l ++ reply about.rules (state_at next about.rules about.machine told.before) q ∷ []) (answers-longer next reply about.rules s.number about.machine told.before s.seen told.begins told.calls)
      ∙ ap (λ x. answers_of next reply about.rules s.number about.machine s.seen ++ x ∷ []) (sym told.reply_is)

  pub told-seen : SeesMore s t
  told-seen = (
    told.seen ∙ ap (λ (v : SeatValue M R Q). record s { seen = v.seen }) (sym told.seen),
    subst (λ l. StartsWith l s.seen) (sym (ap (λ u. u.seen) told.seen)) (starts_longer told.before s.seen (past s.number q ∷ []) told.begins),
  )

module _ {Rules Doc Reason C : Type 0} (m : Meaning Rules Doc Reason C) (rules : Rules) {Op : Type 0} (makes : Doc → Op → Result (List C) NoStep) where
  -- what the first line comes to, and then the others, where the line presents this message
  abbrev stepped : Option (Message C) → Line Op C → List (Line Op C) → Member C Rules Doc Reason → List (Answer C Rules Doc Reason) → Work C Rules Doc Reason
  stepped message line lines x answers =
      let p = finished m rules makes line.act x (answer_to message answers) in
      let rest = works m rules makes lines p.1 (answers_after message answers) in
      record { outcomes = p.0 ∷ rest.outcomes; messages = with_message message rest.messages; member = rest.member }

  -- the work w and one more line
  abbrev and_line : Work C Rules Doc Reason → Line Op C → List (Answer C Rules Doc Reason) → Work C Rules Doc Reason
  and_line w line more =
      let message = asked line.act w.member in
      let p = finished m rules makes line.act w.member (answer_to message more) in
      record { outcomes = w.outcomes ++ p.0 ∷ []; messages = w.messages ++ with_message message []; member = p.1 }

  -- one more line, where the lines before it used all of the first answers
  pub works-more : (lines : List (Line Op C)) (line : Line Op C) (x : Member C Rules Doc Reason) (answers more : List (Answer C Rules Doc Reason))
      → length answers ≡ length (works m rules makes lines x answers).messages
      → works m rules makes (lines ++ line ∷ []) x (answers ++ more) ≡ and_line (works m rules makes lines x answers) line more
  works-more [] line x [] more h = refl
  works-more [] line x (a ∷ answers) more h = absurd (omega (arith, h))
  works-more (first ∷ lines) line x answers more h = by (asked first.act x) answers h (λ y given e. works-more lines line y given more e)
    where
      by : (message : Option (Message C)) (given : List (Answer C Rules Doc Reason)) → length given ≡ length (stepped message first lines x given).messages
          → ((y : Member C Rules Doc Reason) (these : List (Answer C Rules Doc Reason)) → length these ≡ length (works m rules makes lines y these).messages
          → works m rules makes (lines ++ line ∷ []) y (these ++ more) ≡ and_line (works m rules makes lines y these) line more)
          → stepped message first (lines ++ line ∷ []) x (given ++ more) ≡ and_line (stepped message first lines x given) line more
      by None given e later =
          let p = finished m rules makes first.act x None in
          ap (λ (w : Work C Rules Doc Reason). record { outcomes = p.0 ∷ w.outcomes; messages = w.messages; member = w.member }) (later p.1 given e)
      by (Some message) [] e later = absurd (omega (arith, e))
      by (Some message) (a ∷ given) e later =
          let p = finished m rules makes first.act x (Some a) in
          ap (λ (w : Work C Rules Doc Reason). record { outcomes = p.0 ∷ w.outcomes; messages = message ∷ w.messages; member = w.member }) (later p.1 given (omega (arith, e)))

  -- there is an outcome for each line
  pub works-each : (lines : List (Line Op C)) (x : Member C Rules Doc Reason) (answers : List (Answer C Rules Doc Reason)) → length (works m rules makes lines x answers).outcomes ≡ length lines
  works-each [] x answers = refl
  works-each (line ∷ lines) x answers = ap suc (works-each lines (finished m rules makes line.act x (answer_to (asked line.act x) answers)).1 (answers_after (asked line.act x) answers))

module _ {Rules Doc Reason C : Type 0} (m : Meaning Rules Doc Reason C) {Op : Type 0} (makes : Doc → Op → Result (List C) NoStep) (d : DeskValue (Authority C Rules Doc Reason) Rules)
    (x : Member C Rules Doc Reason) (s : SeatValue (Authority C Rules Doc Reason) Rules (Request C)) where
  abbrev now : Rules
  now = d.opening.rules

  abbrev told_by : List (Past (Request C)) → List (Answer C Rules Doc Reason)
  told_by seen = answers_of (after_request m) (reply_to m) d.opening.rules s.number d.opening.machine seen

  -- no line
  pub worked-none : Worked m makes d [] x s [] x s
  worked-none = record {
    answers = [];
    seat = (refl, starts-same s.seen);
    calls = sym (append-nil (calls_of s.number s.seen));
    answered = sym (append-nil (told_by s.seen));
    each = refl;
    outcomes_are = refl;
    member_is = refl;
  }

  module _ (lines : List (Line Op C)) (outcomes : List (Outcome C Rules Doc Reason)) (y : Member C Rules Doc Reason) (t : SeatValue (Authority C Rules Doc Reason) Rules (Request C))
      (h : Worked m makes d lines x s outcomes y t) (line : Line Op C) (o : Outcome C Rules Doc Reason) (z : Member C Rules Doc Reason) (u : SeatValue (Authority C Rules Doc Reason) Rules (Request C)) where
    abbrev done : Work C Rules Doc Reason
    done = works m d.opening.rules makes lines x h.answers

    -- the message that the line presents, where the lines before it left this member
    abbrev message_by : Option (Message C)
    message_by = asked line.act done.member

    -- what the line adds: the calls of the message, and its answer
    pub record Adds (message : Option (Message C)) (more : List (Answer C Rules Doc Reason)) : Type 0 where
      pub seat : SeesMore t u
      pub calls : calls_of s.number u.seen ≡ calls_of s.number t.seen ++ map (request_of s.number) (with_message message [])
      pub answered : told_by u.seen ≡ told_by t.seen ++ more
      pub each : length more ≡ length (with_message message [])
      pub made : (o, z) ≡ finished m d.opening.rules makes line.act done.member (answer_to message more)

    adds-worked : (more : List (Answer C Rules Doc Reason)) → Adds message_by more → Worked m makes d (lines ++ line ∷ []) x s (outcomes ++ o ∷ []) z u
    adds-worked more a =
        let w : works m d.opening.rules makes (lines ++ line ∷ []) x (h.answers ++ more) ≡ and_line m d.opening.rules makes done line more =
        works-more m d.opening.rules makes lines line x h.answers more h.each in
        record {
          answers = h.answers ++ more;
          seat = sees-on s t u h.seat a.seat;
          calls = a.calls ∙ ap (λ l. l ++ map (request_of s.number) (with_message message_by [])) h.calls
              ∙ append_assoc (calls_of s.number s.seen) (map (request_of s.number) done.messages) (map (request_of s.number) (with_message message_by []))
              ∙ ap (λ l. calls_of s.number s.seen ++ l) (sym (map-append (request_of s.number) done.messages (with_message message_by [])))
              ∙ ap (λ (v : Work C Rules Doc Reason). calls_of s.number s.seen ++ map (request_of s.number) v.messages) (sym w);
          answered = a.answered ∙ ap (λ l. l ++ more) h.answered ∙ append_assoc (told_by s.seen) h.answers more;
          each = let one = length-append h.answers more in
              let two = length-append done.messages (with_message message_by []) in
              let three = h.each in
              let four = a.each in
              let five : length (h.answers ++ more) ≡ length (done.messages ++ with_message message_by []) = omega (arith, one, two, three, four) in
              five ∙ ap (λ (v : Work C Rules Doc Reason). length v.messages) (sym w);
          outcomes_are = ap (λ l. l ++ o ∷ []) h.outcomes_are ∙ ap (λ p. done.outcomes ++ p.0 ∷ []) a.made ∙ ap (λ (v : Work C Rules Doc Reason). v.outcomes) (sym w);
          member_is = ap (λ p. p.1) a.made ∙ ap (λ (v : Work C Rules Doc Reason). v.member) (sym w);
        }

    -- one more line
    pub worked-more : ActedAt m makes d line.act y t o z u → Worked m makes d (lines ++ line ∷ []) x s (outcomes ++ o ∷ []) z u
    worked-more acted =
        let at : Acts m d.opening.rules makes (u ≡ t) (λ message answer. Answers m d t s.number message answer u) line.act done.member o z =
        subst (λ (v : Member C Rules Doc Reason). Acts m d.opening.rules makes (u ≡ t) (λ message answer. Answers m d t s.number message answer u) line.act v o z) h.member_is
        (subst (λ (k : ℕ). Acts m d.opening.rules makes (u ≡ t) (λ message answer. Answers m d t k message answer u) line.act y o z) (ap (λ v. v.number) h.seat.0) acted.acts) in
        by message_by refl at
      where
        number : t.number ≡ s.number
        number = ap (λ v. v.number) h.seat.0

        by : (message : Option (Message C)) → message_by ≡ message
            → ActsBy m d.opening.rules makes (u ≡ t) (λ sent answer. Answers m d t s.number sent answer u) message line.act done.member o z
            → Worked m makes d (lines ++ line ∷ []) x s (outcomes ++ o ∷ []) z u
        by None is a = adds-worked [] (subst (λ (q : Option (Message C)). Adds q []) (sym is) (record {
          seat = sees-same t u a.0;
          calls = ap (λ v. calls_of s.number v.seen) a.0 ∙ sym (append-nil (calls_of s.number t.seen));
          answered = ap (λ v. told_by v.seen) a.0 ∙ sym (append-nil (told_by t.seen));
          each = refl;
          made = a.1;
        }))
        by (Some message) is a =
            let told = a.1 in
            let q = request_of s.number message in
            let calls = told-calls (after_request m) (reply_to m) _ _ d.opening t u q a.0 told in
            let given = told-answers (after_request m) (reply_to m) _ _ d.opening t u q a.0 told in
            adds-worked (a.0 ∷ []) (subst (λ (k : Option (Message C)). Adds k (a.0 ∷ [])) (sym is) (record {
              seat = told-seen (after_request m) (reply_to m) _ _ d.opening t u q a.0 told;
              calls = subst (λ (k : ℕ). calls_of k u.seen ≡ calls_of k t.seen ++ q ∷ []) number calls;
              answered = subst (λ (k : ℕ). answers_of (after_request m) (reply_to m) d.opening.rules k d.opening.machine u.seen
                  ≡ answers_of (after_request m) (reply_to m) d.opening.rules k d.opening.machine t.seen ++ a.0 ∷ []) number given;
              each = refl;
              made = a.2;
            }))

  -- So many of the lines were played, and the seat may have seen more since.
  pub worked-began : (lines : List (Line Op C)) (k : ℕ) (outcomes : List (Outcome C Rules Doc Reason)) (y : Member C Rules Doc Reason)
      (t u : SeatValue (Authority C Rules Doc Reason) Rules (Request C)) → k ≤ length lines → Worked m makes d (take k lines) x s outcomes y t
      → SeesMore t u → Began m makes d lines x s outcomes u
  worked-began lines k outcomes y t u within h seat =
      let count : length outcomes ≡ k =
      ap length h.outcomes_are ∙ works-each m d.opening.rules makes (take k lines) x h.answers ∙ length-take-le k lines within in
      record {
        within = omega (arith, count, within);
        member = y;
        mid = t;
        worked = subst (λ (n : ℕ). Worked m makes d (take n lines) x s outcomes y t) (sym count) h;
        seat = seat;
      }

module _ {Rules Doc Reason C : Type 0} (m : Meaning Rules Doc Reason C) {Op : Type 0} (makes : Rules → Doc → Op → Result (List C) NoStep) where
  -- an act at a host, told of what the host stands for
  acts-weaker : (rules : Rules) (same told : Type 0) (tells says : Message C → Answer C Rules Doc Reason → Type 0) → (same → told) → ((message : Message C) (answer : Answer C Rules Doc Reason) → tells message answer → says message answer)
      → (act : Act Op C) (x : Member C Rules Doc Reason) (o : Outcome C Rules Doc Reason) (next : Member C Rules Doc Reason)
      → Acts m rules (makes rules) same tells act x o next → Acts m rules (makes rules) told says act x o next
  acts-weaker rules same told tells says f h act x o next acts = by (asked act x) acts
    where
      by : (message : Option (Message C)) → ActsBy m rules (makes rules) same tells message act x o next → ActsBy m rules (makes rules) told says message act x o next
      by None a = (f a.0, a.1)
      by (Some message) a = (a.0, h message a.0 a.1, a.2)

  pub acts-at : (rules after : Rules) → rules ≡ after → (same told : Type 0) (tells says : Message C → Answer C Rules Doc Reason → Type 0)
      → (same → told) → ((message : Message C) (answer : Answer C Rules Doc Reason) → tells message answer → says message answer)
      → (act : Act Op C) (x : Member C Rules Doc Reason) (o : Outcome C Rules Doc Reason) (next : Member C Rules Doc Reason)
      → Acts m rules (makes rules) same tells act x o next → Acts m after (makes after) told says act x o next
  acts-at rules after is same told tells says f h act x o next a =
      subst (λ (k : Rules). Acts m k (makes k) told says act x o next) is (acts-weaker rules same told tells says f h act x o next a)

  -- an act at the host of a desk's seat
  pub ok-acts : (d : DeskValue (Authority C Rules Doc Reason) Rules) (s t : SeatValue (Authority C Rules Doc Reason) Rules (Request C)) {E : Type 0} (r : Result (Outcome C Rules Doc Reason) E)
      (rules : Rules) → rules ≡ d.opening.rules → (client : ℕ) → s.number ≡ client → (same counts : Type 0) → (same → t ≡ s)
      → (act : Act Op C) (x y : Member C Rules Doc Reason)
      → IfOk r (λ o. Acts m rules (makes rules) same (λ message answer. Answers m d s client message answer t × counts) act x o y)
      → IfOk r (λ o. ActedAt m (makes d.opening.rules) d act x s o y t)
  ok-acts d s t r rules is client mine same counts f act x y acts =
      IfOk-weaker r (λ o. Acts m rules (makes rules) same (λ message answer. Answers m d s client message answer t × counts) act x o y) (λ o. ActedAt m (makes d.opening.rules) d act x s o y t)
      (λ o a. record {
        acts = acts-at rules d.opening.rules is same (t ≡ s) (λ message answer. Answers m d s client message answer t × counts) (λ message answer. Answers m d s s.number message answer t) f
            (λ message answer told. subst (λ (k : ℕ). Answers m d s k message answer t) (sym mine) told.0) act x o y a;
      }) acts
