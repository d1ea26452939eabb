-- What a raw client's submission leaves: a log in which names differ, and to which every editor stands.
use Rattle.std.specs.List.{AllByRecursion as Each}
use Rattle.std.specs.Prelude.{◌≡◌, ℕ, suc, ◌+◌, ◌<◌, ◌≤◌, ◌==◌, if◌then◌else◌, Bool, true, false, List, [], ◌∷◌, ◌++◌, length, take, Some, Result, Ok, Err, IfOk, OnErr, All, refl}
use Rattle.std.proofs.Common.{sym, ap, ◌∙◌, subst, arith, append-nil}
use Rattle.std.proofs.lemmas.List.Elements.{All-from_recursion}
use Rattle.std.proofs.lemmas.Bool.{eqb-true}
use Rattle.pm_change.specs.Changes.{Meaning, Laws}
use Rattle.pm_authority.specs.declared.named.Named.{Named}
use Rattle.pm_authority.specs.declared.running.Refusal.{Refusal}
use Rattle.pm_authority.specs.declared.message.Message.TheVariants.{Submit}
use Rattle.pm_authority.specs.declared.message.Answer.{Answer}
use Rattle.pm_authority.specs.declared.message.Answer.TheVariants.{WrongVersion}
use Rattle.pm_authority.specs.declared.authority.Authority.{Authority}
use Rattle.pm_authority.specs.Kept.{IsKept}
use Rattle.pm_authority.specs.Runs.{run}
use Rattle.pm_authority.proofs.RunFolds.{kept-append}
use Rattle.pm_authority.specs.Presents.{tried, presented}
use Rattle.pm_client.specs.declared.client.Client.{Client}
use Rattle.pm_client.specs.Clients.{named}
use Rattle.pm_client.proofs.Keeps.{kin-foreign}
use Rattle.pm_client.specs.Kins.{IsOwn, IsForeign, Kin}
use Rattle.pm_client.proofs.Lists.{Each-append}
use Rattle.pm_client.proofs.LogNames.{LogOf}
use Rattle.pm_client.specs.Serials.{times, own_serials, serials_of, Rises}
use Rattle.pm_client.proofs.SerialLists.{own_serials-append, own_serials-own, rises-append}
use Rattle.pm_session.specs.declared.member.Member.{Member}
use Rattle.pm_session.specs.declared.member.Member.TheVariants.{Editor, Raw}
use Rattle.pm_session.specs.declared.outcome.Outcome.{Outcome}
use Rattle.pm_session.specs.Events.{draws}
use Rattle.pm_session.specs.Hosts.{IsAnswered}
use Rattle.pm_session.specs.Sounds.{IsDrawn}

-- steps that were named by a client
module _ {C : Type 0} (client : ℕ) where
  pub named-own : (serial : ℕ) (cs : List C) → Each (IsOwn client) (named client serial cs)
  named-own serial [] = tt
  named-own serial (c ∷ cs) = (refl, named-own (serial + 1) cs)

  pub named-length : (serial : ℕ) (cs : List C) → length (named client serial cs) ≡ length cs
  named-length serial [] = refl
  named-length serial (c ∷ cs) = ap suc (named-length (serial + 1) cs)

  above : (k serial : ℕ) (cs : List C) → k < serial → Each (λ y. k < y) (serials_of (named client serial cs))
  above k serial [] l = tt
  above k serial (c ∷ cs) l = (l, above k (serial + 1) cs (omega (arith, l)))

  rise : (serial : ℕ) (cs : List C) → Rises (serials_of (named client serial cs))
  rise serial [] = tt
  rise serial (c ∷ cs) = (above serial (serial + 1) cs (omega arith), rise (serial + 1) cs)

  drawn-to : (serial n : ℕ) (cs : List C) → serial + length cs ≤ suc n → Each (IsDrawn client n) (named client serial cs)
  drawn-to serial n [] l = tt
  drawn-to serial n (c ∷ cs) l = ((λ e. omega (arith, l)), drawn-to (serial + 1) n cs (omega (arith, l)))

  pub drawn-more : (k n : ℕ) (log : List (Named C)) → k ≤ n → Each (IsDrawn client k) log → Each (IsDrawn client n) log
  drawn-more k n [] l h = tt
  drawn-more k n (x ∷ log) l h = ((λ e. let was = h.0 e in omega (arith, was, l)), drawn-more k n log l h.1)

  pub drawn-foreign : (k : ℕ) (ns : List (Named C)) → Each (IsForeign client) ns → Each (IsDrawn client k) ns
  drawn-foreign k [] h = tt
  drawn-foreign k (n ∷ ns) h = ((λ e. absurd (h.0 e)), drawn-foreign k ns h.1)

  pub drawn-after : (serial : ℕ) (log : List (Named C)) (cs : List C) → Each (IsDrawn client serial) log
      → Each (IsDrawn client (serial + length cs)) (log ++ named client (serial + 1) cs)
  drawn-after serial log cs h =
      Each-append (IsDrawn client (serial + length cs)) log (named client (serial + 1) cs) (drawn-more serial (serial + length cs) log (omega arith) h)
      (drawn-to (serial + 1) (serial + length cs) cs (omega arith))

  -- the serials of the client's own entries are among those that it drew
  own-drawn : (k : ℕ) (log : List (Named C)) → Each (IsDrawn client k) log → Each (λ x. x ≤ k) (own_serials client log)
  own-drawn k [] h = tt
  own-drawn k (x ∷ log) h = by-test (x.name.client == client) refl (own-drawn k log h.1)
    where
      by-test : (b : Bool) → (x.name.client == client) ≡ b → Each (λ y. y ≤ k) (own_serials client log)
          → Each (λ y. y ≤ k) (if b then x.name.serial ∷ own_serials client log else own_serials client log)
      by-test true e rest = (h.0 (eqb-true x.name.client client e), rest)
      by-test false e rest = rest

named-push : {C : Type 0} (client serial : ℕ) (cs : List C) (c : C)
    → named client serial (cs ++ c ∷ []) ≡ named client serial cs ++ record { name = record { client = client; serial = serial + length cs }; change = c } ∷ []
named-push client serial [] c = let e : serial ≡ serial + 0 = omega arith in ap (λ n. record { name = record { client = client; serial = n }; change = c } ∷ []) e
named-push client serial (d ∷ cs) c =
    let e : serial + 1 + length cs ≡ serial + length (d ∷ cs) = omega arith in
    ap (λ l. record { name = record { client = client; serial = serial }; change = d } ∷ l)
    (named-push client (serial + 1) cs c ∙ ap (λ n. named client (serial + 1) cs ++ record { name = record { client = client; serial = n }; change = c } ∷ []) e)

-- one step more was named
pub push-named : {C : Type 0} (client serial k last : ℕ) (cs : List C) (all : List (Named C)) (c d : C) → all ≡ named client (serial + 1) (take k cs)
    → length (take k cs) ≡ k → last ≡ serial + k → d ≡ c → take (k + 1) cs ≡ take k cs ++ c ∷ []
    → all ++ record { name = record { client = client; serial = last + 1 }; change = d } ∷ [] ≡ named client (serial + 1) (take (k + 1) cs)
push-named client serial k last cs all c d all_is size last_is same more =
    let number : last + 1 ≡ serial + 1 + length (take k cs) = omega (arith, size, last_is) in
    rw (more, all_is, same, number) (sym (named-push client (serial + 1) (take k cs) c))

-- steps that a client named are named by it
pub named-by : {C : Type 0} (client serial : ℕ) (cs : List C) (steps : List (Named C)) → steps ≡ named client serial cs → All (λ (n : Named C). n.name.client ≡ client) steps
named-by client serial cs steps is = rw is (All-from_recursion (IsOwn client) (named client serial cs) (named-own client serial cs))

-- numbers that rise stand once
times-none : (s : ℕ) (xs : List ℕ) → Each (λ y. s < y) xs → times s xs ≡ 0
times-none s [] h = refl
times-none s (x ∷ xs) h = by-test (x == s) refl (times-none s xs h.1)
  where
    by-test : (b : Bool) → (x == s) ≡ b → times s xs ≡ 0 → (if b then 1 else 0) + times s xs ≡ 0
    by-test true e rest = absurd (let same = eqb-true x s e in omega (arith, same, h.0))
    by-test false e rest = omega (arith, rest)

pub rises-once : (s : ℕ) (xs : List ℕ) → Rises xs → times s xs ≤ 1
rises-once s [] h = omega arith
rises-once s (x ∷ xs) h = by-test (x == s) refl (rises-once s xs h.1)
  where
    by-test : (b : Bool) → (x == s) ≡ b → times s xs ≤ 1 → (if b then 1 else 0) + times s xs ≤ 1
    by-test true e rest =
        let same = eqb-true x s e in
        let none = times-none s xs (subst (λ k. Each (λ y. k < y) xs) same h.0) in
        omega (arith, none)
    by-test false e rest = omega (arith, rest)

-- the names of the client differ in the log after it
pub names-after : {C : Type 0} (client serial : ℕ) (log : List (Named C)) (cs : List C) → Each (IsDrawn client serial) log → LogOf client log
    → LogOf client (log ++ named client (serial + 1) cs)
names-after client serial log cs drawn was =
    let steps = named client (serial + 1) cs in
    let is : own_serials client (log ++ steps) ≡ own_serials client log ++ serials_of steps =
    own_serials-append client log steps ∙ ap (λ l. own_serials client log ++ l) (own_serials-own client steps (named-own client (serial + 1) cs)) in
    let rises : Rises (own_serials client (log ++ steps)) =
    rw is (rises-append serial (own_serials client log) (serials_of steps) was.rise (own-drawn client serial log drawn)
    (above client serial (serial + 1) cs (omega arith)) (rise client (serial + 1) cs)) in
    record { rise = rises; once = λ s. rises-once s (own_serials client (log ++ steps)) rises }

-- a client's own steps are foreign to each other client
pub others-foreign : {C : Type 0} (a b : ℕ) (ns : List (Named C)) → (a ≡ b → ⊥) → Each (IsOwn a) ns → Each (IsForeign b) ns
others-foreign a b [] d o = tt
others-foreign a b (n ∷ ns) d o = ((λ e. d (sym o.0 ∙ e)), others-foreign a b ns d o.1)

-- A raw client of this name, which drew so many serials, submitted steps. The authority is the new one.
pub record Forged {Rules Doc Reason C : Type 0} (m : Meaning Rules Doc Reason C) (rules : Rules) (a : Authority C Rules Doc Reason) (name serial count : ℕ)
    (new : Authority C Rules Doc Reason) : Type 0 where
  pub authority : IsKept m rules new
  pub first : new.first ≡ a.first
  pub drawn : Each (IsDrawn name (serial + count)) new.log
  pub other : (d : Client C Rules Doc Reason) → (name ≡ d.name → ⊥) → Kin m rules a.first a.log d → Kin m rules new.first new.log d
  pub more : List (Named C)
  pub log_is : new.log ≡ a.log ++ more
  pub own : Each (IsOwn name) more
  pub names : LogOf name a.log → LogOf name new.log

module _ {Rules Doc Reason C : Type 0} (m : Meaning Rules Doc Reason C) (rules : Rules) (laws : Laws m) (a : Authority C Rules Doc Reason) (stood : IsKept m rules a)
    (name serial : ℕ) (drawn : Each (IsDrawn name serial) a.log) (cs : List C) where
  abbrev steps : List (Named C)
  steps = named name (serial + 1) cs

  -- the submission was not accepted
  rests : Forged m rules a name serial (length cs) a
  rests = record {
    authority = stood;
    first = refl;
    drawn = drawn-more name serial (serial + length cs) a.log (omega arith) drawn;
    other = λ d apart k. k;
    more = [];
    log_is = sym (append-nil a.log);
    own = tt;
    names = λ h. h;
  }

  pub forged : (version : ℕ) → Forged m rules a name serial (length cs) (presented m rules a (Submit version steps)).1
  forged version = by-test (version == length a.log)
    where
      by-run : (r : Result Doc (Refusal Reason)) → run m rules a.doc 0 steps ≡ r → Forged m rules a name serial (length cs) (tried m rules a steps r).1
      by-run (Err e) ran = rests
      by-run (Ok end) ran =
          let after = kept-append m rules laws a end steps stood ran in
          record {
            authority = after;
            first = refl;
            drawn = drawn-after name serial a.log cs drawn;
            other = λ d apart k. kin-foreign m rules a.first a.log d k steps end (others-foreign name d.name steps apart (named-own name (serial + 1) cs)) after.folded;
            more = steps;
            log_is = refl;
            own = named-own name (serial + 1) cs;
            names = λ h. names-after name serial a.log cs drawn h;
          }

      by-test : (t : Bool) → Forged m rules a name serial (length cs) (if t then tried m rules a steps (run m rules a.doc 0 steps) else (WrongVersion (length a.log), a)).1
      by-test false = rests
      by-test true = by-run (run m rules a.doc 0 steps) refl

-- how many serials a raw client drew
abbrev drawn_of : {Rules Doc Reason C : Type 0} → Member C Rules Doc Reason → ℕ
drawn_of (Raw name serial) = serial
drawn_of (Editor c) = 0

-- the raw client's own entries and others' at a host
module _ {Rules Doc Reason C : Type 0} (m : Meaning Rules Doc Reason C) (rules : Rules) (laws : Laws m) (name serial : ℕ) (cs : List C) (version : ℕ) (first : Doc) where
  pub drawn-hosted-at : (log new : List (Named C)) (answer : Answer C Rules Doc Reason) → Each (IsDrawn name serial) log → IsAnswered m rules name first log (Submit version (named name (serial + 1) cs)) answer new
      → Each (IsDrawn name (serial + length cs)) new
  drawn-hosted-at log new answer drawn h =
      let before : Each (IsDrawn name serial) h.authority.log = rw h.log_is (Each-append (IsDrawn name serial) log h.others drawn (drawn-foreign name serial h.others h.foreign)) in
      subst (Each (IsDrawn name (serial + length cs))) (sym h.new_is) (forged m rules laws h.authority h.kept name serial before cs version).drawn

  -- so it is whether the raw client ran out of memory or not
  pub either-drawn : {E H : Type 0} (log_of : H → List (Named C)) (old after : H) (Tells : Answer C Rules Doc Reason → Type 0) (r : Result (Outcome C Rules Doc Reason) E) (next : ℕ)
      → Each (IsDrawn name serial) (log_of old)
      → IfOk r (λ o. (answer : Answer C Rules Doc Reason) × Tells answer
      × IsAnswered m rules name first (log_of old) (Submit version (named name (serial + 1) cs)) answer (log_of after)
      × ((o, Raw name next) ≡ draws name serial (length cs) (Some answer)))
      → OnErr r ((after ≡ old) × (next ≡ serial)) → Each (IsDrawn name next) (log_of after)
  either-drawn log_of old after Tells (Err e) next drawn told err = rw (err.0, err.1) drawn
  either-drawn log_of old after Tells (Ok o) next drawn told err =
      let same : next ≡ serial + length cs = ap (λ p. drawn_of p.1) told.3 in
      rw same (drawn-hosted-at (log_of old) (log_of after) told.0 drawn told.2)
