-- Names of tokens over a log and pending steps: there is one for each token, and no two are the same.
use Rattle.std.specs.List.{AllByRecursion as Each}
use Rattle.std.specs.Prelude.{◌≡◌, ℕ, zero, suc, ◌<◌, ◌==◌, if◌then◌else◌, Bool, true, false, List, [], ◌∷◌, ◌++◌, length, refl}
use Rattle.std.proofs.Common.{sym, ap, ◌∙◌, subst, arith}
use Rattle.std.proofs.lemmas.Bool.{eq-eqb}
use Rattle.pm_change.specs.declared.name.Name.{Name}
use Rattle.pm_change.specs.Changes.{Meaning, Laws}
use Rattle.pm_change.proofs.Folds.{fold-cons}
use Rattle.pm_authority.specs.declared.named.Named.{Named}
use Rattle.pm_authority.specs.Runs.{changes_of, AllApply}
use Rattle.pm_client.specs.Kins.{IsOwn}
use Rattle.pm_client.proofs.Lists.{Each-append, Each-front, Each-back}
use Rattle.pm_client.specs.Serials.{serials_of, own_serials, Rises}
use Rattle.pm_client.specs.TokenNames.{Token, First, Put, tokens_from, spliced, names_after, Once, NotBy, NoneBy, AllDiffer}
use Rattle.pm_client.proofs.TokenRuns.{once-spliced, none-spliced, spliced-size}

-- ---- the first document

pub length-first : (place n : ℕ) → length (tokens_from First place n) ≡ n
length-first place zero = refl
length-first place (suc n) = ap suc (length-first (suc place) n)

first-place : (i j : ℕ) → First i ≡ First j → i ≡ j
first-place i j h = cc

first-past : (before place n : ℕ) → before < place → Each (λ u. u ≡ First before → ⊥) (tokens_from First place n)
first-past before place zero l = tt
first-past before place (suc n) l =
    ((λ e. let s = first-place place before e in omega (arith, l, s)), first-past before (suc place) n (omega (arith, l)))

pub once-first : (place n : ℕ) → Once (tokens_from First place n)
once-first place zero = tt
once-first place (suc n) = (first-past place (suc place) n (omega arith), once-first (suc place) n)

not-first : (name : Name) (place n : ℕ) → NotBy name (tokens_from First place n)
not-first name place zero = tt
not-first name place (suc n) = ((λ k e. cc), not-first name (suc place) n)

pub none-first : {C : Type 0} (ns : List (Named C)) (place n : ℕ) → NoneBy ns (tokens_from First place n)
none-first [] place n = tt
none-first (k ∷ ns) place n = (not-first k.name place n, none-first ns place n)

-- ---- names of steps

-- no step of the second list has the name of one of the first
abbrev pub Apart : {C : Type 0} → List (Named C) → List (Named C) → Type 0
Apart xs ys = Each (λ x. Each (λ k. k.name ≡ x.name → ⊥) ys) xs

pub apart-front : {C : Type 0} (xs zs ys : List (Named C)) → Apart (xs ++ zs) ys → Apart xs ys
apart-front xs zs ys h = Each-front _ xs zs h

pub differ-append : {C : Type 0} (xs ys : List (Named C)) → AllDiffer xs → AllDiffer ys → Apart xs ys → AllDiffer (xs ++ ys)
differ-append [] ys h k apart = k
differ-append (x ∷ xs) ys h k apart = (Each-append _ xs ys h.0 apart.0, differ-append xs ys h.1 k apart.1)

pub differ-front : {C : Type 0} (xs ys : List (Named C)) → AllDiffer (xs ++ ys) → AllDiffer xs
differ-front [] ys h = tt
differ-front (x ∷ xs) ys h = (Each-front _ xs ys h.0, differ-front xs ys h.1)

pub differ-back : {C : Type 0} (xs ys : List (Named C)) → AllDiffer (xs ++ ys) → AllDiffer ys
differ-back [] ys h = h
differ-back (x ∷ xs) ys h = differ-back xs ys h.1

pub differ-parts : {C : Type 0} (xs ys : List (Named C)) → AllDiffer (xs ++ ys) → Apart xs ys
differ-parts [] ys h = tt
differ-parts (x ∷ xs) ys h = (Each-back _ xs ys h.0, differ-parts xs ys h.1)

-- steps whose serials are past this one's have other names
past-differ : {C : Type 0} (x : Named C) (ks : List (Named C)) → Each (λ y. x.name.serial < y) (serials_of ks) → Each (λ k. k.name ≡ x.name → ⊥) ks
past-differ x [] h = tt
past-differ x (k ∷ ks) h = ((λ e. let s : k.name.serial ≡ x.name.serial = ap (λ n. n.serial) e in absurd (omega (arith, h.0, s))), past-differ x ks h.1)

-- steps of one client, whose serials rise
pub rises-differ : {C : Type 0} (ns : List (Named C)) → Rises (serials_of ns) → AllDiffer ns
rises-differ [] h = tt
rises-differ (n ∷ ns) h = (past-differ n ns h.0, rises-differ ns h.1)

pub rises-back : (xs ys : List ℕ) → Rises (xs ++ ys) → Rises ys
rises-back [] ys h = h
rises-back (x ∷ xs) ys h = rises-back xs ys h.1

-- steps of another client have other names
others-differ : {C : Type 0} (x : Named C) (client : ℕ) (ks : List (Named C)) → (x.name.client ≡ client → ⊥) → Each (IsOwn client) ks → Each (λ k. k.name ≡ x.name → ⊥) ks
others-differ x client [] far own = tt
others-differ x client (k ∷ ks) far own = ((λ e. far (sym (ap (λ n. n.client) e) ∙ own.0)), others-differ x client ks far own.1)

-- a client's steps whose serials rise past those of its steps in a list
pub apart-own : {C : Type 0} (client : ℕ) (xs ys : List (Named C)) → Each (IsOwn client) ys → Rises (own_serials client xs ++ serials_of ys) → Apart xs ys
apart-own client [] ys own h = tt
apart-own client (x ∷ xs) ys own h = by-test (x.name.client == client) refl h (λ r. apart-own client xs ys own r)
  where
    by-test : (b : Bool) → (x.name.client == client) ≡ b
        → Rises ((if b then x.name.serial ∷ own_serials client xs else own_serials client xs) ++ serials_of ys)
        → (Rises (own_serials client xs ++ serials_of ys) → Apart xs ys) → Apart (x ∷ xs) ys
    by-test true e h rest = (past-differ x ys (Each-back _ (own_serials client xs) (serials_of ys) h.0), rest h.1)
    by-test false e h rest =
        (others-differ x client ys (λ q. let t : (x.name.client == client) ≡ true = eq-eqb x.name.client client q in absurd (cc)) own, rest h)

-- a log in which each client's serials rise
pub log-differ : {C : Type 0} (log : List (Named C)) → ((client : ℕ) → Rises (own_serials client log)) → AllDiffer log
log-differ [] h = tt
log-differ {C = C} (n ∷ log) h = (ahead log (first (n.name.client == n.name.client) (eq-eqb n.name.client n.name.client refl) (h n.name.client)), log-differ log (λ client. rest client (n.name.client == client) (h client)))
  where
    rest : (client : ℕ) (b : Bool) → Rises (if b then n.name.serial ∷ own_serials client log else own_serials client log) → Rises (own_serials client log)
    rest client true r = r.1
    rest client false r = r

    first : (b : Bool) → b ≡ true → Rises (if b then n.name.serial ∷ own_serials n.name.client log else own_serials n.name.client log)
        → Each (λ y. n.name.serial < y) (own_serials n.name.client log)
    first true e r = r.0
    first false e r = absurd (cc)

    one : (k : Named C) (ks : List (Named C)) (b : Bool) → (k.name.client == n.name.client) ≡ b
        → Each (λ y. n.name.serial < y) (if b then k.name.serial ∷ own_serials n.name.client ks else own_serials n.name.client ks)
        → (Each (λ y. n.name.serial < y) (own_serials n.name.client ks) → Each (λ x. x.name ≡ n.name → ⊥) ks) → Each (λ x. x.name ≡ n.name → ⊥) (k ∷ ks)
    one k ks true e r rest = ((λ q. let s : k.name.serial ≡ n.name.serial = ap (λ a. a.serial) q in absurd (omega (arith, r.0, s))), rest r.1)
    one k ks false e r rest =
        ((λ q. let t : (k.name.client == n.name.client) ≡ true = eq-eqb k.name.client n.name.client (ap (λ a. a.client) q) in absurd (cc)), rest r)

    ahead : (ks : List (Named C)) → Each (λ y. n.name.serial < y) (own_serials n.name.client ks) → Each (λ k. k.name ≡ n.name → ⊥) ks
    ahead [] r = tt
    ahead (k ∷ ks) r = one k ks (k.name.client == n.name.client) refl r (λ q. ahead ks q)

-- ---- names of tokens over steps that apply

pub none-after : {Rules Doc Reason C : Type 0} (m : Meaning Rules Doc Reason C) (xs ys : List (Named C)) (names : List Token) → Apart xs ys → NoneBy ys names
    → NoneBy ys (names_after m names xs)
none-after m [] ys names apart h = h
none-after m (x ∷ xs) ys names apart h =
    none-after m xs ys (spliced (Put x.name) (m.step_map x.change) names) apart.1 (none-spliced x.name ys (m.step_map x.change) names apart.0 h)

module _ {Rules Doc Reason C : Type 0} (m : Meaning Rules Doc Reason C) (rules : Rules) (laws : Laws m) where
  -- as many names as tokens, which differ and which none of these steps puts in
  pub record Fresh (doc : Doc) (ns : List (Named C)) (names : List Token) : Type 0 where
    pub size : length names ≡ m.size doc
    pub once : Once names
    pub none : NoneBy ns names

  -- names over steps one after another, some of which lead to a document
  pub fresh-after : (doc mid : Doc) (xs ys : List (Named C)) (names : List Token) → m.is_good rules doc → AllApply m rules doc xs mid → AllDiffer (xs ++ ys)
      → Fresh doc (xs ++ ys) names → Fresh mid ys (names_after m names xs)
  fresh-after doc mid [] ys names good applies differ h = let e : doc ≡ mid = cc in subst (λ d. Fresh d ys names) e h
  fresh-after doc mid (x ∷ xs) ys names good applies differ h =
      let f = fold-cons m rules doc mid x.change (changes_of xs) applies in
      fresh-after f.0 mid xs ys (spliced (Put x.name) (m.step_map x.change) names) (laws.good rules x.change doc f.0 good f.1) f.2 differ.1 (record {
        size = spliced-size (Put x.name) (m.step_map x.change) (m.size doc) (m.size f.0) names (laws.fits rules x.change doc f.0 good f.1) h.size;
        once = once-spliced x.name (m.step_map x.change) 0 0 names h.once h.none.0;
        none = none-spliced x.name (xs ++ ys) (m.step_map x.change) names differ.0 h.none.1;
      })
