-- What changes of the documents changes which document is found by a name.
use Rattle.std.proofs.Common.{◌≡◌, ◌∙◌, ◌++◌, ℕ, zero, suc, Bool, true, false, cond, List, [], ◌∷◌, get_or, refl, ap, sym}
use Rattle.std.specs.Prelude.{Option, Some, None, slice_get, if◌then◌else◌}
use Rattle.std.specs.Str.{bytes_eq}
use Rattle.std.proofs.lemmas.Slice.Eq.{bytes_eq-Decides}
use Rattle.serde_json.specs.Data.{Data}
use Rattle.pm_order.specs.declared.word.DocWord.{DocWord}
use Rattle.pm_archive.specs.declared.archive.Archive.{Archive}
use Rattle.pm_archive.specs.Answers.{answered}
use Rattle.pm_archive.proofs.Names.{answered-name}
use Rattle.pm_house.specs.Found.{archive_of}
use Rattle.pm_house.specs.Replies.{behind, among, onto, without}

-- ---- names

pub same-name : (x y : List ℕ) → bytes_eq x y ≡ true → x ≡ y
same-name x y h = (bytes_eq-Decides x y).0 h

pub own-name : (x y : List ℕ) → x ≡ y → bytes_eq x y ≡ true
own-name x y h = (bytes_eq-Decides x y).1 h

true-is-false : (b : Bool) → b ≡ true → b ≡ false → ⊥
true-is-false b t f = absurd (cc)

-- two names that differ are not both the name of one document
pub not-both : (name other own : List ℕ) → bytes_eq name other ≡ false → bytes_eq other own ≡ true → bytes_eq name own ≡ false
not-both name other own differ is = from (bytes_eq name own) refl
  where
    from : (b : Bool) → bytes_eq name own ≡ b → bytes_eq name own ≡ false
    from false e = e
    from true e = absurd (true-is-false (bytes_eq name other) (own-name name other (same-name name own e ∙ sym (same-name other own is))) differ)

-- ---- the first document

pub found-here : (name : List ℕ) (a : Archive) (rest : List Archive) → bytes_eq name a.name ≡ true → archive_of name (a ∷ rest) ≡ Some a
found-here name a rest h = ap (λ b. cond b (Some a) (archive_of name rest)) h

pub found-behind : (name : List ℕ) (a : Archive) (rest : List Archive) → bytes_eq name a.name ≡ false → archive_of name (a ∷ rest) ≡ archive_of name rest
found-behind name a rest h = ap (λ b. cond b (Some a) (archive_of name rest)) h

-- documents that differ behind the first one
found-onto : (name : List ℕ) (a : Archive) (rest more : List Archive) → archive_of name rest ≡ archive_of name more → archive_of name (a ∷ rest) ≡ archive_of name (a ∷ more)
found-onto name a rest more h = ap (λ o. cond (bytes_eq name a.name) (Some a) o) h

pub some-inner : {A : Type 0} (x y : A) → Some x ≡ Some y → x ≡ y
some-inner x y e = cc

pub none-some : {A : Type 0} (x : A) → None ≡ Some x → ⊥
none-some x e = absurd (cc)

-- what is at the place
pub got-is : {A : Type 0} (xs : List A) (i : ℕ) (a d : A) → slice_get xs i ≡ Some a → get_or xs i d ≡ a
got-is [] i a d h = absurd (none-some a h)
got-is (x ∷ xs) zero a d h = some-inner x a h
got-is (x ∷ xs) (suc i) a d h = got-is xs i a d h

-- ---- a document behind the last one

pub found-before : (name : List ℕ) (docs : List Archive) (more : List Archive) (a : Archive) → archive_of name docs ≡ Some a → archive_of name (docs ++ more) ≡ Some a
found-before name [] more a h = absurd (none-some a h)
found-before name (x ∷ rest) more a h = from (bytes_eq name x.name) refl (found-before name rest more a)
  where
    from : (b : Bool) → bytes_eq name x.name ≡ b → (archive_of name rest ≡ Some a → archive_of name (rest ++ more) ≡ Some a)
        → archive_of name (x ∷ (rest ++ more)) ≡ Some a
    from true e further = found-here name x (rest ++ more) e ∙ (sym (found-here name x rest e) ∙ h)
    from false e further = found-behind name x (rest ++ more) e ∙ further (sym (found-behind name x rest e) ∙ h)

-- ---- a document that answers

abbrev pub Given : Type 0
Given = List ℕ × List Archive

module _ (w : DocWord) (d : Data) where
  abbrev here : List ℕ → Archive → List Archive → Bool → Option Given → Option Given
  here other a rest b further = if b then Some ((answered a w d).0, (answered a w d).1 ∷ rest) else behind a further

  -- another document stays
  pub among-other : (name other : List ℕ) → bytes_eq name other ≡ false → (docs : List Archive) (p : Given) → among other w d docs ≡ Some p
      → archive_of name p.1 ≡ archive_of name docs
  among-other name other differ [] p e = absurd (none-some p e)
  among-other name other differ (a ∷ rest) p e = from (bytes_eq other a.name) refl e (among-other name other differ rest)
    where
      Further : Type 0
      Further = (q : Given) → among other w d rest ≡ Some q → archive_of name q.1 ≡ archive_of name rest

      behind-other : Further → (o : Option Given) → among other w d rest ≡ o → behind a o ≡ Some p → archive_of name p.1 ≡ archive_of name (a ∷ rest)
      behind-other further None i e = absurd (none-some p e)
      behind-other further (Some q) i e =
          ap (λ (x : Given). archive_of name x.1) (sym (some-inner (q.0, a ∷ q.1) p e)) ∙ found-onto name a q.1 rest (further q i)

      from : (b : Bool) → bytes_eq other a.name ≡ b → here other a rest b (among other w d rest) ≡ Some p → Further
          → archive_of name p.1 ≡ archive_of name (a ∷ rest)
      from true is e further =
          let next = (answered a w d).1 in
          let not_own : bytes_eq name a.name ≡ false = not-both name other a.name differ is in
          ap (λ (q : Given). archive_of name q.1) (sym (some-inner ((answered a w d).0, next ∷ rest) p e))
          ∙ (found-behind name next rest (ap (λ n. bytes_eq name n) (answered-name a w d) ∙ not_own)
          ∙ sym (found-behind name a rest not_own))
      from false is e further = behind-other further (among other w d rest) refl e

  -- the document of this name answers, and is then what it is after that
  pub record Answers (name : List ℕ) (a : Archive) (found : Option Given) : Type 0 where
    pub given : Given
    pub is : found ≡ Some given
    pub text : given.0 ≡ (answered a w d).0
    pub next : archive_of name given.1 ≡ Some (answered a w d).1

  pub among-own : (name : List ℕ) (docs : List Archive) (a : Archive) → archive_of name docs ≡ Some a → Answers name a (among name w d docs)
  among-own name [] a h = absurd (none-some a h)
  among-own name (x ∷ rest) a h = from (bytes_eq name x.name) refl (among-own name rest a)
    where
      from : (b : Bool) → bytes_eq name x.name ≡ b → (archive_of name rest ≡ Some a → Answers name a (among name w d rest))
          → Answers name a (here name x rest b (among name w d rest))
      from true is own =
          let same : x ≡ a = some-inner x a (sym (found-here name x rest is) ∙ h) in
          let next = (answered x w d).1 in
          record {
            given = ((answered x w d).0, next ∷ rest);
            is = refl;
            text = ap (λ y. (answered y w d).0) same;
            next = found-here name next rest (ap (λ n. bytes_eq name n) (answered-name x w d) ∙ is) ∙ ap (λ y. Some (answered y w d).1) same;
          }
      from false is own =
          let further = own (sym (found-behind name x rest is) ∙ h) in
          record {
            given = (further.given.0, x ∷ further.given.1);
            is = ap (behind x) further.is;
            text = further.text;
            next = found-behind name x further.given.1 is ∙ further.next;
          }

-- ---- a document that is closed

pub without-other : (name other : List ℕ) → bytes_eq name other ≡ false → (docs next : List Archive) → without other docs ≡ Some next
    → archive_of name next ≡ archive_of name docs
without-other name other differ [] next e = absurd (none-some next e)
without-other name other differ (a ∷ rest) next e = from (bytes_eq other a.name) refl e (without-other name other differ rest)
  where
    Further : Type 0
    Further = (q : List Archive) → without other rest ≡ Some q → archive_of name q ≡ archive_of name rest

    behind-other : Further → (o : Option (List Archive)) → without other rest ≡ o → onto a o ≡ Some next → archive_of name next ≡ archive_of name (a ∷ rest)
    behind-other further None i e = absurd (none-some next e)
    behind-other further (Some q) i e =
        ap (archive_of name) (sym (some-inner (a ∷ q) next e)) ∙ found-onto name a q rest (further q i)

    from : (b : Bool) → bytes_eq other a.name ≡ b → (if b then Some rest else onto a (without other rest)) ≡ Some next → Further
        → archive_of name next ≡ archive_of name (a ∷ rest)
    from true is e further =
        ap (archive_of name) (sym (some-inner rest next e)) ∙ sym (found-behind name a rest (not-both name other a.name differ is))
    from false is e further = behind-other further (without other rest) refl e
