-- What stands behind lines, a line later.
use Rattle.std.proofs.Common.{◌≡◌, inl, inr, ℕ, Bool, true, false, List, [], ◌∷◌, ◌++◌, refl, sym, ◌∙◌, ap, subst, append_assoc}
use Rattle.std.specs.Prelude.{◌≢◌, Option, None}
use Rattle.std.proofs.lemmas.Bool.{true≢false}
use Rattle.std.proofs.lemmas.List.{append-nil}
use Rattle.pm_kept.specs.Means.{Meaning, Laws, unlimited}
use Rattle.pm_kept.specs.Behind.{Behind, Takes}
use Rattle.pm_kept.specs.Runs.{Told, Hears, HearsSome}

module _ {S : Type 0} (m : Meaning S) where
  -- one line more
  pub behind_more : (lines : List (List ℕ)) (first now : S) (line text : List ℕ) (next : S) → Behind m lines first now → m.replies now line text true next → next ≢ now
      → Behind m (lines ++ line ∷ []) first next
  behind_more [] first now line text next is replies other = (text, next, subst (λ (t : S). m.replies t line text true next) is replies, subst (λ (t : S). next ≢ t) is other, refl)
  behind_more (l ∷ lines) first now line text next is replies other = (is.0, is.1, is.2, is.3, behind_more lines is.1 now line text next is.4 replies other)

  -- no line more
  still_behind : (lines : List (List ℕ)) (first was next : S) (new : List (List ℕ)) → Behind m lines first was → next ≡ was → new ≡ [] → Behind m (lines ++ new) first next
  still_behind lines first was next new is same none =
      subst (λ (n : List (List ℕ)). Behind m (lines ++ n) first next) (sym none)
      (subst (λ (ls : List (List ℕ)). Behind m ls first next) (sym (append-nil lines)) (subst (Behind m lines first) (sym same) is))

-- ---- lines that are heard

module _ {S : Type 0} (m : Meaning S) (laws : Laws m) where
  -- behind lines there is no limit, if there was none before them
  pub behind_unlimited : (lines : List (List ℕ)) (first now : S) → Behind m lines first now → unlimited m first ≡ first → unlimited m now ≡ now
  behind_unlimited [] first now is none = subst (λ (t : S). unlimited m t ≡ t) (sym is) none
  behind_unlimited (line ∷ lines) first now is none = behind_unlimited lines is.1 now is.4 (laws.stays_limited None first line is.0 true is.1 is.2 none)

  -- So the service that is replayed stands behind them with any limit.
  pub stands_limited : (lines : List (List ℕ)) (service : S) (limit : Option ℕ) → Behind m lines m.start service → Behind m lines m.start (unlimited m (m.limited limit service))
  stands_limited lines service limit is = subst (Behind m lines m.start) (sym (laws.relimits limit service ∙ behind_unlimited lines m.start service is laws.starts)) is

  by_more : (lines : List (List ℕ)) (first was : S) (line text : List ℕ) (more : Bool) (next : S) (new : List (List ℕ)) → Behind m lines first (unlimited m was)
      → m.replies was line text more next → Takes was line next new → Behind m (lines ++ new) first (unlimited m next)
  by_more lines first was line text true next new is replies (inl taken) =
      let bare = laws.accepts was line text true next replies taken.0 in
      subst (λ (n : List (List ℕ)). Behind m (lines ++ n) first (unlimited m next)) (sym taken.1) (behind_more m lines first (unlimited m was) line text (unlimited m next) is bare.0 bare.1)
  by_more lines first was line text false next new is replies (inl taken) = absurd (taken.0 (laws.closes was line text next replies))
  by_more lines first was line text more next new is replies (inr none) = still_behind m lines first (unlimited m was) (unlimited m next) new is (ap (unlimited m) none.0) none.1

  told_behind : (lines : List (List ℕ)) (first was : S) (line text : List ℕ) (more : Bool) (next : S) (new : List (List ℕ)) → Behind m lines first (unlimited m was) → Told m was line text more next new
      → Behind m (lines ++ new) first (unlimited m next)
  told_behind lines first was line text more next new is (inl told) = by_more lines first was line text more next new is told.0 told.1
  told_behind lines first was line text more next new is (inr none) = still_behind m lines first (unlimited m was) (unlimited m next) new is (ap (unlimited m) none.2) none.3

  more_behind : (lines a b c : List (List ℕ)) (first now : S) → c ≡ a ++ b → Behind m ((lines ++ a) ++ b) first now → Behind m (lines ++ c) first now
  more_behind lines a b c first now is behind = subst (λ (ls : List (List ℕ)). Behind m ls first now) (append_assoc lines a b ∙ ap (λ (ls : List (List ℕ)). lines ++ ls) (sym is)) behind

  hears_behind : (heard lines : List (List ℕ)) (first was : S) (out : List ℕ) (some : List (List ℕ)) (now : S) → Behind m lines first (unlimited m was) → Hears m was heard out some now
      → Behind m (lines ++ some) first (unlimited m now)
  hears_behind [] lines first was out some now is hears = still_behind m lines first (unlimited m was) (unlimited m now) some is (ap (unlimited m) hears.2) hears.1
  hears_behind (line ∷ heard) lines first was out some now is hears =
      more_behind lines hears.2 hears.4 some first (unlimited m now) hears.7
      (hears_behind heard (lines ++ hears.2) first hears.1 hears.3 hears.4 now (told_behind lines first was line hears.0 true hears.1 hears.2 is hears.5) hears.8)

  -- the service stands behind the lines from before and those that were accepted
  pub some_behind : (heard lines : List (List ℕ)) (first was : S) (out : List ℕ) (some : List (List ℕ)) (more : Bool) (now : S) → Behind m lines first (unlimited m was)
      → HearsSome m was heard out some more now → Behind m (lines ++ some) first (unlimited m now)
  some_behind heard lines first was out some more now is hears =
      more_behind lines hears.some_front hears.new some first (unlimited m now) hears.some_is
      (told_behind (lines ++ hears.some_front) first hears.mid hears.line hears.text more now hears.new
      (hears_behind hears.front lines first was hears.out_front hears.some_front hears.mid is hears.hears) hears.told)

  -- ---- what has begun stays so

  -- what has not begun after a step that keeps what has begun had not before
  not_begun_by : (was now : Bool) → (was ≡ true → now ≡ true) → now ≡ false → was ≡ false
  not_begun_by true now stays closed = absurd (true≢false (sym (stays refl) ∙ closed))
  not_begun_by false now stays closed = refl

  told_closed : (was next : S) (line text : List ℕ) (more : Bool) (new : List (List ℕ)) → Told m was line text more next new → m.is_begun next ≡ false → m.is_begun was ≡ false
  told_closed was next line text more new (inl told) closed = not_begun_by (m.is_begun was) (m.is_begun next) (laws.stays_begun was line text more next told.0) closed
  told_closed was next line text more new (inr none) closed = sym (ap m.is_begun none.2) ∙ closed

  hears_closed : (heard : List (List ℕ)) (was : S) (out : List ℕ) (some : List (List ℕ)) (now : S) → Hears m was heard out some now → m.is_begun now ≡ false → m.is_begun was ≡ false
  hears_closed [] was out some now hears closed = sym (ap m.is_begun hears.2) ∙ closed
  hears_closed (line ∷ heard) was out some now hears closed =
      told_closed was hears.1 line hears.0 true hears.2 hears.5 (hears_closed heard hears.1 hears.3 hears.4 now hears.8 closed)

  pub some_closed : (heard : List (List ℕ)) (was : S) (out : List ℕ) (some : List (List ℕ)) (more : Bool) (now : S) → HearsSome m was heard out some more now
      → m.is_begun now ≡ false → m.is_begun was ≡ false
  some_closed heard was out some more now hears closed =
      hears_closed hears.front was hears.out_front hears.some_front hears.mid hears.hears
      (told_closed hears.mid now hears.line hears.text more hears.new hears.told closed)
